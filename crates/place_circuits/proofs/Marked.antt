-- What is marked from tables that are cut from longer ones is the place. Assumes nothing.
use Rattle.std.specs.Prelude.{◌≡◌, ◌++◌, ◌≤◌, ◌<◌, Some}
use Rattle.base_lists.specs.Kit.{◌∙◌, ap, ap₂, List, ℕ, suc, length, get_or, take, drop, length-append, take_at, take-append-le, arith}
use Rattle.base_lists.proofs.Entries.{all-below}
use Rattle.graph.specs.Circuit.{Circuit}
use Rattle.graph.proofs.Groups.{below-le}
use Rattle.file_format.specs.Circuit.{Drawn}
use Rattle.file_format.proofs.Accepted.{bounded-starts}
use Rattle.table.specs.Fill.{marks_of, NodeList, table_at}
use Rattle.table.specs.Prepared.{Tables, Prepared, Ready}
use Rattle.place.specs.declared.Around.{Around}
use Rattle.place.specs.Bytes.{LinksFit, link_marks}
use Rattle.place.specs.Find.{Located}
use Rattle.place.specs.Match.{distances_of, place_nodes, place_links, place_table}
use Rattle.place.proofs.Find.{located-nodes, located-links, located-table}
use Rattle.place.proofs.Marks.{length-ball_distances}
use Rattle.place_ball.specs.declared.InBall.{InBall}
use Rattle.place_ball.specs.Ball.{PlacedIn}

module _ {pattern board : Circuit} {t : Tables} {around : Around} {dist queue sets : List ℕ} {a : InBall}
    (drawn : Drawn pattern board) (p : Prepared pattern board t) (b : PlacedIn pattern board t around dist queue sets a) {k : ℕ} (f : a.size ≡ Some k)
    (after past : List ℕ)
  where
    abbrev n : ℕ
    n = length board.labels

    abbrev here : Located pattern board t around.centre around.radius (b.there k f).0 sets (take k queue)
    here = (b.there k f).1

    -- the tables of the ball, cut from longer ones
    cut-sets : take n (sets ++ after) ≡ sets
    cut-sets = take_at sets after n here.long

    cut-place : take k (queue ++ past) ≡ take k queue
    cut-place = take-append-le k queue past (b.short k f)

    pub sets-room : n ≤ length (sets ++ after)
    sets-room = omega (arith, length-append sets after, here.long)

    pub place-room : k ≤ length (queue ++ past)
    place-room = omega (arith, length-append queue past, b.short k f)

    pub cut-ready : Ready t (take n (sets ++ after))
    cut-ready = rw cut-sets here.ready

    pub cut-long : length (take n (sets ++ after)) ≡ n
    cut-long = ap length cut-sets ∙ here.long

    pub cut_list : NodeList (length (take n (sets ++ after))) (take k (queue ++ past))
    cut_list = rw (cut-long, cut-place, ← here.size) here.lists.list

    pub cut-fit : (bytes : List ℕ) → length bytes ≡ length board.starts → LinksFit (length (take n (sets ++ after))) t.offsets bytes
    cut-fit bytes e v h =
        let l : v < n = rw cut-long at h in
        rw (p.net.begins (suc v) l, e) (below-le board.starts (suc v))

    pub marked-nodes : {nodes : List ℕ} → nodes ≡ marks_of (length (take n (sets ++ after))) (take k (queue ++ past)) →
        nodes ≡ place_nodes pattern board around.centre around.radius
    marked-nodes e = e ∙ ap₂ marks_of cut-long cut-place ∙ located-nodes here

    pub marked-table : {table : List ℕ} → table ≡ table_at (length (take n (sets ++ after))) (λ v. get_or (take n (sets ++ after)) v 0) (take k (queue ++ past)) →
        table ≡ place_table pattern board around.centre around.radius
    marked-table e = e ∙ rw (cut-sets, cut-place, here.long) (located-table here)

    pub marked-links : {bytes : List ℕ} {m : ℕ} → m ≡ length board.starts → bytes ≡ link_marks m t (take n (sets ++ after)) (take k (queue ++ past)) →
        bytes ≡ place_links pattern board around.centre around.radius
    marked-links e q =
        q ∙ rw (e, cut-sets, cut-place) (located-links p drawn.nodes.parallel (all-below _ _ (bounded-starts drawn.nodes)) drawn.rise here)

    -- the ball's distances, cut from a longer table
    measured-size : length dist ≡ n
    measured-size = ap length b.measured ∙ length-ball_distances board around.centre around.radius

    pub dist-room : n ≤ length (dist ++ after)
    dist-room = omega (arith, length-append dist after, measured-size)

    pub copied : (lent : List ℕ) {out : List ℕ} → out ≡ take n (dist ++ after) ++ drop (length (take n (dist ++ after))) lent →
        out ≡ distances_of board around.centre around.radius ++ drop n lent
    copied lent e = e ∙ rw (take_at dist after n measured-size, measured-size, b.measured)
