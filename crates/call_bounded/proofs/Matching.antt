-- What the call comes to, by cases: a refused file, a short table, or the match. Assumes nothing.
use Rattle.std.specs.Prelude.{◌≡◌, ◌∷◌, ◌++◌, ◌≤◌, ◌<◌, Ok, Err}
use Rattle.base_lists.specs.Kit.{◌∙◌, sym, ap, ap₂, List, [], ℕ, length, take, drop, le-ltb, lt-ltb}
use Rattle.base_lists.proofs.Parts.{length-take-room}
use Rattle.graph.specs.Circuit.{Circuit}
use Rattle.file_format.specs.declared.File.TheVariants.{Neither}
use Rattle.file_format.specs.declared.FileRead.{FileRead}
use Rattle.file_format.specs.declared.Refusal.{Refusal}
use Rattle.file_format.specs.declared.Role.TheVariants.{Board, AnyPattern, Pattern}
use Rattle.file_format.specs.Circuit.{Bounded, circuit_of}
use Rattle.file_format.specs.Layout.{CircuitFile, nodes_of}
use Rattle.file_format.specs.Reading.{filled, prefix, Stands}
use Rattle.file_format.specs.Refusals.{Verdict, accept, refuse, first, file_conditions, short_table}
use Rattle.file_format.proofs.Accepted.{bounded-any}
use Rattle.file_format.proofs.Fields.{length-labels, length-starts}
use Rattle.file_format.proofs.Reading.{stands-bounded}
use Rattle.file_format.proofs.Refusals.{first-accept, first-refuse, accepted-verdict}
use Rattle.file_bounds.specs.Third.{before_bounds, bounds_of, third_conditions, BoundsHeld}
use Rattle.file_bounds.proofs.Fit.{fit_at}
use Rattle.file_bounds.proofs.Third.{bounds-count, third-accepted}
use Rattle.bounded.specs.Problem.{Bounds, bounded_table, bounded_counts, BoundedAnswer}
use Rattle.bounded.proofs.Run.{bounded-length}
use Rattle.call_match.specs.Call.{TableOutcome, reply_of}
use Rattle.table.specs.declared.Counts.{Counts}
use Rattle.table.specs.Reply.{MatchReply, counts_reply}
use Rattle.call_bounded.specs.Call.{bounded_conditions, bounded_on, bounded_matching}

-- ---- two circuits

module _ (p : Circuit) (bounds : List ℕ) (b : Circuit) (table : List ℕ) where
  pub on-short : length table < length b.labels
      → record { reply = reply_of (Err (record { number = 8; file = Neither })); table = table } ≡ bounded_on p bounds b table
  unfolding bounded_on first short_table counts_reply reply_of filled
  on-short h = rw (lt-ltb _ _ h)

  -- the table is long enough: the call is accepted
  fits-verdict : length b.labels ≤ length table → first (short_table (length b.labels) (length table) ∷ []) ≡ accept
  unfolding first short_table
  fits-verdict h = rw (le-ltb _ _ h)

  -- the counts are replied with,
  fits-reply : length b.labels ≤ length table → {counts : Counts} → counts ≡ bounded_counts p bounds b → reply_of (Ok counts) ≡ (bounded_on p bounds b table).reply
  unfolding bounded_on counts_reply reply_of
  fits-reply h e = rw e (ap (λ (v : Verdict). counts_reply v (bounded_counts p bounds b)) (sym (fits-verdict h)))

  -- and the answer stands at the table's front, before the entries that stay
  fits-table : length b.labels ≤ length table → {last : List ℕ} → last ≡ bounded_table p bounds b
      → last ++ drop (length b.labels) table ≡ (bounded_on p bounds b table).table
  unfolding bounded_on filled
  fits-table h {last} e =
      let prefix : last ++ drop (length b.labels) table ≡ filled accept (bounded_table p bounds b) table = rw (e, bounded-length p bounds b) in
      prefix ∙ ap (λ (v : Verdict). filled v (bounded_table p bounds b) table) (sym (fits-verdict h))

  pub on-matched : length b.labels ≤ length table → {counts : Counts} {last : List ℕ} → BoundedAnswer p bounds b last counts
      → record { reply = reply_of (Ok counts); table = last ++ drop (length b.labels) table } ≡ bounded_on p bounds b table
  on-matched h m = ap₂ (λ (r : MatchReply) (t : List ℕ). record { reply = r; table = t }) (fits-reply h m.counted) (fits-table h m.last)

-- ---- an accepted pattern of the third edition

module _ (pattern : List ℕ) (e : first (third_conditions pattern) ≡ accept) where
  -- its bounds are a bound for each link, 1 to 4
  pub third-bounds : Bounds (circuit_of (before_bounds pattern)) (bounds_of pattern)
  third-bounds =
      let fits = fit_at (bounds_of pattern) (third-accepted pattern e).1 in
      record {
        each = bounds-count pattern ∙ sym (length-starts (before_bounds pattern));
        inside = record { some = λ i h. (fits i h).0; most = λ i h. (fits i h).1 };
      }

  -- as it was read
  module _ {read : FileRead} {tables : Circuit} {bounds : List ℕ} (held : BoundsHeld pattern read tables bounds) where
    pub held-bounded : Bounded Pattern (prefix read.nodes read.links tables)
    held-bounded = bounded-any (stands-bounded held.stands AnyPattern (accepted-verdict (third-accepted pattern e).0))

    pub held-bounds : Bounds (prefix read.nodes read.links tables) (take read.links bounds)
    held-bounds = rw (held.stands.content, held.bounded) third-bounds

    pub held-length : length (take read.links bounds) ≡ read.links
    held-length = ap length held.bounded ∙ bounds-count pattern ∙ sym held.stands.links

    pub held-room : read.links ≤ length bounds
    held-room = length-take-room read.links bounds held-length

-- ---- two files

module _ (pattern : List ℕ) (board : CircuitFile) (table : List ℕ) where
  pub pattern-refused : {x : Refusal} → first (third_conditions pattern) ≡ refuse x → record { reply = reply_of (Err x); table = table } ≡ bounded_matching pattern board table
  unfolding bounded_matching bounded_conditions counts_reply reply_of filled
  pattern-refused e = rw (first-refuse (third_conditions pattern) (file_conditions Board board ++ (short_table (nodes_of board) (length table) ∷ [])) _ e)

  module _ (drawn : first (third_conditions pattern) ≡ accept) where
    pub board-refused : {x : Refusal} → first (file_conditions Board board) ≡ refuse x → record { reply = reply_of (Err x); table = table } ≡ bounded_matching pattern board table
    unfolding bounded_matching bounded_conditions counts_reply reply_of filled
    board-refused e =
        rw
        (first-accept (third_conditions pattern) (file_conditions Board board ++ (short_table (nodes_of board) (length table) ∷ [])) drawn
        ∙ first-refuse (file_conditions Board board) (short_table (nodes_of board) (length table) ∷ []) _ e)

    module _ (given : first (file_conditions Board board) ≡ accept) where
      both-accepted : bounded_on (circuit_of (before_bounds pattern)) (bounds_of pattern) (circuit_of board) table ≡ bounded_matching pattern board table
      unfolding bounded_on bounded_matching bounded_conditions
      both-accepted =
          rw (
            first-accept (third_conditions pattern) (file_conditions Board board ++ (short_table (nodes_of board) (length table) ∷ [])) drawn
                ∙ first-accept (file_conditions Board board) (short_table (nodes_of board) (length table) ∷ []) given,
            length-labels board,
          )

      pub both_read : {p : FileRead} {n m : ℕ} {parts nodes : Circuit} {bounds : List ℕ} → BoundsHeld pattern p parts bounds → Stands board n m nodes → {o : TableOutcome}
          → o ≡ bounded_on (prefix p.nodes p.links parts) (take p.links bounds) (prefix n m nodes) table → o ≡ bounded_matching pattern board table
      both_read held stands e = (rw (held.stands.content, held.bounded, stands.content) at e) ∙ both-accepted
