-- Each call is decided by its conditions, and a refusal leaves every lent table as it was. Assumes nothing.
use Rattle.std.specs.Prelude.{◌≡◌, ◌&&◌, ◌∷◌, ◌++◌}
use Rattle.base_lists.specs.Kit.{◌∙◌, sym, ap, refl, ⊎_elim, Bool, false, true, cond, not, List, [], ℕ, le_of_eq, ltb, length, arith}
use Rattle.base_lists.specs.List.{all}
use Rattle.base_lists.proofs.Tests.{both_true, both_left, both_right}
use Rattle.base_lists.proofs.Entries.{all-below, below_all}
use Rattle.graph.specs.Circuit.{Circuit}
use Rattle.graph.proofs.Distance.{connected-iff, radius-is}
use Rattle.file_format.specs.declared.File.TheVariants.{Neither}
use Rattle.file_format.specs.declared.Refusal.{Refusal}
use Rattle.file_format.specs.declared.Role.{Role}
use Rattle.file_format.specs.declared.Role.TheVariants.{Pattern, AnyPattern}
use Rattle.file_format.specs.Circuit.{circuit_of}
use Rattle.file_format.specs.Layout.{CircuitFile, nodes_of, links_of, kinds_of, packages_of, starts_of, ends_of}
use Rattle.file_format.specs.Links.{links_below}
use Rattle.file_format.specs.Reading.{ReadOutcome, read_conditions, reading, filled}
use Rattle.file_format.specs.Refusals.{Condition, Verdict, accept, refuse, first, file_conditions, Accepted, short_table, link_gone}
use Rattle.file_format.specs.Reply.{Reply, read_reply, reply}
use Rattle.file_format.proofs.Accepted.{links-within}
use Rattle.file_format.proofs.Fields.{length-kinds, length-packages, length-starts, length-ends, length-labels}
use Rattle.file_format.proofs.Reading.{reading-filled}
use Rattle.file_format.proofs.Refusals.{accepted, accepted-verdict, accept-not-refuse, first-accept, first-parts, first-refuse, accepts-iff, refuses-by, reply-verdict}
use Rattle.file_format.proofs.Rising.{rising-links, rise-test}
use Rattle.table.specs.declared.Counts.{Counts}
use Rattle.table.specs.Fill.{listed}
use Rattle.table.specs.Reply.{no_counts, counts_reply}
use Rattle.table.proofs.Reply.{replied-verdict}
use Rattle.place.specs.Match.{found}
use Rattle.place.specs.Outcome.{place_verdict}
use Rattle.file_write.specs.Writing.{writing}
use Rattle.call_convert.specs.Call.{converting}
use Rattle.call_test_board.specs.Call.{making_test_board}
use Rattle.call_distance.specs.Calls.{radius_call, ball_call}
use Rattle.call_match.specs.Call.{matching_by}
use Rattle.call_bounded.specs.Call.{bounded_matching}
use Rattle.call_place.specs.Call.{input_conditions}
use Rattle.call_place.proofs.Promise.{input-refused, verdict-is, accept-or-nine, nine-keeps}
use Rattle.call_check.specs.Call.{check_call}
use Rattle.call_barring.proofs.Promise as bar-call
use Rattle.call_merge.specs.Call.{merging}
use Rattle.std.specs.declared.cmp.Ordering.{Ordering}
use Rattle.order.specs.Files.{second_edition, compare_files}
use Rattle.call_shelf.specs.Compare.{compared_by, comparing, compare_reply}
use Rattle.call_shelf.specs.Shelf.{shelving_of, shelving}
use Rattle.report_answer.specs.Call.{reporting, need_for, files_verdict, outcome_for}
use Rattle.session.specs.Machine.{Machine, fresh, is_left, cut_reply, machine_after}
use Rattle.session.specs.Session.{CutPromise, ReadPromise}
use Rattle.session.specs.State.{State, Holds}
use Rattle.session.proofs.Left.{fresh-left}
use Rattle.session.proofs.Run.{left_after, after_same}
use Rattle.call_session.proofs.Promise as session
use Rattle.demands.specs.Numbers as number
use Rattle.demands.specs.Numbers.{EachNumbered}
use Rattle.demands.specs.Demands.{Lent, placed, Decided, Replies, nine, placed_conditions, Untouched, Unread, ReadsAs, Running, Demand1}
use Rattle.demands.proofs.Numbers.{file-numbered, file-then, read-numbered, write-numbered, convert-numbered, load-numbered, ball-numbered, match-numbered, bounds-numbered, place-numbered, check-numbered, bar-numbered, merge-numbered, pair-numbered, short-numbered}

-- ---- a verdict that is the first of a list of conditions

pub by_first :
    {conditions : List Condition} {verdict : Verdict} {Kept : Type 0} → EachNumbered conditions → verdict ≡ first conditions →
    ((x : Refusal) → first conditions ≡ refuse x → Kept) → Decided conditions verdict Kept
by_first {conditions} each e keeps =
    record {
      numbered = each;
      refused = λ x. rw e (refuses-by conditions x);
      accepted = rw e (accepts-iff conditions);
      kept = λ x r. keeps x (sym e ∙ r);
    }

-- a refusal has no values
pub no-values : {v : Verdict} {x : Refusal} (values : List ℕ) → v ≡ refuse x → (reply v values).values ≡ []
unfolding reply
no-values values e = rw e

no-counts : {v : Verdict} {x : Refusal} (counts : Counts) → v ≡ refuse x → (counts_reply v counts).counts ≡ no_counts
unfolding counts_reply
no-counts counts e = rw e

-- a refused call keeps what was lent
pub keeps : {v : Verdict} {x : Refusal} (values old : List ℕ) → v ≡ refuse x → filled v values old ≡ old
unfolding filled
keeps values old e = rw e

-- ---- the calls

verdict-read :
    (role : Role) (file : CircuitFile) (kinds packages starts ends : List ℕ) →
    (reading role file kinds packages starts ends).reply.verdict ≡ first (read_conditions role file (length kinds) (length packages) (length starts) (length ends))
unfolding reading
verdict-read role file kinds packages starts ends = reply-verdict _ _

-- the comparison: the first file's conditions, then the second's
compared-by :
    (cs ds : List Condition) (o : Ordering) → let result = compare_reply (compared_by (first cs) (first ds) o) in
    (result.verdict ≡ first (cs ++ ds)) × ((x : Refusal) → first (cs ++ ds) ≡ refuse x → result.order ≡ 0)
unfolding compared_by compare_reply
compared-by cs ds o = go (first cs) (first ds) refl refl
  where
    go :
        (v w : Verdict) → first cs ≡ v → first ds ≡ w → let result = compare_reply (compared_by v w o) in
        (result.verdict ≡ first (cs ++ ds)) × ((x : Refusal) → first (cs ++ ds) ≡ refuse x → result.order ≡ 0)
    go accept accept e f = (sym (first-accept cs ds e ∙ f), λ x r. absurd (accept-not-refuse (sym (first-accept cs ds e ∙ f) ∙ r)))
    go accept (refuse y) e f = (sym (first-accept cs ds e ∙ f), λ x r. refl)
    go (refuse y) w e f = (sym (first-refuse cs ds y e), λ x r. refl)

-- ---- the place calls: the conditions on the inputs, and then 9

turned : (b : Bool) → cond b accept (refuse nine) ≡ cond (not b) (refuse nine) accept
turned true = refl
turned false = refl

abbrev no_place : CircuitFile → CircuitFile → ℕ → ℕ → Condition
no_place pattern board w r = record { number = 9; file = Neither; holds = not (found (circuit_of pattern) (circuit_of board) w r) }

verdict-nine : (pattern board : CircuitFile) (w r : ℕ) → place_verdict (circuit_of pattern) (circuit_of board) w r ≡ first (no_place pattern board w r ∷ [])
unfolding place_verdict first nine
verdict-nine pattern board w r = turned (found (circuit_of pattern) (circuit_of board) w r)

module _ (pattern board : CircuitFile) (w r : ℕ) (lent : Lent) where
  abbrev inputs : List Condition
  inputs = input_conditions pattern board w (length lent.nodes) (length lent.links) (length lent.table) (length lent.distances)

  by-inputs : (x : Refusal) → first inputs ≡ refuse x → ((placed pattern board w r lent).reply.verdict ≡ refuse x) × Untouched lent (placed pattern board w r lent)
  unfolding placed Untouched
  by-inputs x e =
      let (verdict, counts, nodes, links, table, distances) = input-refused pattern board w r lent.nodes lent.links lent.table lent.distances x e in
      (verdict, (nodes, links, table, distances, λ other. counts))

  verdict-place : first inputs ≡ accept → (placed pattern board w r lent).reply.verdict ≡ place_verdict (circuit_of pattern) (circuit_of board) w r
  unfolding placed
  verdict-place = verdict-is pattern board w r lent.nodes lent.links lent.table lent.distances

  by-nine : first inputs ≡ accept → (x : Refusal) → (placed pattern board w r lent).reply.verdict ≡ refuse x → Untouched lent (placed pattern board w r lent)
  unfolding placed Untouched nine
  by-nine sound x e =
      ⊎_elim (λ ok. let apart : refuse x ≡ accept = sym e ∙ ok in let z : ◌≡◌ {A = ℕ} 0 1 = cc in absurd (omega arith))
      (λ none.
      let (nodes, links, table, distances) = nine-keeps pattern board w r lent.nodes lent.links lent.table lent.distances sound none in
      (nodes, links, table, distances, λ other. absurd (other none)))
      (accept-or-nine pattern board w r lent.nodes lent.links lent.table lent.distances sound)

  verdict-all : (placed pattern board w r lent).reply.verdict ≡ first (placed_conditions pattern board w r lent)
  unfolding placed_conditions
  verdict-all = go (first inputs) refl
    where
      go : (v : Verdict) → first inputs ≡ v → (placed pattern board w r lent).reply.verdict ≡ first (inputs ++ (no_place pattern board w r ∷ []))
      go accept e = verdict-place e ∙ verdict-nine pattern board w r ∙ sym (first-accept inputs _ e)
      go (refuse x) e = (by-inputs x e).0 ∙ sym (first-refuse inputs _ x e)

  untouched : (x : Refusal) → first (placed_conditions pattern board w r lent) ≡ refuse x → Untouched lent (placed pattern board w r lent)
  untouched x e = go (first inputs) refl
    where
      go : (v : Verdict) → first inputs ≡ v → Untouched lent (placed pattern board w r lent)
      go accept sound = by-nine sound x (verdict-all ∙ e)
      go (refuse y) turns = (by-inputs y turns).1

  places : Decided (placed_conditions pattern board w r lent) (placed pattern board w r lent).reply.verdict (Untouched lent (placed pattern board w r lent))
  places = by_first (place-numbered pattern board w r lent) verdict-all untouched

-- ---- a session

module _ (pattern board : CircuitFile) (places : List ℕ) (s : State) (running : Running pattern board places s) where
  abbrev m : Machine
  m = machine_after (fresh (circuit_of pattern) (circuit_of board)) places

  holds : Holds m s
  unfolding Running
  holds = let (before, opened, said, begun, cuts) = running in (session.session-run begun places said s cuts).1

  is-left : (i : ℕ) → is_left m i ≡ ltb i (links_of board) && not (listed places i)
  is-left i =
      left_after places (fresh (circuit_of pattern) (circuit_of board)) i
      ∙ ap (λ (b : Bool). b && not (listed places i)) (fresh-left (circuit_of pattern) (circuit_of board) i ∙ ap (ltb i) (length-starts board))

  cuts :
      (after : State) (place : ℕ) (said : Verdict) → CutPromise s place said after →
      Decided (link_gone (ltb place (links_of board) && not (listed places place)) ∷ []) said (after ≡ s)
  unfolding cut_reply EachNumbered
  cuts after place said p =
      let e = (p.machine m holds).0 ∙ ap (λ (b : Bool). first (link_gone b ∷ [])) (is-left place) in
      by_first (number.fourteen (ltb place (links_of board) && not (listed places place)), tt) e (λ x r. p.refused x (e ∙ r))

  nodes-are : length m.board.labels ≡ nodes_of board
  unfolding fresh
  nodes-are = ap (λ (c : Circuit). length c.labels) (after_same places (fresh (circuit_of pattern) (circuit_of board))).1 ∙ length-labels board

  tables :
      (lent later : List ℕ) (answer : Reply) → ReadPromise s lent answer later →
      Replies (short_table (nodes_of board) (length lent) ∷ []) answer (later ≡ lent)
  tables lent later answer p =
      let said = (p.machine m holds).0 in
      let e = ap (λ (a : Reply). a.verdict) said ∙ reply-verdict _ _ ∙ ap (λ (n : ℕ). first (short_table n (length lent) ∷ [])) nodes-are in
      by_first (short-numbered (nodes_of board) (length lent)) e
      (λ x r. (ap (λ (a : Reply). a.values) said ∙ no-values _ (sym (reply-verdict _ _) ∙ sym (ap (λ (a : Reply). a.verdict) said) ∙ e ∙ r), p.refused x (e ∙ r)))

-- ---- what is accepted, and what the conditions 4, 5, 6 and 11 test

accepted-reads : (role : Role) (file : CircuitFile) → Accepted role file → ReadsAs role file
unfolding ReadsAs read_reply
accepted-reads role file a kinds packages starts ends k p s t =
    ap (λ (o : ReadOutcome). o.reply.verdict) (reading-filled role file kinds packages starts ends (accepted-verdict a) k p s t)

reads-accepted : (role : Role) (file : CircuitFile) → ReadsAs role file → Accepted role file
unfolding ReadsAs read_conditions
reads-accepted role file f =
    let ok = f (kinds_of file) (packages_of file) (starts_of file) (ends_of file) (le_of_eq (sym (length-kinds file))) (le_of_eq (sym (length-packages file))) (le_of_eq (sym (length-starts file))) (le_of_eq (sym (length-ends file))) in
    accepted role file (first-parts (file_conditions role file) _ (sym (verdict-read role file (kinds_of file) (packages_of file) (starts_of file) (ends_of file)) ∙ ok)).0

-- ---- each call, in the order of specs/Demands

pub decided-1 : Demand1
unfolding reading Unread writing converting making_test_board radius_call ball_call matching_by bounded_matching check_call merging comparing shelving shelving_of reporting outcome_for links_below
decided-1 =
    record {
      reads = λ role file kinds packages starts ends.
          by_first (read-numbered role file (length kinds) (length packages) (length starts) (length ends)) (reply-verdict _ _)
          (λ x e. (no-values _ e, (keeps _ kinds e, keeps _ packages e, keeps _ starts e, keeps _ ends e)));
      writes = λ role e kinds packages starts ends out.
          by_first (write-numbered role e kinds packages starts ends (length out)) (reply-verdict _ _) (λ x e. (no-values _ e, keeps _ out e));
      converts = λ role to file out. by_first (convert-numbered role to file (length out)) (reply-verdict _ _) (λ x e. (no-values _ e, keeps _ out e));
      loads = λ seed n m k out. by_first (load-numbered n m k (length out)) (reply-verdict _ _) (λ x e. (no-values _ e, keeps _ out e));
      measures = λ file. by_first (file-numbered Pattern file) (reply-verdict _ _) (λ x e. (no-values _ e, tt));
      balls = λ file w r out. by_first (ball-numbered file w (length out)) (reply-verdict _ _) (λ x e. (no-values _ e, keeps _ out e));
      matches = λ ways pattern board table.
          by_first (match-numbered pattern board (length table)) (replied-verdict _ _) (λ x e. (no-counts _ e, keeps _ table e));
      bounds = λ pattern board table.
          by_first (bounds-numbered pattern board (length table)) (replied-verdict _ _) (λ x e. (no-counts _ e, keeps _ table e));
      places = places;
      checks = λ pattern board w nodes links.
          by_first (check-numbered pattern board w (length nodes) (length links)) (reply-verdict _ _) (λ x e. (no-values _ e, tt));
      bars = λ pattern board w out.
          by_first (bar-numbered pattern board w (length out)) (bar-call.verdict-is pattern board w out) (bar-call.refused-keeps pattern board w out);
      merges = λ pattern classes out.
          by_first (merge-numbered pattern (length classes) (length out)) (reply-verdict _ _) (λ x e. (no-values _ e, (keeps _ classes e, keeps _ out e)));
      compares = λ a b.
          let both_true = compared-by (file_conditions Pattern (second_edition a)) (file_conditions Pattern (second_edition b)) (compare_files a b) in
          by_first (file-then Pattern (second_edition a) _ (file-numbered Pattern (second_edition b))) both_true.0 both_true.1;
      shelves = λ bytes lengths order. by_first (short-numbered _ (length order)) (reply-verdict _ _) (λ x e. (no-values _ e, keeps _ order e));
      reports = λ pattern board from before out.
          by_first (short-numbered (need_for (files_verdict pattern board)) (length out)) (reply-verdict _ _) (λ x e. (no-values _ e, keeps _ out e));
      opens = λ pattern board before after said p. by_first (pair-numbered AnyPattern pattern board) p.replied (λ x e. p.refused x (p.replied ∙ e));
      cuts = λ pattern board places s after place said running. cuts pattern board places s running after place said;
      tables = λ pattern board places s lent later answer running. tables pattern board places s running lent later answer;
      accepts = λ role file. (accepted-reads role file, reads-accepted role file);
      below = λ n starts ends.
          let s = all (λ v. ltb v n) starts in
          let e = all (λ v. ltb v n) ends in (
            λ t. (all-below n starts (both_left s e t), all-below n ends (both_right s e t)),
            λ (a, b). both_true s e (below_all n starts a) (below_all n ends b),
          );
      rises = λ starts ends. (rising-links starts ends, rise-test starts ends);
      joins = λ n starts ends t. connected-iff (links-within n starts ends t);
      spans = λ n starts ends some t joined. radius-is (links-within n starts ends t) some joined;
    }
