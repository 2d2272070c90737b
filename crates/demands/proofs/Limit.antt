-- Ask 5 holds: the limit on a pattern's radius. Assumes nothing.
use Rattle.std.specs.Prelude.{◌≡◌, ◌↔◌, ◌∷◌, ◌++◌, ◌≤◌, ◌<◌}
use Rattle.base_lists.specs.Kit.{◌∙◌, sym, ap, refl, subst₂, Bool, false, true, cond, List, [], ℕ, ltb, length, arith}
use Rattle.base_lists.proofs.Tests.{not-true-false}
use Rattle.base_text.specs.Text.{bytes, digits, decimal}
use Rattle.graph.specs.Circuit.{graph_of}
use Rattle.graph.specs.Graph.{Radius}
use Rattle.graph.specs.Search.{connected, radius}
use Rattle.graph.proofs.Distance.{radius-is}
use Rattle.graph.proofs.Walks.{radius-unique}
use Rattle.file_format.specs.declared.Edition.{Edition}
use Rattle.file_format.specs.declared.File.TheVariants.{Neither}
use Rattle.file_format.specs.declared.Role.TheVariants.{Pattern, Board}
use Rattle.file_format.specs.Layout.{CircuitFile, length_of}
use Rattle.file_format.specs.Links.{links_below}
use Rattle.file_format.specs.Reading.{ReadOutcome, read_conditions, reading}
use Rattle.file_format.specs.Refusals.{Condition, Verdict, accept, refuse, first, too_wide, eleven, without, asks_connected, link_conditions, file_conditions, centre_outside, short_table, Accepted}
use Rattle.file_format.specs.Reply.{read_reply, number_reply}
use Rattle.file_format.specs.Role.{in_range}
use Rattle.file_format.proofs.Accepted.{links-within}
use Rattle.file_format.proofs.Limit.{wide-iff, wide-file, narrow-file, accepted-before, unasked-before, without-both}
use Rattle.file_format.proofs.Reading.{reading-refused}
use Rattle.file_format.proofs.Refusals.{accept-not-refuse, first-accept, first-refuse, first_holds, range-orders, accepted, accepted-verdict, reply-verdict}
use Rattle.file_pair.specs.Pair.{pair_conditions}
use Rattle.file_write.specs.Writing.{WriteOutcome, circuit_conditions, write_conditions, writing}
use Rattle.file_write.proofs.Writing.{writing-refused}
use Rattle.report.specs.Report.{file_word, refusal_line, report_for, report_of}
use Rattle.merge.proofs.Accepted.{merged-content, merged-radius-le}
use Rattle.merge.proofs.Content.{accepted-content, content-radius}
use Rattle.call_convert.specs.Call.{convert_conditions, converting}
use Rattle.call_distance.specs.Calls.{radius_call}
use Rattle.call_decide.specs.Decide.{room_conditions}
use Rattle.call_place.specs.Call.{input_conditions, place_at}
use Rattle.call_place.proofs.Promise.{input-refused}
use Rattle.call_check.specs.Call.{check_conditions, check_call}
use Rattle.call_barring.specs.Call.{bar_inputs}
use Rattle.call_barring.proofs.Promise as bar-call
use Rattle.call_merge.specs.Call.{merge_conditions, merging}
use Rattle.call_merge.proofs.Promise.{pattern-accepted, merged-accepted, merged-circuit}
use Rattle.demands.specs.Demands.{graph, placed, merged_file}
use Rattle.demands.specs.Limit.{before, reading_before, radius_before, placed_before, merging_before, report_before, TurnedAway, AsBefore, Limit}
use Rattle.demands.proofs.Merged.{file-is}

-- ---- which patterns

unfoldable number : Verdict → ℕ
number accept = 0
number (refuse x) = x.number

eight-not : (b : Bool) → cond b (refuse (record { number = 8; file = Neither })) accept ≡ refuse eleven → ⊥
unfolding number
eight-not true e = let z : ◌≡◌ {A = ℕ} 8 11 = ap number e in omega arith
eight-not false e = accept-not-refuse e

module _ (e : Edition) (kinds packages starts ends : List ℕ) where
  split-circuit : circuit_conditions Pattern e kinds packages starts ends
      ≡ without 11 (circuit_conditions Pattern e kinds packages starts ends) ++ (too_wide Pattern (length kinds) starts ends ∷ [])
  unfolding circuit_conditions link_conditions without
  split-circuit = refl

  circuit-measured : before (circuit_conditions Pattern e kinds packages starts ends) ≡ accept → Radius (graph_of (length kinds) starts ends) (radius (length kinds) starts ends)
  unfolding circuit_conditions link_conditions without asks_connected
  circuit-measured sound =
      let n = length kinds in
      let h2 = first_holds _ _ sound in
      let h3 = first_holds _ _ h2.1 in
      let h4 = first_holds _ _ h3.1 in
      let h5 = first_holds _ _ h4.1 in
      let h6 = first_holds _ _ h5.1 in
      let some = (range-orders Pattern n (length starts) (not-true-false (in_range Pattern n (length starts)) h2.0)).0 in
      let below = not-true-false (links_below n starts ends) h4.0 in
      radius-is (links-within n starts ends below) some (not-true-false (connected n starts ends) h6.0)

  -- where a list of conditions, and then 8, come to 11, it is the list that does
  by-circuit : (out : List ℕ) → first (write_conditions Pattern e kinds packages starts ends (length out)) ≡ refuse eleven → first (circuit_conditions Pattern e kinds packages starts ends) ≡ refuse eleven
  unfolding write_conditions first short_table
  by-circuit out q = go (first (circuit_conditions Pattern e kinds packages starts ends)) refl
    where
      go : (v : Verdict) → first (circuit_conditions Pattern e kinds packages starts ends) ≡ v → first (circuit_conditions Pattern e kinds packages starts ends) ≡ refuse eleven
      go accept h =
          absurd (eight-not (ltb (length out) (length_of e (length kinds) (length starts))) (sym (first-accept (circuit_conditions Pattern e kinds packages starts ends) _ h) ∙ q))
      go (refuse x) h = h ∙ sym (first-refuse (circuit_conditions Pattern e kinds packages starts ends) _ x h) ∙ q

  wide-written : (out : List ℕ) →
      ((writing Pattern e kinds packages starts ends out).reply.verdict ≡ refuse eleven) ↔
      ((before (circuit_conditions Pattern e kinds packages starts ends) ≡ accept) × ((r : ℕ) × Radius (graph_of (length kinds) starts ends) r × (12 < r)))
  unfolding writing number_reply
  wide-written out =
      let iff = wide-iff (circuit_conditions Pattern e kinds packages starts ends) (length kinds) starts ends split-circuit circuit-measured in (
        λ q. iff.0 (by-circuit out (sym (reply-verdict _ _) ∙ q)),
        λ w. ap (λ (o : WriteOutcome). o.reply.verdict) (writing-refused Pattern e kinds packages starts ends out eleven (iff.1 w)),
      )

-- ---- turned away

module _ (pattern : CircuitFile) (e : first (file_conditions Pattern pattern) ≡ refuse eleven) where
  by-pattern : (cs : List Condition) → first (file_conditions Pattern pattern ++ cs) ≡ refuse eleven
  by-pattern cs = first-refuse (file_conditions Pattern pattern) cs eleven e

  by-pair : (board : CircuitFile) (cs : List Condition) → first (pair_conditions Pattern pattern board ++ cs) ≡ refuse eleven
  unfolding pair_conditions
  by-pair board cs = first-refuse (pair_conditions Pattern pattern board) cs eleven (by-pattern (file_conditions Board board))

  turned-away : TurnedAway pattern
  unfolding placed input_conditions read_reply radius_call merging merge_conditions converting convert_conditions check_call check_conditions bar_inputs report_of report_for refusal_line file_word bytes decimal digits
  turned-away =
      record {
        reads = λ kinds packages starts ends. ap (λ (o : ReadOutcome). o.reply.verdict) (reading-refused Pattern pattern kinds packages starts ends eleven e);
        measures = reply-verdict _ _ ∙ e;
        places = λ board w r lent. (input-refused pattern board w r lent.nodes lent.links lent.table lent.distances eleven (by-pair board _)).0;
        merges = λ lent out. reply-verdict _ _ ∙ by-pattern _;
        converts = λ to out. reply-verdict _ _ ∙ by-pattern _;
        checks = λ board w nodes links. reply-verdict _ _ ∙ by-pair board _;
        bars = λ board w out. bar-call.verdict-is pattern board w out ∙ by-pair board _;
        reports = λ board. rw (by-pattern (file_conditions Board board));
      }

-- ---- as before

module _ (pattern : CircuitFile) (a : Accepted Pattern pattern) where
  same-file : before (file_conditions Pattern pattern) ≡ first (file_conditions Pattern pattern)
  same-file = accepted-before pattern (accepted-verdict a)

  same-pair : (board : CircuitFile) → before (pair_conditions Pattern pattern board) ≡ first (pair_conditions Pattern pattern board)
  unfolding pair_conditions asks_connected
  same-pair board = without-both 11 (file_conditions Pattern pattern) (file_conditions Board board) same-file (unasked-before Board board refl)

  -- 7 and 8 are other numbers
  same_read : (k p s e : ℕ) → before (read_conditions Pattern pattern k p s e) ≡ first (read_conditions Pattern pattern k p s e)
  unfolding read_conditions short_table without
  same_read k p s e = without-both 11 (file_conditions Pattern pattern) _ same-file refl

  same-input : (board : CircuitFile) (w k s e d : ℕ) → before (input_conditions pattern board w k s e d) ≡ first (input_conditions pattern board w k s e d)
  unfolding input_conditions room_conditions centre_outside short_table without
  same-input board w k s e d = without-both 11 (pair_conditions Pattern pattern board) _ (same-pair board) refl

  same-merge : (k s : ℕ) → before (merge_conditions pattern k s) ≡ first (merge_conditions pattern k s)
  unfolding merge_conditions short_table without
  same-merge k s = without-both 11 (file_conditions Pattern pattern) _ same-file refl

  as_before : AsBefore pattern
  unfolding reading reading_before radius_call radius_before placed place_at placed_before merging merging_before report_of report_before pair_conditions
  as_before =
      record {
        reads = λ kinds packages starts ends. rw (same_read (length kinds) (length packages) (length starts) (length ends));
        measures = rw same-file;
        places = λ board w r lent. rw (same-input board w (length lent.nodes) (length lent.links) (length lent.table) (length lent.distances));
        merges = λ lent out. rw (same-merge (length lent) (length out));
        reports = λ board. rw (same-pair board);
      }

-- ---- merging

module _ (pattern : CircuitFile) (lent out : List ℕ) (ok : (merging pattern lent out).reply.verdict ≡ accept) where
  merged-narrow : (r s : ℕ) → Radius (graph pattern) r → Radius (graph (merged_file pattern (merging pattern lent out))) s → s ≤ r
  merged-narrow r s is second =
      let a = pattern-accepted pattern lent out ok in
      let c = accepted-content a in
      let own = radius-unique (content-radius c) is in
      let second' = rw (file-is pattern lent out ok, merged-circuit a) at second in
      subst₂ (λ (x y : ℕ). x ≤ y) (radius-unique (content-radius (merged-content c)) second') own (merged-radius-le c)

  merged-taken : Accepted Pattern (merged_file pattern (merging pattern lent out))
  merged-taken = rw (file-is pattern lent out ok) (merged-accepted (pattern-accepted pattern lent out ok))

-- "Twelve becomes the limit. Users keep every guarantee about places and merging for patterns up to it; a merged
-- pattern never has the larger radius. Turned away: 11, pattern radius above 12, checked in every call that checks 6,
-- after it and before the board's 1."
pub radius-twelve : Limit
radius-twelve =
    record {
      wide = wide-file;
      narrow = λ file. (λ a. (narrow-file file).0 (accepted-verdict a), λ h. accepted Pattern file ((narrow-file file).1 h));
      written = wide-written;
      turned = turned-away;
      same = as_before;
      merged = merged-narrow;
      accepts = merged-taken;
    }
