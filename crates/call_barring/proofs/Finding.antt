-- What the call comes to, by cases: a refused file, a centre outside, too few bytes, or what is found. Assumes nothing.
use Rattle.std.specs.Prelude.{◌≡◌, ◌≤◌, ◌<◌, Err}
use Rattle.base_lists.specs.Kit.{◌∙◌, sym, ap, List, ℕ, length, le-ltb, lt-ltb}
use Rattle.graph.specs.Circuit.{Circuit}
use Rattle.graph.specs.Search.{radius}
use Rattle.file_format.specs.declared.File.TheVariants.{Neither}
use Rattle.file_format.specs.declared.Role.TheVariants.{Pattern}
use Rattle.file_format.specs.declared.Refusal.{Refusal}
use Rattle.file_format.specs.Circuit.{circuit_of}
use Rattle.file_format.specs.Layout.{CircuitFile, starts_of, ends_of}
use Rattle.file_format.specs.Reading.{prefix, filled}
use Rattle.file_format.specs.Refusals.{accept, refuse, first, centre_outside, short_table}
use Rattle.file_format.specs.Reply.{reply, number_reply}
use Rattle.file_format.proofs.Fields.{length-labels, length-starts}
use Rattle.file_format.proofs.Refusals.{first-accept, first-refuse}
use Rattle.file_pair.specs.declared.Pair.{Pair}
use Rattle.file_pair.specs.Pair.{pair_conditions, BothRead}
use Rattle.file_pair.proofs.Both.{pair-radius}
use Rattle.place.specs.Match.{radius_of}
use Rattle.barring.specs.Outcome.{BarOutcome, barring, bar_around}
use Rattle.call_barring.specs.Call.{has_place, bar_inputs, bar_call, bar_on}

-- a call that is turned away leaves the bytes as they were
abbrev pub untouched : Refusal → List ℕ → BarOutcome
untouched x out = record { reply = number_reply (Err x); out = out }

-- ---- two circuits

module _ (r : ℕ) (p b : Circuit) (w : ℕ) (out : List ℕ) where
  pub on-centre : length b.labels ≤ w → untouched (record { number = 7; file = Neither }) out ≡ bar_on r p b w out
  unfolding bar_on barring number_reply first centre_outside reply filled
  on-centre h = rw (le-ltb _ _ h)

  module _ (inside : w < length b.labels) where
    pub on-short : length out < length p.starts → untouched (record { number = 8; file = Neither }) out ≡ bar_on r p b w out
    unfolding bar_on barring number_reply first centre_outside short_table reply filled
    on-short h = rw (lt-ltb _ _ inside, lt-ltb _ _ h)

    pub on-around : length p.starts ≤ length out → {o : BarOutcome} → o ≡ bar_around p b w r out → o ≡ bar_on r p b w out
    unfolding bar_on bar_around first centre_outside short_table
    on-around h e = e ∙ rw (lt-ltb _ _ inside, le-ltb _ _ h)

-- ---- two files

module _ (pattern board : CircuitFile) (w : ℕ) (out : List ℕ) where
  pub bar-refused : {x : Refusal} → first (pair_conditions Pattern pattern board) ≡ refuse x → untouched x out ≡ bar_call pattern board w out
  unfolding bar_call bar_inputs barring number_reply reply filled
  bar-refused e = rw (first-refuse _ _ _ e)

  bar-accepted : first (pair_conditions Pattern pattern board) ≡ accept → bar_on (radius_of (circuit_of pattern)) (circuit_of pattern) (circuit_of board) w out ≡ bar_call pattern board w out
  unfolding bar_on bar_call bar_inputs has_place
  bar-accepted e = rw (first-accept _ _ e, length-labels board, length-starts pattern)

  pub bar-read : {p : Pair} {parts host : Circuit} → BothRead Pattern pattern board p parts host → {o : BarOutcome}
      → o ≡ bar_on p.radius (prefix p.parts p.joins parts) (prefix p.nodes p.links host) w out → o ≡ bar_call pattern board w out
  unfolding radius_of
  bar-read read e =
      let own = pair-radius read ∙ sym (ap (λ (n : ℕ). radius n (starts_of pattern) (ends_of pattern)) (length-labels pattern)) in
      (rw (own, read.drawn.content, read.given.content) at e) ∙ bar-accepted read.verdict
