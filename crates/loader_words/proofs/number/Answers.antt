use Rattle.base_lists.specs.Kit.{◌∙◌, sym, refl, rules, arith}
use borrow.Author.Tests.{tests}
use Rattle.loader_words.proofs.Digits.{passed_none, passed-next, passed-all, no_word, no_digit, too_large}
use Rattle.loader_words.specs.Words.{is_digit}
use Rattle.loader_words.proofs.number.Goals as goal

pub returns-then-is_empty : goal.returns-then-is_empty
returns-then-is_empty c = no_word _ (search (rules, tests))

pub returns-then-not-is_ascii_digit : goal.returns-then-not-is_ascii_digit
unfolding is_digit
returns-then-not-is_ascii_digit c =
    no_digit c.args.word.now c.loop-byte.value c.loop-byte.byte-index c.loop-byte.invariant (omega arith)
    (sym c.is_ascii_digit.ensures.value ∙ c.if-not-is_ascii_digit.true)

pub loop-byte-init : goal.loop-byte-init
loop-byte-init c = passed_none _

pub returns-then-value-ge4294967296 : goal.returns-then-value-ge4294967296
unfolding is_digit
returns-then-value-ge4294967296 c =
    too_large c.args.word.now c.loop-byte.value c.loop-byte.byte-index c.loop-byte.invariant (omega arith)
    (sym c.is_ascii_digit.ensures.value ∙ c.if-not-is_ascii_digit.false) _ refl (omega arith)

pub loop-byte-preserved : goal.loop-byte-preserved
unfolding is_digit
loop-byte-preserved c =
    passed-next c.args.word.now c.loop-byte.value c.loop-byte.byte-index c.loop-byte.invariant (omega arith)
    (sym c.is_ascii_digit.ensures.value ∙ c.if-not-is_ascii_digit.false) _ refl (omega arith)

pub returns : goal.returns
returns c = passed-all c.args.word.now c.loop-byte.value c.loop-byte.byte-index c.loop-byte.invariant (search (rules, tests)) (omega arith)
