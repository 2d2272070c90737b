-- `report_texts::head_bytes` meets its contract: a number below 1,000 has one digit, two or three. Assumes nothing.
use Rattle.std.specs.Prelude.{◌≡◌, ◌≤◌, ◌<◌, ◌+◌, ◌/◌}
use Rattle.base_lists.specs.Kit.{◌∙◌, ap, ℕ, length, length-append, arith}
use Rattle.base_text.specs.Text.{bytes, decimal}
use Rattle.base_text.proofs.Text.{decimal-two, decimal-more, length-digit}
use Rattle.report_texts.specs.Texts.{head_text}
use Rattle.report_texts.proofs.head_bytes.Goals as goal

head-length : (c d : ℕ) → length (decimal c) ≡ d → 7 + d ≡ length (head_text c)
unfolding head_text bytes
head-length c d e = omega (arith, e, length-append (decimal c) (bytes ":"))

two : (c : ℕ) → 10 ≤ c → c < 100 → length (decimal c) ≡ 2
two c h l = ap length (decimal-two c h l)

three : (c : ℕ) → 100 ≤ c → c < 1000 → length (decimal c) ≡ 3
three c h l =
    ap length (decimal-more c (omega arith)) ∙ length-append (decimal (c / 10)) _
    ∙ ap (λ (n : ℕ). n + 1) (two (c / 10) (omega arith) (omega arith))

pub returns-then-c-lt10 : goal.returns-then-c-lt10
returns-then-c-lt10 c = head-length _ 1 (length-digit _ c.if-c-lt10.true)

pub returns-then-c-lt100 : goal.returns-then-c-lt100
returns-then-c-lt100 c = head-length _ 2 (two _ c.if-c-lt10.false c.if-c-lt100.true)

pub returns : goal.returns
returns c = head-length _ 3 (three _ c.if-c-lt100.false c.requires)
