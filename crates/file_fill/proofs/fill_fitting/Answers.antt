-- `file_fill::fill_fitting` meets its contract: a table is short, or all are filled. Assumes nothing.
use mathlib.Core.Logic.{inl, inr}
use mathlib.Core.Path.{sym}
use native.Mathlib.Omega.{arith}
use Rattle.file_format.specs.Layout.{kinds_of, packages_of, starts_of, ends_of}
use Rattle.file_format.proofs.Reading.{reading-short, reading-filled}
use Rattle.file_fill.proofs.fill_fitting.Goals as goal

pub returns-then-kinds-n : goal.returns-then-kinds-n
returns-then-kinds-n c = λ role e. sym (reading-short role _ _ _ _ _ e (inl (rw c.requires.0 at c.if-kinds-n.true)))

pub returns-then-packages-p : goal.returns-then-packages-p
returns-then-packages-p c = λ role e. sym (reading-short role _ _ _ _ _ e (inr (inl (rw (c.package_count-p.ensures.0, c.requires.0) at c.if-packages-p.true))))

pub returns-then-starts-m : goal.returns-then-starts-m
returns-then-starts-m c = λ role e. sym (reading-short role _ _ _ _ _ e (inr (inr (inl (rw c.requires.1 at c.if-starts-m.true)))))

pub returns-then-ends-m : goal.returns-then-ends-m
returns-then-ends-m c = λ role e. sym (reading-short role _ _ _ _ _ e (inr (inr (inr (rw c.requires.1 at c.if-ends-m.true)))))

pub returns : goal.returns
unfolding kinds_of packages_of starts_of ends_of
returns c =
    λ role e.
    let (n, m, _) = c.requires in
    rw (c.new.ensures, c.store_two.ensures.first_after, c.store_two.ensures.second_after, c.fill_links.ensures.starts_after, c.fill_links.ensures.ends_after, c.package_count-p.ensures.0, n, m)
    (sym (reading-filled role _ _ _ _ _ e (omega arith) (rw (← n, ← c.package_count-p.ensures.0) c.if-packages-p.false) (omega arith) (omega arith)))
