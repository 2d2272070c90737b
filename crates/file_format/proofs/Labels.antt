-- A label is a kind and a package, and only that. Assumes nothing.
use Rattle.std.specs.Prelude.{◌≡◌, ◌<◌}
use Rattle.base_lists.specs.Kit.{◌∙◌, sym, refl, ap₂, List, [], ℕ, length, get_or, arith}
use Rattle.base_lists.proofs.Tables.{length-tabulate, get_d_tabulate, is-tabulate}
use Rattle.file_format.specs.Label.{label, kind_in, package_in, labels, kinds_in, packages_in}

-- kind and package are those that the label was made from
pub label-kind : (kind pack : ℕ) → kind < 65536 → kind_in (label kind pack) ≡ kind
unfolding kind_in label
label-kind kind pack h = omega arith

pub label-package : (kind pack : ℕ) → kind < 65536 → package_in (label kind pack) ≡ pack
unfolding package_in label
label-package kind pack h = omega arith

-- a label is made from its kind and its package
pub label-parts : (l : ℕ) → label (kind_in l) (package_in l) ≡ l
unfolding label kind_in package_in
label-parts l = omega arith

-- a label of package 0 is its kind
plain_label : (l : ℕ) → package_in l ≡ 0 → l ≡ kind_in l
unfolding kind_in package_in
plain_label l e = omega arith

pub same-label : (a b : ℕ) → kind_in a ≡ kind_in b → package_in a ≡ package_in b → a ≡ b
same-label a b k p = sym (label-parts a) ∙ ap₂ label k p ∙ label-parts b

-- a kind of 16 bits is the label of a node of package 0
pub plain-kind : (l : ℕ) → l < 65536 → kind_in l ≡ l
unfolding kind_in
plain-kind l h = omega arith

pub plain-package : (l : ℕ) → l < 65536 → package_in l ≡ 0
unfolding package_in
plain-package l h = omega arith

-- without packages the labels are the kinds
pub labels-kinds : (kinds : List ℕ) → labels kinds [] ≡ kinds
unfolding labels label
labels-kinds kinds = sym (is-tabulate (length kinds) _ kinds refl (λ v h. omega arith))

-- ---- labels taken apart, and put together again

pub length-kinds-in : (ls : List ℕ) → length (kinds_in ls) ≡ length ls
unfolding kinds_in
length-kinds-in ls = length-tabulate (length ls) _

pub length-packages-in : (ls : List ℕ) → length (packages_in ls) ≡ length ls
unfolding packages_in
length-packages-in ls = length-tabulate (length ls) _

module _ (ls : List ℕ) where
  kind_at : (v : ℕ) → v < length ls → get_or (kinds_in ls) v 0 ≡ kind_in (get_or ls v 0)
  unfolding kinds_in
  kind_at v h = get_d_tabulate (length ls) _ v 0 h

  package-at : (v : ℕ) → v < length ls → get_or (packages_in ls) v 0 ≡ package_in (get_or ls v 0)
  unfolding packages_in
  package-at v h = get_d_tabulate (length ls) _ v 0 h

  pub labels-again : labels (kinds_in ls) (packages_in ls) ≡ ls
  unfolding labels
  labels-again =
      sym
      (is-tabulate _ _ ls (sym (length-kinds-in ls))
      (λ v h.
      let below : v < length ls = omega (arith, length-kinds-in ls) in
      sym (label-parts (get_or ls v 0)) ∙ ap₂ label (sym (kind_at v below)) (sym (package-at v below))))

  -- labels of package 0 are their kinds
  pub kinds-again : ((v : ℕ) → v < length ls → package_in (get_or ls v 0) ≡ 0) → kinds_in ls ≡ ls
  unfolding kinds_in
  kinds-again none = sym (is-tabulate (length ls) _ ls refl (λ v h. plain_label (get_or ls v 0) (none v h)))
