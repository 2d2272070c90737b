-- What the editions have to do with each other: a first-edition file "counts as having all packages 0", so that its labels are its kinds.
-- Assumes nothing.
use Rattle.std.specs.Prelude.{◌≡◌, ◌<◌, ◌+◌, ◌*◌}
use Rattle.base_lists.specs.Kit.{◌∙◌, ap, refl, subst, List, [], ℕ, length, get_or, drop, get_or-drop, arith}
use Rattle.base_lists.specs.List.{Below, tabulate}
use Rattle.base_lists.proofs.Tables.{tabulate-same}
use Rattle.file_format.specs.Label.{label, labels}
use Rattle.file_format.specs.Layout.{CircuitFile, first_edition, fields, length_of, nodes_of, kinds_of, packages_of, labels_of}
use Rattle.file_format.specs.declared.Edition.TheVariants.{First}
use Rattle.file_format.proofs.Fields.{length_fields, get_or-fields, field-low}
use Rattle.file_format.proofs.Labels.{labels-kinds}

-- ---- the first edition

pub first-packages : (bytes : List ℕ) → packages_of (first_edition bytes) ≡ []
unfolding packages_of fields tabulate
first-packages bytes = refl

pub first-labels : (bytes : List ℕ) → labels_of (first_edition bytes) ≡ kinds_of (first_edition bytes)
unfolding labels_of
first-labels bytes = ap (labels (kinds_of (first_edition bytes))) (first-packages bytes) ∙ labels-kinds (kinds_of (first_edition bytes))

-- "The length is 4 + 2N + 4M bytes"; of the second edition "its length is 4 + 4N + 4M"
pub first-length : (n m : ℕ) → length_of First n m ≡ 4 + 2 * n + 4 * m
first-length n m = omega arith

-- ---- fields of bytes are of 16 bits

drop-low : (k : ℕ) (s : List ℕ) → ((i : ℕ) → get_or s i 0 < 256) → (i : ℕ) → get_or (drop k s) i 0 < 256
drop-low k s low i = rw get_or-drop (low _)

pub kinds-low : (file : CircuitFile) → ((i : ℕ) → get_or file.bytes i 0 < 256) → Below 65536 (kinds_of file)
unfolding Below kinds_of
kinds-low file low i h =
    rw (get_or-fields _ (nodes_of file) i (subst (λ (k : ℕ). i < k) (length_fields _ (nodes_of file)) h))
    (field-low (drop 4 file.bytes) (drop-low 4 file.bytes low) (2 * i))

-- so the labels of a first-edition file are
pub first-labels-low : (bytes : List ℕ) → ((i : ℕ) → get_or bytes i 0 < 256) → Below 65536 (labels_of (first_edition bytes))
first-labels-low bytes low = rw (first-labels bytes) (kinds-low (first_edition bytes) low)

-- ---- labels depend on the packages that nodes have, and not on where a list of packages ends

pub labels-same : (kinds ps qs : List ℕ) → ((v : ℕ) → v < length kinds → get_or ps v 0 ≡ get_or qs v 0) → labels kinds ps ≡ labels kinds qs
unfolding labels
labels-same kinds ps qs same = tabulate-same (length kinds) _ _ (λ v h. ap (label (get_or kinds v 0)) (same v h))
