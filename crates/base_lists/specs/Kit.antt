-- The names of the kit that most files say, handed on from one place, so that a file has one line for them: paths, truth values, lists and
-- numbers with their laws, and the words that goals are searched by (`arith`, `rules`).
unfoldable pub use Rattle.std.proofs.Math.Path.{◌≡◌, ◌∙◌, sym, ap, refl, subst, ap₂}
pub use Rattle.std.proofs.Common.{subst₂, ⊎_elim, inl, inr, zero-le, suc-le-suc, not-suc-le-zero, le_refl, le_of_suc-le-suc, zero-lt-suc, le_trans, le_of_eq, eq-or-lt_of_le, add-zero, zero-add, lt_of_lt_of_le, le_antisymm, add-suc, lt_of_le_of_lt, lt_of_not-le, div-add-mod', pow-suc, add-sub_of_le, mod-lt, not-le_of_lt, suc-add, div-lt_iff_lt-mul, mod-eq_of_lt, mul-le-mul, le-add_left, le-div_iff_mul-le, suc-mul, suc-ne-zero, add_assoc, div-mul-le_self, div-one, le-add_right, le_of_lt, mul-div_cancel, mul-le-mul_right, ne_of_gt, ne_of_lt, one-mul, zero-mul, add-one, one-add, eqb→eq, ltb→lt, lit≤, lt→ltb, le→leb, leb→le, lit<, T_not, length-set, length-append, length-drop, drop_of_length-le, length-take, take-append-drop, length-take-le, take_at, get_or-set_other, take_all, drop_at, drop-cons, get_or-set_same, get_or-take, get_or-drop, take-suc, ext_get_or, take-suc-set, get_or-append-add, drop-drop, take-take, drop-set-lt, set-set, take-add, arith, rules, eq-eqb, ne_eqb, le-ltb, lt-ltb, eqb-true, ltb-false, ltb-true, le-leb, leb-true, leb-false}
pub use Rattle.std.proofs.Math.Path.{fun_ext}
unfoldable pub use Rattle.std.proofs.Math.Logic.{◌↔◌, ◌≢◌}
pub use Rattle.std.specs.Prelude.{◌⊎◌, Bool, false, true, ℕ, ◌≤◌, ◌+◌, ◌-◌, suc, zero, ◌*◌, ◌^◌, ◌/◌, ◌%◌, max, min}
pub use Rattle.std.proofs.Math.Logic.{⊎_swap, ⊎_map}
pub use Rattle.std.proofs.Math.Logic.Iff.{rfl as iff_rfl, trans as iff_trans, symm as iff_symm}
unfoldable pub use Rattle.std.proofs.Math.Bool.{cond, ◌&&◌, not, ◌||◌}
pub use Rattle.std.proofs.Math.Bool.{and-true, or-false, and-false, not-not, or_assoc, and_assoc, and_self, or-true}
unfoldable pub use mathlib.Core.List.{◌++◌, map}
pub use mathlib.Core.List.Memᴰ.{cases_cons as mem-cases_cons}
pub use mathlib.Core.List.Memᴰ.{head as mem-head}
pub use mathlib.Core.List.Memᴰ.{not-nil as mem-not_nil}
pub use mathlib.Core.List.Memᴰ.{tail as mem-tail}
pub use mathlib.Core.List.{List, [], ◌∷◌, append-nil, append_assoc, Memᴰ as MemOf, map-append}
unfoldable pub use Prim.Native.Nat.{◌<◌}
pub use Rattle.std.proofs.Math.Nat.{le_step, suc_inj, add-sub_cancel_left, div-eq_of_lt, eq-sub_of_add-eq, sub_self, sub-zero, le-max_left, le-suc_iff, min-le_right, min-zero, mod-le, mul-add-div_right, mul-add-mod_self_right, mul-mod_left, zero-div, zero-min}
unfoldable pub use Rattle.std.proofs.Math.Dec.{T, eqb, ltb, leb}
pub use Rattle.std.proofs.Math.Dec.{eqb_refl, not_T, eqb-suc-suc, eqb-suc-zero, eqb-zero-suc}
unfoldable pub use Rattle.std.proofs.Math.ListN.{length, get_or, take, drop, set, replicate}
pub use Rattle.std.proofs.Math.ListN.{get_or-eq_default, get_or-append, get_or-map}
pub use Rattle.std.proofs.lemmas.List.{length-replicate, get_or-replicate, length-map, take-append-le, take-set-le, drop-append-le, drop-set-add, set_at, set-get_or, get_or_at, set_split}
unfoldable pub use Rattle.std.proofs.Math.Seq.{sets}
pub use Rattle.std.proofs.Math.Seq.{drop-length, set_out, take-length, append_snoc, get_or-append_seam, length-sets, take-append-add, take-nil, take-set-lt}
pub use Rattle.std.proofs.lemmas.List.Edits.{sets-eq}
pub use Rattle.std.proofs.lemmas.Bool.{not-false, not-true, eqb-false, lt-leb}
