-- `graph_radius::radius` meets its contract: its tables have room for 32 nodes. Assumes nothing.
use Rattle.std.specs.Prelude.{◌≡◌, ◌≤◌}
use Rattle.base_lists.specs.Kit.{◌∙◌, sym, ap, refl, subst, ℕ, T, ltb, length, take, replicate, length-take-le, arith}
use Rattle.base_lists.specs.List.{all}
use Rattle.graph.specs.Search.{radius}
use Rattle.graph_radius.proofs.radius.Goals as goal

-- a table cut to n
cut : (n : ℕ) → n ≤ 32 → length {A = ℕ} (take n (replicate 32 0)) ≡ n
cut n h = length-take-le {A = ℕ} n (replicate 32 0) h

pub slice_bounds-measure-end : goal.slice_bounds-measure-end
slice_bounds-measure-end c = sym (cut _ c.requires.starts_len.1)

pub slice_bounds-measure-end-2 : goal.slice_bounds-measure-end-2
slice_bounds-measure-end-2 c = sym (cut _ c.requires.starts_len.1)

pub slice_bounds-measure-end-3 : goal.slice_bounds-measure-end-3
slice_bounds-measure-end-3 c = sym (cut _ c.requires.starts_len.1)

pub measure-requires : goal.measure-requires
measure-requires c =
    let size = cut c.args.n c.requires.starts_len.1 in record {
      starts_len = (c.requires.starts_len.0, omega (arith, size, c.requires.starts_len.1));
      t = (
        subst (λ (k : ℕ). T (all (λ v. ltb v k) c.args.starts.now)) (sym size) c.requires.t.0,
        subst (λ (k : ℕ). T (all (λ v. ltb v k) c.args.ends.now)) (sym size) c.requires.t.1,
      );
      len = (refl, refl);
    }

pub returns : goal.returns
returns c =
    c.measure.ensures ∙ ap (λ (k : ℕ). radius k c.args.starts.now c.args.ends.now) (cut c.args.n c.requires.starts_len.1)
