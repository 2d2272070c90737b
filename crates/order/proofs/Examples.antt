-- Which comparison decides, by computation. Assumes nothing.
use Rattle.std.specs.Prelude.{◌≡◌}
use Rattle.base_lists.specs.Kit.{refl}
use Rattle.std.specs.declared.cmp.Ordering.TheVariants.{Less}
use Rattle.order.specs.Order.{compare_whole}
use Rattle.order.specs.Examples.{order_computed, linked_both, three_nodes, linked_once, other_package, opposite_way, high_byte}

-- "by N": ahead of M and of the kinds, by which it would be greater
pub nodes-decide : compare_whole linked_both three_nodes ≡ Less
unfolding order_computed linked_both three_nodes
nodes-decide = refl

-- "then M": ahead of the kinds
pub links-decide : compare_whole linked_once linked_both ≡ Less
unfolding order_computed linked_once linked_both
links-decide = refl

-- "kinds, packages, starts, ends": the package ahead of the link
pub packages-decide : compare_whole opposite_way other_package ≡ Less
unfolding order_computed opposite_way other_package
packages-decide = refl

-- the start ahead of the end
pub starts-decide : compare_whole linked_once opposite_way ≡ Less
unfolding order_computed linked_once opposite_way
starts-decide = refl

-- "each by size of number": not by its low byte
pub size-decides : compare_whole linked_once high_byte ≡ Less
unfolding order_computed linked_once high_byte
size-decides = refl
