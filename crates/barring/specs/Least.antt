-- The links that are left, computed: 02's procedure, on a byte for each link of the pattern, 1 for kept. proofs/ shows that the kept links
-- bar, and that no fewer of them do.
use Rattle.base_lists.specs.Kit.{Bool, cond, not, List, ℕ, suc, zero, length, set, replicate}
use Rattle.base_lists.specs.Below.{count_below}
use Rattle.graph.specs.Chosen.{chosen}
use Rattle.graph.specs.Circuit.{Circuit}
use Rattle.graph.specs.Search.{inside}
use Rattle.place.specs.Match.{found}

-- the chosen links bar in the ball around w at radius r: the centre does not occur in the last table of the pattern that has these links alone
unfoldable pub bars : Circuit → Circuit → ℕ → ℕ → List ℕ → Bool
bars pattern board w r marks = not (found (chosen pattern marks) board w r)

-- "go through them in file order and drop each one without which the rest still bars": k links from the i-th on, by any test of a choice
unfoldable pub drop_from : (List ℕ → Bool) → ℕ → ℕ → List ℕ → List ℕ
drop_from test i zero marks = marks
drop_from test i (suc k) marks = drop_from test (suc i) k (cond (test (set marks i 0)) (set marks i 0) marks)

-- "Start from all links"
abbrev pub all_links : ℕ → List ℕ
all_links m = replicate m 1

-- "The answer is a byte per link, 1 for kept"
unfoldable pub least : Circuit → Circuit → ℕ → ℕ → List ℕ
least pattern board w r = drop_from (bars pattern board w r) 0 (length pattern.starts) (all_links (length pattern.starts))

-- "how many are 1"
unfoldable pub kept_count : List ℕ → ℕ
kept_count marks = count_below (length marks) (inside marks)
