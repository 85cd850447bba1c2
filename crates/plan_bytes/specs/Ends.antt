-- Where a line ends in what is left of a part, and whether it is taken there.
use Rattle.std.specs.Prelude.{ℕ, suc, ◌-◌, Bool, cond, not, ◌&&◌, List, [], ◌∷◌, eqb, leb, ltb}
use Rattle.plan_feeding.specs.declared.PlanProgress.{PlanProgress}

-- how many bytes stand before the first LF, all where there is none
unfoldable pub line_end : List ℕ → ℕ
line_end [] = 0
line_end (b ∷ bs) = cond (eqb b 10) 0 (suc (line_end bs))

-- the plan goes on, the line may be read, an LF stands at `end` of the bytes that are left, and there is room for those before it
unfoldable pub ends_line : PlanProgress → ℕ → ℕ → Bool
ends_line p end left = not p.refused && leb p.number 1000000 && ltb end left && leb end (256 - p.used)
