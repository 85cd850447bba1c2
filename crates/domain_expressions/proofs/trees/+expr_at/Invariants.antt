use Prim.Native.Nat.{◌-◌}
use lib.ListN.{length}
use Rattle.domain_expressions.proofs.trees.+expr_at.Given as goal

-- the measure: the remaining bytes
abbrev pub decreases-expr_at : goal.decreases-expr_at
decreases-expr_at l = length l.text.now - l.from
