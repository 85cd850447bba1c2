use mathlib.Core.Path.{ap, ◌∙◌}
use Prim.Native.Nat.{◌-◌}
use native.Mathlib.Omega.{arith}
use lib.ListN.{length, length-set}
use lib.Seq.{length-sets}
use Rattle.domain_rows.proofs.Rows.{rows_long, row_entered}
use Rattle.domain_rows.proofs.enter.Goals as goal

pub overflow_mul-at : goal.overflow_mul-at
overflow_mul-at c = omega (arith, rows_long _ _ _ c.requires.0.0 c.requires.0.1, c.requires.1)

pub bounds-rows-at : goal.bounds-rows-at
bounds-rows-at c = omega (arith, rows_long _ _ _ c.requires.0.0 c.requires.0.1, c.requires.1)

pub overflow_add-at : goal.overflow_add-at
overflow_add-at c = omega (arith, rows_long _ _ _ c.requires.0.0 c.requires.0.1, c.requires.1)

pub copy-requires : goal.copy-requires
copy-requires c = simp length-set (omega (arith, rows_long _ _ _ c.requires.0.0 c.requires.0.1, c.requires.1, c.requires.3))

pub overflow_add-at-2 : goal.overflow_add-at-2
overflow_add-at-2 c = omega (arith, rows_long _ _ _ c.requires.0.0 c.requires.0.1, c.requires.1)

pub copy-requires-2 : goal.copy-requires-2
copy-requires-2 c = rw c.copy.ensures (simp (length-sets, length-set) (omega (arith, rows_long _ _ _ c.requires.0.0 c.requires.0.1, c.requires.1, c.requires.2)))

pub shape_of-rows : goal.shape_of-rows
shape_of-rows c = ap length c.copy-2.ensures ∙ simp (length-sets) (ap length c.copy.ensures ∙ simp (length-sets, length-set))

pub returns : goal.returns
returns c = λ t h. rw (c.copy-2.ensures, c.copy.ensures) (row_entered _ _ _ t _ _ h c.requires.1 c.requires.2 c.requires.3)
