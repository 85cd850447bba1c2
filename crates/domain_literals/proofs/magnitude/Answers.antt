use mathlib.Core.Path.{refl, sym, ◌∙◌}
use Prim.Native.Nat.{◌-◌, ◌≤◌, ◌<◌}
use native.Mathlib.Nat.{lt_of_lt_of_le, lt_of_le_of_lt}
use lib.Dec.{lit≤, lit<}
use mir.Syntax.{w64}
use mir.ValLaws.{to_z-of_z}
use Rattle.domain_literals.proofs.Cells.{turned_mag, turned_positive, turned_abs, plain_positive, abs_most}
use Rattle.domain_literals.proofs.magnitude.Goals as goal

pub overflow_sub-result : goal.overflow_sub-result
overflow_sub-result c = rw (to_z-of_z w64 _ c.ranges.z) (record { sfits = lt_of_lt_of_le (turned_mag c.args.z 1099511627776 c.requires) (lit≤ tt) })

pub overflow_cast-result : goal.overflow_cast-result
overflow_cast-result c = rw (to_z-of_z w64 _ (overflow_sub-result c), to_z-of_z w64 c.args.z c.ranges.z) (turned_positive c.args.z (rw (to_z-of_z w64 c.args.z c.ranges.z) at (sym c.is_negative.ensures ∙ c.if-is_negative.true)), record { fits = rw (turned_abs c.args.z (rw (to_z-of_z w64 c.args.z c.ranges.z) at (sym c.is_negative.ensures ∙ c.if-is_negative.true))) (lt_of_le_of_lt (abs_most c.args.z 1099511627776 c.requires) (lit< tt)) })

pub returns-then-is_negative : goal.returns-then-is_negative
returns-then-is_negative c = (rw (to_z-of_z w64 _ (overflow_sub-result c), to_z-of_z w64 c.args.z c.ranges.z) (turned_abs c.args.z (rw (to_z-of_z w64 c.args.z c.ranges.z) at (sym c.is_negative.ensures ∙ c.if-is_negative.true))), rw (to_z-of_z w64 _ (overflow_sub-result c), to_z-of_z w64 c.args.z c.ranges.z, turned_abs c.args.z (rw (to_z-of_z w64 c.args.z c.ranges.z) at (sym c.is_negative.ensures ∙ c.if-is_negative.true))) (abs_most c.args.z 1099511627776 c.requires))

pub overflow_cast-result-2 : goal.overflow_cast-result-2
overflow_cast-result-2 c = rw (to_z-of_z w64 c.args.z c.ranges.z) (plain_positive c.args.z (rw (to_z-of_z w64 c.args.z c.ranges.z) at (sym c.is_negative.ensures ∙ c.if-is_negative.false)), record { fits = lt_of_le_of_lt (abs_most c.args.z 1099511627776 c.requires) (lit< tt) })

pub returns : goal.returns
returns c = rw (to_z-of_z w64 _ c.ranges.z) (refl, abs_most c.args.z 1099511627776 c.requires)
