use mathlib.Core.Path.{◌≡◌, ap, ◌∙◌}
use Prim.Native.Nat.{◌+◌, ◌-◌, ◌/◌}
use native.Mathlib.Omega.{arith}
use lib.IntN.{nat_abs}
use lib.ListN.{length}
use lib.Seq.{length-sets}
use mir.Syntax.{w64}
use mir.ValLaws.{to_z-of_z}
use Rattle.domain_literals.specs.Literal.{sign_base, size_of, number_cells}
use Rattle.domain_literals.proofs.Cells.{literal_length, cells_whole, cells_fine}
use Rattle.domain_literals.proofs.put_number.Goals as goal

pub put_literal-requires : goal.put_literal-requires
put_literal-requires c = let q = ap length (cells_whole c.args.z (rw (rw (to_z-of_z w64 c.args.z c.ranges.z) at c.magnitude-m.ensures.0) at c.if-m-eq0.true)) ∙ literal_length (sign_base c.args.z + 16) (nat_abs c.args.z / 1000) in (omega (arith, c.sign_base-base.ensures.1), rw (rw (to_z-of_z w64 c.args.z c.ranges.z) at c.magnitude-m.ensures.0) (omega (arith, c.requires.1, q)))

pub shape_of-code-then-m-eq0 : goal.shape_of-code-then-m-eq0
shape_of-code-then-m-eq0 c = ap length c.put_literal.ensures.0 ∙ simp length-sets

pub returns-then-m-eq0 : goal.returns-then-m-eq0
returns-then-m-eq0 c = let q = ap length (cells_whole c.args.z (rw (rw (to_z-of_z w64 c.args.z c.ranges.z) at c.magnitude-m.ensures.0) at c.if-m-eq0.true)) ∙ literal_length (sign_base c.args.z + 16) (nat_abs c.args.z / 1000) in (c.put_literal.ensures.0 ∙ rw ((rw (to_z-of_z w64 c.args.z c.ranges.z) at c.sign_base-base.ensures.0), (rw (to_z-of_z w64 c.args.z c.ranges.z) at c.magnitude-m.ensures.0), (cells_whole c.args.z (rw (rw (to_z-of_z w64 c.args.z c.ranges.z) at c.magnitude-m.ensures.0) at c.if-m-eq0.true))), rw (rw (to_z-of_z w64 c.args.z c.ranges.z) at c.magnitude-m.ensures.0) at c.put_literal.ensures.1 ∙ (let e : c.args.at + 1 + size_of (nat_abs c.args.z / 1000) ≡ c.args.at + length (number_cells c.args.z) = omega (arith, q) in e))

pub put_literal-requires-2 : goal.put_literal-requires-2
put_literal-requires-2 c = let q = ap length (cells_fine c.args.z (rw (rw (to_z-of_z w64 c.args.z c.ranges.z) at c.magnitude-m.ensures.0) at c.if-m-eq0.false)) ∙ literal_length (sign_base c.args.z) (nat_abs c.args.z) in (omega (arith, c.sign_base-base.ensures.1), rw (rw (to_z-of_z w64 c.args.z c.ranges.z) at c.magnitude-m.ensures.0) (omega (arith, c.requires.1, q)))

pub shape_of-code : goal.shape_of-code
shape_of-code c = ap length c.put_literal-2.ensures.0 ∙ simp length-sets

pub returns : goal.returns
returns c = let q = ap length (cells_fine c.args.z (rw (rw (to_z-of_z w64 c.args.z c.ranges.z) at c.magnitude-m.ensures.0) at c.if-m-eq0.false)) ∙ literal_length (sign_base c.args.z) (nat_abs c.args.z) in (c.put_literal-2.ensures.0 ∙ rw ((rw (to_z-of_z w64 c.args.z c.ranges.z) at c.sign_base-base.ensures.0), (rw (to_z-of_z w64 c.args.z c.ranges.z) at c.magnitude-m.ensures.0), (cells_fine c.args.z (rw (rw (to_z-of_z w64 c.args.z c.ranges.z) at c.magnitude-m.ensures.0) at c.if-m-eq0.false))), rw (rw (to_z-of_z w64 c.args.z c.ranges.z) at c.magnitude-m.ensures.0) at c.put_literal-2.ensures.1 ∙ (let e : c.args.at + 1 + size_of (nat_abs c.args.z) ≡ c.args.at + length (number_cells c.args.z) = omega (arith, q) in e))
