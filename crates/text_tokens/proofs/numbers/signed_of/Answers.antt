use Prim.Native.Nat.{◌^◌, ◌<◌}
use native.Mathlib.Omega.{arith}
use mir.Syntax.{w64}
use mir.ValLaws.{to_z_pos, to_z-of_z}
use Rattle.text_tokens.proofs.Ways.{minus_mag, small_at}
use Rattle.text_tokens.proofs.numbers.signed_of.Goals as goal

pub returns-in_err-m : goal.returns-in_err-m
returns-in_err-m c = rw (c.from_residual.ensures, c.in_err-m.was)

pub overflow_cast-v : goal.overflow_cast-v
overflow_cast-v c = let small : c.in_ok-m.m < 1000000000000 = small_at _ c.in_ok-m.m c.in_ok-m.was c.requires in record { sfits = let b : c.in_ok-m.m < 2 ^ 63 = omega arith in b }

pub overflow_sub-result : goal.overflow_sub-result
overflow_sub-result c = let small : c.in_ok-m.m < 1000000000000 = small_at _ c.in_ok-m.m c.in_ok-m.was c.requires in rw (to_z_pos w64 c.in_ok-m.m (omega arith)) (record { sfits = minus_mag c.in_ok-m.m small })

pub returns-then-minus : goal.returns-then-minus
returns-then-minus c = let small : c.in_ok-m.m < 1000000000000 = small_at _ c.in_ok-m.m c.in_ok-m.was c.requires in rw (c.in_ok-m.was, c.if-minus.true, to_z-of_z w64 _ (overflow_sub-result c), to_z_pos w64 c.in_ok-m.m (omega arith))

pub returns : goal.returns
returns c = let small : c.in_ok-m.m < 1000000000000 = small_at _ c.in_ok-m.m c.in_ok-m.was c.requires in rw (c.in_ok-m.was, c.if-minus.false, to_z_pos w64 c.in_ok-m.m (omega arith))
