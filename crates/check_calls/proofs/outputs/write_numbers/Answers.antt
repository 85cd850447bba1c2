use Prim.Native.Nat.{zero-le}
use mathlib.Core.List.{map}
use mathlib.Core.Path.{◌≡◌, refl}
use native.Mathlib.Omega.{arith}
use mir.Syntax.{w64}
use mir.ValLaws.{to_z-of_z}
use lib.IntN.{pos}
use lib.ListN.{length, take, get_or}
use Rattle.check_meaning.specs.Answer.{shown}
use Rattle.check_calls.proofs.Shown.{number_written}
use Rattle.check_calls.proofs.Written.{written_length}
use Rattle.check_calls.proofs.outputs.write_numbers.Goals as goal

pub loop-i-init : goal.loop-i-init
loop-i-init c = (zero-le, refl)

pub bounds-out-i : goal.bounds-out-i
bounds-out-i c = let e : length c.loop-i.out ≡ length c.args.out.now = written_length c.args.out.now c.loop-i.out (map shown (take c.loop-i.i c.args.numbers.now)) c.loop-i.invariant.1 in omega arith

pub loop-i-preserved : goal.loop-i-preserved
loop-i-preserved c = (
  omega arith,
  number_written c.args.out.now c.args.numbers.now c.loop-i.out c.loop-i.i _ c.shown_of.result _ c.loop-i.invariant.1 (omega arith)
      (to_z-of_z w64 (get_or c.args.numbers.now c.loop-i.i (pos 0)) (record { sfits = c.shown_of-arg-1.given }))
      c.shown_of.ensures
      (to_z-of_z w64 c.shown_of.result (record { sfits = c.shown_of.type_inv })),
)

pub shape_of-out : goal.shape_of-out
shape_of-out c = written_length c.args.out.now c.loop-i.out (map shown (take c.loop-i.i c.args.numbers.now)) c.loop-i.invariant.1

pub returns : goal.returns
returns c = let e : c.loop-i.i ≡ c.args.n = omega arith in rw (← e) c.loop-i.invariant.1
