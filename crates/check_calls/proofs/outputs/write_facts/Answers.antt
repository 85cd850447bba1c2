use Prim.Native.Nat.{zero-le}
use mathlib.Core.List.{map}
use mathlib.Core.Path.{◌≡◌, refl}
use native.Mathlib.Omega.{arith}
use lib.ListN.{length, take}
use Rattle.check_meaning.specs.Answer.{bit}
use Rattle.check_calls.proofs.Written.{written_more, written_length}
use Rattle.check_calls.proofs.outputs.write_facts.Goals as goal

pub loop-i-init : goal.loop-i-init
loop-i-init c = (zero-le, refl)

pub bounds-out-i : goal.bounds-out-i
bounds-out-i c = let e : length c.loop-i.out ≡ length c.args.out.now = written_length c.args.out.now c.loop-i.out (map bit (take c.loop-i.i c.args.facts.now)) c.loop-i.invariant.1 in omega arith

pub loop-i-preserved : goal.loop-i-preserved
loop-i-preserved c = (omega arith, rw (c.loop-i.invariant.1, c.bit_of.ensures) (written_more bit c.args.out.now c.args.facts.now c.loop-i.i 0 (omega arith)))

pub shape_of-out : goal.shape_of-out
shape_of-out c = written_length c.args.out.now c.loop-i.out (map bit (take c.loop-i.i c.args.facts.now)) c.loop-i.invariant.1

pub returns : goal.returns
returns c = let e : c.loop-i.i ≡ c.args.n = omega arith in rw (← e) c.loop-i.invariant.1
