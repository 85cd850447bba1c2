use Prim.Native.Nat.{◌/◌}
use native.Mathlib.Omega.{arith}
use Rattle.check_wording.specs.Wording.{decimal}
use Rattle.check_wording.proofs.Puts.{behind}
use Rattle.check_wording.proofs.Digits.{decimal_few, decimal_more}
use Rattle.check_wording.proofs.+put_number.Goals as goal

pub returns-then-n-lt10 : goal.returns-then-n-lt10
returns-then-n-lt10 t c = let e = decimal_few _ c.if-n-lt10.true in rw e c.put_digit.ensures

pub returns : goal.returns
returns t c = let e = decimal_more _ c.if-n-lt10.false (omega arith) in rw e (behind _ _ (decimal (c.args.n / 10)) _ c.put_number-end.ensures c.put_digit-2.ensures)
