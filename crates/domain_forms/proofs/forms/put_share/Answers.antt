use native.Mathlib.Omega.{arith}
use Rattle.domain_forms.proofs.Folding.{share_object, share_parameter}
use Rattle.domain_forms.proofs.forms.put_share.Goals as goal

pub returns-then-x-lt64 : goal.returns-then-x-lt64
returns-then-x-lt64 c = (share_object _ _ _ _ c.if-x-lt64.true, omega arith)

pub returns : goal.returns
returns c = (share_parameter _ _ _ _ c.if-x-lt64.false c.put.ensures, omega arith)
