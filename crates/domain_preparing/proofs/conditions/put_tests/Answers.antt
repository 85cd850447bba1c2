use native.Mathlib.Omega.{arith}
use Rattle.domain_preparing.proofs.Testing.{tests_stored}
use Rattle.domain_preparing.proofs.conditions.put_tests.Goals as goal

pub returns : goal.returns
returns c = (tests_stored _ _ _ _ c.args.rows.now _ c.put_parts-u.ensures.0 c.put.ensures, omega arith)
