use native.Mathlib.Omega.{arith}
use Rattle.domain_forms.proofs.Numerals.{literal_stored}
use Rattle.domain_forms.proofs.numbers.put_literal.Goals as goal

pub returns : goal.returns
returns c = (literal_stored c.args.rows.now _ _ _ c.size_of-k.ensures.0 c.put.ensures c.put_bytes.ensures, omega arith)
