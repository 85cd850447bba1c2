use native.Mathlib.Omega.{arith}
use Rattle.domain_forms.proofs.Folding.{form_stored}
use Rattle.domain_forms.proofs.forms.put_form.Goals as goal

pub returns : goal.returns
returns c = (form_stored c.args.rows.now _ _ _ _ c.args.code.now _ _ c.cell.ensures.0 c.first-first.ensures.0 c.entry.ensures.0 c.folded_at.ensures.0 c.put_shares-end.ensures.0 c.put.ensures c.put_word.ensures, omega arith)
