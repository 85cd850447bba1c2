use Rattle.domain_forms.proofs.Folding.{word_stored}
use Rattle.domain_forms.proofs.forms.put_word.Goals as goal

pub returns : goal.returns
returns c = word_stored c.args.rows.now _ _ c.put.ensures c.put-2.ensures
