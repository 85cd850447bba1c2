use Rattle.domain_preparing.proofs.Acting.{words_stored}
use Rattle.domain_preparing.proofs.actions.put_places.Goals as goal

pub returns : goal.returns
returns c = words_stored c.args.rows.now _ _ _ _ _ _ _ c.put_word.ensures c.put_word-2.ensures c.put_word-3.ensures c.put_word-4.ensures c.put_word-5.ensures c.put_word-6.ensures
