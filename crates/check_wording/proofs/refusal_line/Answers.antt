use Rattle.text_words.specs.Bytes.{bytes}
use Rattle.check_wording.proofs.Whole.{refusal_put}
use Rattle.check_wording.proofs.refusal_line.Goals as goal

pub returns : goal.returns
unfolding bytes
returns c = refusal_put _ _ _ _ _ c.put_word-named.ensures c.put_word-number.ensures c.put_spaced-end.ensures c.put_end.ensures
