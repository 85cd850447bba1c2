use Rattle.text_tokens.proofs.Figures.{Summed}
use Rattle.text_tokens.proofs.numbers.digits_at.Given as goal

abbrev pub invariant-loop-end : goal.invariant-loop-end
invariant-loop-end l = Summed l.w l.from l.most l.value l.end
