use mathlib.Core.Bool.{false}
use Rattle.check_calls.proofs.Padding.{zeros_padded}
use Rattle.check_calls.proofs.forming.check_for.Goals as goal

pub returns : goal.returns
returns c = λ i.
    record {
      model = c.args.loaded.model;
      facts = c.args.loaded.facts;
      numbers = c.args.loaded.numbers;
      queue = c.nobody.ensures i;
      line = zeros_padded 257 i;
      progress = c.begin.ensures i;
      finished = false;
    }
