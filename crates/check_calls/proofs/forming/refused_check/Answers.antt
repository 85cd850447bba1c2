use Rattle.domain_meaning.specs.First.{no_facts, no_numbers}
use Rattle.plan_feeding.specs.Feeding.{refused_in}
use Rattle.check_calls.specs.Calls.{refused_from}
use Rattle.check_calls.proofs.Padding.{zeros_padded}
use Rattle.check_calls.proofs.forming.refused_check.Goals as goal

pub returns : goal.returns
unfolding no_facts no_numbers
returns c = λ i.
    record {
      model = c.args.model;
      facts = no_facts;
      numbers = no_numbers;
      queue = c.nobody.ensures i;
      line = zeros_padded 257 i;
      progress = (refused_from c.args.model (refused_in c.args.p) c.args.finished).progress;
      finished = c.args.finished;
    }
