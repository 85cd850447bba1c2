-- The calls of the crate `check_calls`, as their contracts give them: each function's `ensures` says that it gives what stands here by its name.
use Rattle.std.specs.Prelude.{cond}
use Rattle.std.proofs.Math.Option.{Option, some, none}
use Rattle.plan_meaning.specs.Lines.{Refused}
use Rattle.domain_load.specs.Load.{fixed_of}
use Rattle.domain_load.specs.declared.LoadAnswer.TheVariants as Is
use Rattle.plan_feeding.specs.declared.PlanProgress.{PlanProgress}
use Rattle.check_calls.specs.declared.Check.{Check}
use Rattle.check_calls.specs.Calls.{well_formed, open_of, line_of, feed_of, finish_of, result_of, facts_of, numbers_of, check_for}
use Rattle.check_demand_laws.specs.Calling.{Calls}

abbrev pub refusal_in : PlanProgress → Option Refused
refusal_in p = cond p.refused (some (record { number = p.refusal; line = p.at; column = p.column })) none

abbrev pub ours : Calls Check
ours =
    record {
      load = λ domain problem. ((open_of domain problem).check, (open_of domain problem).answer);
      line = line_of;
      feed = λ c part. ((feed_of c part).check, (feed_of c part).answer);
      finish = λ c. ((finish_of c).check, (finish_of c).answer);
      result = λ c out. (((result_of c out).0.check, (result_of c out).0.answer), (result_of c out).1);
      facts = λ c out. (((facts_of c out).0.check, (facts_of c out).0.answer), (facts_of c out).1);
      numbers = λ c out. (((numbers_of c out).0.check, (numbers_of c out).0.answer), (numbers_of c out).1);
      formed = well_formed;
      fixed = check_for (fixed_of Is.Loaded) 0;
      finished = λ c. c.finished;
      standing = λ c. refusal_in c.progress;
      sizes = λ c. (c.model.sizes.facts, c.model.sizes.numbers);
    }
