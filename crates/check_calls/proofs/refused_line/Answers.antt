use Rattle.text_words.specs.Bytes.{bytes}
use Rattle.check_calls.proofs.Refusals.{line_loaded, line_domain, line_problem}
use Rattle.check_calls.proofs.refused_line.Goals as goal

pub returns-in-Loaded : goal.returns-in-Loaded
returns-in-Loaded c = line_loaded _ _ c.in-Loaded.is

pub returns-in-Domain : goal.returns-in-Domain
unfolding bytes
returns-in-Domain c = line_domain c.args.answer c.args.line.now _ _ _ c.in-Domain.is c.write_refusal.ensures

pub returns-in-Problem : goal.returns-in-Problem
unfolding bytes
returns-in-Problem c = line_problem c.args.answer c.args.line.now _ _ _ c.in-Problem.is c.write_refusal-in-Problem.ensures
