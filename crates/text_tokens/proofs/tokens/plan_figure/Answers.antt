use mathlib.Core.Path.{sym, ◌∙◌}
use Prim.Native.Nat.{◌<◌, ◌^◌}
use native.Mathlib.Omega.{arith}
use mir.Syntax.{w64}
use mir.ValLaws.{to_z_pos}
use Rattle.text_tokens.proofs.Figures.{figure_small}
use Rattle.text_tokens.proofs.Starts.{plan_malformed, plan_number_lem}
use Rattle.text_tokens.proofs.tokens.plan_figure.Goals as goal

pub returns-in_default : goal.returns-in_default
returns-in_default c = plan_malformed c.args.line.now c.args.p c.requires.0 c.requires.1 _ _ (sym c.in_default.is ∙ c.figure_at-f.ensures) c.run_end.ensures c.judged.ensures

pub overflow_cast-z : goal.overflow_cast-z
overflow_cast-z c = let small : c.in-Some.m < 1000000000000 = figure_small c.args.line.now 58 c.args.p (omega arith) c.figure_at-f.result c.figure_at-f.ensures c.in-Some.m c.in-Some.e c.in-Some.is in record { sfits = let b : c.in-Some.m < 2 ^ 63 = omega arith in b }

pub returns : goal.returns
returns c = let small : c.in-Some.m < 1000000000000 = figure_small c.args.line.now 58 c.args.p (omega arith) c.figure_at-f.result c.figure_at-f.ensures c.in-Some.m c.in-Some.e c.in-Some.is in plan_number_lem c.args.line.now c.args.p c.requires.0 c.requires.1 _ _ _ _ (sym c.in-Some.is ∙ c.figure_at-f.ensures) (to_z_pos w64 c.in-Some.m (omega arith)) c.judged-2.ensures
