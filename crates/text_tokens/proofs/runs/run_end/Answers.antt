use mathlib.Core.Path.{◌≡◌, sym, ◌∙◌}
use native.Mathlib.Omega.{arith}
use native.Mathlib.Decide.{dec_le}
use lib.ListN.{length}
use Rattle.text_tokens.proofs.Steps.{run_more, run_ends, run_over}
use Rattle.text_tokens.proofs.runs.run_end.Goals as goal

pub returns-then-not-in_run : goal.returns-then-not-in_run
returns-then-not-in_run c = sym (c.loop-at.invariant ∙ run_ends _ _ _ c.loop-at-test.true (sym c.in_run.ensures ∙ c.if-not-in_run.true))

pub loop-at-preserved : goal.loop-at-preserved
loop-at-preserved c = c.loop-at.invariant ∙ run_more _ _ _ c.loop-at-test.true (sym c.in_run.ensures ∙ c.if-not-in_run.false)

pub returns : goal.returns
returns c = elim (dec_le c.args.from (length c.args.text.now)) [
  | yes k ↦ let e : c.max.result ≡ c.loop-at.at = omega (arith, c.max.ensures) in rw e (sym (c.loop-at.invariant ∙ run_over _ _ _ c.loop-at-test.false))
  | no k ↦ let e : c.max.result ≡ c.args.from = omega (arith, c.max.ensures) in rw e (sym (run_over _ _ _ (omega arith)))
]
