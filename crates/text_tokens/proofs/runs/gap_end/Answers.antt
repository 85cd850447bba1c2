use mathlib.Core.Path.{◌≡◌, sym, ◌∙◌}
use native.Mathlib.Omega.{arith}
use native.Mathlib.Decide.{dec_le}
use lib.ListN.{length}
use Rattle.text_tokens.proofs.Steps.{gap_start, gap_over, gap_plain, gap_comment, gap_token}
use Rattle.text_tokens.proofs.runs.gap_end.Goals as goal
use Rattle.text_tokens.proofs.runs.gap_end.Goals.{in-Plain, in-Comment}

pub loop-at-init : goal.loop-at-init
loop-at-init c = gap_start _ _

pub returns-in-Token : goal.returns-in-Token
returns-in-Token c = sym (c.loop-at.invariant ∙ gap_token _ _ _ c.loop-at-test.true (sym c.gap_step.ensures ∙ c.in-Token.is))

pub loop-at-preserved : goal.loop-at-preserved
loop-at-preserved c = elim c.match-gap_step.branch [
  | in-Plain w ↦ rw w.comment-is (c.loop-at.invariant ∙ gap_plain _ _ _ c.loop-at-test.true (sym c.gap_step.ensures ∙ w.in-Plain.is))
  | in-Comment w ↦ rw w.comment-is (c.loop-at.invariant ∙ gap_comment _ _ _ c.loop-at-test.true (sym c.gap_step.ensures ∙ w.in-Comment.is))
]

pub returns : goal.returns
returns c = elim (dec_le c.args.from (length c.args.text.now)) [
  | yes k ↦ let e : c.max.result ≡ c.loop-at.at = omega (arith, c.max.ensures) in rw e (sym (c.loop-at.invariant ∙ gap_over _ _ _ c.loop-at-test.false))
  | no k ↦ let e : c.max.result ≡ c.args.from = omega (arith, c.max.ensures) in rw e (sym (gap_start _ _ ∙ gap_over _ _ _ (omega arith)))
]
