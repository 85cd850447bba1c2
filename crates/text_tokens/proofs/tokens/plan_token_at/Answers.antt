use mathlib.Core.Path.{sym, ap, ◌∙◌}
use Prim.Native.Nat.{◌+◌}
use native.Mathlib.Omega.{arith}
use Rattle.text_words.specs.Bytes.{is_digit, is_letter}
use Rattle.text_tokens.proofs.Starts.{named_least, plan_name}
use Rattle.text_tokens.proofs.Ways.{plan_end, plan_colon, plan_bad, plan_bracket, plan_digit, plan_letter, plan_odd}
use Rattle.text_tokens.proofs.tokens.plan_token_at.Goals as goal
use Rattle.text_tokens.proofs.tokens.plan_token_at.Goals.{in-Letter+else-is_over, in-White}

pub returns-then-line-p : goal.returns-then-line-p
returns-then-line-p c = plan_end _ _ _ c.gap_end-p.ensures _ c.if-line-p.true c.judged.ensures

pub returns-then-b-eq58 : goal.returns-then-b-eq58
returns-then-b-eq58 c = plan_colon _ _ _ c.gap_end-p.ensures _ c.if-line-p.false c.if-b-eq58.true c.judged-then-b-eq58.ensures

pub plan_figure-requires : goal.plan_figure-requires
plan_figure-requires c = (c.if-line-p.false, ap is_digit (sym c.kind_of.ensures ∙ c.in-Digit.is))

pub returns-in-Digit : goal.returns-in-Digit
returns-in-Digit c = plan_digit _ _ _ c.gap_end-p.ensures _ c.if-line-p.false c.if-b-eq58.false (sym c.kind_of.ensures ∙ c.in-Digit.is) c.plan_figure.ensures

pub overflow_sub-e : goal.overflow_sub-e
overflow_sub-e c = omega (arith, c.name_end-e.ensures, named_least c.args.line.now (c.gap_end-p.result + 1))

pub returns-then-is_over : goal.returns-then-is_over
returns-then-is_over c = plan_letter _ _ _ c.gap_end-p.ensures _ c.if-line-p.false c.if-b-eq58.false (sym c.kind_of.ensures ∙ c.in-Letter.is) (plan_name _ _ _ c.if-line-p.false (ap is_letter (sym c.kind_of.ensures ∙ c.in-Letter.is)) c.name_end-e.ensures (sym c.is_over.ensures ∙ c.if-is_over.true) _ _ c.sized.ensures c.judged-then-is_over.ensures)

pub returns-in-Refused : goal.returns-in-Refused
returns-in-Refused c = plan_bad _ _ _ c.gap_end-p.ensures _ c.if-line-p.false c.if-b-eq58.false (sym c.kind_of.ensures ∙ c.in-Refused.is) c.judged-in-Refused.ensures

pub returns-in-Bracket : goal.returns-in-Bracket
returns-in-Bracket c = plan_bracket _ _ _ c.gap_end-p.ensures _ c.if-line-p.false c.if-b-eq58.false _ (sym c.kind_of.ensures ∙ c.in-Bracket.is) c.plan_bracket.ensures c.judged-in-Bracket.ensures

pub returns : goal.returns
returns c = elim c.match-kind_of.branch [
  | in-Letter+else-is_over w ↦ plan_letter _ _ _ c.gap_end-p.ensures _ c.if-line-p.false c.if-b-eq58.false (sym c.kind_of.ensures ∙ w.in-Letter.is) c.plan_run.ensures
  | in-White w ↦ plan_odd _ _ _ c.gap_end-p.ensures _ c.if-line-p.false c.if-b-eq58.false (rw c.kind_of.ensures at w.in-White.in-White-own.keys5) c.plan_run.ensures
]
