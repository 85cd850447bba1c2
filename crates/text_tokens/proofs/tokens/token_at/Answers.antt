use borrow.Enum.Refused.{opened}
use mathlib.Core.Path.{sym, ◌∙◌}
use Rattle.text_tokens.proofs.Ways.{token_past, token_end, token_bad, token_bracket, token_run}
use Rattle.text_tokens.proofs.tokens.token_at.Goals as goal

pub returns-then-is_past : goal.returns-then-is_past
returns-then-is_past c = token_past _ _ _ c.gap_end-p.ensures (sym c.is_past.ensures ∙ c.if-is_past.true)

pub returns-then-text-p : goal.returns-then-text-p
returns-then-text-p c = token_end _ _ _ c.gap_end-p.ensures (sym c.is_past.ensures ∙ c.if-is_past.false) c.if-text-p.true

pub returns-in-Refused : goal.returns-in-Refused
returns-in-Refused c = token_bad _ _ _ c.gap_end-p.ensures (sym c.is_past.ensures ∙ c.if-is_past.false) c.if-text-p.false (sym c.kind_of.ensures ∙ c.in-Refused.is)

pub returns-in-Bracket : goal.returns-in-Bracket
returns-in-Bracket c = token_bracket _ _ _ c.gap_end-p.ensures (sym c.is_past.ensures ∙ c.if-is_past.false) c.if-text-p.false _ (sym c.kind_of.ensures ∙ c.in-Bracket.is) c.bracket.ensures

pub returns-in-Digit : goal.returns-in-Digit
returns-in-Digit c = token_run _ _ _ c.gap_end-p.ensures (sym c.is_past.ensures ∙ c.if-is_past.false) c.if-text-p.false _ _ (rw c.kind_of.ensures at (opened c.in-Digit.in-Digit-own.keys3)) c.run_end-e.ensures (rw c.part_of.ensures at c.domain_word.ensures)
