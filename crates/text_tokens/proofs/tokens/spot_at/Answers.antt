use mathlib.Core.Path.{sym, ◌∙◌}
use Rattle.text_tokens.proofs.Ways.{spot_past, spot_end, spot_found, spot_other}
use Rattle.text_tokens.proofs.tokens.spot_at.Goals as goal

pub returns-then-is_past : goal.returns-then-is_past
returns-then-is_past c = spot_past _ _ _ c.gap_end-p.ensures _ (sym c.is_past.ensures ∙ c.if-is_past.true)

pub returns-then-text-p : goal.returns-then-text-p
returns-then-text-p c = spot_end _ _ _ c.gap_end-p.ensures _ (sym c.is_past.ensures ∙ c.if-is_past.false) c.if-text-p.true

pub returns-then-same_word : goal.returns-then-same_word
returns-then-same_word c = spot_found _ _ _ c.gap_end-p.ensures (sym c.is_past.ensures ∙ c.if-is_past.false) c.if-text-p.false _ _ c.run_end-e.ensures (rw c.part_of.ensures at (sym c.same_word.ensures ∙ c.if-same_word.true))

pub returns : goal.returns
returns c = spot_other _ _ _ c.gap_end-p.ensures (sym c.is_past.ensures ∙ c.if-is_past.false) c.if-text-p.false _ _ c.run_end-e.ensures (rw c.part_of.ensures at (sym c.same_word.ensures ∙ c.if-same_word.false))
