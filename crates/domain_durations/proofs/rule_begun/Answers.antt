use Rattle.std.specs.Prelude.{Err}
use Rattle.std.proofs.lemmas.Result.{err_from_is_err_and}
use mathlib.Core.Path.{ap, sym, ◌∙◌}
use native.Mathlib.Omega.{arith}
use Rattle.text_words.specs.Bytes.{bytes}
use Rattle.text_tokens.proofs.Within.{spot_within}
use Rattle.domain_due.proofs.Dues.{ahead_done}
use Rattle.domain_durations.proofs.Heads.{head_ahead, begun_closed, begun_headless, begun_other, begun_read}
use Rattle.domain_durations.proofs.rule_begun.Goals as goal

pub returns-in_err-a : goal.returns-in_err-a
returns-in_err-a c = let p = err_from_is_err_and c.from_residual.result c.from_residual.ensures.1 in rw (p.1, p.2, ← c.in_err-a.was) (begun_closed _ _ _ c.opening.ensures.0 _ _ c.in_err-a.was)

pub returns-in_err-b : goal.returns-in_err-b
returns-in_err-b c = let p = err_from_is_err_and c.from_residual-in_err-b.result c.from_residual-in_err-b.ensures.1 in rw (p.1, p.2, ← c.in_err-b.was) (begun_headless _ _ _ c.opening.ensures.0 _ _ c.in_ok-a.was _ (rw c.token_at.ensures at c.rule_head.ensures) _ _ c.in_err-b.was)

pub returns-in_default : goal.returns-in_default
unfolding bytes
returns-in_default c = begun_other _ _ _ c.opening.ensures.0 _ _ c.in_ok-a.was _ (rw c.token_at.ensures at c.rule_head.ensures) _ _ c.in_ok-b.was _ _ (sym c.spot_at-spot.ensures ∙ c.in_default.is) c.token_at-in_default.ensures (ap Err c.not_due.ensures)

pub returns : goal.returns
unfolding bytes
returns c = let x = ahead_done _ _ _ _ _ c.in_ok-a.was c.opening.ensures.1 in let y = head_ahead _ _ _ _ _ x.1 (rw c.token_at.ensures at c.rule_head.ensures) c.in_ok-b.was in let z = spot_within _ _ (bytes "?duration") _ _ y.1 (sym c.spot_at-spot.ensures ∙ c.in-Some.is) in begun_read _ _ _ c.opening.ensures.0 _ _ c.in_ok-a.was _ (rw c.token_at.ensures at c.rule_head.ensures) _ _ c.in_ok-b.was _ _ (sym c.spot_at-spot.ensures ∙ c.in-Some.is) (omega (arith, x.0, y.0, z.0)) z.1
