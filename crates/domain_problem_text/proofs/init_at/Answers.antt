use Rattle.std.proofs.lemmas.Result.{err_from_is_err_and}
use native.Mathlib.Omega.{arith}
use Rattle.text_words.specs.Bytes.{bytes}
use Rattle.domain_due.proofs.Dues.{ahead_done, ahead_by}
use Rattle.domain_preamble.proofs.Missing.{is_missing, is_there, further_at, onwards_here, onwards_by}
use Rattle.domain_problem_text.proofs.Naming.{onwards_refused}
use Rattle.domain_problem_text.proofs.Starting.{sums_fit_lem, start_none, start_unfit, start_refused, start_done}
use Rattle.domain_problem_text.proofs.init_at.Goals as goal

pub returns-in_default : goal.returns-in_default
unfolding bytes
returns-in_default c = (λ x h f. start_none _ x _ _ _ (is_missing _ (bytes ":init") _ _ c.begins_at-o.ensures.0 c.in_default.is) c.requires.2 c.requires.3, onwards_here _ _ _ c.requires.0)

pub returns-in_err-sums_at : goal.returns-in_err-sums_at
unfolding bytes
returns-in_err-sums_at c = let p = err_from_is_err_and c.from_residual.result c.from_residual.ensures.1 in rw (p.1, p.2, ← c.in_err-sums_at.was) ((λ x h f. start_unfit _ x _ _ _ (is_there _ (bytes ":init") _ _ c.begins_at-o.ensures.0 _ _ c.in-Some.is) _ _ _ _ _ (c.sums_at.ensures x h) c.in_err-sums_at.was, onwards_refused _ _ _ _ _ c.in_err-sums_at.was))

pub init_to-requires : goal.init_to-requires
init_to-requires c = ((further_at _ _ _ _ _ c.in-Some.is c.begins_at-o.ensures.1).1, c.requires.1, c.requires.2, c.requires.3)

pub returns-in_err-after : goal.returns-in_err-after
unfolding bytes
returns-in_err-after c = let p = err_from_is_err_and c.from_residual-in_err-after.result c.from_residual-in_err-after.ensures.1 in rw (p.1, p.2, ← c.in_err-after.was) ((λ x h f. let y = sums_fit_lem x _ _ _ _ _ (c.sums_at.ensures x h) c.in_ok-sums_at.was in start_refused _ x _ _ _ (is_there _ (bytes ":init") _ _ c.begins_at-o.ensures.0 _ _ c.in-Some.is) _ _ _ y (c.init_to.ensures.0 x _ h f y (omega arith)) _ _ c.in_err-after.was, onwards_refused _ _ _ _ _ c.in_err-after.was))

pub returns : goal.returns
unfolding bytes
returns c = (λ x h f. let y = sums_fit_lem x _ _ _ _ _ (c.sums_at.ensures x h) c.in_ok-sums_at.was in start_done _ x _ _ _ (is_there _ (bytes ":init") _ _ c.begins_at-o.ensures.0 _ _ c.in-Some.is) _ _ _ y (c.init_to.ensures.0 x _ h f y (omega arith)) _ _ c.in_ok-after.was, let w = ahead_done _ _ _ _ _ c.in_ok-after.was c.init_to.ensures.1 in onwards_by _ _ _ _ (omega (arith, (further_at _ _ _ _ _ c.in-Some.is c.begins_at-o.ensures.1).0)) (ahead_by _ _ _ _ w.0 w.1))
