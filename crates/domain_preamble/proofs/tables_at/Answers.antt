use native.Mathlib.Omega.{arith}
use Rattle.std.proofs.lemmas.Result.{err_from_is_err_and}
use Rattle.text_words.specs.Bytes.{bytes}
use Rattle.domain_typed_lists.proofs.Outcomes.{outcome_done}
use Rattle.domain_preamble.proofs.Ways.{onwards_done, types_refused, constants_refused, predicates_refused, functions_refused, all_listed}
use Rattle.domain_preamble.proofs.tables_at.Goals as goal

pub returns-in_err-at : goal.returns-in_err-at
returns-in_err-at c = λ n a v h g. let p = err_from_is_err_and c.from_residual.result c.from_residual.ensures.1 in rw (p.1, p.2) (types_refused _ n a v _ h g _ _ _ _ _ _ _ _ _ c.in_err-at.was c.types_section.ensures.0)

pub constants_section-requires : goal.constants_section-requires
constants_section-requires c = let t = outcome_done _ 17 _ _ _ _ c.types_section.ensures.0 c.in_ok-at.was in let b1 = onwards_done _ _ _ _ _ c.in_ok-at.was c.types_section.ensures.1 in (b1.1, (t.table, t.holds), c.requires.2)

pub returns-in_err-at-2 : goal.returns-in_err-at-2
returns-in_err-at-2 c = λ n a v h g. let p = err_from_is_err_and c.from_residual-in_err-at-2.result c.from_residual-in_err-at-2.ensures.1 in rw (p.1, p.2) (let t = outcome_done _ 17 _ _ _ _ c.types_section.ensures.0 c.in_ok-at.was in constants_refused _ n a v _ h g _ _ _ _ _ _ _ _ _ c.in_err-at-2.was _ _ t.is (c.constants_section.ensures.0 t.table t.holds))

pub declared_section-requires : goal.declared_section-requires
declared_section-requires c = let t = outcome_done _ 17 _ _ _ _ c.types_section.ensures.0 c.in_ok-at.was in let b2 = onwards_done _ _ _ _ _ c.in_ok-at-2.was c.constants_section.ensures.1 in (b2.1, (t.table, t.holds), c.requires.3, omega arith)

pub returns-in_err-at-3 : goal.returns-in_err-at-3
unfolding bytes
returns-in_err-at-3 c = λ n a v h g. let p = err_from_is_err_and c.from_residual-in_err-at-3.result c.from_residual-in_err-at-3.ensures.1 in rw (p.1, p.2) (let t = outcome_done _ 17 _ _ _ _ c.types_section.ensures.0 c.in_ok-at.was in let o = outcome_done _ 64 _ _ _ _ (c.constants_section.ensures.0 t.table t.holds) c.in_ok-at-2.was in predicates_refused _ n a v _ h g _ _ _ _ _ _ _ _ _ c.in_err-at-3.was _ _ t.is _ _ o.is (c.declared_section.ensures.0 t.table t.holds))

pub declared_section-requires-2 : goal.declared_section-requires-2
declared_section-requires-2 c = let t = outcome_done _ 17 _ _ _ _ c.types_section.ensures.0 c.in_ok-at.was in let b3 = onwards_done _ _ _ _ _ c.in_ok-at-3.was c.declared_section.ensures.1 in (b3.1, (t.table, t.holds), c.requires.4, omega arith)

pub returns-in_err-end : goal.returns-in_err-end
unfolding bytes
returns-in_err-end c = λ n a v h g. let p = err_from_is_err_and c.from_residual-in_err-end.result c.from_residual-in_err-end.ensures.1 in rw (p.1, p.2) (let t = outcome_done _ 17 _ _ _ _ c.types_section.ensures.0 c.in_ok-at.was in let o = outcome_done _ 64 _ _ _ _ (c.constants_section.ensures.0 t.table t.holds) c.in_ok-at-2.was in let f = outcome_done _ 32 _ _ _ _ (c.declared_section.ensures.0 t.table t.holds) c.in_ok-at-3.was in functions_refused _ n a v _ h g _ _ _ _ _ _ _ _ _ c.in_err-end.was _ _ t.is _ _ o.is _ _ f.is (c.declared_section-2.ensures.0 t.table t.holds))

pub returns : goal.returns
unfolding bytes
returns c = λ n a v h g. let t = outcome_done _ 17 _ _ _ _ c.types_section.ensures.0 c.in_ok-at.was in let o = outcome_done _ 64 _ _ _ _ (c.constants_section.ensures.0 t.table t.holds) c.in_ok-at-2.was in let f = outcome_done _ 32 _ _ _ _ (c.declared_section.ensures.0 t.table t.holds) c.in_ok-at-3.was in let w = outcome_done _ 16 _ _ _ _ (c.declared_section-2.ensures.0 t.table t.holds) c.in_ok-end.was in let b1 = onwards_done _ _ _ _ _ c.in_ok-at.was c.types_section.ensures.1 in let b2 = onwards_done _ _ _ _ _ c.in_ok-at-2.was c.constants_section.ensures.1 in let b3 = onwards_done _ _ _ _ _ c.in_ok-at-3.was c.declared_section.ensures.1 in let b4 = onwards_done _ _ _ _ _ c.in_ok-end.was c.declared_section-2.ensures.1 in all_listed _ n a v _ h g _ _ _ _ _ _ _ _ _ _ _ _ _ _ t o f w (omega (arith, b1.0, b2.0, b3.0, b4.0)) b4.1
