use borrow.Enum.Refused.{opened}
use mathlib.Core.Path.{refl}
use native.Mathlib.Omega.{arith}
use mathlib.Core.Bool.{true, false}
use Rattle.domain_expressions.proofs.Beginning.{bracket_refused, plus_none, minus_none, plus_some, minus_some, other_head, inside_refused, inside_operation}
use Rattle.domain_expressions.proofs.heads.operation_of.Goals as goal

pub returns-then-left-eq0 : goal.returns-then-left-eq0
returns-then-left-eq0 c = (λ s d x f. bracket_refused s d x f c.args.left _ 12 _ _ refl (plus_none s d x f c.args.left _ _ _ c.in-Plus.is c.if-left-eq0.true), inside_refused _ _ _)

pub returns-then-left-eq0-2 : goal.returns-then-left-eq0-2
returns-then-left-eq0-2 c = (λ s d x f. bracket_refused s d x f c.args.left _ 12 _ _ refl (minus_none s d x f c.args.left _ _ _ c.in-Minus.is c.if-left-eq0-2.true), inside_refused _ _ _)

pub returns-else-left-eq0 : goal.returns-else-left-eq0
returns-else-left-eq0 c = (λ s d x f. plus_some s d x f c.args.left _ _ _ c.in-Plus.is c.if-left-eq0.false, inside_operation _ _ false _ _ c.requires (omega arith))

pub returns-else-left-eq0-2 : goal.returns-else-left-eq0-2
returns-else-left-eq0-2 c = (λ s d x f. minus_some s d x f c.args.left _ _ _ c.in-Minus.is c.if-left-eq0-2.false, inside_operation _ _ true _ _ c.requires (omega arith))

pub returns-in_default : goal.returns-in_default
returns-in_default c = (λ s d x f. bracket_refused s d x f c.args.left _ 3 _ _ refl (other_head s d x f c.args.left c.args.h _ _ (opened c.in_default.in_default-own.keys3)), inside_refused _ _ _)
