use mathlib.Core.List.{[]}
use Prim.Native.Nat.{◌+◌}
use native.Mathlib.Omega.{arith}
use lib.ListN.{length}
use Rattle.domain_typed_lists.proofs.Outcomes.{outcome_by, reads, holds_none}
use Rattle.domain_preamble.proofs.Missing.{is_missing, is_there, further_at, onwards_here, onwards_by, no_declared, some_declared}
use Rattle.domain_preamble.proofs.vocabulary.declared_section.Goals as goal

pub returns-in_default : goal.returns-in_default
returns-in_default c = (λ ts h. reads _ _ _ _ [] _ (no_declared _ _ _ ts _ _ (is_missing _ _ _ _ c.begins_at.ensures.0 c.in_default.is)) (holds_none _ _ c.requires.2), onwards_here _ _ _ c.requires.0)

pub declarations_at-requires : goal.declarations_at-requires
declarations_at-requires c = ((further_at _ _ _ _ _ c.in-Some.is c.begins_at.ensures.1).1, c.requires.1, ([], holds_none _ _ c.requires.2), c.requires.3)

pub returns : goal.returns
returns c = let w = further_at _ _ _ _ _ c.in-Some.is c.begins_at.ensures.1 in (λ ts h. outcome_by _ _ _ _ _ (some_declared _ _ _ ts _ _ _ _ (is_there _ _ _ _ c.begins_at.ensures.0 _ _ c.in-Some.is)) (c.declarations_at.ensures.0 ts [] (length c.args.text.now + 1) h (holds_none _ _ c.requires.2) (omega arith)), onwards_by _ _ _ _ (omega arith) c.declarations_at.ensures.1)
