use mathlib.Core.List.{[]}
use native.Mathlib.Omega.{arith}
use Rattle.text_words.specs.Bytes.{bytes}
use Rattle.domain_typed_lists.proofs.Outcomes.{outcome_by, reads, holds_none}
use Rattle.domain_preamble.proofs.Missing.{is_missing, is_there, further_at, onwards_here, onwards_by, no_constants, some_constants}
use Rattle.domain_preamble.proofs.vocabulary.constants_section.Goals as goal

pub returns-in_default : goal.returns-in_default
unfolding bytes
returns-in_default c = (λ ts h. reads _ _ _ _ [] _ (no_constants _ _ ts (is_missing _ (bytes ":constants") _ _ c.begins_at.ensures.0 c.in_default.is)) (holds_none _ _ c.requires.2), onwards_here _ _ _ c.requires.0)

pub names_to-requires : goal.names_to-requires
names_to-requires c = ((further_at _ _ _ _ _ c.in-Some.is c.begins_at.ensures.1).1, c.requires.1, ([], holds_none _ _ c.requires.2))

pub returns : goal.returns
unfolding bytes
returns c = let w = further_at _ _ _ _ _ c.in-Some.is c.begins_at.ensures.1 in (λ ts h. outcome_by _ _ _ _ _ (some_constants _ _ ts _ _ (is_there _ (bytes ":constants") _ _ c.begins_at.ensures.0 _ _ c.in-Some.is)) (c.names_to.ensures.0 ts [] h (holds_none _ _ c.requires.2)), onwards_by _ _ _ _ (omega arith) c.names_to.ensures.1)
