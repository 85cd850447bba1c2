use mathlib.Core.List.{[]}
use native.Mathlib.Omega.{arith}
use Rattle.text_words.specs.Bytes.{bytes}
use Rattle.domain_typed_lists.proofs.Outcomes.{outcome_by, reads, holds_none}
use Rattle.domain_preamble.proofs.Missing.{is_missing, is_there, further_at, onwards_here, onwards_by, no_types, some_types}
use Rattle.domain_preamble.proofs.vocabulary.types_section.Goals as goal

pub returns-in_default : goal.returns-in_default
unfolding bytes
returns-in_default c = (reads 17 _ 1 _ _ _ (no_types _ _ (is_missing _ (bytes ":types") _ _ c.begins_at.ensures.0 c.in_default.is)) (c.enter.ensures [] (holds_none 17 _ c.requires.1)), onwards_here _ _ _ c.requires.0)

pub types_to-requires : goal.types_to-requires
types_to-requires c = ((further_at _ _ _ _ _ c.in-Some.is c.begins_at.ensures.1).1, c.requires.1)

pub returns : goal.returns
unfolding bytes
returns c = let w = further_at _ _ _ _ _ c.in-Some.is c.begins_at.ensures.1 in (outcome_by 17 _ _ _ _ (some_types _ _ _ _ (is_there _ (bytes ":types") _ _ c.begins_at.ensures.0 _ _ c.in-Some.is)) c.types_to.ensures.0, onwards_by _ _ _ _ (omega arith) c.types_to.ensures.1)
