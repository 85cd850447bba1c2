use mathlib.Core.Path.{sym, ap, ◌∙◌}
use Prim.Native.Nat.{◌+◌}
use native.Mathlib.Omega.{arith}
use lib.ListN.{length}
use Rattle.text_words.specs.Bytes.{bytes}
use Rattle.domain_due.specs.Answers.{answer_of}
use Rattle.domain_preamble.proofs.Missing.{is_missing, is_there, further_at, onwards_here, onwards_by, no_flags, some_flags}
use Rattle.domain_preamble.proofs.vocabulary.flags_section.Goals as goal

pub returns-in_default : goal.returns-in_default
unfolding bytes
returns-in_default c = (sym (ap answer_of (no_flags _ _ (is_missing _ (bytes ":requirements") _ _ c.begins_at.ensures.0 c.in_default.is))), onwards_here _ _ _ c.requires)

pub flags_to-requires : goal.flags_to-requires
flags_to-requires c = (further_at _ _ _ _ _ c.in-Some.is c.begins_at.ensures.1).1

pub returns : goal.returns
unfolding bytes
returns c = let w = further_at _ _ _ _ _ c.in-Some.is c.begins_at.ensures.1 in (c.flags_to.ensures.0 (length c.args.text.now + 1) (omega arith) ∙ sym (ap answer_of (some_flags _ _ _ _ (is_there _ (bytes ":requirements") _ _ c.begins_at.ensures.0 _ _ c.in-Some.is))), onwards_by _ _ _ _ (omega arith) c.flags_to.ensures.1)
