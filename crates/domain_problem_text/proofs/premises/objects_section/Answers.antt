use mathlib.Core.Path.{refl, ap}
use native.Mathlib.Omega.{arith}
use lib.ListN.{length}
use Rattle.text_words.specs.Bytes.{bytes}
use Rattle.text_tokens.specs.Runs.{part}
use Rattle.text_tokens.proofs.Within.{part_length}
use Rattle.domain_preamble.proofs.Missing.{is_missing, is_there, further_at, onwards_here, onwards_by}
use Rattle.domain_problem_text.proofs.Grounding.{copied, grounded_none, grounded, grounded_by, no_objects_lem, some_objects}
use Rattle.domain_rows.specs.Layout.{objects_at}
use Rattle.domain_problem_text.proofs.premises.objects_section.Goals as goal

pub returns-in_default : goal.returns-in_default
unfolding bytes
returns-in_default c = (λ d h. grounded_by _ _ _ d _ _ (no_objects_lem _ d _ (is_missing _ (bytes ":objects") _ _ c.begins_at-o.ensures.0 c.in_default.is)) (grounded_none _ _ d h c.requires.2 _ _ refl), onwards_here _ _ _ c.requires.0)

pub copy-requires : goal.copy-requires
copy-requires c = omega (arith, ap length c.part_of.ensures, part_length c.args.tables.now 0 objects_at (omega (arith, c.requires.2)))

pub names_to-requires : goal.names_to-requires
names_to-requires c = ((further_at _ _ _ _ _ c.in-Some.is c.begins_at-o.ensures.1).1, (c.requires.1.0.types, copied 17 (part c.args.tables.now 0 objects_at) _ _ _ _ _ c.requires.1.1.types c.part_of.ensures refl c.copy.ensures), (c.requires.1.0.objects, c.requires.1.1.objects))

pub returns : goal.returns
unfolding bytes
returns c = let w = (further_at _ _ _ _ _ c.in-Some.is c.begins_at-o.ensures.1) in (λ d h. grounded_by _ _ _ d _ _ (some_objects _ d _ _ _ (is_there _ (bytes ":objects") _ _ c.begins_at-o.ensures.0 _ _ c.in-Some.is)) (grounded _ _ d h c.requires.2 _ _ _ (c.names_to.ensures.0 d.types d.constants (copied 17 (part c.args.tables.now 0 objects_at) _ _ _ _ _ h.types c.part_of.ensures refl c.copy.ensures) h.objects)), onwards_by _ _ _ _ (omega arith) c.names_to.ensures.1)
