use mathlib.Core.Path.{refl, sym, ap, ◌∙◌}
use mathlib.Core.List.{[]}
use lib.ListN.{length}
use Rattle.std.proofs.lemmas.Result.{err_from_is_err_and}
use Rattle.text_words.specs.Bytes.{bytes}
use Rattle.domain_due.proofs.Dues.{answer_done}
use Rattle.domain_rows.specs.Held.{rows_of}
use Rattle.domain_meaning.specs.Indexes.{padded}
use Rattle.domain_rows.proofs.Rows.{length_rows}
use Rattle.domain_preamble.proofs.Stored.{declares, undeclared}
use Rattle.domain_preamble.proofs.Ways.{titled_in, untitled, flags_refused, onwards_done}
use Rattle.domain_preamble.proofs.preamble_at.Goals as goal

pub returns-in_err-behind : goal.returns-in_err-behind
unfolding bytes
returns-in_err-behind c = let p = err_from_is_err_and c.from_residual.result c.from_residual.ensures.1 in rw (p.1, p.2) (untitled _ _ _ _ _ c.heading_at.ensures.0 c.in_err-behind.was)

pub flags_section-requires : goal.flags_section-requires
flags_section-requires c = titled_in _ _ _ _ _ c.in_ok-behind.was c.heading_at.ensures.1

pub returns-in_err-from : goal.returns-in_err-from
unfolding bytes
returns-in_err-from c = let p = err_from_is_err_and c.from_residual-in_err-from.result c.from_residual-in_err-from.ensures.1 in rw (p.1, p.2) (flags_refused _ _ _ _ _ _ _ _ _ c.heading_at.ensures.0 c.in_ok-behind.was c.flags_section.ensures.0 c.in_err-from.was)

pub tables_at-requires : goal.tables_at-requires
unfolding rows_of padded
tables_at-requires c = let b = onwards_done _ _ _ _ _ c.in_ok-from.was c.flags_section.ensures.1 in (b.1, refl, refl, refl, refl)

pub returns-in_err-preamble : goal.returns-in_err-preamble
unfolding bytes
returns-in_err-preamble c = let p = err_from_is_err_and c.from_residual-in_err-preamble.result c.from_residual-in_err-preamble.ensures.1 in rw (p.1, p.2) (undeclared _ _ _ _ _ _ _ _ _ _ _ _ _ _ c.in_err-preamble.was _ c.heading_at.ensures.0 c.in_ok-behind.was (answer_done _ _ _ (sym c.flags_section.ensures.0 ∙ c.in_ok-from.was)) c.tables_at.ensures)

pub store-requires : goal.store-requires
store-requires c = (ap length c.requires ∙ length_rows 133 [], c.tables_at.auto.types, c.tables_at.auto.objects, c.tables_at.auto.predicates, c.tables_at.auto.functions)

pub returns : goal.returns
unfolding bytes
returns c = let b = onwards_done _ _ _ _ _ c.in_ok-from.was c.flags_section.ensures.1 in rw (← c.in_ok-preamble.was) (declares _ _ _ _ _ _ _ _ _ _ _ _ _ c.requires c.store.ensures _ c.heading_at.ensures.0 c.in_ok-behind.was (answer_done _ _ _ (sym c.flags_section.ensures.0 ∙ c.in_ok-from.was)) b.0 c.tables_at.ensures)
