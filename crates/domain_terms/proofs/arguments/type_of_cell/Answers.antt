use Rattle.domain_terms.proofs.Givens.{cell_object, cell_variable}
use Rattle.domain_rows.specs.Layout.{predicates_at, tables_length}
use Rattle.domain_terms.proofs.arguments.type_of_cell.Goals as goal

pub returns-then-x-lt64 : goal.returns-then-x-lt64
returns-then-x-lt64 c = λ x h. cell_object x _ _ c.if-x-lt64.true (c.kept_in.ensures.0 64 predicates_at x.objects h.objects)

pub returns : goal.returns
returns c = λ x h. cell_variable x _ _ c.if-x-lt64.false (c.kept_in-2.ensures.0 4 tables_length x.variables h.variables)
