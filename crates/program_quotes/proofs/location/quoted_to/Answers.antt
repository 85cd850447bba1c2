use native.Mathlib.Omega.{arith}
use Rattle.program_quotes.proofs.Steps.{before_place, from_place, rest_length}
use Rattle.program_quotes.proofs.location.quoted_to.Goals as goal

pub overflow_add-result : goal.overflow_add-result
overflow_add-result c = let a = c.args in omega (arith, rest_length a.text.now a.place c.part_of-2.ensures)

pub returns : goal.returns
returns c = let a = c.args in rw (c.quoted_after.ensures.0, before_place a.text.now a.place c.part_of.ensures c.bytes_behind-n.ensures.0, from_place a.text.now a.place c.part_of-2.ensures c.bytes_ahead-m.ensures.0)
