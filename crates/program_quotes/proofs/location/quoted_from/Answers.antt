use native.Mathlib.Omega.{arith}
use Rattle.program_quotes.proofs.Steps.{before_place, from_place, front_most}
use Rattle.program_quotes.proofs.location.quoted_from.Goals as goal

pub overflow_sub-result : goal.overflow_sub-result
overflow_sub-result c = let a = c.args in omega (arith, front_most a.text.now a.place c.part_of.ensures)

pub returns : goal.returns
returns c = let a = c.args in rw (c.quoted_before.ensures.0, before_place a.text.now a.place c.part_of.ensures c.bytes_behind-n.ensures.0, from_place a.text.now a.place c.part_of-2.ensures c.bytes_ahead-m.ensures.0)
