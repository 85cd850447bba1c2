use native.Mathlib.Omega.{arith}
use Rattle.text_tokens.proofs.Begun.{begun_length}
use mathlib.Core.Path.{sym, ◌∙◌}
use lib.ListN.{drop}
use Rattle.text_tokens.specs.Numbers.{number_of}
use Rattle.text_tokens.proofs.Values.{number_small}
use Rattle.text_tokens.proofs.numbers.number_of.Goals as goal

pub number_from-requires : goal.number_from-requires
number_from-requires c = omega (arith, begun_length 45 c.args.w.now (sym c.begins_with.ensures ∙ c.if-begins_with.true))

pub signed_of-requires : goal.signed_of-requires
signed_of-requires c = rw c.number_from.ensures (number_small (drop 1 c.args.w.now))

pub returns-then-begins_with : goal.returns-then-begins_with
unfolding number_of
returns-then-begins_with c = c.signed_of.ensures ∙ rw (sym c.begins_with.ensures ∙ c.if-begins_with.true, c.number_from.ensures)

pub signed_of-requires-2 : goal.signed_of-requires-2
signed_of-requires-2 c = rw c.number_from-2.ensures (number_small _)

pub returns : goal.returns
unfolding number_of
returns c = c.signed_of-2.ensures ∙ rw (sym c.begins_with.ensures ∙ c.if-begins_with.false, c.number_from-2.ensures)
