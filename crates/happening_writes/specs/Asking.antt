-- What a walk over the effects of a list asks for: a fact or number that it doesn't ask for has the index 0.
use Rattle.std.specs.Prelude.{List, map, Bool, true, false, cond, not}
use Rattle.happening_meaning.specs.declared.Mark.{Mark}
use Rattle.happening_meaning.specs.declared.Mark.TheVariants.{Nothing, Fact, Number}
use Rattle.happening_writes.specs.declared.marks.Asked.{Asked}
use Rattle.happening_writes.specs.declared.marks.Asked.TheVariants.{All, Facts, Numbers}

abbrev pub asks_fact : Asked → Bool → Bool
asks_fact All a = true
asks_fact (Facts b) a = cond a b (not b)
asks_fact Numbers a = false

abbrev pub asks_number : Asked → Bool
asks_number All = true
asks_number (Facts b) = false
asks_number Numbers = true

-- what to ask for where a mark that can't be together with this one is looked for: a fact the other way, or a number
abbrev pub asked_against : Mark → Asked
asked_against Nothing = Numbers
asked_against (Fact a x) = Facts (not a)
asked_against (Number a x) = Numbers

-- what a walk that asks so gives of a mark
unfoldable pub shown : Asked → Mark → Mark
shown q Nothing = Nothing
shown q (Fact a x) = Fact a (cond (asks_fact q a) x 0)
shown q (Number a x) = Number a (cond (asks_number q) x 0)

abbrev pub shown_all : Asked → List Mark → List Mark
shown_all q ms = map (shown q) ms
