-- Where the facts and numbers of prepared actions lie: one object is counted and no first index is added, so the digits of a reference are added up.
use Rattle.std.specs.Prelude.{[]}
use Rattle.happening_meaning.specs.State.{Grounds}

abbrev pub summed : Grounds
summed = record { objects = 1; facts = []; numbers = [] }
