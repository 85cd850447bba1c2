-- The first facts and the first numbers: what init says, as the two arrays of a run. RULES 8.
use Rattle.std.specs.Prelude.{ℕ, List, [], ◌∷◌, ℤ, negsuc, set, replicate}
use Rattle.domain_meaning.specs.Problem.{Init, Valued}

-- −1,000,000,000,001 thousandths, which no number has
abbrev pub undefined : ℤ
undefined = negsuc 1000000000000

-- no fact is true
unfoldable pub no_facts : List ℕ
no_facts = replicate 16384 0

-- no number is defined
unfoldable pub no_numbers : List ℤ
no_numbers = replicate 1024 undefined

-- 1 at each fact that is named
unfoldable pub facts_from : List ℕ → List ℕ → List ℕ
facts_from facts [] = facts
facts_from facts (i ∷ is) = facts_from (set facts i 1) is

-- each number that is given has its value
unfoldable pub numbers_from : List ℤ → List Valued → List ℤ
numbers_from numbers [] = numbers
numbers_from numbers (v ∷ vs) = numbers_from (set numbers v.index v.value) vs

-- "other facts are false, other numbers undefined"
unfoldable pub first_facts : Init → List ℕ
first_facts x = facts_from no_facts x.facts

unfoldable pub first_numbers : Init → List ℤ
first_numbers x = numbers_from no_numbers x.numbers
