-- Worked examples beside the bench, by computation: numbers at the ends of their range, what is read, in which order parts decide, where facts lie.
use mathlib.Core.Path.{◌≡◌, refl}
use Prim.Native.Nat.{ℕ}
use mathlib.Core.List.{List, [], ◌∷◌, map}
use mathlib.Core.Bool.{true, false}
use lib.IntN.{ℤ, pos, negsuc}
use Rattle.domain_meaning.specs.Terms.{Arg, object, variable, Ref, number, value, minus, difference, plus}
use Rattle.domain_meaning.specs.Conditions.{Cond, all, atom, compare, none, cons, equal, at_least}
use Rattle.domain_meaning.specs.Effects.{assign, raise, lower, Effect, becomes, changes}
use Rattle.domain_meaning.specs.Actions.{When, start, end, Lasting, moment, rule}
use Rattle.happening_meaning.specs.State.{State, Grounds, fact_of, number_of}
use Rattle.happening_meaning.specs.Truths.{value_of}
use Rattle.happening_meaning.specs.Happening.{Point, happened, happening}
use Rattle.happening_meaning.specs.declared.Value.TheVariants as Is
use Rattle.happening_meaning.specs.declared.Outcome.{Outcome}
use Rattle.happening_meaning.specs.declared.Outcome.TheVariants.{Done, Condition, Undefined, Range, Itself, Conflict}
use Rattle.happening_meaning.proofs.Examples.{state, open_happenings}

-- ---- numbers: one function of one argument, objects 0 and 1

abbrev ground : Grounds
ground = record { objects = 2; facts = []; numbers = 0 ∷ [] }

-- the number of the i-th parameter's object
abbrev f : ℕ → Ref
f i = record { head = 0; args = variable i ∷ [] }

-- a point of a line: its rule, its conditions, its effects and its objects; what lasts does so for 5
abbrev point : ℕ → When → Lasting → List Cond → List Effect → List ℕ → Point
point l w r cs es os =
    record {
      step =
          record {
            line = l;
            rule = r;
            conditions = map (λ c. record { when = w; what = c }) cs;
            effects = record { when = w; what = es } ∷ [];
            objects = os;
            duration = 5000;
          };
      when = w;
    }

-- a point of a line with objects a and b, and these effects
abbrev does : ℕ → ℕ → ℕ → List Effect → Point
does l a b es =
    point l start moment [] es (a ∷ b ∷ 0 ∷ 0 ∷ [])

abbrev most : ℤ
most = pos 1000000000000

abbrev least : ℤ
least = negsuc 999999999999

abbrev numbers : ℤ → ℤ → State
numbers x y = state [] (x ∷ y ∷ [])

abbrev both_assigned : ℕ → ℕ → Point
both_assigned a b = does 1 a b (changes assign (f 0) (number (pos 1)) ∷ changes assign (f 1) (number (pos 2)) ∷ [])

-- `itself` is judged on ground numbers: two parameters may meet
meeting : happening ground (numbers (pos 0) (pos 0)) (both_assigned 0 0 ∷ []) ≡ happened (Itself 1) (numbers (pos 0) (pos 0))
unfolding open_happenings
meeting = refl

parted : happening ground (numbers (pos 0) (pos 0)) (both_assigned 0 1 ∷ []) ≡ happened Done (numbers (pos 1) (pos 2))
unfolding open_happenings
parted = refl

-- right sides see the old numbers: two numbers change places
swapped : happening ground (numbers (pos 7) (pos 8)) (does 1 0 1 (changes assign (f 0) (value (f 1)) ∷ changes assign (f 1) (value (f 0)) ∷ []) ∷ [])
    ≡ happened Done (numbers (pos 8) (pos 7))
unfolding open_happenings
swapped = refl

-- a rise and a fall cancel, though the sum leaves the range on the way; a rise alone does not stay
cancelled : happening ground (numbers most (pos 0)) (does 1 0 0 (changes raise (f 0) (number most) ∷ [])
    ∷ does 2 0 0 (changes lower (f 0) (number most) ∷ []) ∷ [])
    ≡ happened Done (numbers most (pos 0))
unfolding open_happenings
cancelled = refl

-- the lowest line to write a number that ends outside is named, though it lowers it
risen : happening ground (numbers most (pos 0)) (does 3 0 0 (changes lower (f 0) (number (pos 1)) ∷ [])
    ∷ does 4 0 0 (changes raise (f 0) (number (pos 2)) ∷ []) ∷ [])
    ≡ happened (Range 3) (numbers most (pos 0))
unfolding open_happenings
risen = refl

-- a number to be raised must be defined
unknown : happening ground (state [] []) (does 2 0 0 (changes raise (f 0) (number (pos 1)) ∷ []) ∷ []) ≡ happened (Undefined 2) (state [] [])
unfolding open_happenings
unknown = refl

-- the first `undefined` or `range` decides: number 0 is given, number 1 is not
values : map (value_of ground (most ∷ []) (0 ∷ 1 ∷ []))
    (plus (value (f 1)) (plus (value (f 0)) (number (pos 1))) ∷ plus (plus (value (f 0)) (number (pos 1))) (value (f 1))
    ∷ difference (value (f 1)) (value (f 0)) ∷ [])
    ≡ Is.Undefined ∷ Is.Range ∷ Is.Undefined ∷ []
unfolding open_happenings
values = refl

-- "Minus of a number is exact over the whole range", at both ends
ends_of_range : map (value_of ground [] [])
    (minus (number most) ∷ minus (number least) ∷ difference (number least) (number (pos 0)) ∷ difference (number least) (number (pos 1))
    ∷ plus (number most) (number (pos 1)) ∷ [])
    ≡ Is.Number least ∷ Is.Number most ∷ Is.Number least ∷ Is.Range ∷ Is.Range ∷ []
unfolding open_happenings
ends_of_range = refl

-- ---- what is read: x and y are the two numbers, x 5, y 0

abbrev outcome_of : List Point → Outcome
outcome_of ps = (happening ground (numbers (pos 5000) (pos 0)) ps).outcome

-- x is raised
abbrev raises : ℕ → Point
raises l = does l 0 1 (changes raise (f 0) (number (pos 1000)) ∷ [])

-- y is assigned x: x is read in the right side alone
abbrev takes : ℕ → Point
takes l = does l 0 1 (changes assign (f 1) (value (f 0)) ∷ [])

-- a start and an end whose duration rule is x: "for a start, the duration rule"
abbrev lasts : ℕ → When → Point
lasts l w = point l w (rule (value (f 0))) [] [] (0 ∷ 1 ∷ 0 ∷ 0 ∷ [])

-- x is at least 5
abbrev needs : ℕ → Point
needs l = point l start moment (compare true at_least (value (f 0)) (number (pos 5000)) ∷ []) [] (0 ∷ 1 ∷ 0 ∷ 0 ∷ [])

-- "a number written by one is read by the other, in a condition, a duration rule or a right side", whichever of them has the lower line
read_and_written : map outcome_of
    ((takes 1 ∷ raises 2 ∷ []) ∷ (raises 1 ∷ takes 2 ∷ [])
    ∷ (lasts 1 start ∷ raises 2 ∷ []) ∷ (raises 1 ∷ lasts 2 start ∷ [])
    ∷ (needs 1 ∷ raises 2 ∷ []) ∷ (raises 1 ∷ needs 2 ∷ [])
    ∷ (lasts 1 end ∷ raises 2 ∷ []) ∷ (takes 1 ∷ needs 2 ∷ lasts 3 start ∷ []) ∷ (raises 1 ∷ raises 2 ∷ [])
    ∷ [])
    ≡ Conflict 1 2 ∷ Conflict 1 2
    ∷ Conflict 1 2 ∷ Conflict 1 2
    ∷ Conflict 1 2 ∷ Conflict 1 2
    ∷ Done ∷ Done ∷ Done
    ∷ []
unfolding open_happenings
read_and_written = refl

-- ---- in which order parts decide: one fact, which is false, and one number, which is undefined

abbrev bare : Grounds
bare = record { objects = 1; facts = 0 ∷ []; numbers = 0 ∷ [] }

abbrev is_false : Cond
is_false = atom true (record { head = 0; args = [] })

abbrev is_undefined : Cond
is_undefined = compare true equal (value (record { head = 0; args = [] })) (number (pos 0))

abbrev is_outside : Cond
is_outside = compare true equal (plus (number most) (number most)) (number (pos 0))

abbrev both : Cond → Cond → Cond
both a b = all (cons a (cons b none))

-- the conditions of line 1, in a state without true facts and defined numbers
abbrev tries : Cond → Outcome
tries c = (happening bare (state (0 ∷ []) []) (point 1 start moment (c ∷ []) [] [] ∷ [])).outcome

-- "conditions as written, up to the first that doesn't hold", in an `and` within an `and` too
left_to_right : map tries
    (all (cons (both is_undefined is_false) none) ∷ all (cons (both is_false is_undefined) none)
    ∷ both (all (cons is_undefined none)) is_false ∷ both is_false (all (cons is_undefined none))
    ∷ both (both (all none) is_outside) is_undefined ∷ both is_undefined (both (all none) is_outside)
    ∷ [])
    ≡ Undefined 1 ∷ Condition 1
    ∷ Undefined 1 ∷ Condition 1
    ∷ Range 1 ∷ Undefined 1
    ∷ []
unfolding open_happenings
left_to_right = refl

-- ---- where facts and numbers lie: of four objects, the step's are 1, 0, 3; predicates of 0, 2 and 3 arguments begin at 0, 1 and 17, functions of 0, 1
-- and 2 at 0, 1 and 5

abbrev four : Grounds
four = record { objects = 4; facts = 0 ∷ 1 ∷ 17 ∷ []; numbers = 0 ∷ 1 ∷ 5 ∷ [] }

abbrev to : ℕ → List Arg → Ref
to i as' = record { head = i; args = as' }

-- "first argument highest": 1 + 1·4 + 0, 17 + 1·16 + 0·4 + 3, 17 + 3·16 + 2·4 + 1
facts_lie : map (fact_of four (1 ∷ 0 ∷ 3 ∷ 0 ∷ []))
    (to 0 [] ∷ to 1 (variable 0 ∷ variable 1 ∷ []) ∷ to 2 (variable 0 ∷ variable 1 ∷ variable 2 ∷ []) ∷ to 2 (variable 2 ∷ object 2 ∷ variable 0 ∷ []) ∷ [])
    ≡ 0 ∷ 5 ∷ 36 ∷ 74 ∷ []
unfolding open_happenings
facts_lie = refl

-- 1 + 3, 5 + 3·4 + 1, 5 + 1·4 + 3
numbers_lie : map (number_of four (1 ∷ 0 ∷ 3 ∷ 0 ∷ []))
    (to 0 [] ∷ to 1 (variable 2 ∷ []) ∷ to 2 (variable 2 ∷ variable 0 ∷ []) ∷ to 2 (variable 0 ∷ variable 2 ∷ []) ∷ [])
    ≡ 0 ∷ 4 ∷ 18 ∷ 12 ∷ []
unfolding open_happenings
numbers_lie = refl

-- "(old without deleted) with added": what one point deletes and adds is true then, in either order
abbrev flips : List Effect → List ℕ
flips es = (happening bare (state (0 ∷ []) []) (point 1 start moment [] es [] ∷ [])).state.facts

added_last : map flips
    ((becomes true (to 0 []) ∷ becomes false (to 0 []) ∷ []) ∷ (becomes false (to 0 []) ∷ becomes true (to 0 []) ∷ []) ∷ [])
    ≡ (1 ∷ []) ∷ (1 ∷ []) ∷ []
unfolding open_happenings
added_last = refl
