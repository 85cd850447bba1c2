-- Conditions, effects and actions as cells: prefix code, in which the first cell of a tree says what follows. 0 ends a list.
use Rattle.std.specs.Prelude.{ℕ, ◌+◌, List, [], ◌∷◌, ◌++◌, cond, length}
use Rattle.domain_meaning.specs.Conditions.{Comparison, equal, less, at_most, more, at_least, Cond, Conds, all, atom, same, compare, none, cons}
use Rattle.domain_meaning.specs.Effects.{Change, assign, raise, lower, Effect, becomes, changes}
use Rattle.domain_meaning.specs.Actions.{When, start, whole, end, Timed, Lasting, moment, rule, Action}
use Rattle.domain_terms.specs.Cells.{cell_of}
use Rattle.domain_expressions.specs.Codes.{ref_cells, cells_of}

-- ---- conditions: 1 is `and`; 2 and 3 an equality of objects, as it is written and under `not`; 4 to 7 a fact of none to three arguments,
-- 8 to 11 the same under `not`; 12 to 16 a comparison, 17 to 21 the same under `not`

abbrev pub comparison_cell : Comparison → ℕ
comparison_cell equal = 0
comparison_cell less = 1
comparison_cell at_most = 2
comparison_cell more = 3
comparison_cell at_least = 4

unfoldable mutual
  pub cond_cells : Cond → List ℕ
  cond_cells (all cs) = 1 ∷ conds_cells cs
  cond_cells (atom yes' r) = ref_cells (cond yes' 4 8) r
  cond_cells (same yes' a b) = cond yes' 2 3 ∷ cell_of a ∷ cell_of b ∷ []
  cond_cells (compare yes' op a b) = (cond yes' 12 17 + comparison_cell op) ∷ (cells_of a ++ cells_of b)

  pub conds_cells : Conds → List ℕ
  conds_cells none = 0 ∷ []
  conds_cells (cons c cs) = cond_cells c ++ conds_cells cs

-- ---- effects: 4 to 7 a fact that becomes true, 8 to 11 false; from 12 on a number of none to two arguments that is assigned, from 15 raised,
-- from 18 lowered, by the expression after it

abbrev pub change_cell : Change → ℕ
change_cell assign = 12
change_cell raise = 15
change_cell lower = 18

unfoldable pub effect_cells : Effect → List ℕ
effect_cells (becomes yes' r) = ref_cells (cond yes' 4 8) r
effect_cells (changes how r x) = ref_cells (change_cell how) r ++ cells_of x

unfoldable pub effects_cells : List Effect → List ℕ
effects_cells [] = []
effects_cells (e ∷ es) = effect_cells e ++ effects_cells es

-- ---- actions: the duration rule, after 1, or 0 for none; the parts of the condition; those of the effect

abbrev pub when_cell : When → ℕ
when_cell start = 1
when_cell whole = 2
when_cell end = 3

-- what stands in each part is written by f
unfoldable pub parts_cells : {A : Type 0} → (A → List ℕ) → List (Timed A) → List ℕ
parts_cells f [] = 0 ∷ []
parts_cells f (x ∷ xs) = when_cell x.when ∷ (f x.what ++ parts_cells f xs)

-- a part of the effect is a list
abbrev pub list_cells : List Effect → List ℕ
list_cells es = effects_cells es ++ 0 ∷ []

unfoldable pub lasting_cells : Lasting → List ℕ
lasting_cells moment = 0 ∷ []
lasting_cells (rule x) = 1 ∷ cells_of x

unfoldable pub action_cells : Action → List ℕ
action_cells a = lasting_cells a.lasting ++ (parts_cells cond_cells a.conditions ++ parts_cells list_cells a.effects)

-- the actions one after the other
unfoldable pub actions_cells : List Action → List ℕ
actions_cells [] = []
actions_cells (a ∷ as') = action_cells a ++ actions_cells as'

-- where they stand, from place u on: of each the duration rule, the condition, the effect
abbrev pub start_of : ℕ → Action → List ℕ
start_of u a =
    u ∷ (u + length (lasting_cells a.lasting)) ∷ (u + length (lasting_cells a.lasting) + length (parts_cells cond_cells a.conditions)) ∷ []

unfoldable pub starts_of : ℕ → List Action → List ℕ
starts_of u [] = []
starts_of u (a ∷ as') = start_of u a ++ starts_of (u + length (action_cells a)) as'
