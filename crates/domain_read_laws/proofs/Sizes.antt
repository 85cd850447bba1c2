-- A size of trees that bounds both their cells and their prepared rows: a reference has three and one for each argument, and an action three ends of lists
-- more than its cells have. Assumes nothing.
use mathlib.Core.Path.{◌≡◌}
use mathlib.Core.List.{List, [], ◌∷◌, ◌++◌}
use Prim.Native.Nat.{ℕ, ◌+◌, ◌≤◌}
use native.Mathlib.Omega.{arith}
use lib.ListN.{length, length-append, length-map}
use Rattle.domain_meaning.specs.Terms.{Ref, Expr, number, value, minus, difference, plus}
use Rattle.domain_meaning.specs.Conditions.{Cond, Conds, all, atom, same, compare, none, cons}
use Rattle.domain_meaning.specs.Effects.{Effect, becomes, changes}
use Rattle.domain_meaning.specs.Actions.{Timed, Lasting, moment, rule, Action}
use Rattle.domain_literals.specs.Literal.{number_cells}
use Rattle.domain_terms.specs.Cells.{cell_of}
use Rattle.domain_expressions.specs.Codes.{ref_cells, cells_of}
use Rattle.domain_stored_meaning.specs.Cells.{cond_cells, conds_cells, change_cell, effect_cells, effects_cells, parts_cells, list_cells, lasting_cells, action_cells}
use Rattle.domain_stored_meaning.specs.Cells.{actions_cells}

abbrev pub ref_size_lem : Ref → ℕ
ref_size_lem r = length r.args + 3

unfoldable pub expr_size : Expr → ℕ
expr_size (number z) = length (number_cells z)
expr_size (value r) = ref_size_lem r
expr_size (minus a) = 1 + expr_size a
expr_size (difference a b) = 1 + (expr_size a + expr_size b)
expr_size (plus a b) = 1 + (expr_size a + expr_size b)

unfoldable mutual
  pub cond_size : Cond → ℕ
  cond_size (all cs) = 1 + conds_size cs
  cond_size (atom yes' r) = ref_size_lem r
  cond_size (same yes' a b) = 3
  cond_size (compare yes' op a b) = 1 + (expr_size a + expr_size b)

  pub conds_size : Conds → ℕ
  conds_size none = 1
  conds_size (cons c cs) = cond_size c + conds_size cs

unfoldable pub effect_size : Effect → ℕ
effect_size (becomes yes' r) = ref_size_lem r
effect_size (changes how r x) = ref_size_lem r + expr_size x

unfoldable pub effects_size : List Effect → ℕ
effects_size [] = 0
effects_size (e ∷ es) = effect_size e + effects_size es

-- with the end of the list
abbrev pub list_size : List Effect → ℕ
list_size es = effects_size es + 1

-- g is the size of what stands in a part
unfoldable pub parts_size : {A : Type 0} → (A → ℕ) → List (Timed A) → ℕ
parts_size g [] = 1
parts_size g (x ∷ xs) = 1 + (g x.what + parts_size g xs)

unfoldable pub lasting_size : Lasting → ℕ
lasting_size moment = 1
lasting_size (rule x) = 1 + expr_size x

abbrev pub action_size : Action → ℕ
action_size a = lasting_size a.lasting + parts_size cond_size a.conditions + parts_size list_size a.effects + 3

unfoldable pub actions_size : List Action → ℕ
actions_size [] = 0
actions_size (a ∷ as') = action_size a + actions_size as'

-- ---- a tree has no more cells

ref_size : (tag : ℕ) (r : Ref) → length (ref_cells tag r) ≡ length r.args + 2
ref_size tag r = omega (arith, length-map r.args cell_of)

expr_cells : (x : Expr) → length (cells_of x) ≤ expr_size x
unfolding cells_of expr_size
expr_cells (number z) = omega arith
expr_cells (value r) = omega (arith, ref_size 5 r)
expr_cells (minus a) = omega (arith, expr_cells a)
expr_cells (difference a b) = omega (arith, expr_cells a, expr_cells b, length-append (cells_of a) (cells_of b))
expr_cells (plus a b) = omega (arith, expr_cells a, expr_cells b, length-append (cells_of a) (cells_of b))

mutual
  unfolding cond_cells conds_cells cond_size conds_size

  pub cond_cells_lem : (c : Cond) → length (cond_cells c) ≤ cond_size c
  cond_cells_lem (all cs) = omega (arith, conds_cells_lem cs)
  cond_cells_lem (atom yes' r) = omega (arith, ref_size 0 r)
  cond_cells_lem (same yes' a b) = omega arith
  cond_cells_lem (compare yes' op a b) = omega (arith, expr_cells a, expr_cells b, length-append (cells_of a) (cells_of b))

  conds_cells_lem : (cs : Conds) → length (conds_cells cs) ≤ conds_size cs
  conds_cells_lem none = omega arith
  conds_cells_lem (cons c cs) = omega (arith, cond_cells_lem c, conds_cells_lem cs, length-append (cond_cells c) (conds_cells cs))

effect_cells_lem : (e : Effect) → length (effect_cells e) ≤ effect_size e
unfolding effect_cells effect_size
effect_cells_lem (becomes yes' r) = omega (arith, ref_size 0 r)
effect_cells_lem (changes how r x) =
    omega (arith, ref_size (change_cell how) r, expr_cells x, length-append (ref_cells (change_cell how) r) (cells_of x))

effects_cells_lem : (es : List Effect) → length (effects_cells es) ≤ effects_size es
unfolding effects_cells effects_size
effects_cells_lem [] = omega arith
effects_cells_lem (e ∷ es) = omega (arith, effect_cells_lem e, effects_cells_lem es, length-append (effect_cells e) (effects_cells es))

list_cells_lem : (es : List Effect) → length (list_cells es) ≤ list_size es
list_cells_lem es = omega (arith, effects_cells_lem es, length-append (effects_cells es) (0 ∷ []))

parts_cells_lem : {A : Type 0} (f : A → List ℕ) (g : A → ℕ) → ((a : A) → length (f a) ≤ g a) → (xs : List (Timed A))
    → length (parts_cells f xs) ≤ parts_size g xs
unfolding parts_cells parts_size
parts_cells_lem f g h [] = omega arith
parts_cells_lem f g h (x ∷ xs) = omega (arith, h x.what, parts_cells_lem f g h xs, length-append (f x.what) (parts_cells f xs))

lasting_cells_lem : (l : Lasting) → length (lasting_cells l) ≤ lasting_size l
unfolding lasting_cells lasting_size
lasting_cells_lem moment = omega arith
lasting_cells_lem (rule x) = omega (arith, expr_cells x)

action_cells_lem : (a : Action) → length (action_cells a) ≤ action_size a
unfolding action_cells
action_cells_lem a =
    let cs = parts_cells cond_cells a.conditions in
    let es = parts_cells list_cells a.effects in
    omega (
      arith,
      length-append (lasting_cells a.lasting) (cs ++ es),
      length-append cs es,
      lasting_cells_lem a.lasting,
      parts_cells_lem cond_cells cond_size cond_cells_lem a.conditions,
      parts_cells_lem list_cells list_size list_cells_lem a.effects,
    )

pub actions_cells_lem : (as' : List Action) → length (actions_cells as') ≤ actions_size as'
unfolding actions_cells actions_size
actions_cells_lem [] = omega arith
actions_cells_lem (a ∷ as') = omega (arith, action_cells_lem a, actions_cells_lem as', length-append (action_cells a) (actions_cells as'))
