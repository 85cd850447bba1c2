-- How prepared actions lie in rows of bytes. Byte 0 is the number of objects; then, for each of 32 actions, six places of two bytes, lowest first: its
-- duration rule, its single conditions at start, over all, at end, its effects at start, at end; then the lists themselves, each up to a 0.
-- The first byte of a row says what it is and how many of its arguments are parameters.
use Rattle.std.specs.Prelude.{ℕ, ◌+◌, ◌*◌, ◌/◌, ◌%◌, List, [], ◌∷◌, ◌++◌, cond, length}
use Rattle.domain_meaning.specs.Terms.{Arg, object, variable, Ref, Expr, number, value, minus, difference, plus}
use Rattle.domain_meaning.specs.Conditions.{Cond, all, atom, same, compare}
use Rattle.domain_meaning.specs.Effects.{Effect, becomes, changes}
use Rattle.domain_meaning.specs.Actions.{start, whole, end, Lasting, moment, rule, Action}
use Rattle.domain_literals.specs.Literal.{number_cells}
use Rattle.domain_terms.specs.Cells.{cell_of}
use Rattle.domain_stored_meaning.specs.Cells.{comparison_cell, change_cell}
use Rattle.domain_prepared_meaning.specs.Forms.{Form, form_of}
use Rattle.domain_prepared_meaning.specs.Preparing.{tests_for, effects_for}

abbrev pub two_bytes : ℕ → List ℕ
two_bytes x = (x % 256) ∷ (x / 256 % 256) ∷ []

-- of each argument that is a parameter: its number, and 4 for each argument after it
unfoldable pub share_bytes : List Arg → List ℕ
share_bytes [] = []
share_bytes (object i ∷ as') = share_bytes as'
share_bytes (variable i ∷ as') = (i + 4 * length as') ∷ share_bytes as'

-- with n objects, the first indexes of predicates (ps) and of functions (fs)
module _ (n : ℕ) (ps fs : List ℕ) where
  -- a tag with the count of parameters, the base, the parameters
  abbrev pub form_bytes : ℕ → List ℕ → Ref → List ℕ
  form_bytes tag firsts r = (tag + length (share_bytes r.args)) ∷ (two_bytes (form_of n firsts r).base ++ share_bytes r.args)

  -- the first byte: 0, 1, 2 for `-` of one, `-` of two, `+`; 5 to 7 a function with none to two parameters; 16 or more a number
  unfoldable pub expr_bytes : Expr → List ℕ
  expr_bytes (number z) = number_cells z
  expr_bytes (value r) = form_bytes 5 fs r
  expr_bytes (minus a) = 0 ∷ expr_bytes a
  expr_bytes (difference a b) = 1 ∷ (expr_bytes a ++ expr_bytes b)
  expr_bytes (plus a b) = 2 ∷ (expr_bytes a ++ expr_bytes b)

  -- a single condition: 2 and 3 an equality of objects, as it is written and under `not`; 4 to 7 a fact with none to three parameters, 8 to 11 the same
  -- under `not`; 12 to 16 a comparison, 17 to 21 the same under `not`
  unfoldable pub test_bytes : Cond → List ℕ
  test_bytes (all cs) = []
  test_bytes (atom yes' r) = form_bytes (cond yes' 4 8) ps r
  test_bytes (same yes' a b) = cond yes' 2 3 ∷ cell_of a ∷ cell_of b ∷ []
  test_bytes (compare yes' op a b) = (cond yes' 12 17 + comparison_cell op) ∷ (expr_bytes a ++ expr_bytes b)

  -- an effect: 4 to 7 a fact that becomes true, 8 to 11 false; from 12 on a number with none to two parameters that is assigned, from 15 raised, from
  -- 18 lowered, by the expression after it
  unfoldable pub effect_bytes : Effect → List ℕ
  effect_bytes (becomes yes' r) = form_bytes (cond yes' 4 8) ps r
  effect_bytes (changes how r e) = form_bytes (change_cell how) fs r ++ expr_bytes e

  -- lists, up to a 0
  unfoldable pub tests_bytes : List Cond → List ℕ
  tests_bytes [] = 0 ∷ []
  tests_bytes (c ∷ cs) = test_bytes c ++ tests_bytes cs

  unfoldable pub effects_bytes : List Effect → List ℕ
  effects_bytes [] = 0 ∷ []
  effects_bytes (e ∷ es) = effect_bytes e ++ effects_bytes es

  unfoldable pub lasts_bytes : Lasting → List ℕ
  lasts_bytes moment = 0 ∷ []
  lasts_bytes (rule e) = 1 ∷ expr_bytes e

  -- ---- the lists of an action, and where they begin

  unfoldable pub action_bytes : Action → List ℕ
  action_bytes a =
      lasts_bytes a.lasting
      ++ (tests_bytes (tests_for start a)
      ++ (tests_bytes (tests_for whole a)
      ++ (tests_bytes (tests_for end a) ++ (effects_bytes (effects_for start a) ++ effects_bytes (effects_for end a)))))

  unfoldable pub actions_bytes : List Action → List ℕ
  actions_bytes [] = []
  actions_bytes (a ∷ as') = action_bytes a ++ actions_bytes as'

  abbrev pub sizes : Action → List ℕ
  sizes a =
      length (lasts_bytes a.lasting) ∷ length (tests_bytes (tests_for start a)) ∷ length (tests_bytes (tests_for whole a))
      ∷ length (tests_bytes (tests_for end a)) ∷ length (effects_bytes (effects_for start a)) ∷ []

  -- u, and u with the first of the sizes, and so on, of two bytes each
  unfoldable pub places_from : ℕ → List ℕ → List ℕ
  places_from u [] = two_bytes u
  places_from u (k ∷ ks) = two_bytes u ++ places_from (u + k) ks

  unfoldable pub all_places : ℕ → List Action → List ℕ
  all_places u [] = []
  all_places u (a ∷ as') = places_from u (sizes a) ++ all_places (u + length (action_bytes a)) as'

-- where the lists begin: after the number of objects and 32 times six places of two bytes
abbrev pub lists_at : ℕ
lists_at = 385
