-- What prepared rows mean: any bytes give actions, and a goal. A byte past the end is 0. Each row tests once that it is within the rows; a first byte that
-- begins nothing ends a list, or gives the number 0.
use Rattle.std.specs.Prelude.{ℕ, zero, suc, ◌+◌, ◌-◌, ◌*◌, ◌/◌, ◌%◌, ◌^◌, List, [], ◌∷◌, Bool, true, false, cond, ltb, eqb, pos, length}
use Rattle.domain_meaning.specs.Tables.{Entry, Table, entry}
use Rattle.domain_meaning.specs.Terms.{Expr, number, value, minus, difference, plus}
use Rattle.domain_meaning.specs.Conditions.{Cond, all, atom, same, compare}
use Rattle.domain_meaning.specs.Effects.{Change, assign, raise, lower, Effect, becomes, changes}
use Rattle.domain_meaning.specs.Actions.{Lasting, moment, rule, Action}
use Rattle.domain_literals.specs.Literal.{size_in}
use Rattle.domain_rows.specs.Held.{byte_at}
use Rattle.domain_stored_meaning.specs.Decode.{Decoded, decoded, mapped, both, arg_of, number_at, no_expr, comparison_of}
use Rattle.domain_prepared_meaning.specs.Forms.{Share, share, Form, form, ref_by}
use Rattle.domain_prepared_meaning.specs.Preparing.{conds_of, action_by}

abbrev pub word_at : List ℕ → ℕ → ℕ
word_at rows i = byte_at rows i + 256 * byte_at rows (i + 1)

-- ---- forms: the base, then of each of v parameters one byte, its number and 4 times the power of its stride

abbrev pub share_in : List ℕ → ℕ → Share
share_in rows x = share (x % 4) (byte_at rows 0 ^ (x / 4 % 4))

unfoldable pub shares_at : List ℕ → ℕ → ℕ → List Share
shares_at rows at zero = []
shares_at rows at (suc v) = share_in rows (byte_at rows at) ∷ shares_at rows (at + 1) v

-- after its tag, which says the count v of parameters
unfoldable pub form_at : List ℕ → ℕ → ℕ → Form
form_at rows at v = form (word_at rows at) (shares_at rows (at + 2) v)

-- ---- expressions

unfoldable pub leaf_at : List ℕ → ℕ → ℕ → Decoded Expr
leaf_at rows at tag =
    cond (ltb tag 5) (no_expr (at + 1))
    (cond (ltb tag 8) (decoded (value (ref_by (form_at rows (at + 1) (tag - 5)))) (at + 3 + (tag - 5)))
    (cond (ltb tag 16) (no_expr (at + 1))
    (cond (ltb (size_in tag) 6) (decoded (number (number_at rows (at + 1) tag)) (at + 1 + size_in tag)) (no_expr (at + 1)))))

-- f reads an operand
unfoldable pub expr_node : (ℕ → Decoded Expr) → List ℕ → ℕ → ℕ → Decoded Expr
expr_node f rows at tag =
    cond (eqb tag 0) (mapped minus (f (at + 1)))
    (cond (eqb tag 1) (both difference (f (at + 1)) f)
    (cond (eqb tag 2) (both plus (f (at + 1)) f) (leaf_at rows at tag)))

-- at most so many levels deep
unfoldable pub expr_at : ℕ → List ℕ → ℕ → Decoded Expr
expr_at zero rows at = no_expr at
expr_at (suc d) rows at = cond (ltb at (length rows)) (expr_node (expr_at d rows) rows at (byte_at rows at)) (no_expr at)

-- brackets are at most 16 deep
abbrev pub expression_at : List ℕ → ℕ → Decoded Expr
expression_at rows at = expr_at 16 rows at

-- ---- single conditions

-- whether a single condition begins
unfoldable pub begins_test : ℕ → Bool
begins_test tag = cond (ltb tag 2) false (ltb tag 22)

abbrev pub same_at : List ℕ → ℕ → Bool → Decoded Cond
same_at rows at yes' = decoded (same yes' (arg_of (byte_at rows (at + 1))) (arg_of (byte_at rows (at + 2)))) (at + 3)

abbrev pub atom_at : List ℕ → ℕ → Bool → ℕ → Decoded Cond
atom_at rows at yes' v = decoded (atom yes' (ref_by (form_at rows (at + 1) v))) (at + 3 + v)

abbrev pub compare_at : List ℕ → ℕ → Bool → ℕ → Decoded Cond
compare_at rows at yes' op = both (compare yes' (comparison_of op)) (expression_at rows (at + 1)) (expression_at rows)

unfoldable pub test_at : List ℕ → ℕ → ℕ → Decoded Cond
test_at rows at tag =
    cond (ltb tag 4) (same_at rows at (eqb tag 2))
    (cond (ltb tag 8) (atom_at rows at true (tag - 4))
    (cond (ltb tag 12) (atom_at rows at false (tag - 8))
    (cond (ltb tag 17) (compare_at rows at true (tag - 12)) (compare_at rows at false (tag - 17)))))

-- those of a list, up to a byte that begins none. The number bounds the steps: a list has at most as many rows as there are bytes
unfoldable pub tests_from : ℕ → List ℕ → ℕ → List Cond
tests_from zero rows at = []
tests_from (suc n) rows at =
    cond (ltb at (length rows))
    (cond (begins_test (byte_at rows at))
    ((test_at rows at (byte_at rows at)).tree ∷ tests_from n rows (test_at rows at (byte_at rows at)).next) []) []

abbrev pub tests_at : List ℕ → ℕ → List Cond
tests_at rows at = tests_from (length rows) rows at

-- ---- effects

-- whether an effect begins
unfoldable pub begins_effect : ℕ → Bool
begins_effect tag = cond (ltb tag 4) false (ltb tag 21)

abbrev pub becomes_at : List ℕ → ℕ → Bool → ℕ → Decoded Effect
becomes_at rows at yes' v = decoded (becomes yes' (ref_by (form_at rows (at + 1) v))) (at + 3 + v)

abbrev pub change_at : List ℕ → ℕ → Change → ℕ → Decoded Effect
change_at rows at how v = mapped (changes how (ref_by (form_at rows (at + 1) v))) (expression_at rows (at + 3 + v))

unfoldable pub effect_at : List ℕ → ℕ → ℕ → Decoded Effect
effect_at rows at tag =
    cond (ltb tag 8) (becomes_at rows at true (tag - 4))
    (cond (ltb tag 12) (becomes_at rows at false (tag - 8))
    (cond (ltb tag 15) (change_at rows at assign (tag - 12))
    (cond (ltb tag 18) (change_at rows at raise (tag - 15)) (change_at rows at lower (tag - 18)))))

unfoldable pub effects_from : ℕ → List ℕ → ℕ → List Effect
effects_from zero rows at = []
effects_from (suc n) rows at =
    cond (ltb at (length rows))
    (cond (begins_effect (byte_at rows at))
    ((effect_at rows at (byte_at rows at)).tree ∷ effects_from n rows (effect_at rows at (byte_at rows at)).next) []) []

abbrev pub effects_at : List ℕ → ℕ → List Effect
effects_at rows at = effects_from (length rows) rows at

-- ---- actions, and the goal

unfoldable pub lasts_at : List ℕ → ℕ → Lasting
lasts_at rows at =
    cond (ltb at (length rows)) (cond (eqb (byte_at rows at) 0) moment (rule (expression_at rows (at + 1)).tree)) moment

-- where list j of action a begins: 0 the duration rule; 1, 2, 3 the single conditions at start, over all, at end; 4, 5 the effects at start, at end
unfoldable pub place_in : List ℕ → ℕ → ℕ → ℕ
place_in rows a j = word_at rows (1 + 12 * a + 2 * j)

-- an action of which only the declaration is known
abbrev pub declares : Entry → Action
declares e = record { declared = e; lasting = moment; conditions = []; effects = [] }

unfoldable pub action_at : List ℕ → ℕ → Entry → Action
action_at rows a e =
    action_by (declares e) (lasts_at rows (place_in rows a 0)) (tests_at rows (place_in rows a 1)) (tests_at rows (place_in rows a 2))
    (tests_at rows (place_in rows a 3)) (effects_at rows (place_in rows a 4)) (effects_at rows (place_in rows a 5))

-- the declared actions, from number a on
unfoldable pub actions_at : List ℕ → ℕ → Table → List Action
actions_at rows a [] = []
actions_at rows a (e ∷ es) = action_at rows a e ∷ actions_at rows (a + 1) es

unfoldable pub goal_at : List ℕ → Cond
goal_at goal = all (conds_of (tests_at goal 0))
