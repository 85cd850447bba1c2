-- What stands at a place of the code: any cells give a tree, and the place after it. Each node tests once that it is within the code, and a cell past
-- the end is 0. A first cell that begins nothing gives the number 0, a condition that holds, or the end of a list.
use Rattle.std.specs.Prelude.{ℕ, zero, suc, ◌+◌, ◌-◌, ◌*◌, List, [], ◌∷◌, Bool, true, false, cond, ltb, eqb, ℤ, pos, length}
use Rattle.domain_meaning.specs.Tables.{Entry, Table}
use Rattle.domain_meaning.specs.Terms.{Arg, object, variable, Ref, Expr, number, value, minus, difference, plus}
use Rattle.domain_meaning.specs.Conditions.{Comparison, Cond, Conds, all, atom, same, compare, none, cons}
use Rattle.domain_meaning.specs.Conditions as C
use Rattle.domain_meaning.specs.Effects.{Change, assign, raise, lower, Effect, becomes, changes}
use Rattle.domain_meaning.specs.Actions.{When, start, whole, end, Timed, Lasting, moment, rule, Action}
use Rattle.domain_literals.specs.Literal.{size_in, is_whole, value_in}
use Rattle.domain_rows.specs.Held.{byte_at}

pub record Decoded (A : Type 0) : Type 0 where
  pub tree : A
  pub next : ℕ

abbrev pub decoded : {A : Type 0} → A → ℕ → Decoded A
decoded x n = record { tree = x; next = n }

abbrev pub mapped : {A B : Type 0} → (A → B) → Decoded A → Decoded B
mapped f a = decoded (f a.tree) a.next

-- two trees, the second read by g after the first
abbrev pub both : {A B C : Type 0} → (A → B → C) → Decoded A → (ℕ → Decoded B) → Decoded C
both f a g = mapped (f a.tree) (g a.next)

-- ---- arguments: an object below 64, or 64 and a parameter's number

unfoldable pub arg_of : ℕ → Arg
arg_of x = cond (ltb x 64) (object x) (variable (x - 64))

unfoldable pub args_at : List ℕ → ℕ → ℕ → List Arg
args_at code at zero = []
args_at code at (suc k) = arg_of (byte_at code at) ∷ args_at code (at + 1) k

-- after its tag, which says the count k of arguments: the head's number, the arguments
unfoldable pub ref_at : List ℕ → ℕ → ℕ → Ref
ref_at code at k = record { head = byte_at code at; args = args_at code (at + 1) k }

-- ---- numbers: after the first cell its k bytes, lowest first

unfoldable pub little_at : List ℕ → ℕ → ℕ → ℕ
little_at code at zero = 0
little_at code at (suc k) = byte_at code at + 256 * little_at code (at + 1) k

unfoldable pub number_at : List ℕ → ℕ → ℕ → ℤ
number_at code at tag = value_in tag (cond (is_whole tag) (little_at code at (size_in tag) * 1000) (little_at code at (size_in tag)))

-- ---- expressions: 0, 1, 2 for `-` of one, `-` of two, `+`; 5 to 7 a function of none to two arguments; from 16 on a number, of at most five bytes

abbrev pub no_expr : ℕ → Decoded Expr
no_expr n = decoded (number (pos 0)) n

unfoldable pub leaf_at : List ℕ → ℕ → ℕ → Decoded Expr
leaf_at code at tag =
    cond (ltb tag 5) (no_expr (at + 1))
    (cond (ltb tag 8) (decoded (value (ref_at code (at + 1) (tag - 5))) (at + 2 + (tag - 5)))
    (cond (ltb tag 16) (no_expr (at + 1))
    (cond (ltb (size_in tag) 6) (decoded (number (number_at code (at + 1) tag)) (at + 1 + size_in tag)) (no_expr (at + 1)))))

-- f reads an operand
unfoldable pub expr_node : (ℕ → Decoded Expr) → List ℕ → ℕ → ℕ → Decoded Expr
expr_node f code at tag =
    cond (eqb tag 0) (mapped minus (f (at + 1)))
    (cond (eqb tag 1) (both difference (f (at + 1)) f)
    (cond (eqb tag 2) (both plus (f (at + 1)) f) (leaf_at code at tag)))

-- at most so many levels deep
unfoldable pub expr_at : ℕ → List ℕ → ℕ → Decoded Expr
expr_at zero code at = no_expr at
expr_at (suc d) code at = cond (ltb at (length code)) (expr_node (expr_at d code) code at (byte_at code at)) (no_expr at)

-- brackets are at most 16 deep
abbrev pub expression_at : List ℕ → ℕ → Decoded Expr
expression_at code at = expr_at 16 code at

-- ---- conditions: 1 is `and`; 2 and 3 an equality of objects, as it is written and under `not`; 4 to 7 a fact of none to three arguments,
-- 8 to 11 the same under `not`; 12 to 16 a comparison, 17 to 21 the same under `not`

abbrev pub no_cond : ℕ → Decoded Cond
no_cond n = decoded (all none) n

unfoldable pub comparison_of : ℕ → Comparison
comparison_of op = cond (eqb op 0) C.equal (cond (eqb op 1) C.less (cond (eqb op 2) C.at_most (cond (eqb op 3) C.more C.at_least)))

unfoldable pub atom_at : List ℕ → ℕ → Bool → ℕ → Decoded Cond
atom_at code at yes' k = decoded (atom yes' (ref_at code (at + 1) k)) (at + 2 + k)

unfoldable pub same_at : List ℕ → ℕ → Bool → Decoded Cond
same_at code at yes' = decoded (same yes' (arg_of (byte_at code (at + 1))) (arg_of (byte_at code (at + 2)))) (at + 3)

unfoldable pub compare_at : List ℕ → ℕ → Bool → ℕ → Decoded Cond
compare_at code at yes' op = both (compare yes' (comparison_of op)) (expression_at code (at + 1)) (expression_at code)

-- a condition without parts
unfoldable pub single_at : List ℕ → ℕ → ℕ → Decoded Cond
single_at code at tag =
    cond (ltb tag 2) (no_cond (at + 1))
    (cond (ltb tag 4) (same_at code at (eqb tag 2))
    (cond (ltb tag 8) (atom_at code at true (tag - 4))
    (cond (ltb tag 12) (atom_at code at false (tag - 8))
    (cond (ltb tag 17) (compare_at code at true (tag - 12))
    (cond (ltb tag 22) (compare_at code at false (tag - 17)) (no_cond (at + 1)))))))

-- conditions up to a 0; f reads one. The number bounds the steps: a list has at most as many parts as the code has cells
unfoldable pub conds_at : (ℕ → Decoded Cond) → ℕ → List ℕ → ℕ → Decoded Conds
conds_at f zero code at = decoded none at
conds_at f (suc n) code at =
    cond (ltb at (length code)) (cond (eqb (byte_at code at) 0) (decoded none (at + 1)) (both cons (f at) (λ i. conds_at f n code i))) (decoded none at)

-- f reads a part of an `and`
unfoldable pub cond_node : (ℕ → Decoded Cond) → List ℕ → ℕ → ℕ → Decoded Cond
cond_node f code at tag = cond (eqb tag 1) (mapped all (conds_at f (length code) code (at + 1))) (single_at code at tag)

unfoldable pub cond_at : ℕ → List ℕ → ℕ → Decoded Cond
cond_at zero code at = no_cond at
cond_at (suc d) code at = cond (ltb at (length code)) (cond_node (cond_at d code) code at (byte_at code at)) (no_cond at)

abbrev pub condition_at : List ℕ → ℕ → Decoded Cond
condition_at code at = cond_at 16 code at

-- ---- effects: 4 to 7 a fact that becomes true, 8 to 11 false; from 12 on a number of none to two arguments that is assigned, from 15 raised,
-- from 18 lowered, by the expression after it

abbrev pub becomes_at : List ℕ → ℕ → Bool → ℕ → Decoded Effect
becomes_at code at yes' k = decoded (becomes yes' (ref_at code (at + 1) k)) (at + 2 + k)

abbrev pub change_at : List ℕ → ℕ → Change → ℕ → Decoded Effect
change_at code at how k = mapped (changes how (ref_at code (at + 1) k)) (expression_at code (at + 2 + k))

unfoldable pub effect_at : List ℕ → ℕ → ℕ → Decoded Effect
effect_at code at tag =
    cond (ltb tag 8) (becomes_at code at true (tag - 4))
    (cond (ltb tag 12) (becomes_at code at false (tag - 8))
    (cond (ltb tag 15) (change_at code at assign (tag - 12))
    (cond (ltb tag 18) (change_at code at raise (tag - 15)) (change_at code at lower (tag - 18)))))

-- whether an effect begins
unfoldable pub begins : ℕ → Bool
begins tag = cond (ltb tag 4) false (ltb tag 21)

-- effects up to a cell that begins none
unfoldable pub effects_at : ℕ → List ℕ → ℕ → Decoded (List Effect)
effects_at zero code at = decoded [] at
effects_at (suc n) code at =
    cond (ltb at (length code))
    (cond (begins (byte_at code at)) (both ◌∷◌ (effect_at code at (byte_at code at)) (λ i. effects_at n code i)) (decoded [] (at + 1))) (decoded [] at)

abbrev pub effect_list_at : List ℕ → ℕ → Decoded (List Effect)
effect_list_at code at = effects_at (length code) code at

-- ---- actions: the duration rule, after 1, or 0 for none; the parts of the condition, of the effect: 1 at the start, 2 over all, 3 at the end, 0 ends them

unfoldable pub when_of : ℕ → When
when_of tag = cond (eqb tag 1) start (cond (eqb tag 2) whole end)

abbrev pub timed : {A : Type 0} → When → A → List (Timed A) → List (Timed A)
timed w x xs = record { when = w; what = x } ∷ xs

-- f reads what stands in a part
unfoldable pub parts_at : {A : Type 0} → (ℕ → Decoded A) → ℕ → List ℕ → ℕ → Decoded (List (Timed A))
parts_at f zero code at = decoded [] at
parts_at f (suc n) code at =
    cond (ltb at (length code))
    (cond (eqb (byte_at code at) 0) (decoded [] (at + 1)) (both (timed (when_of (byte_at code at))) (f (at + 1)) (λ i. parts_at f n code i))) (decoded [] at)

abbrev pub conditions_at : List ℕ → ℕ → Decoded (List (Timed Cond))
conditions_at code at = parts_at (condition_at code) (length code) code at

abbrev pub effect_parts_at : List ℕ → ℕ → Decoded (List (Timed (List Effect)))
effect_parts_at code at = parts_at (effect_list_at code) (length code) code at

unfoldable pub lasting_at : List ℕ → ℕ → Decoded Lasting
lasting_at code at =
    cond (ltb at (length code)) (cond (eqb (byte_at code at) 0) (decoded moment (at + 1)) (mapped rule (expression_at code (at + 1)))) (decoded moment at)

-- the action that e declares, from the places of its duration rule, its condition and its effect
unfoldable pub action_from : List ℕ → ℕ → ℕ → ℕ → Entry → Action
action_from code p q r e =
    record {
      declared = e;
      lasting = (lasting_at code p).tree;
      conditions = (conditions_at code q).tree;
      effects = (effect_parts_at code r).tree;
    }

-- action j, whose places are three of the starts
unfoldable pub action_at : List ℕ → List ℕ → ℕ → Entry → Action
action_at code starts j e = action_from code (byte_at starts (3 * j)) (byte_at starts (3 * j + 1)) (byte_at starts (3 * j + 2)) e

-- the declared actions, from number j on
unfoldable pub actions_at : List ℕ → List ℕ → ℕ → Table → List Action
actions_at code starts j [] = []
actions_at code starts j (e ∷ es) = action_at code starts j e ∷ actions_at code starts (j + 1) es
