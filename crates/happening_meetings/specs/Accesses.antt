-- What is done at facts and numbers, as a list of accesses; and when two lists meet. Nothing here speaks of marks.
use Rattle.std.specs.Prelude.{ℕ, ◌+◌, List, [], ◌∷◌, ◌++◌, Bool, false, cond, not, ◌&&◌, ◌||◌, ltb, eqb}
use Rattle.domain_meaning.specs.Terms.{Expr, number, value, minus, difference, plus}
use Rattle.domain_meaning.specs.Conditions.{Cond, Conds, all, atom, same, compare, none, cons}
use Rattle.domain_meaning.specs.Effects.{Change, assign, raise, lower, Effect, becomes, changes}
use Rattle.domain_meaning.specs.Actions.{Lasting, moment, rule}
use Rattle.happening_meaning.specs.State.{Grounds, fact_of, number_of}
use Rattle.happening_meaning.specs.Writes.{some}
use Rattle.happening_meaning.specs.Happening.{Point, objects_of, conditions_of, effects_of, rule_of}
use Rattle.happening_meetings.specs.declared.walks.Kind.{Kind}
use Rattle.happening_meetings.specs.declared.walks.Kind.TheVariants.{Reads, Adds, Deletes, Assigns}

-- what is done at a cell: 0 reads it, 1 adds or raises it, 2 deletes it, 3 assigns it
pub record Access : Type 0 where
  pub kind : ℕ
  pub index : ℕ

abbrev pub access : ℕ → ℕ → Access
access k x = record { kind = k; index = x }

-- by the code's word for it
abbrev pub kind_of : Kind → ℕ
kind_of Reads = 0
kind_of Adds = 1
kind_of Deletes = 2
kind_of Assigns = 3

-- two points may do the same at one cell, unless they assign
unfoldable pub clash : ℕ → ℕ → Bool
clash k l = not (eqb k l) || eqb k 3

unfoldable pub clashes : Access → Access → Bool
clashes a b = eqb a.index b.index && clash a.kind b.kind

unfoldable pub meet : List Access → List Access → Bool
meet p q = some (λ a. some (clashes a) q) p

unfoldable pub some_pair : List (List Access) → Bool
some_pair [] = false
some_pair (p ∷ ps) = some (meet p) ps || some_pair ps

-- ---- cells: 16,384 facts, then 1,024 numbers; an index past them counts as the first, which can only make more points meet

unfoldable pub fact_cell : ℕ → ℕ
fact_cell x = cond (ltb x 16384) x 0

unfoldable pub number_cell : ℕ → ℕ
number_cell x = cond (ltb x 1024) (16384 + x) 0

-- ---- the accesses of trees, os being the objects of the point

-- "unless both only raise or lower it"
abbrev pub changing : Change → ℕ
changing assign = 3
changing raise = 1
changing lower = 1

module _ (g : Grounds) (os : List ℕ) where
  unfoldable pub expr_accesses : Expr → List Access
  expr_accesses (number z) = []
  expr_accesses (value r) = access 0 (number_cell (number_of g os r)) ∷ []
  expr_accesses (minus e) = expr_accesses e
  expr_accesses (difference a b) = expr_accesses a ++ expr_accesses b
  expr_accesses (plus a b) = expr_accesses a ++ expr_accesses b

  unfoldable mutual
    pub cond_accesses : Cond → List Access
    cond_accesses (all cs) = conds_accesses cs
    cond_accesses (atom yes' r) = access 0 (fact_cell (fact_of g os r)) ∷ []
    cond_accesses (same yes' a b) = []
    cond_accesses (compare yes' op a b) = expr_accesses a ++ expr_accesses b

    pub conds_accesses : Conds → List Access
    conds_accesses none = []
    conds_accesses (cons c cs) = cond_accesses c ++ conds_accesses cs

  unfoldable pub tests_accesses : List Cond → List Access
  tests_accesses [] = []
  tests_accesses (c ∷ cs) = cond_accesses c ++ tests_accesses cs

  unfoldable pub rule_accesses : Lasting → List Access
  rule_accesses moment = []
  rule_accesses (rule e) = expr_accesses e

  -- the write, then what the right side reads
  unfoldable pub effect_accesses : Effect → List Access
  effect_accesses (becomes yes' r) = access (cond yes' 1 2) (fact_cell (fact_of g os r)) ∷ []
  effect_accesses (changes how r e) = access (changing how) (number_cell (number_of g os r)) ∷ expr_accesses e

  unfoldable pub effects_accesses : List Effect → List Access
  effects_accesses [] = []
  effects_accesses (e ∷ es) = effect_accesses e ++ effects_accesses es

  abbrev pub all_accesses : List Cond → Lasting → List Effect → List Access
  all_accesses cs l es = tests_accesses cs ++ (rule_accesses l ++ effects_accesses es)

unfoldable pub point_accesses : Grounds → Point → List Access
point_accesses g p = all_accesses g (objects_of p) (conditions_of p) (rule_of p) (effects_of p)
