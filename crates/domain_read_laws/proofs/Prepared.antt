-- Trees whose names are declared prepare: their variables are few, and their bases have two bytes. So do the actions and the goal that were read.
-- Assumes nothing.
use mathlib.Core.List.{List, [], ◌∷◌}
use Prim.Native.Nat.{ℕ, zero, suc, ◌≤◌, ◌<◌}
use native.Mathlib.Omega.{arith}
use lib.ListN.{length}
use Rattle.domain_meaning.specs.Terms.{Scope, Arg, object, variable, Ref, Expr, number, value, minus, difference, plus}
use Rattle.domain_meaning.specs.Conditions.{Cond, Conds, all, atom, same, compare, none, cons}
use Rattle.domain_meaning.specs.Effects.{Effect, becomes, changes}
use Rattle.domain_meaning.specs.Actions.{Lasting, moment, rule, Action, within}
use Rattle.domain_meaning.specs.Domain.{Domain}
use Rattle.domain_meaning.specs.Problem.{Problem, scope_of}
use Rattle.domain_meaning.specs.Indexes.{bases_of, padded}
use Rattle.domain_prepared_meaning.specs.Forms.{form_of}
use Rattle.domain_prepared_meaning.specs.Good.{PreparesArgs, PreparesRef, PreparesExpr, PreparesCond, PreparesConds, PreparesEffect, PreparesEffects}
use Rattle.domain_prepared_meaning.specs.Good.{PreparesLasting, PreparesAction, PreparesActions}
use Rattle.domain_read_laws.proofs.Named.{NamedArg, NamedArgs, NamedRef, NamedExpr, NamedCond, NamedConds, NamedEffect, NamedEffects, NamedLasting}
use Rattle.domain_read_laws.proofs.Named.{NamedTrees, NamedActions, of_below, parts_also}
use Rattle.domain_read_laws.proofs.Sums.{sums_fit_lem}
use Rattle.domain_read_laws.proofs.Bases.{Firsts, padded_first, base_below}
use Rattle.domain_read_laws.proofs.Whole.{Fitting}

-- ---- trees, in a scope of at most k variables, whose bases have two bytes

module _ (c : Scope) (n : ℕ) (ps fs : List ℕ) (k : ℕ) (few : length c.variables ≤ k)
    (facts : (r : Ref) → NamedRef c c.predicates r → (form_of n ps r).base < 65536)
    (numbers : (r : Ref) → NamedRef c c.functions r → (form_of n fs r).base < 65536) where
  args_prepare : (xs : List Arg) → NamedArgs c xs → PreparesArgs k xs
  unfolding NamedArgs NamedArg PreparesArgs
  args_prepare [] h = tt
  args_prepare (object i ∷ xs) h = args_prepare xs h.1
  args_prepare (variable i ∷ xs) h = (omega (arith, h.0), args_prepare xs h.1)

  fact_prepares : (r : Ref) → NamedRef c c.predicates r → PreparesRef n ps k r
  fact_prepares r h = record { base = facts r h; args = args_prepare r.args h.args }

  number_prepares : (r : Ref) → NamedRef c c.functions r → PreparesRef n fs k r
  number_prepares r h = record { base = numbers r h; args = args_prepare r.args h.args }

  expr_prepares : (d : ℕ) (x : Expr) → NamedExpr c d x → PreparesExpr n ps fs k x
  unfolding NamedExpr PreparesExpr
  expr_prepares zero x h = absurd h
  expr_prepares (suc d) (number z) h = tt
  expr_prepares (suc d) (value r) h = number_prepares r h
  expr_prepares (suc d) (minus a) h = expr_prepares d a h
  expr_prepares (suc d) (difference a b) h = (expr_prepares d a h.0, expr_prepares d b h.1)
  expr_prepares (suc d) (plus a b) h = (expr_prepares d a h.0, expr_prepares d b h.1)

  mutual
    unfolding NamedCond NamedConds PreparesCond PreparesConds

    cond_prepares : (x : Cond) (d : ℕ) → NamedCond c d x → PreparesCond n ps fs k x
    cond_prepares (all cs) d h = of_below _ d (λ e g. conds_prepare cs e g) h
    cond_prepares (atom yes' r) d h = of_below _ d (λ e g. fact_prepares r g) h
    cond_prepares (same yes' a b) d h = tt
    cond_prepares (compare yes' op a b) d h = of_below _ d (λ e g. (expr_prepares 16 a g.0, expr_prepares 16 b g.1)) h

    conds_prepare : (xs : Conds) (d : ℕ) → NamedConds c d xs → PreparesConds n ps fs k xs
    conds_prepare none d h = tt
    conds_prepare (cons x xs) d h = (cond_prepares x d h.0, conds_prepare xs d h.1)

  effect_prepares : (e : Effect) → NamedEffect c e → PreparesEffect n ps fs k e
  unfolding NamedEffect PreparesEffect
  effect_prepares (becomes yes' r) h = fact_prepares r h
  effect_prepares (changes how r x) h = (number_prepares r h.0, expr_prepares 16 x h.1)

  effects_prepare : (es : List Effect) → NamedEffects c es → PreparesEffects n ps fs k es
  unfolding NamedEffects PreparesEffects
  effects_prepare [] h = tt
  effects_prepare (e ∷ es) h = (effect_prepares e h.0, effects_prepare es h.1)

  lasting_prepares : (l : Lasting) → NamedLasting c l → PreparesLasting n ps fs k l
  unfolding NamedLasting PreparesLasting
  lasting_prepares moment h = tt
  lasting_prepares (rule x) h = expr_prepares 16 x h

  trees_prepare : (a : Action) → NamedTrees c a → PreparesAction n ps fs k a
  trees_prepare a h =
      record {
        lasting = lasting_prepares a.lasting h.lasting;
        conditions = parts_also (NamedCond c 16) (PreparesCond n ps fs k) (λ x. cond_prepares x 16) a.conditions h.conditions;
        effects = parts_also (NamedEffects c) (PreparesEffects n ps fs k) effects_prepare a.effects h.effects;
      }

-- ---- a domain and a problem that were read, ps and fs being the first indexes of predicates and functions

module _ (d : Domain) (p : Problem) (g : Fitting d p) (ps fs : List ℕ) (facts : Firsts (length p.objects) d.predicates ps)
    (numbers : Firsts (length p.objects) d.functions fs) where
  abbrev n : ℕ
  n = length p.objects

  -- in a scope with some of the objects, a fact's base is below 16,384, and a number's below 1,024
  pub fact_base : (c : Scope) → length c.objects ≤ n → (r : Ref) → NamedRef c d.predicates r → (form_of n ps r).base < 16384
  fact_base c l r h =
      base_below c n d.predicates ps l g.domain.predicates.kept.signed facts r h 16384 (sums_fit_lem (scope_of d p.objects) g.problem.sums).0
      (omega (arith, g.domain.predicates.few))

  pub number_base : (c : Scope) → length c.objects ≤ n → (r : Ref) → NamedRef c d.functions r → (form_of n fs r).base < 1024
  number_base c l r h =
      base_below c n d.functions fs l g.domain.functions.kept.signed numbers r h 1024 (sums_fit_lem (scope_of d p.objects) g.problem.sums).1
      (omega (arith, g.domain.functions.few))

  of_actions : (as' : List Action) → NamedActions (scope_of d d.constants) as' → PreparesActions n ps fs 4 as'
  unfolding NamedActions PreparesActions
  of_actions [] h = tt
  of_actions (a ∷ as') h =
      let c = within (scope_of d d.constants) h.0.parameters in (
        trees_prepare c n ps fs 4 h.0.few (λ r k. omega (arith, fact_base c g.problem.more r k))
            (λ r k. omega (arith, number_base c g.problem.more r k)) a h.0.trees,
        of_actions as' h.1,
      )

  pub actions_prepare : PreparesActions n ps fs 4 d.actions
  actions_prepare = of_actions d.actions g.domain.named

  pub goal_prepares : PreparesCond n ps fs 0 p.goal
  goal_prepares =
      let c = scope_of d p.objects in
      let l : length c.objects ≤ n = omega arith in
      let few : length c.variables ≤ 0 = omega arith in
      cond_prepares c n ps fs 0 few (λ r k. omega (arith, fact_base c l r k)) (λ r k. omega (arith, number_base c l r k)) p.goal 16 g.problem.named

-- both prepare by the first indexes, also with zeros after them as the model holds them
pub record Prepared (d : Domain) (p : Problem) (ps fs : List ℕ) : Type 0 where
  pub actions : PreparesActions (length p.objects) ps fs 4 d.actions
  pub goal : PreparesCond (length p.objects) ps fs 0 p.goal

module _ (d : Domain) (p : Problem) (g : Fitting d p) where
  pub firsts_prepare : (ps fs : List ℕ) → Firsts (length p.objects) d.predicates ps → Firsts (length p.objects) d.functions fs → Prepared d p ps fs
  firsts_prepare ps fs h k = record { actions = actions_prepare d p g ps fs h k; goal = goal_prepares d p g ps fs h k }

  pub padded_prepare : Prepared d p (padded 32 (bases_of (length p.objects) d.predicates)) (padded 16 (bases_of (length p.objects) d.functions))
  padded_prepare =
      firsts_prepare _ _ (padded_first (length p.objects) 32 d.predicates g.domain.predicates.few)
      (padded_first (length p.objects) 16 d.functions g.domain.functions.few)
