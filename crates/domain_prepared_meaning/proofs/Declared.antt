-- What a plan's lines see of a prepared action: what it declares and whether it lasts. Assumes nothing.
use mathlib.Core.Path.{◌≡◌, refl, ap₂}
use mathlib.Core.List.{List, [], ◌∷◌, map}
use Prim.Native.Nat.{ℕ}
use Rattle.domain_meaning.specs.Terms.{Expr}
use Rattle.domain_meaning.specs.Actions.{moment, rule, Action}
use Rattle.domain_prepared_meaning.specs.Preparing.{expr, lasts, action_by, action_of}

module _ (n : ℕ) (ps fs : List ℕ) where
  pub declared_same : (a : Action) → (action_of n ps fs a).declared ≡ a.declared
  unfolding action_of action_by
  declared_same a = refl

  pub all_declared : (as' : List Action) → map (λ (a : Action). a.declared) (map (action_of n ps fs) as') ≡ map (λ (a : Action). a.declared) as'
  all_declared [] = refl
  all_declared (a ∷ as') = ap₂ ◌∷◌ (declared_same a) (all_declared as')

  pub lasting_same : (a : Action) → (action_of n ps fs a).lasting ≡ lasts n ps fs a.lasting
  unfolding action_of action_by
  lasting_same a = refl

  pub lasts_moment : lasts n ps fs moment ≡ moment
  unfolding lasts
  lasts_moment = refl

  pub lasts_rule : (e : Expr) → lasts n ps fs (rule e) ≡ rule (expr n ps fs e)
  unfolding lasts
  lasts_rule e = refl
