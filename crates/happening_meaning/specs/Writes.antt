-- What expressions and conditions read, and what effects write. RULES 11.
use Rattle.std.specs.Prelude.{ℕ, List, [], ◌∷◌, map, Bool, true, false, cond, not, ◌&&◌, ◌||◌, eqb}
use Rattle.domain_meaning.specs.Terms.{Expr, number, value, minus, difference, plus}
use Rattle.domain_meaning.specs.Conditions.{Cond, Conds, all, atom, same, compare, none, cons}
use Rattle.domain_meaning.specs.Effects.{assign, raise, lower, Effect, becomes, changes}
use Rattle.happening_meaning.specs.State.{Grounds, fact_of, number_of}
use Rattle.happening_meaning.specs.declared.Mark.{Mark}
use Rattle.happening_meaning.specs.declared.Mark.TheVariants.{Nothing, Fact, Number}

-- some element is as f wants it
unfoldable pub some : {A : Type 0} → (A → Bool) → List A → Bool
some f [] = false
some f (x ∷ xs) = f x || some f xs

module _ (g : Grounds) (os : List ℕ) where
  -- the expression reads number x
  unfoldable pub expr_reads : ℕ → Expr → Bool
  expr_reads x (number z) = false
  expr_reads x (value r) = eqb (number_of g os r) x
  expr_reads x (minus e) = expr_reads x e
  expr_reads x (difference a b) = expr_reads x a || expr_reads x b
  expr_reads x (plus a b) = expr_reads x a || expr_reads x b

  -- the condition reads number x, or fact x; every part of it counts
  unfoldable mutual
    pub cond_reads : Bool → ℕ → Cond → Bool
    cond_reads numeric x (all cs) = conds_read numeric x cs
    cond_reads numeric x (atom yes' r) = cond numeric false (eqb (fact_of g os r) x)
    cond_reads numeric x (same yes' a b) = false
    cond_reads numeric x (compare yes' op a b) = cond numeric (expr_reads x a || expr_reads x b) false

    pub conds_read : Bool → ℕ → Conds → Bool
    conds_read numeric x none = false
    conds_read numeric x (cons c cs) = cond_reads numeric x c || conds_read numeric x cs

  -- the right side of an effect reads number x
  unfoldable pub right_reads : ℕ → Effect → Bool
  right_reads x (becomes yes' r) = false
  right_reads x (changes how r e) = expr_reads x e

  -- what an effect writes: a fact, added (true) or deleted; or a number, assigned (true) or raised or lowered
  unfoldable pub mark_of : Effect → Mark
  mark_of (becomes yes' r) = Fact yes' (fact_of g os r)
  mark_of (changes assign r e) = Number true (number_of g os r)
  mark_of (changes raise r e) = Number false (number_of g os r)
  mark_of (changes lower r e) = Number false (number_of g os r)

  abbrev pub marks_of : List Effect → List Mark
  marks_of es = map mark_of es

-- ---- two effects that can't be together

abbrev pub on_fact : Mark → (Bool → ℕ → Bool) → Bool
on_fact Nothing f = false
on_fact (Fact a x) f = f a x
on_fact (Number a x) f = false

abbrev pub on_number : Mark → (Bool → ℕ → Bool) → Bool
on_number Nothing f = false
on_number (Fact a x) f = false
on_number (Number a x) f = f a x

-- "one adds what the other deletes"
unfoldable pub undo : Mark → Mark → Bool
undo m k = on_fact m (λ a x. on_fact k (λ b y. eqb x y && cond a (not b) b))

-- "both write one number, unless both only raise or lower it"
unfoldable pub collide : Mark → Mark → Bool
collide m k = on_number m (λ a x. on_number k (λ b y. eqb x y && (a || b)))

unfoldable pub against : Mark → Mark → Bool
against m k = collide m k || undo m k

-- "no number is assigned twice, or assigned and also raised or lowered"
unfoldable pub itself : List Mark → Bool
itself [] = false
itself (m ∷ ms) = some (collide m) ms || itself ms
