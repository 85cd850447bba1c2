-- The value that is computed for an expression is the one that it has, and where it has none, the first part without one is named. Assumes nothing.
use mathlib.Core.Bool.{Bool, true, false, cond, true≢false}
use mathlib.Core.List.{List}
use mathlib.Core.Logic.{◌⊎◌, inl, inr, ◌↔◌}
use mathlib.Core.Path.{◌≡◌, refl, sym, ap, subst, ◌∙◌}
use Prim.Native.Nat.{ℕ}
use lib.IntN.{ℤ, neg_ℤ, ◌+ℤ◌, ◌-ℤ◌}
use Rattle.domain_meaning.specs.Terms.{Expr, number, value, minus, difference, plus}
use Rattle.happening_meaning.specs.State.{Grounds, inside, within, defined, number_at, on_number, plus_of, less_of, number_of}
use Rattle.happening_meaning.specs.Truths.{value_of}
use Rattle.happening_meaning.specs.Happening.{is_done}
use Rattle.happening_meaning.specs.declared.Value.{Value}
use Rattle.happening_meaning.specs.declared.Value.TheVariants.{Number, Undefined, Range}
use Rattle.happening_meaning.specs.declared.Outcome.{Outcome}
use Rattle.happening_meaning.specs.declared.Outcome.TheVariants as Why
use Rattle.happening_meaning.specs.declared.Outcome.TheVariants.{Done}
use Rattle.check_validity_meaning.specs.Values.{InRange, Is, HasValue, Evaluates, NoValue}
use Rattle.check_validity_meaning.proofs.Deciding.{Decides, always, named, holds, fails, retold}

abbrev is_number : Value → Bool
is_number (Number x) = true
is_number Undefined = false
is_number Range = false

abbrev amount_of : ℤ → Value → ℤ
amount_of d (Number x) = x
amount_of d Undefined = d
amount_of d Range = d

-- a value tells what is so: E of the number that it is, or F of the failure that line l has
abbrev Says : (ℤ → Type 0) → (Outcome → Type 0) → ℕ → Value → Type 0
Says E F l (Number x) = E x × ((y : ℤ) → E y → y ≡ x) × ((w : Outcome) → ¬ (F w))
Says E F l Undefined = F (Why.Undefined l) × ((w : Outcome) → F w → w ≡ Why.Undefined l) × ((y : ℤ) → ¬ (E y))
Says E F l Range = F (Why.Range l) × ((w : Outcome) → F w → w ≡ Why.Range l) × ((y : ℤ) → ¬ (E y))

pub record Tells (E : ℤ → Type 0) (F : Outcome → Type 0) (l : ℕ) (v : Value) : Type 0 where
  says : Says E F l v

-- the same, told otherwise
says_so : {E D : ℤ → Type 0} {F G : Outcome → Type 0} (l : ℕ) (v : Value) → ((y : ℤ) → E y → D y) → ((y : ℤ) → D y → E y)
    → ((w : Outcome) → F w → G w) → ((w : Outcome) → G w → F w) → Says E F l v → Says D G l v
says_so l (Number x) a b f h t = (a x t.0, (λ y d. t.1 y (b y d)), λ w q. t.2 w (h w q))
says_so l Undefined a b f h t = (f (Why.Undefined l) t.0, (λ w q. t.1 w (h w q)), λ y d. t.2 y (b y d))
says_so l Range a b f h t = (f (Why.Range l) t.0, (λ w q. t.1 w (h w q)), λ y d. t.2 y (b y d))

-- a number within the range; outside it is none
no_range : (z : ℤ) → inside z ≡ false → ¬ (InRange z)
no_range z e h = true≢false (sym h ∙ e)

within_tells : (l : ℕ) (z : ℤ) → Tells (Is z) (λ w. ¬ (InRange z) × (w ≡ Why.Range l)) l (within z)
unfolding within
within_tells l z = record { says = go (inside z) refl }
  where
    go : (b : Bool) → inside z ≡ b → Says (Is z) (λ w. ¬ (InRange z) × (w ≡ Why.Range l)) l (cond b (Number z) Range)
    go true e = ((refl, e), (λ y h. h.0), λ w h. h.0 e)
    go false e = ((no_range z e, refl), (λ w h. h.1), λ y h. no_range z e (sym (ap inside h.0) ∙ h.1))

pub defined_tells : (l : ℕ) (z : ℤ) → Tells (Is z) (λ w. ¬ (InRange z) × (w ≡ Why.Undefined l)) l (defined z)
unfolding defined
defined_tells l z = record { says = go (inside z) refl }
  where
    go : (b : Bool) → inside z ≡ b → Says (Is z) (λ w. ¬ (InRange z) × (w ≡ Why.Undefined l)) l (cond b (Number z) Undefined)
    go true e = ((refl, e), (λ y h. h.0), λ w h. h.0 e)
    go false e = ((no_range z e, refl), (λ w h. h.1), λ y h. no_range z e (sym (ap inside h.0) ∙ h.1))

-- a part, then what is made of its value
abbrev After : (ℤ → Type 0) → (ℤ → Type 0) → Type 0
After A P = (x : ℤ) × A x × P x

part_tells : {A : ℤ → Type 0} {N : Outcome → Type 0} {B : ℤ → ℤ → Type 0} {F : ℤ → Outcome → Type 0} (l : ℕ) (f : ℤ → Value) (v : Value) → Tells A N l v
    → ((x : ℤ) → Tells (B x) (F x) l (f x)) → Tells (λ z. After A (λ x. B x z)) (λ w. N w ⊎ After A (λ x. F x w)) l (on_number v f)
part_tells {A} {N} {B} {F} l f v t k = record { says = go v t.says }
  where
    go : (v : Value) → Says A N l v → Says (λ z. After A (λ x. B x z)) (λ w. N w ⊎ After A (λ x. F x w)) l (on_number v f)
    go (Number x) t =
        says_so l (f x) (λ z b. (x, t.0, b)) (λ z h. subst (λ (q : ℤ). B q z) (t.1 h.0 h.1) h.2) (λ w q. inr (x, t.0, q))
        (λ w. elim [ inl n ↦ absurd (t.2 w n) | inr h ↦ subst (λ (q : ℤ). F q w) (t.1 h.0 h.1) h.2 ]) (k x).says
    go Undefined t = (inl t.0, (λ w. elim [ inl n ↦ t.1 w n | inr h ↦ absurd (t.2 h.0 h.1) ]), λ z h. t.2 h.0 h.1)
    go Range t = (inl t.0, (λ w. elim [ inl n ↦ t.1 w n | inr h ↦ absurd (t.2 h.0 h.1) ]), λ z h. t.2 h.0 h.1)

-- the outcome of line l that needs a value, and goes on with it
abbrev pub onward : ℕ → Value → (ℤ → Outcome) → Outcome
onward l (Number x) k = k x
onward l Undefined k = Why.Undefined l
onward l Range k = Why.Range l

pub onward_decides : {A : ℤ → Type 0} {N : Outcome → Type 0} {P : ℤ → Type 0} {F : ℤ → Outcome → Type 0} (l : ℕ) (k : ℤ → Outcome) (v : Value)
    → Tells A N l v → ((x : ℤ) → Decides (P x) (F x) (k x))
    → Decides ((x : ℤ) × A x × P x) (λ w. N w ⊎ ((x : ℤ) × A x × F x w)) (onward l v k)
onward_decides {A} {N} {P} {F} l k v t d = go v t.says
  where
    lost : (word : Outcome) → is_done word ≡ false → N word × ((w : Outcome) → N w → w ≡ word) × ((y : ℤ) → ¬ (A y))
        → Decides (After A P) (λ w. N w ⊎ After A (λ x. F x w)) word
    lost word f t =
        retold (λ h. h) (λ h. h) (λ w e. subst (λ (v : Outcome). N v ⊎ After A (λ x. F x v)) (sym e) (inl t.0))
        (λ w. elim [ inl n ↦ t.1 w n | inr h ↦ absurd (t.2 h.0 h.1) ]) (named f (λ h. t.2 h.0 h.1))

    go : (v : Value) → Says A N l v → Decides (After A P) (λ w. N w ⊎ After A (λ x. F x w)) (onward l v k)
    go (Number x) t =
        retold (λ p. (x, t.0, p)) (λ h. subst P (t.1 h.0 h.1) h.2) (λ w q. inr (x, t.0, q))
        (λ w. elim [ inl n ↦ absurd (t.2 w n) | inr h ↦ subst (λ (q : ℤ). F q w) (t.1 h.0 h.1) h.2 ]) (d x)
    go Undefined t = lost (Why.Undefined l) refl t
    go Range t = lost (Why.Range l) refl t

-- a value is wanted
abbrev pub wants : ℕ → Value → Outcome
wants l (Number x) = Done
wants l Undefined = Why.Undefined l
wants l Range = Why.Range l

wants_decides : {A : ℤ → Type 0} {N : Outcome → Type 0} (l : ℕ) (v : Value) → Tells A N l v → Decides ((x : ℤ) × A x) N (wants l v)
wants_decides {A} {N} l v t = go v t.says
  where
    lost : (word : Outcome) → is_done word ≡ false → N word × ((w : Outcome) → N w → w ≡ word) × ((y : ℤ) → ¬ (A y)) → Decides ((x : ℤ) × A x) N word
    lost word f t = retold (λ h. h) (λ h. h) (λ w e. subst N (sym e) t.0) t.1 (named f (λ h. t.2 h.0 h.1))

    go : (v : Value) → Says A N l v → Decides ((x : ℤ) × A x) N (wants l v)
    go (Number x) t = retold (λ _. (x, t.0)) (λ _. tt) (λ w. absurd) t.2 always
    go Undefined t = lost (Why.Undefined l) refl t
    go Range t = lost (Why.Range l) refl t

pub defined_decides : (l : ℕ) (z : ℤ) → Decides (InRange z) (λ w. ¬ (InRange z) × (w ≡ Why.Undefined l)) (wants l (defined z))
unfolding defined
defined_decides l z = go (inside z) refl
  where
    go : (b : Bool) → inside z ≡ b → Decides (InRange z) (λ w. ¬ (InRange z) × (w ≡ Why.Undefined l)) (wants l (cond b (Number z) Undefined))
    go true e = holds e
    go false e = fails refl (no_range z e)

module _ (g : Grounds) (ns : List ℤ) (os : List ℕ) where
  pub value_tells : (l : ℕ) (e : Expr) → Tells (HasValue g ns os e) (NoValue g ns os l e) l (value_of g ns os e)
  unfolding HasValue NoValue value_of plus_of less_of
  value_tells l (number n) = within_tells l n
  value_tells l (value r) = defined_tells l (number_at ns (number_of g os r))
  value_tells l (minus e) = part_tells l (λ x. within (neg_ℤ x)) (value_of g ns os e) (value_tells l e) (λ x. within_tells l (neg_ℤ x))
  value_tells l (difference a b) =
      part_tells l (λ x. on_number (value_of g ns os b) (λ y. within (x -ℤ y))) (value_of g ns os a) (value_tells l a)
      (λ x. part_tells l (λ y. within (x -ℤ y)) (value_of g ns os b) (value_tells l b) (λ y. within_tells l (x -ℤ y)))
  value_tells l (plus a b) =
      part_tells l (λ x. on_number (value_of g ns os b) (λ y. within (x +ℤ y))) (value_of g ns os a) (value_tells l a)
      (λ x. part_tells l (λ y. within (x +ℤ y)) (value_of g ns os b) (value_tells l b) (λ y. within_tells l (x +ℤ y)))

  pub value_decides : (l : ℕ) (e : Expr) → Decides (Evaluates g ns os e) (NoValue g ns os l e) (wants l (value_of g ns os e))
  value_decides l e = wants_decides l (value_of g ns os e) (value_tells l e)

  -- the number computed is the value, and there is no other
  pub has_value : (e : Expr) (z : ℤ) → (value_of g ns os e ≡ Number z) ↔ HasValue g ns os e z
  has_value e z = go (value_of g ns os e) (value_tells 0 e).says
    where
      go : (v : Value) → Says (HasValue g ns os e) (NoValue g ns os 0 e) 0 v → (v ≡ Number z) ↔ HasValue g ns os e z
      go (Number x) t = ((λ q. subst (HasValue g ns os e) (ap (amount_of x) q) t.0), λ h. ap Number (sym (t.1 z h)))
      go Undefined t = ((λ q. absurd (true≢false (sym (ap is_number q)))), λ h. absurd (t.2 z h))
      go Range t = ((λ q. absurd (true≢false (sym (ap is_number q)))), λ h. absurd (t.2 z h))
