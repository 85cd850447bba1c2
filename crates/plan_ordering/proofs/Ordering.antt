-- The points in order have at each time the points that wait, as they came; the first time is the soonest. Assumes nothing.
use mathlib.Core.Path.{◌≡◌, refl, sym, ap, ap₂, ◌∙◌}
use mathlib.Core.Bool.{Bool, true, false, cond, ◌&&◌}
use mathlib.Core.List.{List, [], ◌∷◌, ◌++◌, append_assoc, append-nil}
use Prim.Native.Nat.{ℕ, suc, ◌+◌, min, ◌≤◌, ◌<◌}
use native.Mathlib.Omega.{arith}
use lib.Dec.{eqb, ltb, leb}
use lib.ListN.{take, drop, length}
use borrow.Author.Tests.{ltb-true, ltb-false, eqb-true, eqb-false, lt-ltb, le-ltb, le-leb, lt-leb, ne_eqb}
use Rattle.plan_meaning.specs.Lists.{keep}
use Rattle.plan_ordering.specs.Order.{at, from, soonest, all_later, insert, insert_all, ordered, front}
use Rattle.plan_ordering.proofs.Shifting.{length_insert}

never : true ≡ false → ⊥
never h = let n : ◌≡◌ {A = ℕ} 0 1 = cc in omega arith

less : {a b : ℕ} → a ≤ b → (b ≡ a → ⊥) → a < b
less {a} {b} h n = go (ltb a b) refl
  where
    go : (c : Bool) → ltb a b ≡ c → a < b
    go true e = ltb-true a b e
    go false e = let l : b ≤ a = ltb-false a b e in absurd (n (omega arith))

module _ {A : Type 0} (time : A → ℕ) where
  -- no time below t
  unfoldable pub NotBelow : ℕ → List A → Type 0
  NotBelow t [] = Unit {0}
  NotBelow t (x ∷ xs) = (t ≤ time x) × NotBelow t xs

  unfoldable pub Sorted : List A → Type 0
  Sorted [] = Unit {0}
  Sorted (x ∷ xs) = NotBelow (time x) xs × Sorted xs

  not_below_less : (t u : ℕ) (s : List A) → t ≤ u → NotBelow u s → NotBelow t s
  unfolding NotBelow
  not_below_less t u [] h g = tt
  not_below_less t u (x ∷ s) h g = let i : u ≤ time x = g.0 in (omega arith, not_below_less t u s h g.1)

  -- ---- what is later

  later_all : (t u : ℕ) (s : List A) → t < u → NotBelow u s → all_later time t s ≡ true
  unfolding all_later NotBelow
  later_all t u [] h g = refl
  later_all t u (x ∷ s) h g = let i : u ≤ time x = g.0 in simp (lt-ltb t (time x) (omega arith), later_all t u s h g.1)

  -- where not all of a sorted list are later, the first is not
  not_later : (t : ℕ) (x : A) (s : List A) → Sorted (x ∷ s) → all_later time t (x ∷ s) ≡ false → ltb t (time x) ≡ false
  unfolding all_later Sorted
  not_later t x s h e = go (ltb t (time x)) refl
    where
      go : (b : Bool) → ltb t (time x) ≡ b → b ≡ false
      go true f = absurd (never (sym (ap₂ ◌&&◌ f (later_all t (time x) s (ltb-true t (time x) f) h.0)) ∙ e))
      go false f = refl

  keep_later : (t : ℕ) (f : A → Bool) (s : List A) → all_later time t s ≡ true → all_later time t (keep f s) ≡ true
  unfolding all_later
  keep_later t f [] h = refl
  keep_later t f (x ∷ s) h = go (f x) (ltb t (time x)) refl h (keep_later t f s)
    where
      go : (b c : Bool) → ltb t (time x) ≡ c → (c && all_later time t s) ≡ true → (all_later time t s ≡ true → all_later time t (keep f s) ≡ true)
          → all_later time t (cond b (x ∷ keep f s) (keep f s)) ≡ true
      go b false e g ih = absurd (never (sym g))
      go true true e g ih = simp (e, ih g)
      go false true e g ih = ih g

  insert_front : (p : A) (s : List A) → all_later time (time p) s ≡ true → insert time p s ≡ p ∷ s
  unfolding insert
  insert_front p [] h = refl
  insert_front p (x ∷ s) h = simp h

  insert_behind : (p x : A) (s : List A) → ltb (time p) (time x) ≡ false → insert time p (x ∷ s) ≡ x ∷ insert time p s
  unfolding insert all_later
  insert_behind p x s h = simp h

  -- ---- a point more in a sorted list

  insert_not_below : (t : ℕ) (p : A) (s : List A) → t ≤ time p → NotBelow t s → NotBelow t (insert time p s)
  unfolding insert NotBelow
  insert_not_below t p [] h g = (h, tt)
  insert_not_below t p (x ∷ s) h g = go (all_later time (time p) (x ∷ s)) (insert_not_below t p s h g.1)
    where
      go : (b : Bool) → NotBelow t (insert time p s) → NotBelow t (cond b (p ∷ x ∷ s) (x ∷ insert time p s))
      go true ih = (h, (g.0, g.1))
      go false ih = (g.0, ih)

  first_later : (t : ℕ) (x : A) (s : List A) → all_later time t (x ∷ s) ≡ true → t < time x
  unfolding all_later
  first_later t x s h = go (ltb t (time x)) refl h
    where
      go : (b : Bool) → ltb t (time x) ≡ b → (b && all_later time t s) ≡ true → t < time x
      go true e g = ltb-true t (time x) e
      go false e g = absurd (never (sym g))

  insert_sorted : (p : A) (s : List A) → Sorted s → Sorted (insert time p s)
  unfolding insert Sorted NotBelow
  insert_sorted p [] h = (tt, tt)
  insert_sorted p (x ∷ s) h = go (all_later time (time p) (x ∷ s)) refl (insert_sorted p s h.1)
    where
      go : (b : Bool) → all_later time (time p) (x ∷ s) ≡ b → Sorted (insert time p s) → Sorted (cond b (p ∷ x ∷ s) (x ∷ insert time p s))
      go true e ih =
          let l : time p < time x = first_later (time p) x s e in
          ((omega arith, not_below_less (time p) (time x) s (omega arith) h.0), (h.0, h.1))
      go false e ih =
          let l : time x ≤ time p = ltb-false (time p) (time x) (not_later (time p) x s h e) in
          (insert_not_below (time x) p s l h.0, ih)

  rest_sorted : (x : A) (s : List A) → Sorted (x ∷ s) → Sorted s
  unfolding Sorted
  rest_sorted x s h = h.1

  -- what is kept of a sorted list with a point more
  keep_insert : (f : A → Bool) (p : A) (s : List A) → Sorted s → keep f (insert time p s) ≡ cond (f p) (insert time p (keep f s)) (keep f s)
  unfolding insert
  keep_insert f p [] h = refl
  keep_insert f p (x ∷ s) h = go (all_later time (time p) (x ∷ s)) refl (keep_insert f p s (rest_sorted x s h))
    where
      two : (b c : Bool) → keep f (insert time p s) ≡ cond c (insert time p (keep f s)) (keep f s) → ltb (time p) (time x) ≡ false
          → cond b (x ∷ keep f (insert time p s)) (keep f (insert time p s))
          ≡ cond c (insert time p (cond b (x ∷ keep f s) (keep f s))) (cond b (x ∷ keep f s) (keep f s))
      two true true ih l = ap (λ (m : List A). x ∷ m) ih ∙ sym (insert_behind p x (keep f s) l)
      two true false ih l = ap (λ (m : List A). x ∷ m) ih
      two false true ih l = ih
      two false false ih l = ih

      go : (b : Bool) → all_later time (time p) (x ∷ s) ≡ b → keep f (insert time p s) ≡ cond (f p) (insert time p (keep f s)) (keep f s)
          → keep f (cond b (p ∷ x ∷ s) (x ∷ insert time p s)) ≡ cond (f p) (insert time p (keep f (x ∷ s))) (keep f (x ∷ s))
      go true e ih = ap (λ (l : List A). cond (f p) l (keep f (x ∷ s))) (sym (insert_front p (keep f (x ∷ s)) (keep_later (time p) f (x ∷ s) e)))
      go false e ih = two (f x) (f p) ih (not_later (time p) x s h e)

  -- ---- all that came

  all_sorted : (s q : List A) → Sorted s → Sorted (insert_all time s q)
  unfolding insert_all
  all_sorted s [] h = h
  all_sorted s (p ∷ q) h = all_sorted (insert time p s) q (insert_sorted p s h)

  nothing : Sorted []
  unfolding Sorted
  nothing = tt

  pub ordered_sorted : (q : List A) → Sorted (ordered time q)
  ordered_sorted q = all_sorted [] q nothing

  all_append : (s q r : List A) → insert_all time s (q ++ r) ≡ insert_all time (insert_all time s q) r
  unfolding insert_all
  all_append s [] r = refl
  all_append s (p ∷ q) r = all_append (insert time p s) q r

  -- a point more
  pub entered : (q : List A) (p : A) → ordered time (q ++ p ∷ []) ≡ insert time p (ordered time q)
  unfolding insert_all
  entered q p = all_append [] q (p ∷ [])

  length_all : (s q : List A) → length (insert_all time s q) ≡ length s + length q
  unfolding insert_all
  length_all s [] = omega arith
  length_all s (p ∷ q) = length_all (insert time p s) q ∙ omega (arith, length_insert time p s)

  pub length_ordered : (q : List A) → length (ordered time q) ≡ length q
  length_ordered q = length_all [] q ∙ omega arith

  keep_all : (f : A → Bool) (s q : List A) → Sorted s → keep f (insert_all time s q) ≡ insert_all time (keep f s) (keep f q)
  unfolding insert_all
  keep_all f s [] h = refl
  keep_all f s (p ∷ q) h =
      keep_all f (insert time p s) q (insert_sorted p s h) ∙ ap (λ (l : List A). insert_all time l (keep f q)) (keep_insert f p s h) ∙ go (f p)
    where
      go : (b : Bool) → insert_all time (cond b (insert time p (keep f s)) (keep f s)) (keep f q) ≡ insert_all time (keep f s) (cond b (p ∷ keep f q) (keep f q))
      go true = refl
      go false = refl

  keep_ordered : (f : A → Bool) (q : List A) → keep f (ordered time q) ≡ ordered time (keep f q)
  keep_ordered f q = keep_all f [] q nothing

  -- ---- the points of one time stand as they came

  unfoldable Same : ℕ → List A → Type 0
  Same t [] = Unit {0}
  Same t (x ∷ xs) = (time x ≡ t) × Same t xs

  same_append : (t : ℕ) (p : A) (s : List A) → time p ≡ t → Same t s → Same t (s ++ p ∷ [])
  unfolding Same
  same_append t p [] e h = (e, tt)
  same_append t p (x ∷ s) e h = (h.0, same_append t p s e h.1)

  insert_same : (t : ℕ) (p : A) (s : List A) → time p ≡ t → Same t s → insert time p s ≡ s ++ p ∷ []
  unfolding insert Same all_later
  insert_same t p [] e h = refl
  insert_same t p (x ∷ s) e h = let g : time x ≡ t = h.0 in simp (le-ltb (time p) (time x) (omega arith), insert_same t p s e h.1)

  all_same : (t : ℕ) (s q : List A) → Same t s → Same t q → insert_all time s q ≡ s ++ q
  unfolding insert_all Same
  all_same t s [] h g = sym (append-nil s)
  all_same t s (p ∷ q) h g =
      ap (λ (l : List A). insert_all time l q) (insert_same t p s g.0 h)
      ∙ all_same t (s ++ p ∷ []) q (same_append t p s g.0 h) g.1
      ∙ append_assoc s (p ∷ []) q

  keep_same : (t : ℕ) (q : List A) → Same t (at time t q)
  unfolding Same
  keep_same t [] = tt
  keep_same t (p ∷ q) = go (eqb (time p) t) refl (keep_same t q)
    where
      go : (b : Bool) → eqb (time p) t ≡ b → Same t (at time t q) → Same t (cond b (p ∷ at time t q) (at time t q))
      go true e ih = (eqb-true (time p) t e, ih)
      go false e ih = ih

  no_same : (t : ℕ) → Same t []
  unfolding Same
  no_same t = tt

  at_ordered : (t : ℕ) (q : List A) → at time t (ordered time q) ≡ at time t q
  at_ordered t q = keep_ordered (λ p. eqb (time p) t) q ∙ all_same t [] (at time t q) (no_same t) (keep_same t q)

  -- ---- those in front

  at_none : (t u : ℕ) (s : List A) → t < u → NotBelow u s → at time t s ≡ []
  unfolding NotBelow
  at_none t u [] h g = refl
  at_none t u (x ∷ s) h g = let i : u ≤ time x = g.0 in simp (ne_eqb (time x) t (λ z. omega arith), at_none t u s h g.1)

  from_all : (t u : ℕ) (s : List A) → t < u → NotBelow u s → from time (suc t) s ≡ s
  unfolding NotBelow
  from_all t u [] h g = refl
  from_all t u (x ∷ s) h g = let i : u ≤ time x = g.0 in simp (le-leb (suc t) (time x) (omega arith), from_all t u s h g.1)

  taken_front : (t : ℕ) (s : List A) → Sorted s → NotBelow t s → take (front time t s) s ≡ at time t s
  unfolding front Sorted NotBelow
  taken_front t [] h g = refl
  taken_front t (x ∷ s) h g = go (eqb (time x) t) refl (taken_front t s h.1 g.1)
    where
      go : (b : Bool) → eqb (time x) t ≡ b → take (front time t s) s ≡ at time t s
          → take (cond b (suc (front time t s)) 0) (x ∷ s) ≡ cond b (x ∷ at time t s) (at time t s)
      go true e ih = ap (λ (l : List A). x ∷ l) ih
      go false e ih =
          let i : t ≤ time x = g.0 in
          let n : time x ≡ t → ⊥ = eqb-false (time x) t e in
          sym (at_none t (time x) s (less i n) h.0)

  left_front : (t : ℕ) (s : List A) → Sorted s → NotBelow t s → drop (front time t s) s ≡ from time (suc t) s
  unfolding front Sorted NotBelow
  left_front t [] h g = refl
  left_front t (x ∷ s) h g = go (eqb (time x) t) refl (left_front t s h.1 g.1)
    where
      go : (b : Bool) → eqb (time x) t ≡ b → drop (front time t s) s ≡ from time (suc t) s
          → drop (cond b (suc (front time t s)) 0) (x ∷ s) ≡ cond (leb (suc t) (time x)) (x ∷ from time (suc t) s) (from time (suc t) s)
      go true e ih = let z : time x ≡ t = eqb-true (time x) t e in simp (lt-leb (suc t) (time x) (omega arith)) ih
      go false e ih =
          let i : t ≤ time x = g.0 in
          let n : time x ≡ t → ⊥ = eqb-false (time x) t e in
          let l : t < time x = less i n in
          simp (le-leb (suc t) (time x) l, from_all t (time x) s l h.0)

  -- THE LAW: the front of the queue is the happening of its time, by line, and what is left is the queue of what is later
  pub happening : (t : ℕ) (q : List A) → NotBelow t (ordered time q) → take (front time t (ordered time q)) (ordered time q) ≡ at time t q
  happening t q g = taken_front t (ordered time q) (ordered_sorted q) g ∙ at_ordered t q

  pub remaining : (t : ℕ) (q : List A) → NotBelow t (ordered time q)
      → drop (front time t (ordered time q)) (ordered time q) ≡ ordered time (from time (suc t) q)
  remaining t q g = left_front t (ordered time q) (ordered_sorted q) g ∙ keep_ordered (λ p. leb (suc t) (time p)) q

  -- ---- the first time is the soonest

  soonest_min : (a b : ℕ) (q : List A) → soonest time (min a b) q ≡ min a (soonest time b q)
  unfolding soonest
  soonest_min a b [] = refl
  soonest_min a b (p ∷ q) = omega (arith, soonest_min a b q)

  soonest_insert : (b : ℕ) (p : A) (s : List A) → soonest time b (insert time p s) ≡ min (time p) (soonest time b s)
  unfolding insert soonest
  soonest_insert b p [] = refl
  soonest_insert b p (x ∷ s) = go (all_later time (time p) (x ∷ s)) (soonest_insert b p s)
    where
      go : (c : Bool) → soonest time b (insert time p s) ≡ min (time p) (soonest time b s)
          → soonest time b (cond c (p ∷ x ∷ s) (x ∷ insert time p s)) ≡ min (time p) (min (time x) (soonest time b s))
      go true ih = refl
      go false ih = omega (arith, ih)

  soonest_all : (b : ℕ) (s q : List A) → soonest time b (insert_all time s q) ≡ soonest time (soonest time b s) q
  unfolding insert_all soonest
  soonest_all b s [] = refl
  soonest_all b s (p ∷ q) =
      soonest_all b (insert time p s) q ∙ ap (λ (n : ℕ). soonest time n q) (soonest_insert b p s) ∙ soonest_min (time p) (soonest time b s) q

  pub soonest_ordered : (b : ℕ) (q : List A) → soonest time b (ordered time q) ≡ soonest time b q
  unfolding soonest
  soonest_ordered b q = soonest_all b [] q

  pub soonest_first : (b : ℕ) (x : A) (s : List A) → Sorted (x ∷ s) → soonest time b (x ∷ s) ≡ min (time x) b
  unfolding soonest Sorted NotBelow
  soonest_first b x [] h = refl
  soonest_first b x (y ∷ s) h = let i : time x ≤ time y = h.0.0 in omega (arith, soonest_first b y s h.1)

  pub soonest_not_below : (b : ℕ) (s : List A) → NotBelow (soonest time b s) s
  unfolding soonest NotBelow
  soonest_not_below b [] = tt
  soonest_not_below b (x ∷ s) = (omega arith, not_below_less (min (time x) (soonest time b s)) (soonest time b s) s (omega arith) (soonest_not_below b s))
