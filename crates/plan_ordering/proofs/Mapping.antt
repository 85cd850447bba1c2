-- Points in order and what is made of each; what two ways of telling the time that agree on the points in question give. Assumes nothing.
use mathlib.Core.Path.{◌≡◌, refl, sym, ap, ap₂, ◌∙◌}
use mathlib.Core.Bool.{Bool, true, false, cond, ◌&&◌}
use mathlib.Core.List.{List, [], ◌∷◌, map}
use Prim.Native.Nat.{ℕ, zero, suc, ◌-◌, ◌≤◌, ◌<◌}
use native.Mathlib.Omega.{arith}
use lib.Dec.{eqb, ltb}
use lib.ListN.{length, take, drop, get_or}
use Rattle.plan_meaning.specs.Lists.{keep}
use Rattle.plan_meaning.proofs.Lists.{All}
use Rattle.plan_ordering.specs.Order.{all_later, insert, insert_all, ordered, front}

-- ---- lists

module _ {A B : Type 0} (f : A → B) where
  pub map_take : (n : ℕ) (s : List A) → map f (take n s) ≡ take n (map f s)
  map_take zero s = refl
  map_take (suc n) [] = refl
  map_take (suc n) (x ∷ s) = ap (λ (l : List B). f x ∷ l) (map_take n s)

  pub map_drop : (n : ℕ) (s : List A) → map f (drop n s) ≡ drop n (map f s)
  map_drop zero s = refl
  map_drop (suc n) [] = refl
  map_drop (suc n) (x ∷ s) = map_drop n s

  pub keep_map : (g : B → Bool) (s : List A) → keep g (map f s) ≡ map f (keep (λ x. g (f x)) s)
  keep_map g [] = refl
  keep_map g (x ∷ s) = go (g (f x)) (keep_map g s)
    where
      go : (b : Bool) → keep g (map f s) ≡ map f (keep (λ y. g (f y)) s)
          → cond b (f x ∷ keep g (map f s)) (keep g (map f s)) ≡ map f (cond b (x ∷ keep (λ y. g (f y)) s) (keep (λ y. g (f y)) s))
      go true ih = ap (λ (l : List B). f x ∷ l) ih
      go false ih = ih

module _ {A : Type 0} where
  pub drop_take : (k n : ℕ) (l : List A) → k ≤ n → drop k (take n l) ≡ take (n - k) (drop k l)
  drop_take zero n l h = let e : n - 0 ≡ n = omega arith in rw e
  drop_take (suc k) zero l h = absurd (omega arith)
  drop_take (suc k) (suc n) [] h = let e : suc n - suc k ≡ n - k = omega arith in rw e (nothing (n - k))
    where
      nothing : (m : ℕ) → ◌≡◌ {A = List A} [] (take m [])
      nothing zero = refl
      nothing (suc m) = refl
  drop_take (suc k) (suc n) (x ∷ l) h = let e : suc n - suc k ≡ n - k = omega arith in rw e (drop_take k n l (omega arith))

  -- what holds of each of the first n elements
  pub all_first : (P : A → Type 0) (d : A) (n : ℕ) (l : List A) → n ≤ length l → ((i : ℕ) → i < n → P (get_or l i d)) → All P (take n l)
  all_first P d zero l h p = tt
  all_first P d (suc n) [] h p = absurd (omega arith)
  all_first P d (suc n) (x ∷ l) h p = (p 0 (omega arith), all_first P d n l (omega arith) (λ i k. p (suc i) (omega arith)))

-- ---- what is made of each point tells its time too

pub front_few : {A : Type 0} (time : A → ℕ) (t : ℕ) (s : List A) → front time t s ≤ length s
unfolding front
front_few time t [] = omega arith
front_few time t (x ∷ s) = go (eqb (time x) t) (front_few time t s)
  where
    go : (b : Bool) → front time t s ≤ length s → cond b (suc (front time t s)) 0 ≤ length (x ∷ s)
    go true ih = omega arith
    go false ih = omega arith

module _ {A B : Type 0} (f : A → B) (time : B → ℕ) (when : A → ℕ) (same : (x : A) → time (f x) ≡ when x) where
  later_map : (t : ℕ) (s : List A) → all_later time t (map f s) ≡ all_later when t s
  unfolding all_later
  later_map t [] = refl
  later_map t (x ∷ s) = ap₂ (λ (n : ℕ) (b : Bool). ltb t n && b) (same x) (later_map t s)

  pub insert_map : (y : A) (s : List A) → map f (insert when y s) ≡ insert time (f y) (map f s)
  unfolding insert
  insert_map y [] = refl
  insert_map y (x ∷ s) =
      go (all_later when (when y) (x ∷ s)) (insert_map y s)
      ∙ ap (λ (b : Bool). cond b (map f (y ∷ x ∷ s)) (f x ∷ insert time (f y) (map f s)))
      (sym (ap (λ (n : ℕ). all_later time n (map f (x ∷ s))) (same y) ∙ later_map (when y) (x ∷ s)))
    where
      go : (b : Bool) → map f (insert when y s) ≡ insert time (f y) (map f s)
          → map f (cond b (y ∷ x ∷ s) (x ∷ insert when y s)) ≡ cond b (map f (y ∷ x ∷ s)) (f x ∷ insert time (f y) (map f s))
      go true ih = refl
      go false ih = ap (λ (l : List B). f x ∷ l) ih

  pub front_map : (t : ℕ) (s : List A) → front time t (map f s) ≡ front when t s
  unfolding front
  front_map t [] = refl
  front_map t (x ∷ s) = ap₂ (λ (n m : ℕ). cond (eqb n t) (suc m) 0) (same x) (front_map t s)

-- ---- two ways that agree

module _ {A : Type 0} (P : A → Type 0) (time : A → ℕ) where
  all_insert : (p : A) (s : List A) → P p → All P s → All P (insert time p s)
  unfolding insert
  all_insert p [] h g = (h, tt)
  all_insert p (x ∷ s) h g = go (all_later time (time p) (x ∷ s)) (all_insert p s h g.1)
    where
      go : (b : Bool) → All P (insert time p s) → All P (cond b (p ∷ x ∷ s) (x ∷ insert time p s))
      go true ih = (h, (g.0, g.1))
      go false ih = (g.0, ih)

  all_inserted : (s q : List A) → All P s → All P q → All P (insert_all time s q)
  unfolding insert_all
  all_inserted s [] h g = h
  all_inserted s (p ∷ q) h g = all_inserted (insert time p s) q (all_insert p s g.0 h) g.1

  pub all_ordered : (q : List A) → All P q → All P (ordered time q)
  all_ordered q h = all_inserted [] q tt h

module _ {A : Type 0} (f g : A → ℕ) where
  abbrev Agree : List A → Type 0
  Agree = All (λ x. f x ≡ g x)

  later_same : (t u : ℕ) (s : List A) → t ≡ u → Agree s → all_later f t s ≡ all_later g u s
  unfolding all_later
  later_same t u [] e h = refl
  later_same t u (x ∷ s) e h = rw (e, h.0) (ap (λ (b : Bool). ltb u (g x) && b) (later_same t u s e h.1))

  insert_same : (p : A) (s : List A) → f p ≡ g p → Agree s → insert f p s ≡ insert g p s
  unfolding insert
  insert_same p [] e h = refl
  insert_same p (x ∷ s) e h =
      ap₂ (λ (b : Bool) (l : List A). cond b (p ∷ x ∷ s) (x ∷ l)) (later_same (f p) (g p) (x ∷ s) e h) (insert_same p s e h.1)

  all_same : (s q : List A) → Agree s → Agree q → insert_all f s q ≡ insert_all g s q
  unfolding insert_all
  all_same s [] h k = refl
  all_same s (p ∷ q) h k =
      all_same (insert f p s) q (all_insert (λ x. f x ≡ g x) f p s k.0 h) k.1
      ∙ ap (λ (l : List A). insert_all g l q) (insert_same p s k.0 h)

  pub ordered_same : (q : List A) → Agree q → ordered f q ≡ ordered g q
  ordered_same q h = all_same [] q tt h

pub map_same : {A B : Type 0} (f g : A → B) (s : List A) → All (λ x. f x ≡ g x) s → map f s ≡ map g s
map_same f g [] h = refl
map_same f g (x ∷ s) h = ap₂ ◌∷◌ h.0 (map_same f g s h.1)
