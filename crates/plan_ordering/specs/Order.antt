-- Points in the order of their times, those of one time as they came. The points are of any type that has times.
use Rattle.std.specs.Prelude.{ℕ, zero, suc, min, Bool, true, cond, ◌&&◌, List, [], ◌∷◌, eqb, ltb, leb, get_or, set}
use Rattle.plan_meaning.specs.Lists.{keep}

module _ {A : Type 0} (time : A → ℕ) where
  -- the points of one time, as they came
  abbrev pub at : ℕ → List A → List A
  at t = keep (λ p. eqb (time p) t)

  -- the points from a time on
  abbrev pub from : ℕ → List A → List A
  from t = keep (λ p. leb t (time p))

  -- the least time below b, or b
  unfoldable pub soonest : ℕ → List A → ℕ
  soonest b [] = b
  soonest b (p ∷ ps) = min (time p) (soonest b ps)

  -- all are later than t
  unfoldable pub all_later : ℕ → List A → Bool
  all_later t [] = true
  all_later t (x ∷ xs) = ltb t (time x) && all_later t xs

  -- a point goes in front of the longest end that is all later
  unfoldable pub insert : A → List A → List A
  insert p [] = p ∷ []
  insert p (x ∷ xs) = cond (all_later (time p) (x ∷ xs)) (p ∷ x ∷ xs) (x ∷ insert p xs)

  unfoldable pub insert_all : List A → List A → List A
  insert_all s [] = s
  insert_all s (p ∷ ps) = insert_all (insert p s) ps

  -- the points in order
  abbrev pub ordered : List A → List A
  ordered q = insert_all [] q

  -- those in front that have time t: how many
  unfoldable pub front : ℕ → List A → ℕ
  front t [] = 0
  front t (x ∷ xs) = cond (eqb (time x) t) (suc (front t xs)) 0

  -- as a loop does it: from place i down, what is later moves up by one
  unfoldable pub shifted : A → ℕ → List A → A → List A
  shifted d zero l p = set l 0 p
  shifted d (suc i) l p = cond (ltb (time p) (time (get_or l i d))) (shifted d i (set l (suc i) (get_or l i d)) p) (set l (suc i) p)
