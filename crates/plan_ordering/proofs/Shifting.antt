-- What a loop from the end shifts is an insertion. Assumes nothing.
use mathlib.Core.Path.{◌≡◌, refl, sym, ap, ap₂, ◌∙◌}
use mathlib.Core.Bool.{Bool, true, false, cond, ◌&&◌}
use mathlib.Core.List.{List, [], ◌∷◌, ◌++◌, append_assoc}
use Prim.Native.Nat.{ℕ, zero, suc, ◌+◌, ◌≤◌, ◌<◌}
use native.Mathlib.Omega.{arith}
use lib.Dec.{ltb}
use lib.ListN.{get_or, set, take, drop, length, length-set, length-drop}
use lib.Seq.{set_split, take-suc, drop-cons, take-set-le, drop-set-lt, get_or-set_same, get_or-set_other, lt-length-set, drop-set-add, get_or-drop, take_at}
use lib.Seq.{length-take-le}
use borrow.Author.Tests.{lt-ltb, le-ltb}
use Rattle.plan_ordering.specs.Order.{all_later, insert, shifted}
use Rattle.plan_ordering.specs.Keys.{time_of, keys_in, shifted_at}

and_true : (a : Bool) → (a && true) ≡ a
and_true true = refl
and_true false = refl

and_false : (a : Bool) → (a && false) ≡ false
and_false true = refl
and_false false = refl

and_assoc : (a b c : Bool) → (a && (b && c)) ≡ ((a && b) && c)
and_assoc true b c = refl
and_assoc false b c = refl

module _ {A : Type 0} (time : A → ℕ) where
  later_snoc : (t : ℕ) (s : List A) (x : A) → all_later time t (s ++ x ∷ []) ≡ (all_later time t s && ltb t (time x))
  unfolding all_later
  later_snoc t [] x = and_true (ltb t (time x))
  later_snoc t (y ∷ s) x = ap (λ (b : Bool). ltb t (time y) && b) (later_snoc t s x) ∙ and_assoc (ltb t (time y)) (all_later time t s) (ltb t (time x))

  pub length_insert : (p : A) (s : List A) → length (insert time p s) ≡ suc (length s)
  unfolding insert
  length_insert p [] = refl
  length_insert p (x ∷ s) = go (all_later time (time p) (x ∷ s)) (length_insert p s)
    where
      go : (b : Bool) → length (insert time p s) ≡ suc (length s) → length (cond b (p ∷ x ∷ s) (x ∷ insert time p s)) ≡ suc (suc (length s))
      go true ih = refl
      go false ih = ap suc ih

  module _ (p x : A) where
    insert_later : ltb (time p) (time x) ≡ true → (s : List A) → insert time p (s ++ x ∷ []) ≡ insert time p s ++ x ∷ []
    unfolding insert all_later
    insert_later h [] = simp h
    insert_later h (y ∷ s) =
        let e : all_later time (time p) (y ∷ (s ++ x ∷ [])) ≡ all_later time (time p) (y ∷ s) =
        later_snoc (time p) (y ∷ s) x ∙ ap (λ (b : Bool). all_later time (time p) (y ∷ s) && b) h ∙ and_true (all_later time (time p) (y ∷ s)) in
        ap (λ (b : Bool). cond b (p ∷ y ∷ (s ++ x ∷ [])) (y ∷ insert time p (s ++ x ∷ []))) e ∙ go (all_later time (time p) (y ∷ s)) (insert_later h s)
      where
        go : (b : Bool) → insert time p (s ++ x ∷ []) ≡ insert time p s ++ x ∷ []
            → cond b (p ∷ y ∷ (s ++ x ∷ [])) (y ∷ insert time p (s ++ x ∷ [])) ≡ cond b (p ∷ y ∷ s) (y ∷ insert time p s) ++ x ∷ []
        go true ih = refl
        go false ih = ap (λ (l : List A). y ∷ l) ih

    insert_last : ltb (time p) (time x) ≡ false → (s : List A) → insert time p (s ++ x ∷ []) ≡ s ++ x ∷ p ∷ []
    unfolding insert all_later
    insert_last h [] = simp h
    insert_last h (y ∷ s) =
        let e : all_later time (time p) (y ∷ (s ++ x ∷ [])) ≡ false =
        later_snoc (time p) (y ∷ s) x ∙ ap (λ (b : Bool). all_later time (time p) (y ∷ s) && b) h ∙ and_false (all_later time (time p) (y ∷ s)) in
        ap (λ (b : Bool). cond b (p ∷ y ∷ (s ++ x ∷ [])) (y ∷ insert time p (s ++ x ∷ []))) e ∙ ap (λ (l : List A). y ∷ l) (insert_last h s)

  module _ (d p : A) where
    tail_set : (i : ℕ) (l : List A) (x : A) → suc i < length l → drop (suc i) (set l (suc i) x) ≡ x ∷ drop (suc (suc i)) l
    tail_set i l x h =
        drop-cons (set l (suc i) x) (suc i) d (lt-length-set l (suc i) x h)
        ∙ ap₂ ◌∷◌ (get_or-set_same l (suc i) x d h) (drop-set-lt (suc (suc i)) l (suc i) x (omega arith))

    shift_inserts : (i : ℕ) (l : List A) → i < length l → shifted time d i l p ≡ insert time p (take i l) ++ drop (suc i) l
    unfolding shifted insert
    shift_inserts zero l h = set_split l 0 p h
    shift_inserts (suc i) l h =
        go (ltb (time p) (time (get_or l i d))) refl (shift_inserts i (set l (suc i) (get_or l i d)) (lt-length-set l (suc i) (get_or l i d) (omega arith)))
      where
        top : take (suc i) l ≡ take i l ++ (get_or l i d) ∷ []
        top = take-suc l i d (omega arith)

        go : (b : Bool) → ltb (time p) (time (get_or l i d)) ≡ b
            → shifted time d i (set l (suc i) (get_or l i d)) p ≡ insert time p (take i (set l (suc i) (get_or l i d))) ++ drop (suc i) (set l (suc i) (get_or l i d))
            → cond b (shifted time d i (set l (suc i) (get_or l i d)) p) (set l (suc i) p) ≡ insert time p (take (suc i) l) ++ drop (suc (suc i)) l
        go true e ih =
            ih ∙ ap₂ (λ (a b : List A). insert time p a ++ b) (take-set-le i l (suc i) (get_or l i d) (omega arith)) (tail_set i l (get_or l i d) h)
            ∙ sym (ap (λ (s : List A). s ++ drop (suc (suc i)) l) (ap (insert time p) top ∙ insert_later p (get_or l i d) e (take i l))
            ∙ append_assoc (insert time p (take i l)) ((get_or l i d) ∷ []) (drop (suc (suc i)) l))
        go false e ih =
            set_split l (suc i) p h
            ∙ ap (λ (s : List A). s ++ p ∷ drop (suc (suc i)) l) top
            ∙ append_assoc (take i l) ((get_or l i d) ∷ []) (p ∷ drop (suc (suc i)) l)
            ∙ sym (ap (λ (s : List A). s ++ drop (suc (suc i)) l) (ap (insert time p) top ∙ insert_last p (get_or l i d) e (take i l))
            ∙ append_assoc (take i l) ((get_or l i d) ∷ p ∷ []) (drop (suc (suc i)) l))

-- ---- in a window

pub length_shift : (from i : ℕ) (l : List ℕ) (p : ℕ) → length (shifted_at from i l p) ≡ length l
unfolding shifted_at
length_shift from zero l p = length-set l (from + 0) p
length_shift from (suc i) l p = go (ltb (time_of p) (time_of (get_or l (from + i) 0))) (length_shift from i (set l (from + suc i) (get_or l (from + i) 0)) p)
  where
    go : (b : Bool) → length (shifted_at from i (set l (from + suc i) (get_or l (from + i) 0)) p) ≡ length (set l (from + suc i) (get_or l (from + i) 0))
        → length (cond b (shifted_at from i (set l (from + suc i) (get_or l (from + i) 0)) p) (set l (from + suc i) p)) ≡ length l
    go true ih = ih ∙ length-set l (from + suc i) (get_or l (from + i) 0)
    go false ih = length-set l (from + suc i) p

-- what lies before the window stays
pub shift_below : (from i : ℕ) (l : List ℕ) (p k : ℕ) → k < from → get_or (shifted_at from i l p) k 0 ≡ get_or l k 0
unfolding shifted_at
shift_below from zero l p k h = get_or-set_other l (from + 0) k p 0 (λ e. omega arith)
shift_below from (suc i) l p k h = go (ltb (time_of p) (time_of (get_or l (from + i) 0))) (shift_below from i (set l (from + suc i) (get_or l (from + i) 0)) p k h)
  where
    go : (b : Bool) → get_or (shifted_at from i (set l (from + suc i) (get_or l (from + i) 0)) p) k 0 ≡ get_or (set l (from + suc i) (get_or l (from + i) 0)) k 0
        → get_or (cond b (shifted_at from i (set l (from + suc i) (get_or l (from + i) 0)) p) (set l (from + suc i) p)) k 0 ≡ get_or l k 0
    go true ih = ih ∙ get_or-set_other l (from + suc i) k (get_or l (from + i) 0) 0 (λ e. omega arith)
    go false ih = get_or-set_other l (from + suc i) k p 0 (λ e. omega arith)

window : (from i : ℕ) (l : List ℕ) (p : ℕ) → drop from (shifted_at from i l p) ≡ shifted time_of 0 i (drop from l) p
unfolding shifted_at shifted
window from zero l p = drop-set-add from l 0 p
window from (suc i) l p =
    go (ltb (time_of p) (time_of (get_or l (from + i) 0))) (ltb (time_of p) (time_of (get_or (drop from l) i 0)))
    (ap (λ (x : ℕ). ltb (time_of p) (time_of x)) (sym (get_or-drop from l i 0))) (window from i (set l (from + suc i) (get_or l (from + i) 0)) p)
  where
    go : (b c : Bool) → b ≡ c
        → drop from (shifted_at from i (set l (from + suc i) (get_or l (from + i) 0)) p)
        ≡ shifted time_of 0 i (drop from (set l (from + suc i) (get_or l (from + i) 0))) p
        → drop from (cond b (shifted_at from i (set l (from + suc i) (get_or l (from + i) 0)) p) (set l (from + suc i) p))
        ≡ cond c (shifted time_of 0 i (set (drop from l) (suc i) (get_or (drop from l) i 0)) p) (set (drop from l) (suc i) p)
    go true c e ih =
        rw (← e) (ih ∙ ap (λ (m : List ℕ). shifted time_of 0 i m p)
        (drop-set-add from l (suc i) (get_or l (from + i) 0) ∙ ap (λ (v : ℕ). set (drop from l) (suc i) v) (sym (get_or-drop from l i 0))))
    go false c e ih = rw (← e) (drop-set-add from l (suc i) p)

-- the queue with a point more
pub shifted_in : (from n : ℕ) (l : List ℕ) (p : ℕ) → from + n < length l → keys_in (shifted_at from n l p) from (n + 1) ≡ insert time_of p (keys_in l from n)
shifted_in from n l p h =
    let m : n < length (drop from l) = simp length-drop (omega arith) in
    let k : length (insert time_of p (take n (drop from l))) ≡ n + 1 =
    length_insert time_of p (take n (drop from l)) ∙ ap suc (length-take-le n (drop from l) (omega arith)) ∙ omega arith in
    ap (take (n + 1)) (window from n l p ∙ shift_inserts time_of 0 p n (drop from l) m)
    ∙ take_at (insert time_of p (take n (drop from l))) (drop (suc n) (drop from l)) (n + 1) k

-- ---- the turns of the loop, at place q, the one after it r, with m keys left

module _ (from : ℕ) (l : List ℕ) (p : ℕ) {m : ℕ} where
  pub shift_none : m ≡ 0 → set l from p ≡ shifted_at from m l p
  unfolding shifted_at
  shift_none z = rw z (ap (λ (k : ℕ). set l k p) (omega arith))

  module _ (i : ℕ) {q r : ℕ} (at : q ≡ from + i) (next : r ≡ from + suc i) (left : m ≡ suc i) where
    pub shift_stop : time_of (get_or l q 0) ≤ time_of p → set l r p ≡ shifted_at from m l p
    unfolding shifted_at
    shift_stop g =
        let h : time_of (get_or l (from + i) 0) ≤ time_of p = rw at at g in
        rw (next, left, le-ltb (time_of p) (time_of (get_or l (from + i) 0)) h)

    pub shift_go : time_of p < time_of (get_or l q 0) → shifted_at from i (set l r (get_or l q 0)) p ≡ shifted_at from m l p
    unfolding shifted_at
    shift_go g =
        let h : time_of p < time_of (get_or l (from + i) 0) = rw at at g in
        rw (at, next, left, lt-ltb (time_of p) (time_of (get_or l (from + i) 0)) h)
