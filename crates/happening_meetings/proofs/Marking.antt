-- Marks and pairs: a point meets a mark exactly if a pair interferes, and marks that are wiped are gone. Assumes nothing.
use mathlib.Core.Path.{◌≡◌, refl, sym, ap, ap₂, subst, ◌∙◌}
use mathlib.Core.Bool.{Bool, true, false, cond, ◌&&◌, ◌||◌}
use mathlib.Core.List.{List, [], ◌∷◌}
use mathlib.Core.Logic.{◌⊎◌, inl, inr, ⊎_elim}
use Prim.Native.Nat.{ℕ, ◌+◌, ◌≤◌, ◌<◌}
use native.Mathlib.Omega.{arith}
use lib.Dec.{eqb, ltb}
use lib.ListN.{get_or, set, length, length-set, length-replicate, get_or-replicate, get_or-eq_default}
use lib.Seq.{get_or-set_same, get_or-set_other, ext_get_or, set_out}
use borrow.Author.Tests.{eqb-true, eqb-false, eq-eqb, ne_eqb, ltb-true, ltb-false}
use Rattle.happening_meetings.specs.Accesses.{Access, clash, clashes, meet, some_pair}
use Rattle.happening_meaning.specs.Writes.{some}
use Rattle.happening_meetings.specs.Marks.{no_marks, join_of, hit_by, mark_one, hit_one, mark_all, hit_any, wipe_all, mark_each, scan, wipe_each}

-- ---- Bools

decide : (b : Bool) → (b ≡ true) ⊎ (b ≡ false)
decide true = inl refl
decide false = inr refl

never : true ≡ false → ⊥
never h = let n : ◌≡◌ {A = ℕ} 0 1 = cc in omega arith

pub or_assoc : (a b c : Bool) → ((a || b) || c) ≡ (a || (b || c))
or_assoc true b c = refl
or_assoc false b c = refl

or_same : (a b : Bool) → a ≡ b → (a || b) ≡ b
or_same true b e = e
or_same false b e = refl

or_true : (a : Bool) → (a || true) ≡ true
or_true true = refl
or_true false = refl

pub or_false : (a : Bool) → (a || false) ≡ a
or_false true = refl
or_false false = refl

shuffle : (h a b c : Bool) → (h || ((a || b) || c)) ≡ ((h || a) || (b || c))
shuffle true a b c = refl
shuffle false true b c = refl
shuffle false false b c = refl

middle : (a b c d : Bool) → ((a || b) || (c || d)) ≡ ((a || c) || (b || d))
middle true b c d = refl
middle false true true d = refl
middle false true false d = refl
middle false false c d = refl

-- ---- one mark

free : (m l : ℕ) → eqb m 0 ≡ true → hit_by m l ≡ false
unfolding hit_by
free m l e = simp e

several : (l : ℕ) → hit_by 1 l ≡ true
unfolding hit_by
several l = simp (ne_eqb 1 (l + 2) (λ z. omega arith))

single : (k l : ℕ) → hit_by (k + 2) l ≡ clash k l
unfolding hit_by clash
single k l = ⊎_elim same other (decide (eqb k l))
  where
    same : eqb k l ≡ true → hit_by (k + 2) l ≡ clash k l
    same e =
        let h : k ≡ l = eqb-true k l e in
        simp (h, ne_eqb (l + 2) 0 (λ z. omega arith), eq-eqb (l + 2) (l + 2) refl, eq-eqb l l refl)

    other : eqb k l ≡ false → hit_by (k + 2) l ≡ clash k l
    other e = simp (ne_eqb (k + 2) 0 (λ z. omega arith), ne_eqb (k + 2) (l + 2) (λ z. eqb-false k l e (omega arith)), e)

module _ (m k l : ℕ) where
  join_none : eqb m 0 ≡ true → hit_by (join_of m k) l ≡ (hit_by m l || clash k l)
  unfolding join_of
  join_none e = simp e (single k l ∙ ap (λ (b : Bool). b || clash k l) (sym (free m l e)))

  join_same : eqb m 0 ≡ false → eqb m (k + 2) ≡ true → hit_by (join_of m k) l ≡ (hit_by m l || clash k l)
  unfolding join_of
  join_same e f =
      let g : hit_by m l ≡ clash k l = ap (λ (n : ℕ). hit_by n l) (eqb-true m (k + 2) f) ∙ single k l in
      simp (e, f) (g ∙ sym (ap (λ (b : Bool). b || clash k l) g ∙ or_same (clash k l) (clash k l) refl))

  mixed : eqb m 0 ≡ false → eqb m (k + 2) ≡ false → (hit_by m l || clash k l) ≡ true
  unfolding hit_by clash
  mixed e f =
      ⊎_elim
      (λ (g : eqb m (l + 2) ≡ true). simp (e, g, ne_eqb k l (λ z. eqb-false m (k + 2) f (eqb-true m (l + 2) g ∙ omega arith)), or_true (eqb l 3)))
      (λ (g : eqb m (l + 2) ≡ false). simp (e, g))
      (decide (eqb m (l + 2)))

  join_mixed : eqb m 0 ≡ false → eqb m (k + 2) ≡ false → hit_by (join_of m k) l ≡ (hit_by m l || clash k l)
  unfolding join_of
  join_mixed e f = simp (e, f) (several l ∙ sym (mixed e f))

  -- a mark with one thing more clashes with what clashed before, and with what clashes with that thing
  pub join_hits : hit_by (join_of m k) l ≡ (hit_by m l || clash k l)
  join_hits = ⊎_elim join_none (λ e. ⊎_elim (join_same e) (join_mixed e) (decide (eqb m (k + 2)))) (decide (eqb m 0))

-- ---- the marks of one point

-- every index is one of the n
unfoldable pub Inside : ℕ → List Access → Type 0
Inside n [] = Unit {0}
Inside n (a ∷ xs) = (a.index < n) × Inside n xs

abbrev at_kind : ℕ → ℕ → Access → Bool
at_kind x k a = eqb a.index x && clash a.kind k

shown_one : (l : List ℕ) (a : Access) (x k : ℕ) → a.index < length l → hit_by (get_or (mark_one l a) x 0) k ≡ (hit_by (get_or l x 0) k || at_kind x k a)
shown_one l a x k h = ⊎_elim here there (decide (eqb a.index x))
  where
    here : eqb a.index x ≡ true → hit_by (get_or (mark_one l a) x 0) k ≡ (hit_by (get_or l x 0) k || at_kind x k a)
    here e =
        let i : a.index ≡ x = eqb-true a.index x e in
        rw (e, ← i, get_or-set_same l a.index (join_of (get_or l a.index 0) a.kind) 0 h, join_hits (get_or l a.index 0) a.kind k)

    there : eqb a.index x ≡ false → hit_by (get_or (mark_one l a) x 0) k ≡ (hit_by (get_or l x 0) k || at_kind x k a)
    there e =
        rw (
          e,
          get_or-set_other l a.index x (join_of (get_or l a.index 0) a.kind) 0 (λ z. eqb-false a.index x e (sym z)),
          or_false (hit_by (get_or l x 0) k),
        )

shown : (l : List ℕ) (p : List Access) (x k : ℕ) → Inside (length l) p → hit_by (get_or (mark_all l p) x 0) k ≡ (hit_by (get_or l x 0) k || some (at_kind x k) p)
unfolding mark_all some Inside
shown l [] x k h = sym (or_false (hit_by (get_or l x 0) k))
shown l (a ∷ p) x k h =
    let i : Inside (length (mark_one l a)) p = rw (length-set l a.index (join_of (get_or l a.index 0) a.kind)) h.1 in
    shown (mark_one l a) p x k i
    ∙ ap (λ (b : Bool). b || some (at_kind x k) p) (shown_one l a x k h.0)
    ∙ or_assoc (hit_by (get_or l x 0) k) (at_kind x k a) (some (at_kind x k) p)

-- ---- `some`

some_or : {A : Type 0} (f g : A → Bool) (xs : List A) → some (λ x. f x || g x) xs ≡ (some f xs || some g xs)
unfolding some
some_or f g [] = refl
some_or f g (x ∷ xs) = ap (λ (b : Bool). (f x || g x) || b) (some_or f g xs) ∙ middle (f x) (g x) (some f xs) (some g xs)

some_none : {A : Type 0} (xs : List A) → some (λ (x : A). false) xs ≡ false
unfolding some
some_none [] = refl
some_none (x ∷ xs) = some_none xs

some_swap : {A B : Type 0} (r : A → B → Bool) (xs : List A) (ys : List B) → some (λ y. some (λ x. r x y) xs) ys ≡ some (λ x. some (r x) ys) xs
unfolding some
some_swap r [] ys = some_none ys
some_swap r (x ∷ xs) ys = some_or (r x) (λ y. some (λ z. r z y) xs) ys ∙ ap (λ (b : Bool). some (r x) ys || b) (some_swap r xs ys)

-- ---- a point against marks

-- every index of every point is one of the n
unfoldable pub InsideAll : ℕ → List (List Access) → Type 0
InsideAll n [] = Unit {0}
InsideAll n (p ∷ ps) = Inside n p × InsideAll n ps

length_mark : (l : List ℕ) (p : List Access) → length (mark_all l p) ≡ length l
unfolding mark_all
length_mark l [] = refl
length_mark l (a ∷ p) = length_mark (mark_one l a) p ∙ length-set l a.index (join_of (get_or l a.index 0) a.kind)

length_wipe : (l : List ℕ) (p : List Access) → length (wipe_all l p) ≡ length l
unfolding wipe_all
length_wipe l [] = refl
length_wipe l (a ∷ p) = length_wipe (set l a.index 0) p ∙ length-set l a.index 0

hit_marked : (l : List ℕ) (p q : List Access) → Inside (length l) p → hit_any (mark_all l p) q ≡ (hit_any l q || some (λ b. some (λ a. clashes a b) p) q)
unfolding hit_any some clashes
hit_marked l p [] h = refl
hit_marked l p (b ∷ q) h =
    ap₂ ◌||◌ (shown l p b.index b.kind h) (hit_marked l p q h)
    ∙ middle (hit_one l b) (some (λ a. clashes a b) p) (hit_any l q) (some (λ b. some (λ a. clashes a b) p) q)

hit_meets : (l : List ℕ) (p q : List Access) → Inside (length l) p → hit_any (mark_all l p) q ≡ (hit_any l q || meet p q)
unfolding meet
hit_meets l p q h = hit_marked l p q h ∙ ap (λ (b : Bool). hit_any l q || b) (some_swap clashes p q)

some_meets : (l : List ℕ) (p : List Access) (ps : List (List Access)) → Inside (length l) p
    → some (hit_any (mark_all l p)) ps ≡ (some (hit_any l) ps || some (meet p) ps)
unfolding some
some_meets l p [] h = refl
some_meets l p (q ∷ qs) h =
    ap₂ ◌||◌ (hit_meets l p q h) (some_meets l p qs h)
    ∙ middle (hit_any l q) (meet p q) (some (hit_any l) qs) (some (meet p) qs)

scan_pairs : (l : List ℕ) (ps : List (List Access)) → InsideAll (length l) ps → scan l ps ≡ (some (hit_any l) ps || some_pair ps)
unfolding scan some_pair some InsideAll
scan_pairs l [] h = refl
scan_pairs l (p ∷ ps) h =
    let i : InsideAll (length (mark_all l p)) ps = rw (length_mark l p) h.1 in
    ap (λ (b : Bool). hit_any l p || b) (scan_pairs (mark_all l p) ps i ∙ ap (λ (b : Bool). b || some_pair ps) (some_meets l p ps h.0))
    ∙ shuffle (hit_any l p) (some (hit_any l) ps) (some (meet p) ps) (some_pair ps)

-- ---- no marks

nothing_at : (x : ℕ) → get_or no_marks x 0 ≡ 0
nothing_at x =
    ⊎_elim (λ h. get_or-replicate 17408 x 0 0 (ltb-true x 17408 h))
    (λ h. get_or-eq_default no_marks 0 {n = x} (rw (length-replicate {A = ℕ} 17408 0) (ltb-false x 17408 h)))
    (decide (ltb x 17408))

pub none_hit : (p : List Access) → hit_any no_marks p ≡ false
unfolding hit_any hit_by
none_hit [] = refl
none_hit (a ∷ p) = simp (nothing_at a.index, none_hit p)

none_hits : (ps : List (List Access)) → some (hit_any no_marks) ps ≡ false
unfolding some
none_hits [] = refl
none_hits (p ∷ ps) = simp (none_hit p, none_hits ps)

-- THE LAW: from no marks, some point meets a mark exactly if some pair interferes
pub scanned : (ps : List (List Access)) → InsideAll 17408 ps → scan no_marks ps ≡ some_pair ps
scanned ps h =
    let i : InsideAll (length no_marks) ps = rw (length-replicate {A = ℕ} 17408 0) h in
    scan_pairs no_marks ps i ∙ ap (λ (b : Bool). b || some_pair ps) (none_hits ps)

-- ---- wiping

abbrev at_index : ℕ → Access → Bool
at_index x a = eqb a.index x

unmarked : (l : List ℕ) (p : List Access) (x : ℕ) → some (at_index x) p ≡ false → get_or (mark_all l p) x 0 ≡ get_or l x 0
unfolding mark_all some
unmarked l [] x h = refl
unmarked l (a ∷ p) x h = go (eqb a.index x) refl h (unmarked (mark_one l a) p x)
  where
    go : (b : Bool) → eqb a.index x ≡ b → (b || some (at_index x) p) ≡ false
        → (some (at_index x) p ≡ false → get_or (mark_all (mark_one l a) p) x 0 ≡ get_or (mark_one l a) x 0) → get_or (mark_all (mark_one l a) p) x 0 ≡ get_or l x 0
    go true e f ih = absurd (never f)
    go false e f ih = ih f ∙ get_or-set_other l a.index x (join_of (get_or l a.index 0) a.kind) 0 (λ z. eqb-false a.index x e (sym z))

unmarked_each : (l : List ℕ) (ps : List (List Access)) (x : ℕ) → some (some (at_index x)) ps ≡ false → get_or (mark_each l ps) x 0 ≡ get_or l x 0
unfolding mark_each some
unmarked_each l [] x h = refl
unmarked_each l (p ∷ ps) x h = go (some (at_index x) p) refl h (unmarked_each (mark_all l p) ps x)
  where
    go : (b : Bool) → some (at_index x) p ≡ b → (b || some (some (at_index x)) ps) ≡ false
        → (some (some (at_index x)) ps ≡ false → get_or (mark_each (mark_all l p) ps) x 0 ≡ get_or (mark_all l p) x 0)
        → get_or (mark_each (mark_all l p) ps) x 0 ≡ get_or l x 0
    go true e f ih = absurd (never f)
    go false e f ih = ih f ∙ unmarked l p x e

set_zero : (l : List ℕ) (i : ℕ) → get_or (set l i 0) i 0 ≡ 0
set_zero l i =
    ⊎_elim (λ h. get_or-set_same l i 0 0 (ltb-true i (length l) h))
    (λ h. let g : length l ≤ i = ltb-false i (length l) h in ap (λ (m : List ℕ). get_or m i 0) (set_out l i 0 g) ∙ get_or-eq_default l 0 g)
    (decide (ltb i (length l)))

cond_zero : (b : Bool) → ◌≡◌ {A = ℕ} (cond b 0 0) 0
cond_zero true = refl
cond_zero false = refl

cond_or : (a b : Bool) (v : ℕ) → cond b 0 (cond a 0 v) ≡ cond (a || b) 0 v
cond_or true b v = cond_zero b
cond_or false b v = refl

wiped_one : (l : List ℕ) (i x : ℕ) → get_or (set l i 0) x 0 ≡ cond (eqb i x) 0 (get_or l x 0)
wiped_one l i x = go (eqb i x) refl
  where
    go : (b : Bool) → eqb i x ≡ b → get_or (set l i 0) x 0 ≡ cond b 0 (get_or l x 0)
    go true e = subst (λ (y : ℕ). get_or (set l i 0) y 0 ≡ 0) (eqb-true i x e) (set_zero l i)
    go false e = get_or-set_other l i x 0 0 (λ z. eqb-false i x e (sym z))

wiped_all : (l : List ℕ) (p : List Access) (x : ℕ) → get_or (wipe_all l p) x 0 ≡ cond (some (at_index x) p) 0 (get_or l x 0)
unfolding wipe_all some
wiped_all l [] x = refl
wiped_all l (a ∷ p) x =
    wiped_all (set l a.index 0) p x
    ∙ ap (λ (v : ℕ). cond (some (at_index x) p) 0 v) (wiped_one l a.index x)
    ∙ cond_or (at_index x a) (some (at_index x) p) (get_or l x 0)

wiped_each : (l : List ℕ) (ps : List (List Access)) (x : ℕ) → get_or (wipe_each l ps) x 0 ≡ cond (some (some (at_index x)) ps) 0 (get_or l x 0)
unfolding wipe_each some
wiped_each l [] x = refl
wiped_each l (p ∷ ps) x =
    wiped_each (wipe_all l p) ps x
    ∙ ap (λ (v : ℕ). cond (some (some (at_index x)) ps) 0 v) (wiped_all l p x)
    ∙ cond_or (some (at_index x) p) (some (some (at_index x)) ps) (get_or l x 0)

length_marks : (l : List ℕ) (ps : List (List Access)) → length (mark_each l ps) ≡ length l
unfolding mark_each
length_marks l [] = refl
length_marks l (p ∷ ps) = length_marks (mark_all l p) ps ∙ length_mark l p

length_wipes : (l : List ℕ) (ps : List (List Access)) → length (wipe_each l ps) ≡ length l
unfolding wipe_each
length_wipes l [] = refl
length_wipes l (p ∷ ps) = length_wipes (wipe_all l p) ps ∙ length_wipe l p

-- marks that are wiped by the same accesses are gone
pub all_wiped : (ps : List (List Access)) → wipe_each (mark_each no_marks ps) ps ≡ no_marks
all_wiped ps =
    ext_get_or 0 (wipe_each (mark_each no_marks ps) ps) no_marks (length_wipes (mark_each no_marks ps) ps ∙ length_marks no_marks ps)
    (λ x h. wiped_each (mark_each no_marks ps) ps x ∙ go x (some (some (at_index x)) ps) refl)
  where
    go : (x : ℕ) (b : Bool) → some (some (at_index x)) ps ≡ b → cond b 0 (get_or (mark_each no_marks ps) x 0) ≡ get_or no_marks x 0
    go x true e = sym (nothing_at x)
    go x false e = unmarked_each no_marks ps x e
