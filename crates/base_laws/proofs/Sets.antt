-- Elements stored one after the other: two stores are one of both, and what a store leaves. Assumes nothing.
use mathlib.Core.Path.{◌≡◌, refl, sym, ap, ◌∙◌}
use mathlib.Core.List.{List, [], ◌∷◌, ◌++◌, append_assoc, append-nil}
use Prim.Native.Nat.{ℕ, zero, suc, ◌+◌, ◌≤◌, ◌<◌}
use native.Mathlib.Nat.{add-zero, zero-add}
use native.Mathlib.Numerals.{add-one}
use native.Mathlib.Omega.{arith}
use lib.ListN.{length, set, get_or, take, drop, drop_of_length-le}
use lib.Seq.{sets, sets-eq, set_comm, take_at, drop-cons, drop-drop}

-- ---- stores one after the other

pub sets_append : {A : Type 0} (l : List A) (i : ℕ) (xs ys : List A) → sets (sets l i xs) (i + length xs) ys ≡ sets l i (xs ++ ys)
sets_append l i [] ys = ap (λ k. sets l k ys) (add-zero i)
sets_append l i (x ∷ xs) ys =
    let e : i + suc (length xs) ≡ suc i + length xs = omega arith in
    ap (λ k. sets (sets (set l i x) (suc i) xs) k ys) e ∙ sets_append (set l i x) (suc i) xs ys

-- an element stored in front of others
pub set_before : (l : List ℕ) (i j a : ℕ) (xs : List ℕ) → i < j → set (sets l j xs) i a ≡ sets (set l i a) j xs
set_before l i j a [] h = refl
set_before l i j a (x ∷ xs) h =
    set_before (set l j x) i (suc j) a xs (omega arith) ∙ ap (λ (r : List ℕ). sets r (suc j) xs) (set_comm l j i x a (λ e. let z : ⊥ = omega arith in z))

-- ---- one element after the other

pub sets_step : (l w : List ℕ) (at i : ℕ) → i < length w → sets (set l (at + i) (get_or w i 0)) (at + (i + 1)) (drop (i + 1) w) ≡ sets l (at + i) (drop i w)
sets_step l w at i h =
    let e : at + (i + 1) ≡ suc (at + i) = omega arith in
    rw (e, add-one i, drop-cons w i 0 h)

pub sets_end : (l w : List ℕ) (at i : ℕ) → length w ≤ i → sets l (at + i) (drop i w) ≡ l
sets_end l w at i h = rw (drop_of_length-le w h)

-- ---- what is there after a store

pub sets_cons : (x : ℕ) (l : List ℕ) (u : ℕ) (vs : List ℕ) → sets (x ∷ l) (suc u) vs ≡ x ∷ sets l u vs
sets_cons x l u [] = refl
sets_cons x l u (v ∷ vs) = sets_cons x (set l u v) (suc u) vs

pub sets_at : (p q vs : List ℕ) (n : ℕ) → length p ≡ n → sets (p ++ q) n vs ≡ p ++ sets q 0 vs
sets_at [] q vs n h = ap (λ (k : ℕ). sets q k vs) (sym h)
sets_at (x ∷ p) q vs zero h = absurd (let z : ⊥ = omega arith in z)
sets_at (x ∷ p) q vs (suc n) h = sets_cons x (p ++ q) n vs ∙ ap (λ (l : List ℕ). x ∷ l) (sets_at p q vs n (omega arith))

-- at the front: what was stored, and what lay after it
pub sets_first : {A : Type 0} (w out : List A) → length w ≤ length out → sets out 0 w ≡ w ++ drop (length w) out
sets_first w out l = sets-eq w out 0 (omega arith) ∙ ap (λ (n : ℕ). w ++ drop n out) (zero-add (length w))

pub sets_front : (l vs : List ℕ) (n : ℕ) → length vs ≡ n → n ≤ length l → take n (sets l 0 vs) ≡ vs
sets_front l vs n e h = ap (λ (x : List ℕ). take n x) (sets_first vs l (omega arith)) ∙ take_at vs (drop (length vs) l) n e

-- over all that there is
pub sets_whole : (l vs : List ℕ) → length l ≡ length vs → sets l 0 vs ≡ vs
sets_whole l vs h =
    let b : length l ≤ length vs = omega arith in
    sets_first vs l (omega arith) ∙ ap (λ (x : List ℕ). vs ++ x) (drop_of_length-le l b) ∙ append-nil vs

pub sets_behind : (p q vs : List ℕ) (n : ℕ) → length p ≡ n → length vs ≤ length q → sets (p ++ q) n vs ≡ p ++ (vs ++ drop (length vs) q)
sets_behind p q vs n e h = sets_at p q vs n e ∙ ap (λ (l : List ℕ). p ++ l) (sets_first vs q h)

-- a part that was lent is back
pub part_back : (l ys : List ℕ) (a k : ℕ) → k ≡ length ys → a + length ys ≤ length l → take a l ++ (ys ++ drop k (drop a l)) ≡ sets l a ys
part_back l ys a k e room = rw (drop-drop k a l, e, sets-eq ys l a room, append_assoc (take a l) ys (drop (a + length ys) l))
