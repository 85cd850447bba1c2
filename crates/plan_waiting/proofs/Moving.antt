-- A place taken out of the list: the others close up, from the last on. Assumes nothing.
use Prim.Native.Nat.{ℕ, suc, ◌+◌, ◌-◌, ◌%◌, ◌≤◌, ◌<◌}
use mathlib.Core.Bool.{Bool, true, false, cond}
use mathlib.Core.List.{List, ◌∷◌, ◌++◌}
use mathlib.Core.Path.{◌≡◌, refl, sym, ap, ◌∙◌}
use native.Mathlib.Omega.{arith}
use borrow.Author.Tests.{ltb-true, ltb-false, eqb-true, eqb-false, le-ltb, le-leb, lt-leb, eq-eqb, ne_eqb}
use lib.Dec.{eqb, ltb, leb}
use lib.ListN.{length, take, get_or, length-append, get_or-append}
use lib.Seq.{get_or-take, get_or-append-add, ext_get_or, length-take-le}
use Rattle.plan_waiting.specs.Lent.{places_in, place_at, Apart, Moved}
use Rattle.plan_waiting.proofs.LentPlaces.{places_long, place_there}

-- ---- the turns of the loop

-- from number i on the places have closed up, and p is number n
pub record Shifted (words₀ words : List ℕ) (n p i : ℕ) : Type 0 where
  pub front : (k : ℕ) → k < 384 + i → get_or words k 0 ≡ get_or words₀ k 0
  pub back : (k : ℕ) → 384 + n < k → get_or words k 0 ≡ get_or words₀ k 0
  pub after : (a : ℕ) → i ≤ a → a < n → get_or words (384 + a) 0 ≡ get_or words₀ (384 + (a + 1)) 0
  pub last : i ≤ n → place_at words n ≡ p
  pub long : length words ≡ 640

-- x stood at number i, or is p where there is none yet; and p was none of those
pub record Carried (words₀ words : List ℕ) (n p i x : ℕ) : Type 0 where
  pub shifted : Shifted words₀ words n p i
  pub stood : i ≤ n → x ≡ get_or words₀ (384 + i) 0
  pub first : n < i → x % 64 ≡ p
  pub none : (a : ℕ) → i ≤ a → a ≤ n → place_at words₀ a ≡ p → ⊥

-- ---- no place is listed twice then

-- what was number b is that number then
abbrev where_to : ℕ → ℕ → ℕ → ℕ
where_to n i b = cond (ltb b i) b (cond (eqb b i) n (cond (leb b n) (b - 1) b))

module _ {words words' : List ℕ} {n i : ℕ} (few : n < 64) (m : Moved words words' n i) where
  module _ (above : (k : ℕ) → 384 + n < k → get_or words' k 0 ≡ get_or words k 0) where
    whence : (a : ℕ) → a < 64 → (b : ℕ) × (b < 64) × (place_at words' a ≡ place_at words b) × (where_to n i b ≡ a)
    whence a l = go (ltb a i) (ltb a n) (eqb a n) refl refl refl
      where
        go : (u v w : Bool) → ltb a i ≡ u → ltb a n ≡ v → eqb a n ≡ w
            → (b : ℕ) × (b < 64) × (place_at words' a ≡ place_at words b) × (where_to n i b ≡ a)
        go true v w eu ev ew = (a, l, ap (λ (y : ℕ). y % 64) (m.before a (ltb-true a i eu)), rw eu)
        go false true w eu ev ew =
            let g : i ≤ a = ltb-false a i eu in
            let h : a < n = ltb-true a n ev in (
              a + 1,
              omega arith,
              ap (λ (y : ℕ). y % 64) (m.after a g h),
              rw (le-ltb (a + 1) i (omega arith), ne_eqb (a + 1) i (λ z. omega arith), le-leb (a + 1) n (omega arith)) (omega arith),
            )
        go false false true eu ev ew =
            let z : a ≡ n = eqb-true a n ew in
            (i, omega (arith, m.inside), ap (place_at words') z ∙ m.last, rw (le-ltb i i (omega arith), eq-eqb i i refl) (sym z))
        go false false false eu ev ew =
            let g : n ≤ a = ltb-false a n ev in
            let z : a ≡ n → ⊥ = eqb-false a n ew in (
              a,
              l,
              ap (λ (y : ℕ). y % 64) (above (384 + a) (omega arith)),
              rw (eu, ne_eqb a i (λ y. z (omega (arith, m.inside))), lt-leb a n (omega arith)),
            )

    pub moved_apart : Apart words → Apart words'
    moved_apart apart a b la lb e =
        let p = whence a la in
        let q = whence b lb in
        let same : p.0 ≡ q.0 = apart p.0 q.0 p.1 q.1 (sym p.2 ∙ e ∙ q.2) in
        sym p.3 ∙ ap (where_to n i) same ∙ q.3

  -- ---- the list without it

  module _ (a : List ℕ) (x : ℕ) (b : List ℕ) (e : take (n + 1) (places_in words) ≡ a ++ x ∷ b) (ei : i ≡ length a) where
    listed : (k : ℕ) → k ≤ n → get_or words (384 + k) 0 ≡ get_or (a ++ x ∷ b) k 0
    listed k g =
        sym (get_or-take (n + 1) (places_in words) k 0 (omega arith) ∙ place_there words k (omega arith)) ∙ ap (λ (l : List ℕ). get_or l k 0) e

    pub closed_up : take n (places_in words') ≡ a ++ b
    closed_up =
        let long : length (take (n + 1) (places_in words)) ≡ n + 1 = length-take-le (n + 1) (places_in words) (omega (arith, places_long words)) in
        let long' : length (take n (places_in words')) ≡ n = length-take-le n (places_in words') (omega (arith, places_long words')) in
        let all : n + 1 ≡ length a + length (x ∷ b) = sym long ∙ ap length e ∙ length-append a (x ∷ b) in
        ext_get_or 0 (take n (places_in words')) (a ++ b) (long' ∙ (let y : n ≡ length a + length b = omega arith in y) ∙ sym (length-append a b))
        (λ k g.
        let h : k < n = omega arith in
        get_or-take n (places_in words') k 0 h ∙ place_there words' k (omega arith) ∙ go k h (ltb k i) refl)
      where
        go : (k : ℕ) → k < n → (u : Bool) → ltb k i ≡ u → get_or words' (384 + k) 0 ≡ get_or (a ++ b) k 0
        go k h true q =
            let g : k < i = ltb-true k i q in
            let f : k < length a = omega arith in
            m.before k g ∙ listed k (omega arith) ∙ get_or-append a (x ∷ b) 0 k f ∙ sym (get_or-append a b 0 k f)
        go k h false q =
            let g : i ≤ k = ltb-false k i q in
            let y : k + 1 ≡ length a + suc (k - i) = omega arith in
            let z : length a + (k - i) ≡ k = omega arith in
            m.after k g h ∙ listed (k + 1) (omega arith) ∙ ap (λ (j : ℕ). get_or (a ++ x ∷ b) j 0) y ∙ get_or-append-add a (x ∷ b) (suc (k - i)) 0
            ∙ sym (get_or-append-add a b (k - i) 0) ∙ ap (λ (j : ℕ). get_or (a ++ b) j 0) z
