-- Texts that are the same up to a place have the same gaps, runs and parts before it. Assumes nothing.
use mathlib.Core.Path.{◌≡◌, refl}
use mathlib.Core.List.{List, [], ◌∷◌}
use mathlib.Core.Bool.{Bool, true, false, cond}
use Prim.Native.Nat.{ℕ, zero, suc, ◌+◌, ◌-◌, ◌≤◌, ◌<◌, min}
use native.Mathlib.Nat.{le_refl}
use native.Mathlib.Omega.{arith}
use native.Mathlib.Decide.{dec_le}
use lib.Dec.{eqb}
use lib.ListN.{get_or, take, drop}
use lib.Seq.{take-nil, take-take, get_or-take, get_or-drop}
use Rattle.text_words.specs.Bytes.{kind_of, is_wordly, in_run, on_start}
use Rattle.text_words.specs.declared.bytes.Kind.{Kind}
use Rattle.text_words.specs.declared.bytes.Kind.TheVariants as K
use Rattle.text_tokens.specs.Runs.{part, gap_step, on_gap, gap, gap_end, run, run_end}
use Rattle.text_tokens.specs.declared.runs.Gap.{Gap}
use Rattle.text_tokens.specs.declared.runs.Gap.TheVariants as G
use Rattle.domain_refusal_laws.specs.Lowest.{seen}

-- ---- lists that are the same up to j

apart : {A : Type 0} {b : ℕ} {bs : List ℕ} → ◌≡◌ {A = List ℕ} [] (b ∷ bs) → A
apart e = let z : ◌≡◌ {A = ℕ} 0 1 = cc in absurd (let y : ⊥ = omega arith in y)

gap_step_lem : (g : Gap) (j a b x y : ℕ) → min j a ≡ min j x → min j b ≡ min j y → min (suc j) (on_gap g (suc a) (suc b) 0) ≡ min (suc j) (on_gap g (suc x) (suc y) 0)
gap_step_lem G.Plain j a b x y h k = omega arith
gap_step_lem G.Comment j a b x y h k = omega arith
gap_step_lem G.Token j a b x y h k = refl

gap_agrees : (j : ℕ) (l m : List ℕ) (c : Bool) → take j l ≡ take j m → min j (gap c l) ≡ min j (gap c m)
unfolding gap
gap_agrees zero l m c e = omega arith
gap_agrees (suc j) [] [] c e = refl
gap_agrees (suc j) [] (y ∷ m) c e = apart e
gap_agrees (suc j) (x ∷ l) [] c e = apart (let r : [] ≡ x ∷ take j l = cc in r)
gap_agrees (suc j) (x ∷ l) (y ∷ m) c e =
    let h : x ≡ y = cc in
    let k : take j l ≡ take j m = cc in
    rw (← h) (gap_step_lem (gap_step c x) j _ _ _ _ (gap_agrees j l m false k) (gap_agrees j l m true k))

run_step : (b : Bool) (j a x : ℕ) → min j a ≡ min j x → min (suc j) (cond b (suc a) 0) ≡ min (suc j) (cond b (suc x) 0)
run_step true j a x h = omega arith
run_step false j a x h = refl

run_agrees : (j : ℕ) (l m : List ℕ) (stop : ℕ) → take j l ≡ take j m → min j (run stop l) ≡ min j (run stop m)
unfolding run
run_agrees zero l m stop e = omega arith
run_agrees (suc j) [] [] stop e = refl
run_agrees (suc j) [] (y ∷ m) stop e = apart e
run_agrees (suc j) (x ∷ l) [] stop e = apart (let r : [] ≡ x ∷ take j l = cc in r)
run_agrees (suc j) (x ∷ l) (y ∷ m) stop e =
    let h : x ≡ y = cc in
    let k : take j l ≡ take j m = cc in
    rw (← h) (run_step (in_run stop x) j _ _ (run_agrees j l m stop k))

drop_take : (x q : ℕ) (s : List ℕ) → take (q - x) (drop x s) ≡ drop x (take q s)
drop_take zero q s = let e : q - 0 ≡ q = omega arith in rw e
drop_take (suc x) zero s = let e : 0 - suc x ≡ 0 = omega arith in rw e
drop_take (suc x) (suc q) [] = take-nil (suc q - suc x)
drop_take (suc x) (suc q) (b ∷ s) = let e : suc q - suc x ≡ q - x = omega arith in rw e (drop_take x q s)

-- ---- texts that are the same up to q
module _ (s u : List ℕ) (q : ℕ) (a : take q s ≡ take q u) where
  rest : (x : ℕ) → take (q - x) (drop x s) ≡ take (q - x) (drop x u)
  rest x = rw (drop_take x q s, drop_take x q u, a)

  pub gap_near : (at : ℕ) → min q (gap_end s at) ≡ min q (gap_end u at)
  unfolding gap_end
  gap_near at = omega (arith, gap_agrees (q - at) (drop at s) (drop at u) false (rest at))

  pub run_near : (x : ℕ) → min q (run_end s 59 x) ≡ min q (run_end u 59 x)
  unfolding run_end
  run_near x = omega (arith, run_agrees (q - x) (drop x s) (drop x u) 59 (rest x))

  pub part_near : (p e : ℕ) → e ≤ q → part s p e ≡ part u p e
  part_near p e h = rw (drop_take p e s, drop_take p e u, ← take-take e q s h, ← take-take e q u h, a)

  pub byte_near : (p : ℕ) → p < q → get_or s p 0 ≡ get_or u p 0
  byte_near p h = rw (← get_or-take q s p 0 h, ← get_or-take q u p 0 h, a)

-- ---- what is seen grows with the place

stops_at : (l : List ℕ) (i : ℕ) → in_run 59 (get_or l i 0) ≡ false → run 59 l ≤ i
unfolding run
stops_at [] i h = omega arith
stops_at (b ∷ l) zero h = rw h (le_refl 0)
stops_at (b ∷ l) (suc i) h = go (in_run 59 b) (stops_at l i h)
  where
    go : (t : Bool) → run 59 l ≤ i → cond t (suc (run 59 l)) 0 ≤ suc i
    go true k = omega arith
    go false k = omega arith

stopped : (l : List ℕ) → in_run 59 (get_or l (run 59 l) 0) ≡ false
unfolding run in_run kind_of Rattle.text_words.specs.Bytes.bytes
stopped [] = refl
stopped (b ∷ l) = go (in_run 59 b) refl (stopped l)
  where
    go : (t : Bool) → in_run 59 b ≡ t → in_run 59 (get_or l (run 59 l) 0) ≡ false → in_run 59 (get_or (b ∷ l) (cond t (suc (run 59 l)) 0) 0) ≡ false
    go true e k = k
    go false e k = e

ends_before : (s : List ℕ) (x y : ℕ) → x ≤ y → in_run 59 (get_or s y 0) ≡ false → run_end s 59 x ≤ y
unfolding run_end
ends_before s x y h k =
    let e : x + (y - x) ≡ y = omega arith in
    omega (arith, stops_at (drop x s) (y - x) (rw (get_or-drop, e) k))

ends_later : (s : List ℕ) (x y : ℕ) → x ≤ y → run_end s 59 x ≤ run_end s 59 y
unfolding run_end
ends_later s x y h = ends_before s x (y + run 59 (drop y s)) (omega arith) (rw (← get_or-drop y s (run 59 (drop y s)) 0) (stopped (drop y s)))

pub run_behind : (s : List ℕ) (x : ℕ) → x ≤ run_end s 59 x
unfolding run_end
run_behind s x = omega arith

unwordly : (b : ℕ) → is_wordly (kind_of b) ≡ false → in_run 59 b ≡ false
unfolding in_run
unwordly b h = go (eqb b 59)
  where
    go : (t : Bool) → cond t false (cond t false (is_wordly (kind_of b))) ≡ false
    go true = refl
    go false = h

pub seen_low : (s : List ℕ) (p : ℕ) → p < seen s p
unfolding seen
seen_low s p = go (kind_of (get_or s p 0))
  where
    go : (k : Kind) → p < on_start k (run_end s 59 (p + 1) + 1) (p + 1) (p + 1)
    go K.Digit = omega (arith, run_behind s (p + 1))
    go K.Letter = omega (arith, run_behind s (p + 1))
    go K.Bracket = omega arith
    go K.White = omega (arith, run_behind s (p + 1))
    go K.Mark = omega (arith, run_behind s (p + 1))
    go K.Refused = omega arith

seen_most : (s : List ℕ) (p : ℕ) → seen s p ≤ run_end s 59 (p + 1) + 1
unfolding seen
seen_most s p = go (kind_of (get_or s p 0))
  where
    go : (k : Kind) → on_start k (run_end s 59 (p + 1) + 1) (p + 1) (p + 1) ≤ run_end s 59 (p + 1) + 1
    go K.Digit = omega arith
    go K.Letter = omega arith
    go K.Bracket = omega (arith, run_behind s (p + 1))
    go K.White = omega arith
    go K.Mark = omega arith
    go K.Refused = omega (arith, run_behind s (p + 1))

seen_behind : (s : List ℕ) (p r : ℕ) → p < r → seen s p ≤ seen s r
unfolding seen
seen_behind s p r h = go (kind_of (get_or s r 0)) refl
  where
    later : seen s p ≤ run_end s 59 (r + 1) + 1
    later = omega (arith, seen_most s p, ends_later s (p + 1) (r + 1) (omega arith))

    before : (k : Kind) → kind_of (get_or s r 0) ≡ k → is_wordly k ≡ false → seen s p ≤ r + 1
    before k e w = omega (arith, seen_most s p, ends_before s (p + 1) r (omega arith) (unwordly (get_or s r 0) (rw e w)))

    go : (k : Kind) → kind_of (get_or s r 0) ≡ k → seen s p ≤ on_start k (run_end s 59 (r + 1) + 1) (r + 1) (r + 1)
    go K.Digit e = later
    go K.Letter e = later
    go K.Bracket e = before K.Bracket e refl
    go K.White e = later
    go K.Mark e = later
    go K.Refused e = before K.Refused e refl

pub seen_later : (s : List ℕ) (p r : ℕ) → p ≤ r → seen s p ≤ seen s r
seen_later s p r h = go (dec_le (suc p) r)
  where
    go : Dec (suc p ≤ r) → seen s p ≤ seen s r
    go (yes k) = seen_behind s p r k
    go (no k) = let e : p ≡ r = omega arith in rw e (le_refl (seen s r))
