-- The listed places sifted: those of the first keys are taken out, the last key's first. Assumes nothing.
use Prim.Native.Nat.{ℕ, ◌+◌, ◌≤◌, ◌<◌}
use mathlib.Core.Bool.{Bool, true, false, not, cond}
use mathlib.Core.List.{List, [], ◌∷◌, ◌++◌, map, map-append, append-nil}
use mathlib.Core.Path.{◌≡◌, refl, sym, ap, ap₂, ◌∙◌}
use native.Mathlib.Numerals.{add-one}
use native.Mathlib.Omega.{arith}
use borrow.Author.Tests.{not-true}
use lib.ListN.{length, take, drop, get_or, length-append, length-drop}
use lib.Seq.{get_or-take, get_or-drop, get_or-append_seam, take-suc, length-take-le}
use Rattle.plan_meaning.specs.Lists.{keep}
use Rattle.plan_meaning.proofs.Lists.{keep_append}
use Rattle.plan_ordering.specs.Keys.{keys_in}
use Rattle.plan_waiting.specs.Lent.{places_in, place_of, place_at, Apart, TakenOut, Sifted}
use Rattle.plan_waiting.proofs.LentPlaces.{places_long, place_there}
use Rattle.plan_waiting.proofs.Moving.{moved_apart, closed_up}

-- ---- the last that goes

no_places : (l : List ℕ) → map place_of l ≡ [] → l ≡ []
no_places [] e = refl
no_places (x ∷ l) e = absurd (let z : ◌≡◌ {A = ℕ} 0 1 = cc in let y : ⊥ = omega arith in y)

-- x goes, its place is p, none that comes after it goes, and the places of those before it are m
record Last (g : ℕ → Bool) (l m : List ℕ) (p : ℕ) : Type 0 where
  before : List ℕ
  x : ℕ
  after : List ℕ
  is : l ≡ before ++ x ∷ after
  place : place_of x ≡ p
  goes : g x ≡ true
  others : map place_of (keep g before) ≡ m
  none : keep g after ≡ []

one_before : {g : ℕ → Bool} {l k : List ℕ} {p : ℕ} (y : ℕ) (m : List ℕ) (s : Last g l k p) → map place_of (keep g (y ∷ s.before)) ≡ m → Last g (y ∷ l) m p
one_before y m s e =
    record {
      before = y ∷ s.before;
      x = s.x;
      after = s.after;
      is = ap (λ (k : List ℕ). y ∷ k) s.is;
      place = s.place;
      goes = s.goes;
      others = e;
      none = s.none;
    }

last_one : (g : ℕ → Bool) (l m : List ℕ) (p : ℕ) → map place_of (keep g l) ≡ m ++ p ∷ [] → Last g l m p
last_one g [] m p e = absurd (let z = simp length-append at (ap length e) in let y : ⊥ = omega arith in y)
last_one g (y ∷ l) m p e = go (g y) refl m e (λ k. last_one g l k p)
  where
    go : (u : Bool) → g y ≡ u → (m : List ℕ) → map place_of (cond u (y ∷ keep g l) (keep g l)) ≡ m ++ p ∷ []
        → ((k : List ℕ) → map place_of (keep g l) ≡ k ++ p ∷ [] → Last g l k p) → Last g (y ∷ l) m p
    go false h m e ih = one_before y m (ih m e) (rw h (ih m e).others)
    go true h [] e ih =
        record { before = []; x = y; after = l; is = refl; place = cc; goes = h; others = refl; none = no_places (keep g l) (cc) }
    go true h (q ∷ m) e ih =
        let rest : map place_of (keep g l) ≡ m ++ p ∷ [] = cc in
        let first : place_of y ≡ q = cc in
        one_before y (q ∷ m) (ih m rest) (rw h (ap₂ ◌∷◌ first (ih m rest).others))

-- ---- the turns of the loop

-- i are listed, and m of them go: those of the first keys
pub record Sifting (f : ℕ → Bool) (words₀ words : List ℕ) (begin n m i : ℕ) : Type 0 where
  pub stays : keep f (take i (places_in words)) ≡ keep f (take n (places_in words₀))
  pub goes : map place_of (keys_in words₀ begin m) ≡ map place_of (keep (λ x. not (f x)) (take i (places_in words)))
  pub below : (k : ℕ) → k < 384 → get_or words k 0 ≡ get_or words₀ k 0
  pub above : (k : ℕ) → 448 ≤ k → get_or words k 0 ≡ get_or words₀ k 0
  pub apart : Apart words

module _ {f : ℕ → Bool} {words₀ words : List ℕ} {begin n m₁ i₁ : ℕ} (s : Sifting f words₀ words begin n m₁ i₁) (m i : ℕ) (em : m₁ ≡ m + 1)
    (ei : i₁ ≡ i + 1) (few : i < 64) (low : 449 ≤ begin) (room : begin + m < length words₀) {words' : List ℕ} {p : ℕ}
    (ep : p ≡ place_of (get_or words (begin + m) 0)) (out : TakenOut words words' i p) where
  abbrev goes : ℕ → Bool
  goes x = not (f x)

  abbrev places : List ℕ
  places = take (i + 1) (places_in words)

  abbrev keys : List ℕ
  keys = keys_in words₀ begin m

  more_keys : keys_in words₀ begin (m + 1) ≡ keys ++ get_or words₀ (begin + m) 0 ∷ []
  more_keys =
      rw (add-one, ← get_or-drop begin words₀ m 0) (take-suc (drop begin words₀) m 0 (simp length-drop (omega arith)))

  one : Last goes places (map place_of keys) p
  one =
      last_one goes places (map place_of keys) p
      (sym (rw (em, ei) at s.goes) ∙ ap (map place_of) more_keys ∙ map-append place_of keys (get_or words₀ (begin + m) 0 ∷ [])
      ∙ ap (λ (q : ℕ). map place_of keys ++ q ∷ []) (sym (ep ∙ ap place_of (s.above (begin + m) (omega arith)))))

  abbrev j : ℕ
  j = length one.before

  inside : j ≤ i
  inside =
      let l : length places ≡ i + 1 = length-take-le (i + 1) (places_in words) (omega (arith, places_long words)) in
      let e : length places ≡ j + length (one.x ∷ one.after) = ap length one.is ∙ length-append one.before (one.x ∷ one.after) in
      omega arith

  there : place_at words j ≡ p
  there =
      ap place_of
      (sym (get_or-take (i + 1) (places_in words) j 0 (omega (arith, inside)) ∙ place_there words j (omega (arith, inside)))
      ∙ ap (λ (l : List ℕ). get_or l j 0) one.is ∙ get_or-append_seam one.before one.x one.after 0)
      ∙ one.place

  closed : take i (places_in words') ≡ one.before ++ one.after
  closed =
      let g = out.moved j inside there in
      let l : g.0 ≤ i = g.2.inside in
      closed_up few g.2 one.before one.x one.after one.is
      (s.apart g.0 j (omega arith) (omega (arith, inside)) (g.1 ∙ sym there))

  pub sift_on : Sifting f words₀ words' begin n m i
  sift_on =
      let stay : f one.x ≡ false = not-true (f one.x) one.goes in
      record {
        stays =
            ap (keep f) closed ∙ keep_append f one.before one.after
            ∙ sym (ap (keep f) one.is ∙ keep_append f one.before (one.x ∷ one.after)
            ∙ ap (λ (u : Bool). keep f one.before ++ cond u (one.x ∷ keep f one.after) (keep f one.after)) stay)
            ∙ rw ei at s.stays;
        goes =
            sym one.others
            ∙ ap (map place_of)
            (sym (ap (keep goes) closed ∙ keep_append goes one.before one.after ∙ ap (λ (l : List ℕ). keep goes one.before ++ l) one.none
            ∙ append-nil (keep goes one.before)));
        below = λ k g. out.below k g ∙ s.below k g;
        above = λ k g. out.above k (omega arith) ∙ s.above k g;
        apart = moved_apart few (out.moved j inside there).2 out.above s.apart;
      }

-- ---- and the end

stay_all : (f : ℕ → Bool) (l : List ℕ) → keep (λ x. not (f x)) l ≡ [] → keep f l ≡ l
stay_all f [] e = refl
stay_all f (x ∷ l) e = go (f x) e (stay_all f l)
  where
    go : (u : Bool) → cond (not u) (x ∷ keep (λ y. not (f y)) l) (keep (λ y. not (f y)) l) ≡ [] → (keep (λ y. not (f y)) l ≡ [] → keep f l ≡ l)
        → cond u (x ∷ keep f l) (keep f l) ≡ x ∷ l
    go true e ih = ap (λ (k : List ℕ). x ∷ k) (ih e)
    go false e ih = absurd (let z : ◌≡◌ {A = ℕ} 0 1 = cc in let y : ⊥ = omega arith in y)

pub sift_end : {f : ℕ → Bool} {words₀ words : List ℕ} {begin n m i : ℕ} → Sifting f words₀ words begin n m i → m ≡ 0 → i ≤ n → length words ≡ 640
    → Sifted f words₀ words n i
sift_end {f} {words₀} {words} {begin} {n} {m} {i} s z h l =
    record {
      fewer = h;
      done = sym (stay_all f (take i (places_in words)) (no_places (keep (λ x. not (f x)) (take i (places_in words))) (sym (rw z at s.goes)))) ∙ s.stays;
      below = s.below;
      above = s.above;
      apart = s.apart;
      long = l;
    }
