-- The definitions over a list of bytes, a step at a place of it. Assumes nothing.
use Rattle.std.specs.Prelude.{None, Option, Some}
use mathlib.Core.Path.{◌≡◌, refl, sym, ap, ap₂, ◌∙◌}
use mathlib.Core.List.{List, [], ◌∷◌}
use mathlib.Core.Bool.{Bool, true, false, cond, ◌&&◌, and-false}
use Prim.Native.Nat.{ℕ, zero, suc, ◌+◌, ◌-◌, ◌≤◌, ◌<◌, min}
use native.Mathlib.Nat.{add-zero, le_refl}
use native.Mathlib.Omega.{arith}
use native.Mathlib.Decide.{dec_le}
use lib.Dec.{leb, eqb, leb-zero}
use lib.ListN.{length, get_or, take, drop, length-take, length-drop, drop_of_length-le, get_or-eq_default}
use lib.Seq.{drop-drop, get_or-drop}
use borrow.Author.Tests.{eq-eqb, ne_eqb, lt-ltb, le-ltb, le-leb, lt-leb}
use Rattle.base_laws.proofs.Lists.{at_cons, take_min}
use Rattle.text_words.specs.Bytes.{lower_of, kind_of, is_letter}
use Rattle.text_words.specs.Spelling.{same_word, name_bytes, is_name, place_from, unspaced, space_from, onto, words_of, word_in, picked}
use Rattle.text_words.specs.Names.{name_of, names_of}

-- ---- sameWord

same_both : (a b : List ℕ) (i : ℕ) → i < length a → i < length b
    → same_word (drop i a) (drop i b) ≡ (eqb (lower_of (get_or a i 0)) (lower_of (get_or b i 0)) && same_word (drop (i + 1) a) (drop (i + 1) b))
unfolding same_word
same_both a b i h k = ap₂ (λ (l m : List ℕ). same_word l m) (at_cons a i h) (at_cons b i k)

pub same_over : (a b : List ℕ) (i : ℕ) → length a ≤ i → length b ≤ i → same_word (drop i a) (drop i b) ≡ true
unfolding same_word
same_over a b i h k = ap₂ (λ (l m : List ℕ). same_word l m) (drop_of_length-le a h) (drop_of_length-le b k)

-- words of other lengths are other words
pub same_length : (a b : List ℕ) → (length a ≡ length b → ⊥) → same_word a b ≡ false
unfolding same_word
same_length [] [] h = absurd (h refl)
same_length [] (y ∷ ys) h = refl
same_length (x ∷ xs) [] h = refl
same_length (x ∷ xs) (y ∷ ys) h = rw (same_length xs ys (λ e. h (ap suc e))) (and-false (eqb (lower_of x) (lower_of y)))

-- words that differ from a place on are other words
same_differ : (a b : List ℕ) (i : ℕ) → same_word (drop i a) (drop i b) ≡ false → same_word a b ≡ false
unfolding same_word
same_differ a b zero h = h
same_differ [] [] (suc i) h = h
same_differ [] (y ∷ ys) (suc i) h = refl
same_differ (x ∷ xs) [] (suc i) h = refl
same_differ (x ∷ xs) (y ∷ ys) (suc i) h = rw (same_differ xs ys i h) (and-false (eqb (lower_of x) (lower_of y)))

-- words that are the same from i on, and the byte before
module _ (a b : List ℕ) (i : ℕ) (some : 0 < i) (h : i ≤ length a) (k : i ≤ length b) where
  before : same_word (drop (i - 1) a) (drop (i - 1) b) ≡ (eqb (lower_of (get_or a (i - 1) 0)) (lower_of (get_or b (i - 1) 0)) && same_word (drop i a) (drop i b))
  before = let e : i - 1 + 1 ≡ i = omega arith in rw e at (same_both a b (i - 1) (omega arith) (omega arith))

  pub same_before : lower_of (get_or a (i - 1) 0) ≡ lower_of (get_or b (i - 1) 0) → same_word (drop i a) (drop i b) ≡ true
      → same_word (drop (i - 1) a) (drop (i - 1) b) ≡ true
  same_before q t = before ∙ simp (eq-eqb _ _ q, t)

  pub other_before : (lower_of (get_or a (i - 1) 0) ≡ lower_of (get_or b (i - 1) 0) → ⊥) → same_word a b ≡ false
  other_before q = same_differ a b (i - 1) (before ∙ simp (ne_eqb _ _ q))

-- ---- names

pub name_none : (w : List ℕ) (i : ℕ) → length w ≤ i → is_name (drop i w) ≡ false
unfolding is_name
name_none w i h = ap (λ (l : List ℕ). is_name l) (drop_of_length-le w h)

pub name_some : (w : List ℕ) (i : ℕ) → i < length w → is_name (drop i w) ≡ (is_letter (kind_of (get_or w i 0)) && name_bytes (drop (i + 1) w))
unfolding is_name
name_some w i h = ap (λ (l : List ℕ). is_name l) (at_cons w i h)

-- ---- the words of a list

pub space_here : (l : List ℕ) (p : ℕ) → p < length l → get_or l p 0 ≡ 32 → space_from l p ≡ p
unfolding space_from unspaced
space_here l p h e = rw (at_cons l p h, eq-eqb (get_or l p 0) 32 e) (add-zero p)

pub space_later : (l : List ℕ) (p : ℕ) → p < length l → (get_or l p 0 ≡ 32 → ⊥) → space_from l p ≡ space_from l (p + 1)
unfolding space_from unspaced
space_later l p h e = rw (at_cons l p h, ne_eqb (get_or l p 0) 32 e) (omega arith)

pub space_end : (l : List ℕ) (p : ℕ) → length l ≤ p → space_from l p ≡ p
unfolding space_from unspaced
space_end l p h = rw (drop_of_length-le l h) (add-zero p)

unspaced_le : (b : Bool) (n m : ℕ) → n ≤ m → cond b 0 (suc n) ≤ suc m
unspaced_le true n m h = omega arith
unspaced_le false n m h = omega arith

pub unspaced_most : (l : List ℕ) → unspaced l ≤ length l
unfolding unspaced
unspaced_most [] = le_refl 0
unspaced_most (b ∷ bs) = unspaced_le (eqb b 32) (unspaced bs) (length bs) (unspaced_most bs)

pub space_within : (l : List ℕ) (p : ℕ) → p ≤ length l → (p ≤ space_from l p) × (space_from l p ≤ length l)
unfolding space_from
space_within l p h = omega (arith, unspaced_most (drop p l), length-drop p l)

-- the words after the space at the front
abbrev behind : List ℕ → List (List ℕ)
behind [] = []
behind (b ∷ bs) = words_of bs

words_split : (l : List ℕ) → words_of l ≡ take (unspaced l) l ∷ behind (drop (unspaced l) l)
unfolding words_of unspaced
words_split [] = refl
words_split (b ∷ bs) = go (eqb b 32) (words_split bs)
  where
    go : (t : Bool) → words_of bs ≡ take (unspaced bs) bs ∷ behind (drop (unspaced bs) bs)
        → cond t ([] ∷ words_of bs) (onto b (words_of bs)) ≡ take (cond t 0 (suc (unspaced bs))) (b ∷ bs) ∷ behind (drop (cond t 0 (suc (unspaced bs))) (b ∷ bs))
    go true e = refl
    go false e = rw e

-- the words of a list from place p on: none past its end
abbrev pub words_at_lem : List ℕ → ℕ → List (List ℕ)
words_at_lem l p = cond (leb p (length l)) (words_of (drop p l)) []

behind_at_lem : (l : List ℕ) (p : ℕ) → p ≤ length l → behind (drop p l) ≡ words_at_lem l (p + 1)
behind_at_lem l p h = elim (dec_le (length l) p) [
  | yes k ↦ rw (drop_of_length-le l k, lt-leb (p + 1) (length l) (omega arith))
  | no k ↦ rw (at_cons l p (omega arith), le-leb (p + 1) (length l) (omega arith))
]

-- the word at p, and the words after it
pub words_at : (l : List ℕ) (p : ℕ) → p ≤ length l → words_at_lem l p ≡ take (space_from l p - p) (drop p l) ∷ words_at_lem l (space_from l p + 1)
unfolding space_from
words_at l p h =
    let n = unspaced (drop p l) in
    let front : n ≡ p + n - p = omega arith in
    let within : p + n ≤ length l = omega (arith, unspaced_most (drop p l), length-drop p l) in
    rw (le-leb p (length l) h, words_split (drop p l), drop-drop n p l, behind_at_lem l (p + n) within)
    (ap (λ (k : ℕ). take k (drop p l) ∷ words_at_lem l (p + n + 1)) front)

pub words_over : (l : List ℕ) (p : ℕ) → length l < p → words_at_lem l p ≡ []
words_over l p h = rw (lt-leb p (length l) h)

pub word_found : (i : ℕ) (v w : List ℕ) (vs : List (List ℕ)) → same_word v w ≡ true → place_from i (v ∷ vs) w ≡ Some i
unfolding place_from
word_found i v w vs h = rw h

pub word_other : (i : ℕ) (v w : List ℕ) (vs : List (List ℕ)) → same_word v w ≡ false → place_from i (v ∷ vs) w ≡ place_from (i + 1) vs w
unfolding place_from
word_other i v w vs h = rw h

pub word_none : (i : ℕ) (w : List ℕ) → place_from i [] w ≡ None
unfolding place_from
word_none i w = refl

-- ---- the names of a table

pub names_short : (rows : List ℕ) (at n m : ℕ) → n ≡ suc m → length rows - at < 38 → names_of n (drop at rows) ≡ []
unfolding names_of
names_short rows at n m e h = rw (e, length-drop at rows, lt-ltb (length rows - at) 38 h)

-- the name at a place, and the names after it
pub names_at : (rows : List ℕ) (at n m : ℕ) → n ≡ suc m → at + 38 ≤ length rows
    → names_of n (drop at rows) ≡ take (min (get_or rows at 0) 32) (drop (at + 6) rows) ∷ names_of m (drop (at + 38) rows)
unfolding names_of name_of
names_at rows at n m e h =
    let k : 38 ≤ length rows - at = omega arith in
    rw (
      e,
      length-drop at rows,
      le-ltb (length rows - at) 38 k,
      get_or-drop at rows 0 0,
      add-zero at,
      take_min (get_or rows at 0) 32,
      drop-drop 6 at rows,
      drop-drop 38 at rows,
    )

-- ---- the loops of `word_in` and `find`: what is said of the words that are left is said of all

pub in_start : (l w : List ℕ) → word_in l w ≡ place_from 0 (words_at_lem l 0) w
unfolding word_in
in_start l w = rw (leb-zero (length l))

pub in_found : (l w : List ℕ) (i p : ℕ) → p ≤ length l → same_word (take (space_from l p - p) (drop p l)) w ≡ true → place_from i (words_at_lem l p) w ≡ Some i
in_found l w i p h e = rw (words_at l p h) (word_found i _ w _ e)

pub in_other : (l w : List ℕ) (i p : ℕ) → p ≤ length l → same_word (take (space_from l p - p) (drop p l)) w ≡ false
    → place_from i (words_at_lem l p) w ≡ place_from (i + 1) (words_at_lem l (space_from l p + 1)) w
in_other l w i p h e = rw (words_at l p h) (word_other i _ w _ e)

pub in_none : (l w : List ℕ) (i p : ℕ) → length l < p → place_from i (words_at_lem l p) w ≡ None
in_none l w i p h = rw (words_over l p h) (word_none i w)

module _ (rows w : List ℕ) (n i at : ℕ) where
  left : i < n → n - i ≡ suc (n - (i + 1))
  left h = omega arith

  pub find_short : i < n → length rows - at < 38 → place_from i (names_of (n - i) (drop at rows)) w ≡ None
  find_short h s = rw (names_short rows at (n - i) (n - (i + 1)) (left h) s) (word_none i w)

  pub find_over : n ≤ i → place_from i (names_of (n - i) (drop at rows)) w ≡ None
  unfolding names_of
  find_over h = let e : n - i ≡ 0 = omega arith in rw e (word_none i w)

  module _ (k : ℕ) (h : i < n) (s : at + 38 ≤ length rows) (e : k ≡ min (get_or rows at 0) 32) where
    rows_at : names_of (n - i) (drop at rows) ≡ take (at + 6 + k - (at + 6)) (drop (at + 6) rows) ∷ names_of (n - (i + 1)) (drop (at + 38) rows)
    rows_at =
        let q : at + 6 + k - (at + 6) ≡ min (get_or rows at 0) 32 = omega arith in
        rw q (names_at rows at (n - i) (n - (i + 1)) (left h) s)

    pub find_found : same_word (take (at + 6 + k - (at + 6)) (drop (at + 6) rows)) w ≡ true → place_from i (names_of (n - i) (drop at rows)) w ≡ Some i
    find_found t = rw rows_at (word_found i _ w _ t)

    pub find_other : same_word (take (at + 6 + k - (at + 6)) (drop (at + 6) rows)) w ≡ false
        → place_from i (names_of (n - i) (drop at rows)) w ≡ place_from (i + 1) (names_of (n - (i + 1)) (drop (at + 38) rows)) w
    find_other t = rw rows_at (word_other i _ w _ t)

    -- a name of another length is another name
    pub find_other_length : (k ≡ length w → ⊥) → place_from i (names_of (n - i) (drop at rows)) w ≡ place_from (i + 1)
        (names_of (n - (i + 1)) (drop (at + 38) rows)) w
    find_other_length d =
        let v = take (at + 6 + k - (at + 6)) (drop (at + 6) rows) in
        let size : length v ≡ k = simp (length-take, length-drop) (omega arith) in
        find_other (same_length v w (λ q. d (sym size ∙ q)))

-- ---- a place after the last word that is asked for

pub not_yet : (k i : ℕ) → k ≤ i → (i ≡ k → ⊥) → k + 1 ≤ i
not_yet k i h n = omega arith

pub picked_past : {A : Type 0} (xs : List A) (x : A) (f : Option ℕ) (i : ℕ) → f ≡ Some i → length xs ≤ i → x ≡ picked f xs x
picked_past xs x f i e h = rw e (sym (get_or-eq_default xs x h))
