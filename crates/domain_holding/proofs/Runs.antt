-- A run of more bytes than any word or number has is refused, by whether it begins as a number and whether it is a name. Assumes nothing.
use Rattle.std.specs.Prelude.{Option, None, is_some}
use mathlib.Core.Path.{◌≡◌, refl, sym}
use mathlib.Core.List.{List, [], ◌∷◌, ◌++◌}
use mathlib.Core.Bool.{Bool, true, false, cond, ◌&&◌, and-true, and-false}
use Prim.Native.Nat.{ℕ, suc, ◌+◌, ◌-◌, ◌≤◌, ◌<◌}
use native.Mathlib.Omega.{arith}
use lib.ListN.{length, get_or, take, drop, length-drop}
use lib.IntN.{ℤ}
use lib.Dec.{eqb, leb, ltb}
use borrow.Author.Tests.{leb-true, ltb-true, lt-ltb}
use Rattle.base_laws.proofs.Lists.{at_cons}
use Rattle.text_words.specs.Bytes.{bytes, lower_of, in_run}
use Rattle.text_words.specs.Spelling.{same_word, name_byte, name_bytes, is_name, place_from, words_of, word_in}
use Rattle.text_words.specs.Fixed.{is_listed, is_operator}
use Rattle.text_tokens.specs.Runs.{part, run, run_end}
use Rattle.text_tokens.specs.Numbers.{leading, rest_of, number_from, number_of, decimal}
use Rattle.text_tokens.specs.Classes.{begun_by, begins_number, is_marked, class_of}
use Rattle.text_tokens.specs.Tokens.{sized_of, number_token, by_class, domain_word, end_of}
use Rattle.text_tokens.proofs.Values.{fraction_fine}
use Rattle.text_tokens.specs.declared.classes.Class.TheVariants as C
use Rattle.text_tokens.specs.declared.tokens.Token.TheVariants as T
use Rattle.domain_holding.specs.Keeping.{goes_on, decisive, last_of}

-- ---- no fixed word

pub unlike : (v w : List ℕ) → (length v ≡ length w → ⊥) → same_word v w ≡ false
unfolding same_word
unlike [] [] h = absurd (h refl)
unlike [] (b ∷ w) h = refl
unlike (a ∷ v) [] h = refl
unlike (a ∷ v) (b ∷ w) h = rw (unlike v w (λ e. h (rw e))) (and-false (eqb (lower_of a) (lower_of b)))

-- words that all have fewer bytes
abbrev shorter : ℕ → List (List ℕ) → Bool
shorter n [] = true
shorter n (v ∷ vs) = ltb (length v) n && shorter n vs

none_of : (vs : List (List ℕ)) (w : List ℕ) (i n : ℕ) → shorter n vs ≡ true → n ≤ length w → place_from i vs w ≡ None
unfolding place_from
none_of [] w i n h l = refl
none_of (v ∷ vs) w i n h l = go (ltb (length v) n) refl h (λ k. none_of vs w (i + 1) n k l)
  where
    go : (t : Bool) → ltb (length v) n ≡ t → (t && shorter n vs) ≡ true → (shorter n vs ≡ true → place_from (i + 1) vs w ≡ None)
        → place_from i (v ∷ vs) w ≡ None
    go true e k f = rw (unlike v w (λ d. omega (arith, ltb-true (length v) n e))) (f k)
    go false e k f = absurd (let z : ◌≡◌ {A = ℕ} 0 1 = cc in let y : ⊥ = omega arith in y)

not_in : (list w : List ℕ) → shorter 32 (words_of list) ≡ true → 32 ≤ length w → is_some (word_in list w) ≡ false
unfolding word_in
not_in list w h l = rw (none_of (words_of list) w 0 32 h l)

not_listed : (w : List ℕ) → 32 ≤ length w → is_listed w ≡ false
unfolding is_listed words_of bytes
not_listed w l = not_in _ w refl l

not_operator : (w : List ℕ) → 32 ≤ length w → is_operator w ≡ false
unfolding is_operator words_of bytes
not_operator w l = not_in _ w refl l

-- ---- no number

rest_long : (whole : ℕ) (ds : List ℕ) → 4 < length ds → rest_of whole ds ≡ None
rest_long whole [] h = absurd (let y : ⊥ = omega arith in y)
rest_long whole (b ∷ ds) h = rw (← fraction_fine whole ds (omega arith)) (go (eqb b 46))
  where
    go : (t : Bool) → ◌≡◌ {A = Option ℕ} (cond t None None) None
    go true = refl
    go false = refl

from_long : (w : List ℕ) → 13 < length w → number_from w ≡ None
unfolding number_from
from_long w h = go (leb 1 (leading w)) (leb (leading w) 9) refl
  where
    go : (t u : Bool) → leb (leading w) 9 ≡ u → cond (t && u) (rest_of (decimal 0 (take (leading w) w)) (drop (leading w) w)) None ≡ None
    go true true e = rest_long _ (drop (leading w) w) (omega (arith, length-drop (leading w) w, leb-true (leading w) 9 e))
    go true false e = refl
    go false u e = refl

number_long : (w : List ℕ) → 14 < length w → number_of w ≡ None
unfolding number_of
number_long w h = rw (from_long w (omega arith), from_long (drop 1 w) (omega (arith, length-drop 1 w))) (go (begun_by 45 w))
  where
    go : (t : Bool) → ◌≡◌ {A = Option ℤ} (cond t None None) None
    go true = refl
    go false = refl

-- ---- the refusal of a long run

abbrev pub fault_of : List ℕ → ℕ
fault_of w = cond (begins_number w) 6 (cond (is_name w) 5 (cond (is_marked 63 w) 5 (cond (is_marked 58 w) 5 3)))

pub long_word : (w : List ℕ) (p e : ℕ) → 34 ≤ length w → domain_word w p e ≡ T.Refusal (fault_of w) p
unfolding domain_word class_of number_token sized_of
long_word w p e h =
    rw (not_listed w (omega arith), not_operator w (omega arith)) (go (begins_number w) (is_name w) (is_marked 63 w) (is_marked 58 w))
  where
    sized : ltb 32 (length w) ≡ true
    sized = lt-ltb 32 (length w) (omega arith)

    marked : ltb 33 (length w) ≡ true
    marked = lt-ltb 33 (length w) (omega arith)

    go : (a b c d : Bool) → by_class (cond a C.Number (cond b C.Name (cond c C.Variable (cond d C.Keyword C.Other)))) w p e ≡ T.Refusal
        (cond a 6 (cond b 5 (cond c 5 (cond d 5 3)))) p
    go true b c d = rw (number_long w (omega arith))
    go false true c d = rw sized
    go false false true d = rw marked
    go false false false true = rw marked
    go false false false false = refl

-- ---- what the last byte of the block says of the run's rest

-- the bytes of the run at the front
abbrev pub front : List ℕ → List ℕ
front l = take (run 59 l) l

decisive_goes : (b : ℕ) (bs : List ℕ) → goes_on b ≡ true → goes_on (decisive b bs) ≡ true
unfolding decisive
decisive_goes b [] h = h
decisive_goes b (x ∷ bs) h = go (goes_on x) refl (name_byte x) (decisive_goes b bs h)
  where
    go : (t : Bool) → goes_on x ≡ t → (u : Bool) → goes_on (decisive b bs) ≡ true → goes_on (cond t (cond u (decisive b bs) x) b) ≡ true
    go true e true k = k
    go true e false k = e
    go false e u k = h

decisive_says : (b : ℕ) (bs : List ℕ) → name_byte (decisive b bs) ≡ (name_byte b && name_bytes (front bs))
unfolding decisive run name_bytes
decisive_says b [] = sym (and-true (name_byte b))
decisive_says b (x ∷ bs) = go (goes_on x) (name_byte x) refl (decisive_says b bs)
  where
    go : (t u : Bool) → name_byte x ≡ u → name_byte (decisive b bs) ≡ (name_byte b && name_bytes (front bs))
        → name_byte (cond t (cond u (decisive b bs) x) b) ≡ (name_byte b && name_bytes (take (cond t (suc (run 59 bs)) 0) (x ∷ bs)))
    go true true e k = rw e k
    go true false e k = rw (e, and-false (name_byte b))
    go false u e k = sym (and-true (name_byte b))

-- after any bytes m, the block's last byte makes a name of the run where the whole run is one
pub same_names : (m : List ℕ) (b : ℕ) (bs : List ℕ) → name_bytes (front (m ++ last_of (b ∷ bs))) ≡ name_bytes (front (m ++ b ∷ bs))
unfolding last_of run name_bytes
same_names [] b bs = go (goes_on b) refl
  where
    going : goes_on b ≡ true → name_bytes (front (decisive b bs ∷ [])) ≡ name_bytes (front (b ∷ bs))
    going e = rw (e, decisive_goes b bs e, decisive_says b bs) (and-true (name_byte b && name_bytes (front bs)))

    go : (t : Bool) → goes_on b ≡ t → name_bytes (front (cond t (decisive b bs) b ∷ [])) ≡ name_bytes (front (b ∷ bs))
    go true e = going e
    go false e = rw e
same_names (x ∷ m) b bs = go (in_run 59 x) (same_names m b bs)
  where
    go : (t : Bool) → name_bytes (front (m ++ last_of (b ∷ bs))) ≡ name_bytes (front (m ++ b ∷ bs))
        → name_bytes (take (cond t (suc (run 59 (m ++ last_of (b ∷ bs)))) 0) (x ∷ m ++ last_of (b ∷ bs))) ≡ name_bytes
        (take (cond t (suc (run 59 (m ++ b ∷ bs))) 0) (x ∷ m ++ b ∷ bs))
    go true e = rw e
    go false e = refl

-- so the run has the same fault
pub same_fault : (c y : ℕ) (l k : List ℕ) → name_bytes (front l) ≡ name_bytes (front k) → fault_of (c ∷ front (y ∷ l)) ≡ fault_of (c ∷ front (y ∷ k))
unfolding run begins_number is_name name_bytes
same_fault c y l k e = go (in_run 59 y)
  where
    go : (t : Bool) → fault_of (c ∷ take (cond t (suc (run 59 l)) 0) (y ∷ l)) ≡ fault_of (c ∷ take (cond t (suc (run 59 k)) 0) (y ∷ k))
    go true = rw e
    go false = refl

-- ---- the run at a place

pub run_at : (s : List ℕ) (g : ℕ) → g < length s → part s g (end_of s 59 g) ≡ get_or s g 0 ∷ front (drop (g + 1) s)
unfolding run_end
run_at s g h = let d : g + 1 + run 59 (drop (g + 1) s) - g ≡ suc (run 59 (drop (g + 1) s)) = omega arith in rw (at_cons s g h, d)
