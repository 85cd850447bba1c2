-- What begins with a digit or a letter in a plan line, read once. Assumes nothing.
use Rattle.std.specs.Prelude.{None, Some, Option}
use mathlib.Core.Path.{◌≡◌, refl, sym, ◌∙◌}
use mathlib.Core.List.{List, [], ◌∷◌}
use mathlib.Core.Bool.{Bool, true, false, cond}
use Prim.Native.Nat.{ℕ, suc, ◌+◌, ◌-◌, ◌≤◌, ◌<◌}
use native.Mathlib.Omega.{arith}
use lib.IntN.{ℤ, pos}
use lib.ListN.{length, get_or, take, drop}
use lib.Seq.{drop-drop}
use borrow.Author.Tests.{ne_eqb}
use Rattle.text_words.specs.Bytes.{bytes, kind_of, is_digit, is_letter, is_wordly, in_run}
use Rattle.text_words.specs.Spelling.{in_name, name_byte, name_bytes, is_name}
use Rattle.text_words.specs.NameEnds.{named, name_end}
use Rattle.text_words.specs.declared.bytes.Kind.{Kind}
use Rattle.text_words.specs.declared.bytes.Kind.TheVariants as K
use Rattle.text_tokens.specs.Runs.{part, run, run_end}
use Rattle.text_tokens.specs.Figures.{is_over}
use Rattle.text_tokens.specs.Classes.{begins_number, class_of}
use Rattle.text_tokens.specs.Numbers.{number_from, with_sign, number_of}
use Rattle.text_tokens.specs.Figures.{figure_at}
use Rattle.text_tokens.specs.Tokens.{sized_of, as_token, number_token, judged_of, plan_number, plan_word, plan_run, end_of}
use Rattle.text_tokens.specs.declared.tokens.Word.TheVariants as W
use Rattle.text_tokens.specs.declared.tokens.Token.{Token}
use Rattle.text_tokens.specs.declared.tokens.Token.TheVariants as T
use Rattle.text_tokens.proofs.Steps.{run_more, run_from, run_within, over_is}
use Rattle.text_tokens.proofs.Within.{part_length}
use Rattle.text_tokens.proofs.Figures.{digit_runs, part_cons, with_end_lem, with_none}

never : {A : Type 0} → ◌≡◌ {A = Bool} false true → A
never e = absurd (let z : ◌≡◌ {A = ℕ} 0 1 = cc in let y : ⊥ = omega arith in y)

-- ---- any run

pub run_read : (s : List ℕ) (p e : ℕ) (t u : Token) → e ≡ run_end s 58 (p + 1) → u ≡ plan_word (part s p e) p e → t ≡ judged_of e u
    → t ≡ plan_run s p (end_of s 58 p)
run_read s p e t u q v j = j ∙ rw (v, q)

-- ---- a run that begins with a digit

digit_other : (b : ℕ) → is_digit (kind_of b) ≡ true → b ≡ 45 → ⊥
unfolding kind_of bytes
digit_other b d q = never (rw q at d)

digit_word : (b : ℕ) (ds : List ℕ) (p e : ℕ) → is_digit (kind_of b) ≡ true
    → plan_word (b ∷ ds) p e ≡ as_token (with_sign false (number_from (b ∷ ds))) p e
unfolding plan_word class_of begins_number plan_number number_token number_of
digit_word b ds p e d = rw (d, ne_eqb b 45 (digit_other b d))

module _ (s : List ℕ) (p : ℕ) (i : p < length s) (d : is_digit (kind_of (get_or s p 0)) ≡ true) where
  same_end : run_end s 58 p ≡ run_end s 58 (p + 1)
  same_end = run_more s 58 p i (digit_runs 58 (get_or s p 0) (omega arith) d)

  digit_run : plan_word (part s p (run_end s 58 p)) p (run_end s 58 p) ≡ as_token (with_sign false (number_from (part s p (run_end s 58 p)))) p (run_end s 58 p)
  digit_run =
      let k : p < run_end s 58 p = omega (arith, same_end, run_from s 58 (p + 1)) in
      rw (part_cons s p (run_end s 58 p) i k) (digit_word (get_or s p 0) (part s (p + 1) (run_end s 58 p)) p (run_end s 58 p) d)

  digits_run : (n : Option ℕ) → n ≡ number_from (part s p (run_end s 58 p))
      → judged_of (run_end s 58 p) (as_token (with_sign false n) p (run_end s 58 p)) ≡ plan_run s p (end_of s 58 p)
  digits_run n e = rw (← same_end, e, digit_run)

  pub plan_malformed : (t : Token) (e : ℕ) → None ≡ figure_at s 58 p → e ≡ run_end s 58 (p + 1) → t ≡ judged_of e (T.Refusal 6 p)
      → t ≡ plan_run s p (end_of s 58 p)
  unfolding figure_at
  plan_malformed t e f q j = j ∙ rw q (rw same_end at (digits_run None (with_none _ _ f)))

  pub plan_number_lem : (t : Token) (m e : ℕ) (z : ℤ) → Some (m, e) ≡ figure_at s 58 p → z ≡ pos m → t ≡ judged_of e (T.Number z p e)
      → t ≡ plan_run s p (end_of s 58 p)
  unfolding figure_at
  plan_number_lem t m e z f y j = let b = with_end_lem _ _ m e f in j ∙ rw (y, ← b.1) (digits_run (Some m) b.0)

-- ---- a name that is its whole run

name_wordly : (k : Kind) (b : ℕ) → in_name k b ≡ true → is_wordly k ≡ true
name_wordly K.Digit b h = refl
name_wordly K.Letter b h = refl
name_wordly K.Bracket b h = h
name_wordly K.White b h = h
name_wordly K.Mark b h = refl
name_wordly K.Refused b h = h

name_colon : (b : ℕ) → name_byte b ≡ true → b ≡ 58 → ⊥
unfolding name_byte kind_of bytes
name_colon b h q = never (rw q at h)

name_comment : (b : ℕ) → name_byte b ≡ true → b ≡ 59 → ⊥
unfolding name_byte kind_of bytes
name_comment b h q = never (rw q at h)

name_runs : (b : ℕ) → name_byte b ≡ true → in_run 58 b ≡ true
unfolding in_run name_byte
name_runs b h = rw (ne_eqb b 59 (name_comment b h), ne_eqb b 58 (name_colon b h)) (name_wordly (kind_of b) b h)

run_named : (l : List ℕ) → run 58 l ≡ named l + run 58 (drop (named l) l)
unfolding run named
run_named [] = refl
run_named (b ∷ bs) = go (name_byte b) refl (run_named bs)
  where
    go : (t : Bool) → name_byte b ≡ t → run 58 bs ≡ named bs + run 58 (drop (named bs) bs)
        → cond (in_run 58 b) (suc (run 58 bs)) 0 ≡ cond t (suc (named bs)) 0 + run 58 (drop (cond t (suc (named bs)) 0) (b ∷ bs))
    go true e ih = rw (name_runs b e) (omega (arith, ih))
    go false e ih = omega arith

named_behind : (s : List ℕ) (p : ℕ) → run_end s 58 p ≡ run_end s 58 (name_end s p)
unfolding run_end name_end
named_behind s p = rw (← drop-drop (named (drop p s)) p s) (omega (arith, run_named (drop p s)))

pub named_least : (s : List ℕ) (p : ℕ) → p ≤ name_end s p
unfolding name_end
named_least s p = omega arith

named_front : (l : List ℕ) → name_bytes (take (named l) l) ≡ true
unfolding name_bytes named
named_front [] = refl
named_front (b ∷ bs) = go (name_byte b) refl (named_front bs)
  where
    go : (t : Bool) → name_byte b ≡ t → name_bytes (take (named bs) bs) ≡ true → name_bytes (take (cond t (suc (named bs)) 0) (b ∷ bs)) ≡ true
    go true e ih = rw (e, ih)
    go false e ih = refl

named_part : (s : List ℕ) (p : ℕ) → name_bytes (part s p (name_end s p)) ≡ true
unfolding name_end
named_part s p = let e : p + named (drop p s) - p ≡ named (drop p s) = omega arith in rw e (named_front (drop p s))

letter_digit : (k : Kind) → is_letter k ≡ true → is_digit k ≡ false
letter_digit K.Digit h = sym h
letter_digit K.Letter h = refl
letter_digit K.Bracket h = refl
letter_digit K.White h = refl
letter_digit K.Mark h = refl
letter_digit K.Refused h = refl

letter_minus : (b : ℕ) → is_letter (kind_of b) ≡ true → b ≡ 45 → ⊥
unfolding kind_of bytes
letter_minus b h q = never (rw q at h)

letter_word : (b : ℕ) (ds : List ℕ) (p e : ℕ) → is_letter (kind_of b) ≡ true → name_bytes ds ≡ true
    → plan_word (b ∷ ds) p e ≡ sized_of W.Name 32 (length (b ∷ ds)) p e
unfolding plan_word class_of begins_number is_name
letter_word b ds p e l n = rw (letter_digit (kind_of b) l, ne_eqb b 45 (letter_minus b l), l, n)

module _ (s : List ℕ) (p e : ℕ) (i : p < length s) (l : is_letter (kind_of (get_or s p 0)) ≡ true) (q : e ≡ name_end s (p + 1)) (o : is_over s 58 e ≡ true) where
  name_end_lem : run_end s 58 (p + 1) ≡ e
  name_end_lem = named_behind s (p + 1) ∙ rw (← q) (over_is s 58 e o)

  name_word : plan_word (part s p e) p e ≡ sized_of W.Name 32 (length (part s p e)) p e
  name_word =
      let k : p < e = omega (arith, name_end_lem, run_from s 58 (p + 1)) in
      rw (part_cons s p e i k) (letter_word (get_or s p 0) (part s (p + 1) e) p e l (rw q (named_part s (p + 1))))

  pub plan_name : (t u : Token) → u ≡ sized_of W.Name 32 (e - p) p e → t ≡ judged_of e u → t ≡ plan_run s p (end_of s 58 p)
  plan_name t u v j =
      let b = run_within s 58 (p + 1) (omega arith) in
      let n : length (part s p e) ≡ e - p = part_length s p e (omega (arith, name_end_lem, b.1)) in
      j ∙ rw (name_end_lem, name_word, n, v)
