-- Gaps, runs and digits, a step at a place of the text. Assumes nothing.
use mathlib.Core.Path.{◌≡◌, refl, sym}
use mathlib.Core.List.{List, [], ◌∷◌}
use mathlib.Core.Bool.{Bool, true, false, cond, not}
use Prim.Native.Nat.{ℕ, suc, ◌+◌, ◌-◌, ◌≤◌, ◌<◌}
use native.Mathlib.Nat.{add-zero, le_refl}
use native.Mathlib.Omega.{arith}
use native.Mathlib.Decide.{dec_le}
use lib.ListN.{length, get_or, drop, length-drop, drop_of_length-le}
use lib.Seq.{take_all, take-nil}
use borrow.Author.Tests.{eq-eqb, ne_eqb, eqb-true}
use Rattle.base_laws.proofs.Lists.{at_cons}
use Rattle.text_words.specs.Bytes.{kind_of, is_digit, in_run}
use Rattle.text_tokens.specs.Runs.{gap_step, on_gap, gap, gap_end, run, run_end, part}
use Rattle.text_tokens.specs.Figures.{is_over}
use Rattle.text_tokens.specs.Numbers.{leading, digits_end}
use Rattle.text_tokens.specs.declared.runs.Gap.{Gap}
use Rattle.text_tokens.specs.declared.runs.Gap.TheVariants as G

-- ---- gaps

-- the end of the gap that goes on at p, in a comment or not
unfoldable pub gap_from : List ℕ → Bool → ℕ → ℕ
gap_from s comment p = p + gap comment (drop p s)

pub gap_start : (s : List ℕ) (p : ℕ) → gap_end s p ≡ gap_from s false p
unfolding gap_end gap_from
gap_start s p = refl

pub gap_over : (s : List ℕ) (comment : Bool) (p : ℕ) → length s ≤ p → gap_from s comment p ≡ p
unfolding gap_from gap
gap_over s comment p h = rw (drop_of_length-le s h) (add-zero p)

module _ (s : List ℕ) (comment : Bool) (p : ℕ) (h : p < length s) where
  pub gap_plain : gap_step comment (get_or s p 0) ≡ G.Plain → gap_from s comment p ≡ gap_from s false (p + 1)
  unfolding gap_from gap
  gap_plain e = rw (at_cons s p h, e) (omega arith)

  pub gap_comment : gap_step comment (get_or s p 0) ≡ G.Comment → gap_from s comment p ≡ gap_from s true (p + 1)
  unfolding gap_from gap
  gap_comment e = rw (at_cons s p h, e) (omega arith)

  pub gap_token : gap_step comment (get_or s p 0) ≡ G.Token → gap_from s comment p ≡ p
  unfolding gap_from gap
  gap_token e = rw (at_cons s p h, e) (add-zero p)

gap_le : (g : Gap) (a b n : ℕ) → a ≤ n → b ≤ n → on_gap g (suc a) (suc b) 0 ≤ suc n
gap_le G.Plain a b n h k = omega arith
gap_le G.Comment a b n h k = omega arith
gap_le G.Token a b n h k = omega arith

gap_most : (l : List ℕ) (comment : Bool) → gap comment l ≤ length l
unfolding gap
gap_most [] comment = le_refl 0
gap_most (b ∷ bs) comment = gap_le (gap_step comment b) (gap false bs) (gap true bs) (length bs) (gap_most bs false) (gap_most bs true)

pub gap_within : (s : List ℕ) (p : ℕ) → p ≤ length s → (p ≤ gap_end s p) × (gap_end s p ≤ length s)
unfolding gap_end
gap_within s p h = omega (arith, gap_most (drop p s) false, length-drop p s)

-- ---- runs

pub run_over : (s : List ℕ) (stop p : ℕ) → length s ≤ p → run_end s stop p ≡ p
unfolding run_end run
run_over s stop p h = rw (drop_of_length-le s h) (add-zero p)

pub run_more : (s : List ℕ) (stop p : ℕ) → p < length s → in_run stop (get_or s p 0) ≡ true → run_end s stop p ≡ run_end s stop (p + 1)
unfolding run_end run
run_more s stop p h e = rw (at_cons s p h, e) (omega arith)

pub run_ends : (s : List ℕ) (stop p : ℕ) → p < length s → in_run stop (get_or s p 0) ≡ false → run_end s stop p ≡ p
unfolding run_end run
run_ends s stop p h e = rw (at_cons s p h, e) (add-zero p)

count_le : (b : Bool) (n m : ℕ) → n ≤ m → cond b (suc n) 0 ≤ suc m
count_le true n m h = omega arith
count_le false n m h = omega arith

run_most : (l : List ℕ) (stop : ℕ) → run stop l ≤ length l
unfolding run
run_most [] stop = le_refl 0
run_most (b ∷ bs) stop = count_le (in_run stop b) (run stop bs) (length bs) (run_most bs stop)

pub run_within : (s : List ℕ) (stop p : ℕ) → p ≤ length s → (p ≤ run_end s stop p) × (run_end s stop p ≤ length s)
unfolding run_end
run_within s stop p h = omega (arith, run_most (drop p s) stop, length-drop p s)

pub run_from : (s : List ℕ) (stop p : ℕ) → p ≤ run_end s stop p
unfolding run_end
run_from s stop p = omega arith

-- a run has its end at p, or goes on there
pub over_end : (s : List ℕ) (stop p : ℕ) → length s ≤ p → is_over s stop p ≡ true
unfolding is_over
over_end s stop p h = eq-eqb _ _ (run_over s stop p h)

pub over_at : (s : List ℕ) (stop p : ℕ) (t : Bool) → p < length s → in_run stop (get_or s p 0) ≡ t → not t ≡ is_over s stop p
unfolding is_over
over_at s stop p true h e =
    let b = run_within s stop (p + 1) (omega arith) in
    sym (ne_eqb _ _ (λ (q : run_end s stop p ≡ p). let y : ⊥ = omega (arith, run_more s stop p h e, b.0) in y))
over_at s stop p false h e = sym (eq-eqb _ _ (run_ends s stop p h e))

pub over_is : (s : List ℕ) (stop p : ℕ) → is_over s stop p ≡ true → run_end s stop p ≡ p
unfolding is_over
over_is s stop p h = eqb-true (run_end s stop p) p h

pub over_not : (s : List ℕ) (stop p : ℕ) → is_over s stop p ≡ false → (p < length s) × (in_run stop (get_or s p 0) ≡ true)
over_not s stop p h = elim (dec_le (length s) p) [
  | yes k ↦ clash (over_end s stop p k)
  | no k ↦ let l : p < length s = omega arith in (l, go (in_run stop (get_or s p 0)) refl l)
]
  where
    clash : {A : Type 0} → is_over s stop p ≡ true → A
    clash e = absurd (let x : ◌≡◌ {A = ℕ} 0 1 = cc in let y : ⊥ = omega arith in y)

    go : (t : Bool) → in_run stop (get_or s p 0) ≡ t → p < length s → t ≡ true
    go true e l = refl
    go false e l = clash (sym (over_at s stop p false l e))

-- ---- digits

pub digits_over : (w : List ℕ) (p : ℕ) → length w ≤ p → digits_end w p ≡ p
unfolding digits_end leading
digits_over w p h = rw (drop_of_length-le w h) (add-zero p)

pub digits_more : (w : List ℕ) (p : ℕ) → p < length w → is_digit (kind_of (get_or w p 0)) ≡ true → digits_end w p ≡ digits_end w (p + 1)
unfolding digits_end leading
digits_more w p h e = rw (at_cons w p h, e) (omega arith)

pub digits_end_lem : (w : List ℕ) (p : ℕ) → p < length w → is_digit (kind_of (get_or w p 0)) ≡ false → digits_end w p ≡ p
unfolding digits_end leading
digits_end_lem w p h e = rw (at_cons w p h, e) (add-zero p)

pub leading_most : (l : List ℕ) → leading l ≤ length l
unfolding leading
leading_most [] = le_refl 0
leading_most (b ∷ bs) = count_le (is_digit (kind_of b)) (leading bs) (length bs) (leading_most bs)

-- digits end after their beginning, and within the word if there are any
pub digits_bounds : (w : List ℕ) (p : ℕ) → (p ≤ digits_end w p) × (p < digits_end w p → digits_end w p ≤ length w)
unfolding digits_end
digits_bounds w p = (omega arith, λ h. omega (arith, leading_most (drop p w), length-drop p w))

-- ---- parts

pub part_short : (s : List ℕ) (p e : ℕ) → e ≤ p → part s p e ≡ []
part_short s p e h = let q : e - p ≡ 0 = omega arith in rw q

pub part_none : (s : List ℕ) (p e : ℕ) → length s ≤ p → part s p e ≡ []
part_none s p e h = rw (drop_of_length-le s h, take-nil (e - p))

pub part_rest : (s : List ℕ) (p e : ℕ) → length s ≤ e → part s p e ≡ drop p s
part_rest s p e h = let q : length (drop p s) ≤ e - p = simp length-drop (omega arith) in take_all (e - p) (drop p s) q
