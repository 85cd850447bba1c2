-- Numbers read in a text, once: digits summed as they come, and a number to the end of its run. Assumes nothing.
use Rattle.std.specs.Prelude.{None, Option, Some}
use mathlib.Core.Path.{◌≡◌, refl, sym, ap, ◌∙◌}
use mathlib.Core.List.{List, [], ◌∷◌}
use mathlib.Core.Bool.{Bool, true, false, cond}
use Prim.Native.Nat.{ℕ, zero, suc, ◌+◌, ◌-◌, ◌*◌, ◌^◌, ◌≤◌, ◌<◌, min}
use native.Mathlib.Omega.{arith}
use native.Mathlib.Decide.{dec_le}
use lib.ListN.{length, get_or, take, drop, length-drop}
use lib.Seq.{drop-drop, take-nil, take-take}
use borrow.Author.Tests.{eq-eqb, ne_eqb, eqb-true, le-leb}
use lib.Dec.{eqb}
use Rattle.base_laws.proofs.Lists.{at_cons}
use Rattle.base_laws.proofs.Numerals.{ten_to}
use Rattle.base_laws.proofs.Pairs.{some_pair}
use Rattle.text_words.specs.Bytes.{bytes, kind_of, is_digit, is_wordly, in_run}
use Rattle.text_words.specs.declared.bytes.Kind.{Kind}
use Rattle.text_words.specs.declared.bytes.Kind.TheVariants as K
use Rattle.text_tokens.specs.Runs.{part, run, run_end}
use Rattle.text_tokens.specs.Figures.{is_over}
use Rattle.text_tokens.specs.Numbers.{leading, digits_end, decimal, scale_of, fraction_of, rest_of, number_from}
use Rattle.text_tokens.specs.Figures.{with_end, decimals_at, figure_at}
use Rattle.text_tokens.proofs.Steps.{digits_over, digits_more, digits_end_lem, digits_bounds, leading_most, run_more, run_from, run_within}
use Rattle.text_tokens.proofs.Steps.{over_is, over_not, part_short, part_rest}
use Rattle.text_tokens.proofs.Values.{decimal_next, decimal_end, grows, digit_most, fraction_none, fraction_fine, fraction_other, fraction_read}
use Rattle.text_tokens.proofs.Values.{number_none, number_large, number_read, number_small}
use Rattle.text_tokens.proofs.Within.{part_length}

ends_at : (s : List ℕ) (p : ℕ) → digits_end s p ≡ p + leading (drop p s)
unfolding digits_end
ends_at s p = refl

-- ---- digits summed as they are read

-- where at most so many digits end
abbrev pub last_of : List ℕ → ℕ → ℕ → ℕ
last_of w from most = min (digits_end w from) (from + most)

-- what the digits from `end` on add to the value is what all of them make
pub record Summed (w : List ℕ) (from most value end : ℕ) : Type 0 where
  pub low : from ≤ end
  pub high : end ≤ min (length w) (from + most)
  pub small : value + 23 ≤ 23 * 10 ^ (end - from)
  pub rest : digits_end w from ≡ digits_end w end
  pub sum : decimal 0 (part w from (last_of w from most)) ≡ decimal value (part w end (last_of w from most))

pub summed_start : (w : List ℕ) (from most : ℕ) → from ≤ length w → Summed w from most 0 from
summed_start w from most h =
    record {
      low = omega arith;
      high = omega arith;
      small = (let e : from - from ≡ 0 = omega arith in rw e (omega arith));
      rest = refl;
      sum = refl;
    }

module _ (w : List ℕ) (from most value end : ℕ) (i : Summed w from most value end) where
  pub summed_more : (d : ℕ) → end < min (length w) (from + most) → is_digit (kind_of (get_or w end 0)) ≡ true → d ≡ get_or w end 0 - 48 → d < 208
      → Summed w from most (value * 10 + d) (end + 1)
  summed_more d h t e k =
      let m = digits_more w end (omega arith) t in
      let b = digits_bounds w (end + 1) in
      let u = digits_bounds w end in
      let long : digits_end w end ≤ length w = u.1 (omega (arith, m, b.0)) in
      let n : end + 1 - from ≡ end - from + 1 = omega (arith, i.low) in
      record {
        low = omega (arith, i.low);
        high = omega arith;
        small = rw n (grows value d (end - from) i.small k);
        rest = i.rest ∙ m;
        sum = i.sum ∙ decimal_next w value end (last_of w from most) (omega (arith, i.rest, m, b.0)) (omega (arith, i.rest, long)) ∙ rw e;
      }

  ended : end ≡ last_of w from most → most ≤ 10
      → (end ≡ last_of w from most) × (value ≡ decimal 0 (part w from end)) × (value < 230000000000)
  ended q h =
      (q, sym (rw (← q) at i.sum ∙ decimal_end w value end end (omega arith)), omega (arith, i.small, ten_to (end - from) 10 (omega (arith, i.high))))

  pub summed_other : end < min (length w) (from + most) → is_digit (kind_of (get_or w end 0)) ≡ false → most ≤ 10
      → (end ≡ last_of w from most) × (value ≡ decimal 0 (part w from end)) × (value < 230000000000)
  summed_other h t = ended (omega (arith, i.rest, digits_end_lem w end (omega arith) t))

  pub summed_over : min (length w) (from + most) ≤ end → most ≤ 10
      → (end ≡ last_of w from most) × (value ≡ decimal 0 (part w from end)) × (value < 230000000000)
  summed_over h = ended (elim (dec_le (length w) end) [
    | yes k ↦ omega (arith, i.rest, i.high, digits_over w end k)
    | no k ↦ omega (arith, i.rest, i.high, (digits_bounds w end).0)
  ])

-- ---- parts of parts

drop_take : (k n : ℕ) (l : List ℕ) → drop k (take n l) ≡ take (n - k) (drop k l)
drop_take zero n l = let e : n - zero ≡ n = omega arith in rw e
drop_take (suc k) zero l = let e : zero - suc k ≡ zero = omega arith in rw e
drop_take (suc k) (suc n) [] = sym (take-nil (suc n - suc k))
drop_take (suc k) (suc n) (b ∷ bs) = let e : suc n - suc k ≡ n - k = omega arith in rw e (drop_take k n bs)

pub part_front : (s : List ℕ) (p e r : ℕ) → e ≤ r → take (e - p) (part s p r) ≡ part s p e
part_front s p e r h = take-take (e - p) (r - p) (drop p s) (omega arith)

pub part_back : (s : List ℕ) (p e r : ℕ) → p ≤ e → drop (e - p) (part s p r) ≡ part s e r
part_back s p e r h =
    let a : p + (e - p) ≡ e = omega arith in
    let b : r - p - (e - p) ≡ r - e = omega arith in
    drop_take (e - p) (r - p) (drop p s) ∙ rw (b, drop-drop (e - p) p s, a)

pub part_cons : (s : List ℕ) (p e : ℕ) → p < length s → p < e → part s p e ≡ get_or s p 0 ∷ part s (p + 1) e
part_cons s p e h k = let n : e - p ≡ suc (e - (p + 1)) = omega arith in rw (at_cons s p h, n)

-- ---- digits and the point go on a run

wordly_digit : (k : Kind) → is_digit k ≡ true → is_wordly k ≡ true
wordly_digit K.Digit h = refl
wordly_digit K.Letter h = refl
wordly_digit K.Bracket h = h
wordly_digit K.White h = h
wordly_digit K.Mark h = refl
wordly_digit K.Refused h = h

pub digit_runs : (stop b : ℕ) → 58 ≤ stop → is_digit (kind_of b) ≡ true → in_run stop b ≡ true
unfolding in_run
digit_runs stop b h e =
    let m = digit_most b e in
    rw (ne_eqb b 59 (λ (q : b ≡ 59). let y : ⊥ = omega arith in y), ne_eqb b stop (λ (q : b ≡ stop). let y : ⊥ = omega arith in y)) (wordly_digit (kind_of b) e)

module _ (stop : ℕ) (h : 58 ≤ stop) where
  leading_run : (l : List ℕ) → leading (take (run stop l) l) ≡ leading l
  unfolding leading run
  leading_run [] = refl
  leading_run (b ∷ bs) = go (is_digit (kind_of b)) refl (leading_run bs)
    where
      none : (u : Bool) → is_digit (kind_of b) ≡ false → leading (take (cond u (suc (run stop bs)) 0) (b ∷ bs)) ≡ 0
      none true e = rw e
      none false e = refl

      go : (t : Bool) → is_digit (kind_of b) ≡ t → leading (take (run stop bs) bs) ≡ leading bs
          → leading (take (cond (in_run stop b) (suc (run stop bs)) 0) (b ∷ bs)) ≡ cond t (suc (leading bs)) 0
      go true e ih = rw (digit_runs stop b h e, e, ih)
      go false e ih = none (in_run stop b) e

  run_leading : (l : List ℕ) → run stop l ≡ leading l + run stop (drop (leading l) l)
  unfolding leading run
  run_leading [] = refl
  run_leading (b ∷ bs) = go (is_digit (kind_of b)) refl (run_leading bs)
    where
      go : (t : Bool) → is_digit (kind_of b) ≡ t → run stop bs ≡ leading bs + run stop (drop (leading bs) bs)
          → cond (in_run stop b) (suc (run stop bs)) 0
          ≡ cond t (suc (leading bs)) 0 + run stop (drop (cond t (suc (leading bs)) 0) (b ∷ bs))
      go true e ih = rw (digit_runs stop b h e) (omega (arith, ih))
      go false e ih = omega arith

  -- the run at p goes as far as the one after its digits, and has the same digits
  pub runs_behind : (s : List ℕ) (p : ℕ) → run_end s stop p ≡ run_end s stop (digits_end s p)
  unfolding run_end digits_end
  runs_behind s p = rw (← drop-drop (leading (drop p s)) p s) (omega (arith, run_leading (drop p s)))

  pub leading_part : (s : List ℕ) (p : ℕ) → leading (part s p (run_end s stop p)) ≡ leading (drop p s)
  unfolding run_end
  leading_part s p = let q : p + run stop (drop p s) - p ≡ run stop (drop p s) = omega arith in rw q (leading_run (drop p s))

-- ---- the decimals of a number, to the end of their run

module _ (whole : ℕ) (ds : List ℕ) where
  fraction_lack : leading ds < length ds → None ≡ fraction_of whole ds
  fraction_lack h = elim (dec_le (length ds) 3) [
    | yes k ↦ fraction_other whole ds (omega arith) k h
    | no k ↦ fraction_fine whole ds (omega arith)
  ]

  fraction_zero : leading ds ≡ 0 → None ≡ fraction_of whole ds
  fraction_zero h = elim (dec_le (length ds) 0) [
    | yes k ↦ fraction_none whole ds (omega arith)
    | no k ↦ fraction_lack (omega arith)
  ]

module _ (s : List ℕ) (stop whole from : ℕ) (h : 58 ≤ stop) (i : from ≤ length s) where
  long : length (part s from (run_end s stop from)) ≡ run_end s stop from - from
  long = part_length s from (run_end s stop from) (run_within s stop from i).1

  digits : digits_end s from ≡ from + leading (part s from (run_end s stop from))
  unfolding digits_end
  digits = rw (leading_part stop h s from)

  ends : None ≡ fraction_of whole (part s from (run_end s stop from)) → None ≡ decimals_at s stop whole from
  unfolding decimals_at
  ends e = ap (λ (n : Option ℕ). with_end n (run_end s stop from)) e

  pub decimals_none : digits_end s from ≡ from → None ≡ decimals_at s stop whole from
  decimals_none e = ends (fraction_zero whole _ (omega (arith, digits)))

  pub decimals_fine : from + 3 < digits_end s from → None ≡ decimals_at s stop whole from
  decimals_fine e = ends (fraction_fine whole _ (omega (arith, digits, leading_most (part s from (run_end s stop from)))))

  module _ (end : ℕ) (e : end ≡ digits_end s from) where
    pub decimals_on : is_over s stop end ≡ false → None ≡ decimals_at s stop whole from
    decimals_on o =
        let n = over_not s stop end o in
        let m = run_more s stop end n.0 n.1 in
        let b = run_within s stop (end + 1) (omega (arith, n.0)) in
        let q : run_end s stop from ≡ run_end s stop end = rw e (runs_behind stop h s from) in
        ends (fraction_lack whole _ (rw long (omega (arith, digits, m, b.0))))

    pub decimals_read : (v c : ℕ) → 1 ≤ end - from → end - from ≤ 3 → is_over s stop end ≡ true → v ≡ decimal 0 (part s from end) → c ≡ scale_of (end - from)
        → Some ((whole * 1000 + v * c), end) ≡ decimals_at s stop whole from
    unfolding decimals_at
    decimals_read v c lo hi o x y =
        let q : run_end s stop from ≡ end = rw e (runs_behind stop h s from) ∙ over_is s stop end o in
        let n : length (part s from end) ≡ end - from = rw q at long in
        let l : leading (part s from end) ≡ end - from = omega (arith, (rw q at digits)) in
        let z : c ≡ scale_of (length (part s from end)) = y ∙ ap scale_of (sym n) in
        rw (q, x, z) (ap (λ (f : Option ℕ). with_end f end) (fraction_read whole (part s from end) (omega arith) (omega arith) (omega arith)))

-- ---- a number, to the end of its run

module _ (s : List ℕ) (stop from : ℕ) (h : 58 ≤ stop) where
  first : leading (part s from (run_end s stop from)) ≡ digits_end s from - from
  unfolding digits_end
  first = leading_part stop h s from ∙ (let e : from + leading (drop from s) - from ≡ leading (drop from s) = omega arith in sym e)

  fails : None ≡ number_from (part s from (run_end s stop from)) → None ≡ figure_at s stop from
  unfolding figure_at
  fails e = ap (λ (n : Option ℕ). with_end n (run_end s stop from)) e

  pub figure_none : digits_end s from ≡ from → None ≡ figure_at s stop from
  figure_none e = fails (number_none _ (omega (arith, first)))

  pub figure_large : from + 9 < digits_end s from → None ≡ figure_at s stop from
  figure_large e = fails (number_large _ (omega (arith, first)))

  module _ (end v : ℕ) (e : end ≡ digits_end s from) (lo : 1 ≤ end - from) (hi : end - from ≤ 9) (x : v ≡ decimal 0 (part s from end)) where
    behind : run_end s stop from ≡ run_end s stop end
    behind = rw e (runs_behind stop h s from)

    read : number_from (part s from (run_end s stop from)) ≡ rest_of v (part s end (run_end s stop end))
    unfolding number_from
    read =
        let n : leading (part s from (run_end s stop from)) ≡ end - from = omega (arith, first) in
        let u : end ≤ run_end s stop end = run_from s stop end in
        rw (
          n,
          le-leb 1 (end - from) lo,
          le-leb (end - from) 9 hi,
          behind,
          part_front s from end (run_end s stop end) u,
          part_back s from end (run_end s stop end) (omega arith),
          ← x,
        )

    pub figure_whole : is_over s stop end ≡ true → Some ((v * 1000), end) ≡ figure_at s stop from
    unfolding figure_at
    figure_whole o =
        let q = over_is s stop end o in
        rw (read, behind, q, part_short s end end (omega arith))

    module _ (o : is_over s stop end ≡ false) where
      on : part s end (run_end s stop end) ≡ get_or s end 0 ∷ part s (end + 1) (run_end s stop (end + 1))
      on =
          let n = over_not s stop end o in
          let m = run_more s stop end n.0 n.1 in
          rw m (part_cons s end (run_end s stop (end + 1)) n.0 (omega (arith, run_from s stop (end + 1))))

      pub figure_other : (get_or s end 0 ≡ 46 → ⊥) → None ≡ figure_at s stop from
      figure_other d = fails (sym (read ∙ rw (on, ne_eqb (get_or s end 0) 46 d)))

      pub figure_point : get_or s end 0 ≡ 46 → decimals_at s stop v (end + 1) ≡ figure_at s stop from
      unfolding figure_at decimals_at
      figure_point d =
          let n = over_not s stop end o in
          let m = run_more s stop end n.0 n.1 in
          rw (read, on, eq-eqb (get_or s end 0) 46 d, behind, m)

-- ---- a word that is more than its first run is no number

point_runs : (stop : ℕ) → 58 ≤ stop → in_run stop 46 ≡ true
unfolding in_run kind_of bytes
point_runs stop h = rw (ne_eqb 46 stop (λ (q : 46 ≡ stop). let y : ⊥ = omega arith in y))

module _ (s : List ℕ) (stop from : ℕ) (h : 58 ≤ stop) (cut : run_end s stop from < length s) where
  point_cut : (whole : ℕ) → get_or s (digits_end s from) 0 ≡ 46 → None ≡ fraction_of whole (drop (digits_end s from + 1) s)
  point_cut whole d =
      let e = digits_end s from in
      let b = runs_behind stop h s from in
      let m = run_more s stop e (omega (arith, b, run_from s stop e)) (rw d (point_runs stop h)) in
      let n = runs_behind stop h s (e + 1) in
      let l : leading (drop (e + 1) s) < length s - (e + 1) = omega (arith, b, m, n, run_from s stop (digits_end s (e + 1)), ends_at s (e + 1)) in
      fraction_lack whole _ (rw (length-drop (e + 1) s) l)

  rest_cut : (whole : ℕ) → None ≡ rest_of whole (drop (digits_end s from) s)
  rest_cut whole =
      let e = digits_end s from in
      let b = runs_behind stop h s from in
      rw (at_cons s e (omega (arith, b, run_from s stop e))) (go (eqb (get_or s e 0) 46) refl)
    where
      go : (t : Bool) → eqb (get_or s (digits_end s from) 0) 46 ≡ t → None ≡ cond t (fraction_of whole (drop (digits_end s from + 1) s)) None
      go true k = point_cut whole (eqb-true (get_or s (digits_end s from) 0) 46 k)
      go false k = refl

  pub number_cut : None ≡ number_from (drop from s)
  number_cut = elim (dec_le (digits_end s from) from) [
    | yes k ↦ number_none _ (omega (arith, ends_at s from))
    | no k ↦ elim (dec_le (digits_end s from - from) 9) [
      | yes j ↦ rest_cut (decimal 0 (part s from (digits_end s from))) ∙ sym (number_read s from (digits_end s from) _ refl (omega arith) j refl)
      | no j ↦ number_large _ (omega (arith, ends_at s from))
    ]
  ]

-- what a number read in a word says of the word
pub with_end_lem : (n : Option ℕ) (r m e : ℕ) → Some (m, e) ≡ with_end n r → (Some m ≡ n) × (r ≡ e)
with_end_lem (Some x) r m e q = let w = some_pair m x e r q in (ap Some w.0, sym w.1)
with_end_lem None r m e q = absurd (let z : ◌≡◌ {A = ℕ} 0 1 = cc in let y : ⊥ = omega arith in y)

pub with_none : (n : Option ℕ) (r : ℕ) → None ≡ with_end n r → None ≡ n
with_none (Some x) r q = absurd (let z : ◌≡◌ {A = ℕ} 0 1 = cc in let y : ⊥ = omega arith in y)
with_none None r q = refl

module _ (s : List ℕ) (stop from : ℕ) (h : 58 ≤ stop) (f : Option (ℕ × ℕ)) (g : f ≡ figure_at s stop from) where
  whole_run : length s ≤ run_end s stop from → part s from (run_end s stop from) ≡ drop from s
  whole_run k = part_rest s from (run_end s stop from) k

  pub word_malformed : f ≡ None → None ≡ number_from (drop from s)
  unfolding figure_at
  word_malformed t = elim (dec_le (length s) (run_end s stop from)) [
    | yes k ↦ rw (whole_run k) at (with_none (number_from (part s from (run_end s stop from))) (run_end s stop from) (sym t ∙ g))
    | no k ↦ number_cut s stop from h (omega arith)
  ]

  module _ (m end : ℕ) (e : f ≡ Some (m, end)) where
    both : (Some m ≡ number_from (part s from (run_end s stop from))) × (run_end s stop from ≡ end)
    unfolding figure_at
    both = with_end_lem _ _ m end (sym e ∙ g)

    pub figure_small : m < 1000000000000
    figure_small = rw (← both.0) at (number_small (part s from (run_end s stop from)))

    pub word_longer : end < length s → None ≡ number_from (drop from s)
    word_longer k = number_cut s stop from h (omega (arith, both.1))

    pub word_number : length s ≤ end → Some m ≡ number_from (drop from s)
    word_number k = both.0 ∙ rw (whole_run (omega (arith, both.1)))
