-- What the machine does with what is left of a part: nothing after a refusal, a line that is longer, one that is too long, one that ends. Assumes nothing.
use Prim.Native.Nat.{ℕ, zero, suc, ◌+◌, ◌≤◌, ◌<◌}
use mathlib.Core.Bool.{Bool, true, false}
use mathlib.Core.List.{List, [], ◌∷◌, ◌++◌, append-nil, append_assoc}
use mathlib.Core.Path.{◌≡◌, refl, ap, ◌∙◌}
use native.Mathlib.Omega.{arith}
use borrow.Author.Tests.{lt-ltb, le-ltb}
use lib.Dec.{eqb}
use lib.ListN.{length, take, drop, length-append}
use Rattle.plan_meaning.specs.Plan.{Run, Rules, Point, Limits}
use Rattle.plan_meaning.specs.Machine.{waits, halted}
use Rattle.plan_meaning.specs.Machine as M
use Rattle.plan_meaning.specs.Text.{Reader}
use Rattle.plan_meaning.specs.Feed.{Feed, reading, feed}
use Rattle.plan_bytes.specs.Ends.{line_end}
use Rattle.plan_bytes.proofs.Ends.{end_lf, end_other, end_none}

module _ {S A W E : Type 0} (R : Rules S A W) (L : Limits A E) (D : Reader A E) where
  pub feed_halted : (e : E) (n : ℕ) (part bs : List ℕ) → feed R L D (reading (halted e) n part) bs ≡ reading (halted e) n part
  feed_halted e n part [] = refl
  feed_halted e n part (b ∷ bs) = feed_halted e n part bs

  pub feed_none : (m : Feed S A W E) (bs : List ℕ) → length bs ≡ 0 → feed R L D m bs ≡ m
  feed_none m [] h = refl
  feed_none m (b ∷ bs) h = absurd (let z : ⊥ = omega arith in z)

  module _ (r : Run S W) (s : ℕ) (q : List (Point A)) (n : ℕ) where
    -- a byte past the last line
    pub feed_beyond : (part bs : List ℕ) → D.most < n → (length bs ≡ 0 → ⊥)
        → feed R L D (reading (waits r s q) n part) bs ≡ reading (halted (D.beyond n)) n part
    feed_beyond part [] h some = absurd (some refl)
    feed_beyond part (b ∷ bs) h some = rw (lt-ltb D.most n h) (feed_halted (D.beyond n) n part bs)

    module _ (low : n ≤ D.most) where
      -- no LF, and room for all bytes
      pub feed_more : (bs part : List ℕ) → length bs ≤ line_end bs → length part + length bs ≤ D.width
          → feed R L D (reading (waits r s q) n part) bs ≡ reading (waits r s q) n (part ++ bs)
      feed_more [] part none room = rw append-nil
      feed_more (b ∷ bs) part none room = go (eqb b 10) refl (feed_more bs (part ++ b ∷ []))
        where
          go : (c : Bool) → eqb b 10 ≡ c
              → (length bs ≤ line_end bs → length (part ++ b ∷ []) + length bs ≤ D.width
              → feed R L D (reading (waits r s q) n (part ++ b ∷ [])) bs ≡ reading (waits r s q) n ((part ++ b ∷ []) ++ bs))
              → feed R L D (reading (waits r s q) n part) (b ∷ bs) ≡ reading (waits r s q) n (part ++ b ∷ bs)
          go true e rest = absurd (let z : ⊥ = omega (arith, end_lf b bs e) in z)
          go false e rest =
              let more = rest (omega (arith, end_other b bs e)) (omega (arith, length-append part (b ∷ []))) in
              rw (le-ltb D.most n low, e, lt-ltb (length part) D.width (omega arith))
              (more ∙ ap (λ (l : List ℕ). reading (waits r s q) n l) (append_assoc part (b ∷ []) bs))

      -- more bytes before an LF than the j that there is room for
      pub feed_long : (j : ℕ) (bs part : List ℕ) → j < line_end bs → length part + j ≡ D.width
          → feed R L D (reading (waits r s q) n part) bs ≡ reading (halted (D.long n s (part ++ take (suc j) bs))) n (part ++ take j bs)
      feed_long j [] part more room = absurd (let z : ⊥ = omega (arith, end_none) in z)
      feed_long zero (b ∷ bs) part more room = go (eqb b 10) refl
        where
          go : (c : Bool) → eqb b 10 ≡ c
              → feed R L D (reading (waits r s q) n part) (b ∷ bs) ≡ reading (halted (D.long n s (part ++ b ∷ []))) n (part ++ [])
          go true e = absurd (let z : ⊥ = omega (arith, end_lf b bs e) in z)
          go false e =
              rw (le-ltb D.most n low, e, le-ltb (length part) D.width (omega arith), append-nil)
              (feed_halted (D.long n s (part ++ b ∷ [])) n part bs)
      feed_long (suc j) (b ∷ bs) part more room = go (eqb b 10) refl (feed_long j bs (part ++ b ∷ []))
        where
          go : (c : Bool) → eqb b 10 ≡ c
              → (j < line_end bs → length (part ++ b ∷ []) + j ≡ D.width
              → feed R L D (reading (waits r s q) n (part ++ b ∷ [])) bs
              ≡ reading (halted (D.long n s ((part ++ b ∷ []) ++ take (suc j) bs))) n ((part ++ b ∷ []) ++ take j bs))
              → feed R L D (reading (waits r s q) n part) (b ∷ bs)
              ≡ reading (halted (D.long n s (part ++ b ∷ take (suc j) bs))) n (part ++ b ∷ take j bs)
          go true e rest = absurd (let z : ⊥ = omega (arith, end_lf b bs e) in z)
          go false e rest =
              let more' = rest (omega (arith, end_other b bs e)) (omega (arith, length-append part (b ∷ []))) in
              rw (le-ltb D.most n low, e, lt-ltb (length part) D.width (omega arith))
              (simp append_assoc at more')

      -- an LF, and room for the bytes before it
      pub feed_line : (bs part : List ℕ) → line_end bs < length bs → length part + line_end bs ≤ D.width
          → feed R L D (reading (waits r s q) n part) bs
          ≡ feed R L D (reading (M.take R L (waits r s q) (D.line n s (part ++ take (line_end bs) bs))) (suc n) []) (drop (suc (line_end bs)) bs)
      feed_line [] part some room = absurd (let z : ⊥ = omega arith in z)
      feed_line (b ∷ bs) part some room = go (eqb b 10) refl (feed_line bs (part ++ b ∷ []))
        where
          go : (c : Bool) → eqb b 10 ≡ c
              → (line_end bs < length bs → length (part ++ b ∷ []) + line_end bs ≤ D.width
              → feed R L D (reading (waits r s q) n (part ++ b ∷ [])) bs
              ≡ feed R L D (reading (M.take R L (waits r s q) (D.line n s ((part ++ b ∷ []) ++ take (line_end bs) bs))) (suc n) []) (drop (suc (line_end bs)) bs))
              → feed R L D (reading (waits r s q) n part) (b ∷ bs)
              ≡ feed R L D (reading (M.take R L (waits r s q) (D.line n s (part ++ take (line_end (b ∷ bs)) (b ∷ bs)))) (suc n) []) (drop (suc (line_end (b ∷ bs))) (b ∷ bs))
          go true e rest = rw (end_lf b bs e, append-nil, le-ltb D.most n low, e)
          go false e rest =
              let more = rest (omega (arith, end_other b bs e)) (omega (arith, end_other b bs e, length-append part (b ∷ []))) in
              rw (end_other b bs e, le-ltb D.most n low, e, lt-ltb (length part) D.width (omega (arith, end_other b bs e)))
              (simp append_assoc at more)
