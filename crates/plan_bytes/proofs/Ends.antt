-- Where a line ends, by the first byte and byte by byte, and whether it is taken there. Assumes nothing.
use Prim.Native.Nat.{ℕ, suc, ◌+◌, ◌-◌, ◌≤◌, ◌<◌}
use mathlib.Core.Bool.{Bool, true, false, not, ◌&&◌, false≢true}
use mathlib.Core.List.{List, [], ◌∷◌}
use mathlib.Core.Path.{◌≡◌, refl, sym, ◌∙◌}
use native.Mathlib.Nat.{add-zero}
use native.Mathlib.Omega.{arith}
use borrow.Author.Tests.{eq-eqb, ne_eqb, lt-ltb, le-leb, ltb-true, ltb-false, leb-true, not-true}
use lib.Dec.{eqb, leb, ltb}
use lib.ListN.{length, drop, get_or, drop_of_length-le}
use Rattle.base_laws.proofs.Lists.{at_cons}
use Rattle.base_laws.proofs.Splits.{and_left, and_right}
use Rattle.plan_feeding.specs.declared.PlanProgress.{PlanProgress}
use Rattle.plan_bytes.specs.Ends.{line_end, ends_line}

-- ---- the first byte

pub end_lf : (b : ℕ) (bs : List ℕ) → eqb b 10 ≡ true → line_end (b ∷ bs) ≡ 0
unfolding line_end
end_lf b bs e = rw e

pub end_other : (b : ℕ) (bs : List ℕ) → eqb b 10 ≡ false → line_end (b ∷ bs) ≡ suc (line_end bs)
unfolding line_end
end_other b bs e = rw e

pub end_none : line_end [] ≡ 0
unfolding line_end
end_none = refl

pub end_within : (l : List ℕ) → line_end l ≤ length l
end_within [] = omega (arith, end_none)
end_within (b ∷ bs) = go (eqb b 10) refl (end_within bs)
  where
    go : (c : Bool) → eqb b 10 ≡ c → line_end bs ≤ length bs → line_end (b ∷ bs) ≤ length (b ∷ bs)
    go true e h = omega (arith, end_lf b bs e)
    go false e h = omega (arith, end_other b bs e)

-- ---- byte by byte: the bytes before `at` are none of them LF

pub ends_here : (l : List ℕ) (at : ℕ) → at < length l → get_or l at 0 ≡ 10 → at + line_end (drop at l) ≡ at
ends_here l at h e = rw (at_cons l at h, end_lf (get_or l at 0) (drop (at + 1) l) (eq-eqb _ _ e)) (add-zero at)

pub ends_later : (l : List ℕ) (at : ℕ) → at < length l → (get_or l at 0 ≡ 10 → ⊥) → at + line_end (drop at l) ≡ (at + 1) + line_end (drop (at + 1) l)
ends_later l at h e = rw (at_cons l at h, end_other (get_or l at 0) (drop (at + 1) l) (ne_eqb _ _ e)) (omega arith)

pub ends_nowhere : (l : List ℕ) (at : ℕ) → length l ≤ at → at + line_end (drop at l) ≡ at
ends_nowhere l at h = rw (drop_of_length-le l h, end_none) (add-zero at)

-- ---- whether it is taken

-- what is known of a line that is
pub record Ends (p : PlanProgress) (end left : ℕ) : Type 0 where
  pub goes : p.refused ≡ false
  pub low : p.number ≤ 1000000
  pub within : end < left
  pub room : end ≤ 256 - p.used

module _ (p : PlanProgress) (end left : ℕ) where
  ends_so : ends_line p end left ≡ true → Ends p end left
  unfolding ends_line
  ends_so h =
      let c = and_left (not p.refused && leb p.number 1000000 && ltb end left) (leb end (256 - p.used)) h in
      let b = and_left (not p.refused && leb p.number 1000000) (ltb end left) c in
      record {
        goes = not-true p.refused (and_left (not p.refused) (leb p.number 1000000) b);
        low = leb-true p.number 1000000 (and_right (not p.refused) (leb p.number 1000000) b);
        within = ltb-true end left (and_right (not p.refused && leb p.number 1000000) (ltb end left) c);
        room = leb-true end (256 - p.used) (and_right (not p.refused && leb p.number 1000000 && ltb end left) (leb end (256 - p.used)) h);
      }

  -- by the answer b of the test
  pub ends_of : {b : Bool} → b ≡ ends_line p end left → b ≡ true → Ends p end left
  ends_of e h = ends_so (sym e ∙ h)

  module _ (goes : p.refused ≡ false) (low : p.number ≤ 1000000) where
    ends_room : end < left → leb end (256 - p.used) ≡ ends_line p end left
    unfolding ends_line
    ends_room h = rw (goes, le-leb p.number 1000000 low, lt-ltb end left h)

    -- there is room, so no LF is left
    pub ends_not : end ≤ 256 - p.used → ends_line p end left ≡ false → left ≤ end
    ends_not room h = go (ltb end left) refl
      where
        go : (b : Bool) → ltb end left ≡ b → left ≤ end
        go true e = absurd (false≢true (sym h ∙ sym (ends_room (ltb-true end left e)) ∙ le-leb end (256 - p.used) room))
        go false e = ltb-false end left e
