-- Cells that stand in the code at a place: the first, those after it, and those after a part. Assumes nothing.
use mathlib.Core.Path.{◌≡◌, sym, ap, ◌∙◌}
use mathlib.Core.List.{List, ◌∷◌, ◌++◌, append_assoc}
use mathlib.Core.Bool.{true}
use Prim.Native.Nat.{ℕ, ◌+◌, ◌≤◌}
use native.Mathlib.Nat.{add-zero}
use native.Mathlib.Omega.{arith}
use lib.Dec.{ltb}
use lib.ListN.{length, get_or, take, drop, length-append, length-take}
use lib.Seq.{sets, sets-eq, length-sets, drop-drop, drop_at, get_or-drop, drop-append_seam}
use borrow.Author.Tests.{lt-ltb}
use Rattle.domain_rows.specs.Held.{byte_at}

-- the numbers xs stand in the code from `at` on, all within it
pub record Stands (code : List ℕ) (at : ℕ) (xs : List ℕ) : Type 0 where
  pub room : at + length xs ≤ length code
  pub rest : List ℕ
  pub here : drop at code ≡ xs ++ rest

pub below : {code : List ℕ} {at x : ℕ} {xs : List ℕ} → Stands code at (x ∷ xs) → ltb at (length code) ≡ true
below {code} {at} s = lt-ltb at (length code) (omega (arith, s.room))

pub head_is : {code : List ℕ} {at x : ℕ} {xs : List ℕ} → Stands code at (x ∷ xs) → byte_at code at ≡ x
unfolding byte_at
head_is {code} {at} {x} {xs} s =
    rw (below s)
    (let e : get_or (drop at code) 0 0 ≡ x = rw s.here in ap (λ (k : ℕ). get_or code k 0) (sym (add-zero at)) ∙ sym (get_or-drop at code 0 0) ∙ e)

pub behind : {code : List ℕ} {at x : ℕ} {xs : List ℕ} → Stands code at (x ∷ xs) → Stands code (at + 1) xs
behind {code} {at} {x} {xs} s =
    record { room = omega (arith, s.room); rest = s.rest; here = sym (drop-drop 1 at code) ∙ ap (λ (r : List ℕ). drop 1 r) s.here }

pub front : {code : List ℕ} {at : ℕ} (xs ys : List ℕ) → Stands code at (xs ++ ys) → Stands code at xs
front xs ys s =
    record { room = omega (arith, s.room, length-append xs ys); rest = ys ++ s.rest; here = s.here ∙ append_assoc xs ys s.rest }

pub after : {code : List ℕ} {at : ℕ} (xs ys : List ℕ) → Stands code at (xs ++ ys) → Stands code (at + length xs) ys
after {code} {at} xs ys s =
    record {
      room = omega (arith, s.room, length-append xs ys);
      rest = s.rest;
      here = sym (drop-drop (length xs) at code) ∙ ap (λ (r : List ℕ). drop (length xs) r) (s.here ∙ append_assoc xs ys s.rest)
          ∙ drop-append_seam xs (ys ++ s.rest);
    }

-- cells that were stored stand there
pub stored : (code : List ℕ) (at : ℕ) (xs : List ℕ) → at + length xs ≤ length code → Stands (sets code at xs) at xs
stored code at xs h =
    record {
      room = rw (length-sets code at xs) h;
      rest = drop (at + length xs) code;
      here = rw (sets-eq xs code at h, append_assoc) (drop_at (take at code) (xs ++ drop (at + length xs) code) at (rw (length-take at code) (omega arith)));
    }
