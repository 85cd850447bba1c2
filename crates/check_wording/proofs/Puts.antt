-- Bytes put after bytes: two writes are one of both. Assumes nothing.
use mathlib.Core.Path.{◌≡◌, ap, ◌∙◌}
use mathlib.Core.List.{List, ◌++◌}
use Prim.Native.Nat.{ℕ, ◌+◌}
use native.Mathlib.Nat.{zero-add}
use native.Mathlib.Omega.{arith}
use lib.ListN.{length, length-append}
use lib.Seq.{sets}
use Rattle.base_laws.proofs.Sets.{sets_append}

-- xs is put from i on: b is left, and j is the place after it
abbrev pub Put : List ℕ → ℕ → List ℕ → List ℕ → ℕ → Type 0
Put a i xs b j = (b ≡ sets a i xs) × (j ≡ i + length xs)

pub behind : (a : List ℕ) (i : ℕ) (xs ys : List ℕ) {b c : List ℕ} {j k : ℕ} → Put a i xs b j → Put b j ys c k → Put a i (xs ++ ys) c k
behind a i xs ys {b} {c} {j} {k} p q =
    let e : k ≡ i + length (xs ++ ys) = omega (arith, p.1, q.1, length-append xs ys) in
    (q.0 ∙ ap (λ (l : List ℕ). sets l j ys) p.0 ∙ ap (λ (m : ℕ). sets (sets a i xs) m ys) p.1 ∙ sets_append a i xs ys, e)

-- ---- from the start

pub from_start : (a xs ys : List ℕ) {b : List ℕ} {j : ℕ} → Put a 0 xs b j → xs ≡ ys → (b ≡ sets a 0 ys) × (j ≡ length ys)
from_start a xs ys p e = (p.0 ∙ ap (sets a 0) e, p.1 ∙ zero-add (length xs) ∙ ap length e)
