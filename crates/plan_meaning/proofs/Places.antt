-- A plan line's refusal: its place lies within the line and at most at 256, and its row is one of the table. Assumes nothing.
use mathlib.Core.Path.{◌≡◌, refl}
use mathlib.Core.Bool.{true}
use mathlib.Core.List.{List}
use mathlib.Core.Option.{Option, some, none}
use Prim.Native.Nat.{ℕ, ◌+◌, ◌≤◌, ◌<◌, min}
use native.Mathlib.Omega.{arith}
use lib.ListN.{length}
use Rattle.domain_meaning.proofs.Given.{given_refused}
use Rattle.domain_meaning.specs.Read.{Read, got, refused}
use Rattle.plan_meaning.specs.Plan.{Step, refusal}
use Rattle.plan_meaning.specs.Promised.{Act}
use Rattle.plan_meaning.specs.Lines.{Known, Refused, refused_at, line_at, answer_of, long_of, reader}
use Rattle.plan_meaning.specs.Listed.{listed_row}
use Rattle.plan_meaning.proofs.Listed.{row_14}
use Rattle.plan_meaning.proofs.Walk.{Placed, line_walk}

module _ (s : List ℕ) (k : Known) (n before at : ℕ) where
  placed : (m : ℕ) → min (length s) 256 ≤ m → at ≤ m → (c p : ℕ) → line_at s k n before at ≡ refused c p → Placed m c p
  placed m room h c p e = given_refused (line_walk s m room k n before at h) e

  pub line_places : at ≤ length s → (c p : ℕ) → line_at s k n before at ≡ refused c p → p ≤ length s
  line_places h c p e = (placed (length s) (omega arith) h c p e).0

-- ---- what the reader of lines refuses

-- a refusal of line n, of the bytes l: "only what ends before column 257 is judged"
abbrev pub ReadRefusal : ℕ → List ℕ → Refused → Type 0
ReadRefusal n l e = (e.line ≡ n) × (1 ≤ e.column) × (e.column ≤ min (length l) 256 + 1) × (listed_row e.number e.column ≡ true)

module _ (k : Known) (n before : ℕ) (l : List ℕ) where
  refused_read : (c p : ℕ) → line_at l k n before 0 ≡ refused c p → ReadRefusal n l (refused_at c n p)
  refused_read c p e = let h = placed l k n before 0 (min (length l) 256) (omega arith) (omega arith) c p e in (refl, omega arith, omega (arith, h.0), h.1)

  pub reads_places : (e : Refused) → (reader k).line n before l ≡ refusal e → ReadRefusal n l e
  reads_places e h = go (line_at l k n before 0) refl h
    where
      go : (r : Read (Option (Step Act))) → line_at l k n before 0 ≡ r → answer_of n r ≡ refusal e → ReadRefusal n l e
      go (got (some x) a) q i = absurd (let z : ◌≡◌ {A = ℕ} 0 1 = cc in let y : ⊥ = omega arith in y)
      go (got none a) q i = absurd (let z : ◌≡◌ {A = ℕ} 0 1 = cc in let y : ⊥ = omega arith in y)
      go (refused c p) q i = let x : refused_at c n p ≡ e = cc in rw (← x) (refused_read c p q)

  -- l is a line that is too long, up to its first byte past the limit
  pub long_places : 256 < length l → ReadRefusal n l ((reader k).long n before l)
  long_places h = go (line_at l k n before 0) refl
    where
      go : (r : Read (Option (Step Act))) → line_at l k n before 0 ≡ r → ReadRefusal n l (long_of n r)
      go (got x a) q = (refl, omega arith, omega arith, row_14)
      go (refused c p) q = refused_read c p q
