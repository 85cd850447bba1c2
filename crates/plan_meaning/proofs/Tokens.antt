-- The tokens of a plan line: where they lie, what they are refused with, and how large their numbers are. Assumes nothing.
use mathlib.Core.List.{List}
use mathlib.Core.Path.{◌≡◌, refl}
use mathlib.Core.Bool.{true}
use mathlib.Core.Logic.{inl, inr}
use Prim.Native.Nat.{ℕ, ◌+◌, ◌≤◌, ◌<◌, min}
use native.Mathlib.Omega.{arith}
use lib.IntN.{nat_abs}
use lib.ListN.{length}
use Rattle.text_tokens.specs.Tokens.{plan_token_at}
use Rattle.text_tokens.specs.declared.tokens.Token.{Token}
use Rattle.text_tokens.specs.declared.tokens.Token.TheVariants as T
use Rattle.text_tokens.proofs.PlanTokens.{TokenRow, InPlan, plan_token}
use Rattle.domain_meaning.specs.Due.{after_of, number_of as row_of, place_of}
use Rattle.plan_meaning.specs.Listed.{listed_row}
use Rattle.plan_meaning.proofs.Listed.{row_of_lem, row_14}

-- a number's size; of other tokens 0
abbrev pub size_of : Token → ℕ
size_of (T.Word k p e) = 0
size_of (T.Number z p e) = nat_abs z
size_of (T.Open p n) = 0
size_of (T.Close p n) = 0
size_of (T.Mark b p n) = 0
size_of (T.Refusal k p) = 0
size_of (T.End p) = 0

-- a token that lies at or below a place; its own refusal, or that of its standing where it does, is one of the plan's rows
pub record Told (m : ℕ) (t : Token) : Type 0 where
  pub place : place_of t ≤ m
  pub after : after_of t ≤ m
  pub row : listed_row (row_of 1 t) (place_of t + 1) ≡ true
  pub small : size_of t < 1000000000000

row_told : (k p : ℕ) → TokenRow k p → listed_row k (p + 1) ≡ true
row_told k p (inl (inl e)) = rw e (row_of_lem 2 (p + 1) refl)
row_told k p (inl (inr (inl e))) = rw e (row_of_lem 3 (p + 1) refl)
row_told k p (inl (inr (inr (inl e)))) = rw e (row_of_lem 5 (p + 1) refl)
row_told k p (inl (inr (inr (inr e)))) = rw e (row_of_lem 6 (p + 1) refl)
row_told k p (inr (e, f)) = rw (e, f) row_14

-- a token that may not stand where it stands is 3
told_in : (m : ℕ) (t : Token) → InPlan m t → Told m t
told_in m (T.Word k p e) h = record { place = h.0; after = h.1; row = row_of_lem 3 (p + 1) refl; small = omega arith }
told_in m (T.Number z p e) h = record { place = h.0; after = h.1; row = row_of_lem 3 (p + 1) refl; small = h.2.1 }
told_in m (T.Open p n) h = record { place = h.0; after = h.1; row = row_of_lem 3 (p + 1) refl; small = omega arith }
told_in m (T.Close p n) h = record { place = h.0; after = h.1; row = row_of_lem 3 (p + 1) refl; small = omega arith }
told_in m (T.Mark b p n) h = record { place = h.0; after = h.1; row = row_of_lem 3 (p + 1) refl; small = omega arith }
told_in m (T.Refusal k p) h = record { place = h.0; after = h.0; row = row_told k p h.1; small = omega arith }
told_in m (T.End p) h = record { place = h; after = h; row = row_of_lem 4 (p + 1) refl; small = omega arith }

pub token_told : (s : List ℕ) (m at : ℕ) → min (length s) 256 ≤ m → at ≤ m → Told m (plan_token_at s at)
token_told s m at room h = told_in m (plan_token_at s at) (plan_token s m at room h)
