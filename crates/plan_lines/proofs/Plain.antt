-- A number of a plan line has no sign, and few digits. Assumes nothing.
use mathlib.Core.Path.{◌≡◌}
use mathlib.Core.List.{List}
use Prim.Native.Nat.{ℕ, ◌+◌}
use native.Mathlib.Omega.{arith}
use lib.IntN.{ℤ}
use lib.ListN.{length}
use Rattle.text_tokens.specs.Tokens.{plan_token_at}
use Rattle.text_tokens.specs.declared.tokens.Token.{Token}
use Rattle.text_tokens.specs.declared.tokens.Token.TheVariants as T
use Rattle.text_tokens.proofs.PlanTokens.{InPlan, plan_token}
use Rattle.plan_lines.specs.Reading.{Plain, Small}

small_in : (m : ℕ) (t : Token) → InPlan m t → Small t
small_in m (T.Word k p e) h = tt
small_in m (T.Number z p e) h = h.2
small_in m (T.Open p n) h = tt
small_in m (T.Close p n) h = tt
small_in m (T.Mark b p n) h = tt
small_in m (T.Refusal k p) h = tt
small_in m (T.End p) h = tt

pub plan_small : (s : List ℕ) (at : ℕ) → Small (plan_token_at s at)
plan_small s at = small_in (at + length s) (plan_token_at s at) (plan_token s (at + length s) at (omega arith) (omega arith))

-- of a token that was seen to be a number
pub plain_at : (t : Token) (z : ℤ) (p e : ℕ) → t ≡ T.Number z p e → Small t → Plain z
plain_at t z p e q h = rw q at h
