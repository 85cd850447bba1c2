-- The machine that is fed bytes: it keeps the check, the line's number and the line so far.
use Rattle.std.specs.Prelude.{ℕ, suc, cond, List, [], ◌∷◌, ◌++◌, ltb, eqb, length}
use Rattle.plan_meaning.specs.Plan.{Rules, Limits, Result, refused}
use Rattle.plan_meaning.specs.Machine.{Check, waits, halted, fresh, take, finish}
use Rattle.plan_meaning.specs.Text.{Reader}
pub use Rattle.plan_meaning.specs.Text.{joined}

pub data Feed (S A W E : Type 0) : Type 0 where
  reading : Check S A W E → ℕ → List ℕ → Feed S A W E

module _ {S A W E : Type 0} (R : Rules S A W) (L : Limits A E) (D : Reader A E) where
  abbrev pub byte : Feed S A W E → ℕ → Feed S A W E
  byte (reading (halted e) n part) b = reading (halted e) n part
  byte (reading (waits r s q) n part) b =
      cond (ltb D.most n) (reading (halted (D.beyond n)) n part)
      (cond (eqb b 10) (reading (take R L (waits r s q) (D.line n s part)) (suc n) [])
      (cond (ltb (length part) D.width) (reading (waits r s q) n (part ++ b ∷ []))
      (reading (halted (D.long n s (part ++ b ∷ []))) n part)))

  -- one part
  abbrev pub feed : Feed S A W E → List ℕ → Feed S A W E
  feed m [] = m
  feed m (b ∷ bs) = feed (byte m b) bs

  -- part after part
  abbrev pub feeds : Feed S A W E → List (List ℕ) → Feed S A W E
  feeds m [] = m
  feeds m (p ∷ ps) = feeds (feed m p) ps

  abbrev pub new : Feed S A W E
  new = reading (fresh R L) 1 []

  abbrev pub close : Feed S A W E → Result S W E
  close (reading (halted e) n part) = refused e
  close (reading (waits r s q) n part) = finish R L (take R L (waits r s q) (D.line n s part))
