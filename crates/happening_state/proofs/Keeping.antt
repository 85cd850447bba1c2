-- What is read of a state after a fact or number was stored: at its index what was stored, elsewhere what was there. Assumes nothing.
use mathlib.Core.Path.{◌≡◌, refl}
use mathlib.Core.List.{List}
use mathlib.Core.Bool.{Bool, true, false, cond}
use Prim.Native.Nat.{ℕ, ◌<◌}
use lib.Dec.{eqb}
use lib.IntN.{ℤ}
use lib.ListN.{length, set}
use lib.Seq.{get_or-set_same, get_or-set_other}
use Rattle.domain_meaning.specs.First.{undefined}
use Rattle.happening_meaning.specs.State.{State, is_true, number_at}
use Rattle.happening_state.specs.Masks.{Touched}

-- ---- facts

told_true : (b : Bool) → eqb (cond b 1 0) 1 ≡ b
told_true true = refl
told_true false = refl

pub fact_same : (facts : List ℕ) (i : ℕ) (b : Bool) → i < length facts → is_true (set facts i (cond b 1 0)) i ≡ b
unfolding is_true
fact_same facts i b h = rw (get_or-set_same facts i (cond b 1 0) 0 h) (told_true b)

pub fact_other : (facts : List ℕ) (i j x : ℕ) → (j ≡ i → ⊥) → is_true (set facts i x) j ≡ is_true facts j
unfolding is_true
fact_other facts i j x n = rw (get_or-set_other facts i j x 0 n)

-- ---- numbers

pub number_same : (numbers : List ℤ) (i : ℕ) (z : ℤ) → i < length numbers → number_at (set numbers i z) i ≡ z
unfolding number_at
number_same numbers i z h = get_or-set_same numbers i z undefined h

pub number_other : (numbers : List ℤ) (i j : ℕ) (z : ℤ) → (j ≡ i → ⊥) → number_at (set numbers i z) j ≡ number_at numbers j
unfolding number_at
number_other numbers i j z n = get_or-set_other numbers i j z undefined n

-- ---- where two states differ

pub touched_none : (w : ℕ) (s : State) → Touched w s s
touched_none w s = record { facts = λ x h. refl; numbers = λ x h. refl }
