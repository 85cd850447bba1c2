-- The step that a plan line gives: its numbers are small, and it lies in the code's numbers as it is. Assumes nothing.
use mathlib.Core.Path.{◌≡◌, refl}
use mathlib.Core.List.{List, [], ◌∷◌}
use mathlib.Core.Option.{Option, some, none}
use Prim.Native.Nat.{ℕ, ◌+◌}
use native.Mathlib.Omega.{arith}
use lib.ListN.{length, get_or}
use Rattle.domain_meaning.proofs.Given.{given_got}
use Rattle.domain_meaning.specs.Read.{Read, got, refused}
use Rattle.plan_meaning.specs.Plan.{Step, step}
use Rattle.plan_meaning.specs.Promised.{Act}
use Rattle.plan_meaning.specs.Lines.{Known, line_at, answer_of, reader}
use Rattle.plan_meaning.specs.Stored.{step_in, step_of}
use Rattle.plan_meaning.proofs.Walk.{ReadStep, line_walk}

pub line_steps : (s : List ℕ) (k : Known) (n before at : ℕ) (x : Step Act) (e : ℕ) → line_at s k n before at ≡ got (some x) e → ReadStep s k n before x
line_steps s k n before at x e q = given_got (line_walk s (at + length s) (omega arith) k n before at (omega arith)) q

-- ---- a step that was read is there again once it lies in numbers

four : (l : List ℕ) → length l ≡ 4 → get_or l 0 0 ∷ get_or l 1 0 ∷ get_or l 2 0 ∷ get_or l 3 0 ∷ [] ≡ l
four [] h = absurd (let y : ⊥ = omega arith in y)
four (a ∷ []) h = absurd (let y : ⊥ = omega arith in y)
four (a ∷ b ∷ []) h = absurd (let y : ⊥ = omega arith in y)
four (a ∷ b ∷ c ∷ []) h = absurd (let y : ⊥ = omega arith in y)
four (a ∷ b ∷ c ∷ d ∷ []) h = refl
four (a ∷ b ∷ c ∷ d ∷ e ∷ l) h = absurd (let y : ⊥ = omega arith in y)

pub step_there : (s : List ℕ) (k : Known) (n before : ℕ) (x : Step Act) → ReadStep s k n before x → step_in (step_of x) ≡ x
unfolding step_in step_of
step_there s k n before x h =
    λ i. record {
      line = x.line;
      start = x.start;
      span = h.span i;
      act = record { action = x.act.action; objects = four x.act.objects h.objects i; width = x.act.width };
    }

-- ---- what the reader of lines gives

got_of : (n : ℕ) (r : Read (Option (Step Act))) (x : Step Act) → answer_of n r ≡ step x → (e : ℕ) × (r ≡ got (some x) e)
got_of n (got (some y) e) x h = (e, let q : y ≡ x = cc in rw q)
got_of n (got none e) x h = absurd (let z : ◌≡◌ {A = ℕ} 0 1 = cc in let y : ⊥ = omega arith in y)
got_of n (refused c p) x h = absurd (let z : ◌≡◌ {A = ℕ} 0 1 = cc in let y : ⊥ = omega arith in y)

pub reads_steps : (k : Known) (n before : ℕ) (l : List ℕ) (x : Step Act) → (reader k).line n before l ≡ step x → ReadStep l k n before x
reads_steps k n before l x h = let g = got_of n (line_at l k n before 0) x h in line_steps l k n before 0 x g.0 g.1
