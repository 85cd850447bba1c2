-- The failure of a happening that is to be named: "The earliest failure is given, by time, then step, then the orders above." RULES 12.
-- For each thing that must hold in a happening: w is the failure that is named where it does not.
use Rattle.std.specs.Prelude.{ℕ, List, ◌⊎◌, ◌≡◌, ℤ, pos}
use Rattle.domain_meaning.specs.Effects.{Change, assign, raise, lower, Effect, becomes, changes}
use Rattle.domain_meaning.specs.Actions.{Lasting, moment, rule, whole}
use Rattle.happening_meaning.specs.State.{State, Grounds, number_at, number_of}
use Rattle.happening_meaning.specs.Happening.{Step, Point, line_of, objects_of, conditions_of, effects_of, rule_of, parts_for}
use Rattle.happening_meaning.specs.declared.Outcome.{Outcome}
use Rattle.happening_meaning.specs.declared.Outcome.TheVariants.{Duration, Condition, Undefined, Range, Itself, Conflict, Invariant}
use Rattle.check_validity_meaning.specs.Lists.{All, Pairwise, First, FirstPair}
use Rattle.check_validity_meaning.specs.Values.{InRange, HasValue, Evaluates, NoValue}
use Rattle.check_validity_meaning.specs.Satisfied.{FirstNotSo}
use Rattle.check_validity_meaning.specs.Happens.{Lasts, Applicable, Consistent, NonInterfering, Doable, Evaluable, Executable, Result, Within}

-- ---- step 1

-- the rule has no value, or another one
abbrev pub Mislasts : Grounds → State → Point → Lasting → Outcome → Type 0
Mislasts g s p moment w = ⊥
Mislasts g s p (rule e) w =
    NoValue g s.numbers (objects_of p) (line_of p) e w
    ⊎ ((z : ℤ) × HasValue g s.numbers (objects_of p) e z × (¬ (z ≡ pos p.step.duration) × (w ≡ Duration (line_of p))))

abbrev pub Inapplicable : Grounds → State → Point → Outcome → Type 0
Inapplicable g s p w =
    Mislasts g s p (rule_of p) w
    ⊎ (Lasts g s p (rule_of p) × FirstNotSo g s (objects_of p) (Condition (line_of p)) (line_of p) (conditions_of p) w)

-- ---- steps 2 and 3

abbrev pub Inconsistent : Grounds → Point → Outcome → Type 0
Inconsistent g p w = ¬ (Consistent g p) × (w ≡ Itself (line_of p))

abbrev pub Interfering : Grounds → Point → Point → Outcome → Type 0
Interfering g p q w = ¬ (NonInterfering g p q) × (w ≡ Conflict (line_of p) (line_of q))

-- ---- step 4

abbrev pub NotGiven : Change → List ℤ → ℕ → ℕ → Outcome → Type 0
NotGiven assign ns x l w = ⊥
NotGiven raise ns x l w = ¬ (InRange (number_at ns x)) × (w ≡ Undefined l)
NotGiven lower ns x l w = ¬ (InRange (number_at ns x)) × (w ≡ Undefined l)

abbrev pub Unmade : Grounds → State → ℕ → List ℕ → Effect → Outcome → Type 0
Unmade g s l os (becomes yes' r) w = ⊥
Unmade g s l os (changes how r e) w =
    NoValue g s.numbers os l e w ⊎ (Evaluates g s.numbers os e × NotGiven how s.numbers (number_of g os r) l w)

abbrev pub FirstUnmade : Grounds → State → Point → Outcome → Type 0
FirstUnmade g s p w = First (Doable g s (objects_of p)) (λ e. Unmade g s (line_of p) (objects_of p) e w) (effects_of p)

abbrev pub Outside : Grounds → State → Point → Outcome → Type 0
Outside g t p w = ¬ (Within g t p) × (w ≡ Range (line_of p))

-- ---- steps 1 to 4 of a happening: the first failure, by step, then by point or pair

pub data Fails (g : Grounds) (s : State) (ps : List Point) (w : Outcome) : Type 0 where
  inapplicable : First (Applicable g s) (λ p. Inapplicable g s p w) ps → Fails g s ps w
  inconsistent : All (Applicable g s) ps → First (Consistent g) (λ p. Inconsistent g p w) ps → Fails g s ps w
  interfering : All (Applicable g s) ps → All (Consistent g) ps → FirstPair (NonInterfering g) (λ p q. Interfering g p q w) ps → Fails g s ps w
  unmade : All (Applicable g s) ps → All (Consistent g) ps → Pairwise (NonInterfering g) ps
      → First (Evaluable g s) (λ p. FirstUnmade g s p w) ps → Fails g s ps w
  outside : Executable g s ps → (t : State) → Result g s ps t → First (Within g t) (λ p. Outside g t p w) ps → Fails g s ps w

-- ---- step 5

abbrev pub Broken : Grounds → State → Step → Outcome → Type 0
Broken g s x w = FirstNotSo g s x.objects (Invariant x.line) x.line (parts_for whole x.conditions) w
