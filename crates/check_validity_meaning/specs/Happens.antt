-- The execution of a happening (RULES 11; Fox and Long, Definitions 12 and 13).
-- What must hold in the state before, and what the state after it is.
use Rattle.std.specs.Prelude.{ℕ, ◌<◌, Bool, true, false, cond, List, [], ◌∷◌, ◌++◌, ◌≡◌, eqb, ℤ, pos, neg_ℤ, ◌+ℤ◌, length, get_or}
use Rattle.domain_meaning.specs.Effects.{Change, assign, raise, lower, Effect, becomes, changes}
use Rattle.domain_meaning.specs.Actions.{Lasting, moment, rule, whole}
use Rattle.happening_meaning.specs.State.{State, Grounds, number_at, number_of}
use Rattle.happening_meaning.specs.Happening.{Step, Point, objects_of, conditions_of, effects_of, rule_of, parts_for}
use Rattle.check_validity_meaning.specs.Lists.{All, Pairwise, ◌∈◌}
use Rattle.check_validity_meaning.specs.Values.{InRange, HasValue, Evaluates}
use Rattle.check_validity_meaning.specs.Satisfied.{Holds}
use Rattle.check_validity_meaning.specs.Reads.{ReadsFact, ReadsNumber, Makes, Changes}

-- ---- step 1: "for a start, the duration rule; then its conditions"

-- the rule's value is the duration
abbrev pub Lasts : Grounds → State → Point → Lasting → Type 0
Lasts g s p moment = Unit
Lasts g s p (rule e) = HasValue g s.numbers (objects_of p) e (pos p.step.duration)

abbrev pub Applicable : Grounds → State → Point → Type 0
Applicable g s p = Lasts g s p (rule_of p) × All (Holds g s (objects_of p)) (conditions_of p)

-- ---- step 2: "no number is assigned twice, or assigned and also raised or lowered"

-- if two effects write one number, neither assigns it
abbrev pub Additive : Grounds → List ℕ → Effect → Effect → Type 0
Additive g os (becomes yes' r) e = Unit
Additive g os (changes h r a) (becomes yes' q) = Unit
Additive g os (changes h r a) (changes k q b) = number_of g os r ≡ number_of g os q → ¬ (h ≡ assign) × ¬ (k ≡ assign)

abbrev pub Consistent : Grounds → Point → Type 0
Consistent g p = Pairwise (Additive g (objects_of p)) (effects_of p)

-- ---- step 3: interference; RULES 11, step 3; Fox and Long, Definition 12

-- never "a fact read by one's conditions is added or deleted by the other", nor "a number written by one is read by the other, in a condition, a duration
-- rule or a right side": q leaves alone what p reads
pub record Unmoved (g : Grounds) (p q : Point) : Type 0 where
  pub facts : (a : Bool) (x : ℕ) → Makes g q a x → ¬ (ReadsFact g p x)
  pub numbers : (how : Change) (x : ℕ) → Changes g q how x → ¬ (ReadsNumber g p x)

pub record NonInterfering (g : Grounds) (p q : Point) : Type 0 where
  pub first_reads : Unmoved g p q
  pub second_reads : Unmoved g q p
  -- never "one adds what the other deletes"
  pub facts : (a b : Bool) (x : ℕ) → Makes g p a x → Makes g q b x → a ≡ b
  -- never "both write one number, unless both only raise or lower it"
  pub numbers : (h k : Change) (x : ℕ) → Changes g p h x → Changes g q k x → ¬ (h ≡ assign) × ¬ (k ≡ assign)

-- ---- step 4: "the right side evaluates, then a number to be raised or lowered must be defined"

abbrev pub Given : Change → List ℤ → ℕ → Type 0
Given assign ns x = Unit
Given raise ns x = InRange (number_at ns x)
Given lower ns x = InRange (number_at ns x)

abbrev pub Doable : Grounds → State → List ℕ → Effect → Type 0
Doable g s os (becomes yes' r) = Unit
Doable g s os (changes how r e) = Evaluates g s.numbers os e × Given how s.numbers (number_of g os r)

abbrev pub Evaluable : Grounds → State → Point → Type 0
Evaluable g s p = All (Doable g s (objects_of p)) (effects_of p)

-- ---- "Steps 1 to 4 see the state before it."

pub record Executable (g : Grounds) (s : State) (ps : List Point) : Type 0 where
  pub applicable : All (Applicable g s) ps
  pub consistent : All (Consistent g) ps
  pub apart : Pairwise (NonInterfering g) ps
  pub evaluable : All (Evaluable g s) ps

-- ---- the numbers that effects write: how, which one, and the value of the right side in the state before

pub record Written : Type 0 where
  pub how : Change
  pub index : ℕ
  pub amount : ℤ

-- ws is what effects write, in their order
abbrev pub Writes : Grounds → State → List ℕ → List Effect → List Written → Type 0
Writes g s os [] ws = ws ≡ []
Writes g s os (becomes yes' r ∷ es) ws = Writes g s os es ws
Writes g s os (changes how r e ∷ es) [] = ⊥
Writes g s os (changes how r e ∷ es) (w ∷ ws) =
    (w.how ≡ how) × (w.index ≡ number_of g os r) × HasValue g s.numbers os e w.amount × Writes g s os es ws

-- the same of all points
abbrev pub AllWrite : Grounds → State → List Point → List Written → Type 0
AllWrite g s [] ws = ws ≡ []
AllWrite g s (p ∷ ps) ws =
    (us : List Written) × (vs : List Written) × (ws ≡ us ++ vs) × Writes g s (objects_of p) (effects_of p) us × AllWrite g s ps vs

-- what an effect adds to a number
abbrev pub signed : Change → ℤ → ℤ
signed assign z = pos 0
signed raise z = z
signed lower z = neg_ℤ z

abbrev pub share : ℕ → Written → ℤ
share x w = cond (eqb w.index x) (signed w.how w.amount) (pos 0)

-- "the exact sum of rises and falls" of number x
abbrev pub total : ℕ → List Written → ℤ
total x [] = pos 0
total x (w ∷ ws) = share x w +ℤ total x ws

-- ---- the state after it

abbrev pub fact_at : State → ℕ → ℕ
fact_at s x = get_or s.facts x 0

-- some point makes fact x so
abbrev pub SomeMakes : Grounds → List Point → Bool → ℕ → Type 0
SomeMakes g ps yes' x = (p : Point) × (p ∈ ps) × Makes g p yes' x

-- "facts become (old without deleted) with added"
pub record NewFact (g : Grounds) (s : State) (ps : List Point) (t : State) (x : ℕ) : Type 0 where
  pub added : SomeMakes g ps true x → fact_at t x ≡ 1
  pub deleted : ¬ (SomeMakes g ps true x) → SomeMakes g ps false x → fact_at t x ≡ 0
  pub kept : ¬ (SomeMakes g ps true x) → ¬ (SomeMakes g ps false x) → fact_at t x ≡ fact_at s x

-- "assigned numbers are set; the rest become old plus the exact sum of rises and falls"
pub record NewNumber (s t : State) (ws : List Written) (x : ℕ) : Type 0 where
  pub assigned : All (λ w. w.index ≡ x → w.how ≡ assign → number_at t.numbers x ≡ w.amount) ws
  pub rest : All (λ w. w.index ≡ x → ¬ (w.how ≡ assign)) ws → number_at t.numbers x ≡ number_at s.numbers x +ℤ total x ws

-- t is the state that the happening makes of s
pub record Result (g : Grounds) (s : State) (ps : List Point) (t : State) : Type 0 where
  pub facts : (length t.facts ≡ length s.facts) × ((x : ℕ) → x < length s.facts → NewFact g s ps t x)
  pub writes : List Written
  pub written : AllWrite g s ps writes
  pub numbers : (length t.numbers ≡ length s.numbers) × ((x : ℕ) → x < length s.numbers → NewNumber s t writes x)

-- never "a new value outside" the range
abbrev pub Within : Grounds → State → Point → Type 0
Within g t p = (how : Change) (x : ℕ) → Changes g p how x → InRange (number_at t.numbers x)

-- ---- step 5: "In the new state, the `over all` conditions"

abbrev pub Spans : Grounds → State → Step → Type 0
Spans g s x = All (Holds g s x.objects) (parts_for whole x.conditions)
