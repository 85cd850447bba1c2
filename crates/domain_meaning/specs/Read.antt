-- Readers by place. A text is judged from left to right: the first token that a row refuses decides. RULES 3.
use Rattle.std.specs.Prelude.{ℕ}

-- what reading gives: a value and the place after what was read, or a refusal, its number and its place
pub data Read (A : Type 0) : Type 0 where
  got : A → ℕ → Read A
  refused : ℕ → ℕ → Read A

-- a reader reads at a place
abbrev pub Reader : Type 0 → Type 0
Reader A = ℕ → Read A

abbrev pub and_then : {A B : Type 0} → Read A → (A → Reader B) → Read B
and_then (got a n) f = f a n
and_then (refused k p) f = refused k p

-- one reader after the other; a refusal ends the reading
abbrev pub ◌>>=◌ : {A B : Type 0} → Reader A → (A → Reader B) → Reader B
◌>>=◌ m f = λ at. and_then (m at) f

-- nothing is read
abbrev pub give : {A : Type 0} → A → Reader A
give a = λ at. got a at

abbrev pub refuse : {A : Type 0} → ℕ → ℕ → Reader A
refuse k p = λ at. refused k p
