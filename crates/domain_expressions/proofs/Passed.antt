-- A reader's answer as it is passed on, where so many operators and operands may follow, and what two equal answers have in common. Assumes nothing.
use mathlib.Core.Path.{◌≡◌, ap}
use native.Mathlib.Omega.{arith}
use Rattle.std.specs.Prelude.{ℕ, Err}
use Rattle.domain_due.specs.Answers.{Parsed, at}
use Rattle.domain_due.specs.Answers as A
use Rattle.domain_expressions.specs.Codes.{Progress, Done, Refused}

abbrev pub passed : ℕ → Parsed → Progress
passed left (A.Done n v) = Done n v left
passed left (Err why) = Err why

pub read_parts : (a b v w l m : ℕ) → Done a v l ≡ Done b w m → (a ≡ b) × (v ≡ w) × (l ≡ m)
read_parts a b v w l m e =
    let q : ◌≡◌ {A = ℕ × ℕ × ℕ} (a, v, l) (b, w, m) = cc in
    (ap (λ (p : ℕ × ℕ × ℕ). p.0) q, ap (λ (p : ℕ × ℕ × ℕ). p.1) q, ap (λ (p : ℕ × ℕ × ℕ). p.2) q)

-- what is refused is not read
pub never_read : {A : Type 0} (k p a v l : ℕ) → Refused k p ≡ Done a v l → A
never_read k p a v l h = absurd (let z : ◌≡◌ {A = ℕ} 0 1 = cc in let y : ⊥ = omega arith in y)
