-- Texts of any length: what is answered of what a block holds of domain and problem is what is answered of the whole texts. Assumes nothing.
use mathlib.Core.Path.{◌≡◌, refl}
use mathlib.Core.List.{List}
use Prim.Native.Nat.{ℕ, ◌≤◌}
use Rattle.domain_meaning.specs.Read.{Read, got, refused}
use Rattle.domain_meaning.specs.Domain.{Domain, read_domain}
use Rattle.domain_holding.specs.Keeping.{held_of}
use Rattle.domain_holding.proofs.Reading.{held_domain, held_problem}
use Rattle.check_meaning.specs.Answer.{of_domain, answer}

module _ (n : ℕ) (domain problem plan : List ℕ) (room : 32850 ≤ n) where
  pub held_answer : answer (held_of n domain) (held_of n problem) plan ≡ answer domain problem plan
  unfolding answer
  held_answer = rw (held_domain n domain room) (go (read_domain domain))
    where
      go : (r : Read Domain) → of_domain r (held_of n problem) plan ≡ of_domain r problem plan
      go (got d m) = rw (held_problem n problem d room)
      go (refused i p) = refl
