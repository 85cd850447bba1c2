-- Texts with the same tokens are read in the same way: with an edge as far as what is read reaches. Assumes nothing.
use mathlib.Core.Path.{◌≡◌, refl}
use mathlib.Core.List.{List}
use Prim.Native.Nat.{ℕ, ◌<◌}
use native.Mathlib.Omega.{arith}
use Rattle.domain_meaning.specs.Read.{Read, Reader, got, refused}
use Rattle.domain_meaning.specs.Domain.{domain_text, read_domain}
use Rattle.domain_meaning.specs.Problem.{problem_text, read_problem}
use Rattle.domain_refusal_laws.specs.Lowest.{seen, next_of, reach_in_problem}
use Rattle.domain_refusal_laws.specs.Alike.{SameAt, AlikeInDomain, AlikeInProblem}
use Rattle.domain_refusal_laws.proofs.Local.{Agrees, Over, Far, Good, far, near, Plain}
use Rattle.domain_refusal_laws.proofs.Suffice.{waits, edge_of}
use Rattle.domain_refusal_laws.proofs.Domains.{domain_local}
use Rattle.domain_refusal_laws.proofs.Problems.{problem_local}
use Rattle.domain_refusal_laws.proofs.SoundTexts.{listed_in_domain_lem, listed_in_problem_lem}

alike : {A : Type 0} {m : List ℕ → Reader A} → ((s : List ℕ) (q : ℕ) → Plain (edge_of s q) m) → (s u : List ℕ) → ((at : ℕ) → SameAt s u at)
    → ((k p : ℕ) → m s 0 ≡ refused k p → 0 < k) → m s 0 ≡ m u 0
unfolding Far
alike {A = A} {m = m} h s u a d = go (m s 0) (m s 0) (m u 0) d refl ((h s (edge_for (m s 0))).good u (agrees (m s 0)) 0)
  where
    edge_for : Read A → ℕ
    edge_for (got x n) = seen s (next_of s n)
    edge_for (refused k p) = reach_in_problem s k p

    agrees : (r : Read A) → Agrees (edge_of s (edge_for r)) u
    agrees r = record { same = λ at i. a at }

    go : (r x y : Read A) → ((k p : ℕ) → x ≡ refused k p → 0 < k) → x ≡ r
        → Good (edge_of s (edge_for r)) (next_of s 0) (Over (edge_of s (edge_for r)) (next_of s)) x y → x ≡ y
    go (got b n) x y d e (far z) = absurd (let o : ⊥ = omega (arith, (rw e at z).past) in o)
    go (refused k p) x y d e (far z) = absurd (let o : ⊥ = omega (arith, (rw e at z) (d k p e)) in o)
    go r x y d e (near i f) = f

pub alike_in_domain : AlikeInDomain
unfolding read_domain
alike_in_domain s u a = alike {m = domain_text} (λ s q. domain_local) s u a (λ k p e. (listed_in_domain_lem s k p e).least)

pub alike_in_problem : AlikeInProblem
unfolding read_problem
alike_in_problem s u d a = alike {m = λ v. problem_text v d} (λ s q. problem_local (waits s) d) s u a (λ k p e. (listed_in_problem_lem s d k p e).least)
