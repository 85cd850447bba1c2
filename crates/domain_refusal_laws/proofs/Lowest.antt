-- The law of the lowest place, of a domain and of a problem.
use mathlib.Core.Path.{◌≡◌, sym, ◌∙◌}
use Prim.Native.Nat.{ℕ, ◌≤◌, ◌<◌}
use native.Mathlib.Nat.{le_refl}
use native.Mathlib.Omega.{arith}
use Rattle.domain_meaning.specs.Read.{Read, refused}
use Rattle.domain_meaning.specs.Domain.{domain_text, read_domain}
use Rattle.domain_meaning.specs.Problem.{problem_text, read_problem}
use Rattle.domain_refusal_laws.specs.Lowest.{reach, reach_in_problem, LowestInDomain, LowestInProblem}
use Rattle.domain_refusal_laws.proofs.Local.{Edge, Far, Good, far, near, agrees_bytes}
use Rattle.domain_refusal_laws.proofs.Suffice.{reach_above, reach_bracket, waits, edge_of}
use Rattle.domain_refusal_laws.proofs.Domains.{domain_local}
use Rattle.domain_refusal_laws.proofs.Problems.{problem_local}
use Rattle.domain_refusal_laws.proofs.SoundTexts.{listed_in_domain_lem, listed_in_problem_lem}

-- what is refused within the edge is refused so in both
within_edge : {A : Type 0} {E : Edge} {f : ℕ} {F : ℕ → Type 0} (k p : ℕ) (x y : Read A)
    → 0 < k → E.reaches k p ≤ E.edge → x ≡ refused k p → Good E f F x y → y ≡ refused k p
unfolding Far
within_edge k p x y h i e (far z) = absurd (let o : ⊥ = omega (arith, (rw e at z) h) in o)
within_edge k p x y h i e (near j d) = sym d ∙ e

pub lowest_in_domain : LowestInDomain
unfolding read_domain
lowest_in_domain s t k p a e =
    within_edge {E = E} k p (domain_text s 0) (domain_text t 0) (listed_in_domain_lem s k p e).least (le_refl (reach s k p)) e
    ((domain_local {E = E}).good t (agrees_bytes E t a) 0)
  where
    E : Edge
    E = record { text = s; edge = reach s k p; reaches = reach s; above = reach_above s; bracket = reach_bracket s }

pub lowest_in_problem : LowestInProblem
unfolding read_problem reach_in_problem
lowest_in_problem s t d k p a e =
    within_edge {E = E} k p (problem_text s d 0) (problem_text t d 0) (listed_in_problem_lem s d k p e).least (le_refl (reach_in_problem s k p)) e
    ((problem_local {E = E} (waits s) d).good t (agrees_bytes E t a) 0)
  where
    E : Edge
    E = edge_of s (reach_in_problem s k p)
