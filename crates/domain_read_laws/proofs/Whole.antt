-- Both texts as they were read; a domain's actions and a problem's goal are what their cells give back. Assumes nothing.
use mathlib.Core.Path.{◌≡◌}
use mathlib.Core.List.{List, map}
use Prim.Native.Nat.{ℕ, ◌+◌, ◌*◌, ◌≤◌}
use lib.ListN.{length}
use lib.Seq.{sets}
use Rattle.domain_meaning.specs.Read.{got}
use Rattle.domain_meaning.specs.Domain.{Domain, read_domain}
use Rattle.domain_meaning.specs.Problem.{Problem, read_problem}
use Rattle.domain_stored_meaning.specs.Cells.{cond_cells, actions_cells, starts_of}
use Rattle.domain_stored_meaning.specs.Decode.{decoded, condition_at, actions_at}
use Rattle.domain_stored_meaning.proofs.Standing.{Stands}
use Rattle.domain_stored_meaning.proofs.Conditions.{cond_read}
use Rattle.domain_stored_meaning.proofs.Actions.{actions_back}
use Rattle.domain_read_laws.proofs.Texts.{DomainRead, domain_read, ProblemRead, problem_read}

pub record Fitting (d : Domain) (p : Problem) : Type 0 where
  pub domain : DomainRead d
  pub problem : ProblemRead d p

pub read_fits : (s t : List ℕ) (d : Domain) (p : Problem) (m n : ℕ) → read_domain s ≡ got d m → read_problem t d ≡ got p n → Fitting d p
read_fits s t d p m n e f = let r = domain_read s d m e in record { domain = r; problem = problem_read t d p n r f }

pub domain_back : (s : List ℕ) (d : Domain) (n : ℕ) (code starts : List ℕ) → read_domain s ≡ got d n → length (actions_cells d.actions) ≤ length code
    → 3 * length d.actions ≤ length starts
    → actions_at (sets code 0 (actions_cells d.actions)) (sets starts 0 (starts_of 0 d.actions)) 0 (map (λ a. a.declared) d.actions) ≡ d.actions
domain_back s d n code starts e h k = actions_back d.actions code starts (domain_read s d n e).actions h k

pub goal_back : (s t : List ℕ) (d : Domain) (p : Problem) (m n : ℕ) (code : List ℕ) (at : ℕ) → read_domain s ≡ got d m → read_problem t d ≡ got p n
    → Stands code at (cond_cells p.goal)
    → condition_at code at ≡ decoded p.goal (at + length (cond_cells p.goal))
goal_back s t d p m n code at e f c = cond_read p.goal code at 16 (read_fits s t d p m n e f).problem.goal c
