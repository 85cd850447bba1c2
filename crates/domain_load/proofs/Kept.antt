-- The cells of a domain's actions and of a problem's goal are read back, before they are prepared. Assumes nothing.
use mathlib.Core.Path.{◌≡◌, sym, ap, ◌∙◌}
use mathlib.Core.List.{List}
use Prim.Native.Nat.{ℕ, ◌+◌, ◌≤◌}
use native.Mathlib.Omega.{arith}
use lib.ListN.{length, length-map, length-replicate}
use lib.Seq.{sets, length-sets}
use Rattle.domain_meaning.specs.Read.{got}
use Rattle.domain_meaning.specs.Domain.{Domain}
use Rattle.domain_meaning.specs.Problem.{Problem, read_problem}
use Rattle.domain_stored_meaning.specs.Cells.{cond_cells, actions_cells}
use Rattle.domain_stored_meaning.specs.Decode.{condition_at, actions_at}
use Rattle.domain_stored_meaning.proofs.Standing.{stored}
use Rattle.domain_actions.specs.Acted.{declarations}
use Rattle.domain_read_laws.proofs.Texts.{domain_read}
use Rattle.domain_read_laws.proofs.Whole.{read_fits, domain_back, goal_back}
use Rattle.domain_load.specs.Load.{zeros, Models}
use Rattle.domain_load.specs.declared.Model.{Model}

module _ (d : Domain) (name code starts : List ℕ) (m : Model) (k : Models d name code starts m) where
  few_actions : length d.actions ≤ 32
  few_actions = omega (arith, (domain_read k.text d k.end k.is).heads.few, length-map d.actions (λ a. a.declared))

  pub few_acting : m.acting ≤ 32
  few_acting = omega (arith, k.acts, few_actions)

  pub declared_acting : length (declarations d.actions) ≡ m.acting
  declared_acting = length-map d.actions (λ a. a.declared) ∙ sym k.acts

  pub code_long : length code ≤ 32768
  code_long = omega (arith, ap length k.cells ∙ length-sets (zeros 32768) 0 (actions_cells d.actions), length-replicate {A = ℕ} 32768 0)

  pub actions_kept : actions_at code starts 0 (declarations d.actions) ≡ d.actions
  actions_kept =
      rw (k.cells, k.places)
      (domain_back k.text d k.end (zeros 32768) (zeros 96) k.is
      (omega (arith, (domain_read k.text d k.end k.is).cells, length-replicate {A = ℕ} 32768 0))
      (omega (arith, few_actions, length-replicate {A = ℕ} 96 0)))

  module _ (t : List ℕ) (p : Problem) (a : ℕ) (f : read_problem t d ≡ got p a) (cells : List ℕ) (e : cells ≡ sets (zeros 32768) 0 (cond_cells p.goal)) where
    pub cells_long : length cells ≤ 32768
    cells_long = omega (arith, ap length e ∙ length-sets (zeros 32768) 0 (cond_cells p.goal), length-replicate {A = ℕ} 32768 0)

    pub goal_kept : (condition_at cells 0).tree ≡ p.goal
    goal_kept =
        let room : 0 + length (cond_cells p.goal) ≤ length (zeros 32768) =
        omega (arith, (read_fits k.text t d p k.end a k.is f).problem.cells, length-replicate {A = ℕ} 32768 0) in
        ap (λ (l : List ℕ). (condition_at l 0).tree) e
        ∙ ap (λ x. x.tree)
        (goal_back k.text t d p k.end a (sets (zeros 32768) 0 (cond_cells p.goal)) 0 k.is f
        (stored (zeros 32768) 0 (cond_cells p.goal) room))
