-- What is known of a problem whose text was read whole.
use Rattle.std.specs.Prelude.{◌≡◌, List, true, ℕ, ◌≤◌, ℤ, length}
use Rattle.std.proofs.lemmas.List.Edits.{sets}
use Rattle.domain_meaning.specs.Read.{Read, got, refused}
use Rattle.domain_meaning.specs.Domain.{Domain}
use Rattle.domain_meaning.specs.Problem.{Problem, scope_of, sums_fit}
use Rattle.domain_due.specs.Answers.{Parsed}
use Rattle.domain_due.specs.Answers.{Done, Refused}
use Rattle.domain_terms.specs.Scoped.{Scoped}
use Rattle.domain_terms.specs.declared.scope.Counts.{Counts}
use Rattle.domain_stored_meaning.specs.Cells.{cond_cells}
use Rattle.domain_problem_text.specs.Grounded.{with_objects}
use Rattle.domain_meaning.specs.First.{first_facts, first_numbers}
use Rattle.domain_rows.specs.Layout.{tables_length}

-- the problem p was read, to the place n
pub record Poses (s : List ℕ) (d : Domain) (counts : Counts) (r : Parsed) (tables' : List ℕ) (facts' : List ℕ)
    (numbers' : List ℤ) (was goal' : List ℕ) (p : Problem) (n : ℕ) : Type 0 where
  pub answer : r ≡ Done n (length p.objects)
  pub scope : Scoped tables' (with_objects counts (length p.objects)) (scope_of d p.objects)
  pub long : length tables' ≡ tables_length
  pub facts : facts' ≡ first_facts p.init
  pub numbers : numbers' ≡ first_numbers p.init
  pub goal : goal' ≡ sets was 0 (cond_cells p.goal)
  pub few : length (cond_cells p.goal) ≤ length s
  pub short : length s ≤ 32768
  pub fits : sums_fit (scope_of d p.objects) ≡ true

-- what is answered of the text s, and what the tables, the first facts and numbers and the goal are then
unfoldable pub Posed : List ℕ → Domain → Counts → Parsed → List ℕ → List ℕ → List ℤ → List ℕ → List ℕ → Read Problem → Type 0
Posed s d counts r tables' facts' numbers' was goal' (got p n) = Poses s d counts r tables' facts' numbers' was goal' p n
Posed s d counts r tables' facts' numbers' was goal' (refused k p) = r ≡ Refused k p
