-- Init and goal as readers of their own, and what is answered of each.
use Rattle.std.specs.Prelude.{◌≡◌, List, Bool, true, false, cond, ℕ, ◌≤◌, ℤ, length}
use Rattle.std.proofs.lemmas.List.Edits.{sets}
use Rattle.domain_meaning.specs.Read.{◌>>=◌, Read, Reader, got, refused, give}
use Rattle.domain_meaning.specs.Terms.{Scope}
use Rattle.domain_meaning.specs.Conditions.{Cond}
use Rattle.domain_meaning.specs.Domain.{on_opened, begins, ending}
use Rattle.domain_meaning.specs.Problem.{Init, nothing, init_at, sums_fit, sums_at, section_due, goal_to, Problem, init_and_goal}
use Rattle.domain_due.specs.Answers.{Parsed}
use Rattle.domain_due.specs.Answers.{Done, Refused}
use Rattle.domain_stored_meaning.specs.Cells.{cond_cells}
use Rattle.domain_meaning.specs.First.{first_facts, first_numbers}

-- whether there is init, at whose word the sums are judged, and what it says
pub record Start : Type 0 where
  pub judged : Bool
  pub init : Init

abbrev pub starting : Bool → Init → Start
starting judged x = record { judged = judged; init = x }

unfoldable pub start_at : List ℕ → Scope → Reader Start
start_at s c = do
  o ← begins s ":init"
  x ← on_opened o (λ p. init_at s c p) (give nothing)
  give (starting (on_opened o (λ p. true) false) x)

-- the goal; its word is where the sums are judged, if they were not
unfoldable pub goal_from : List ℕ → Scope → Bool → Reader Cond
goal_from s c judged = do
  q ← section_due s ":goal"
  _ ← cond judged (give q) (sums_at c q)
  goal_to s c

-- init was read, or there is none: the place after it, 1 if there is one, and the first facts and numbers
unfoldable pub Started : Scope → Parsed → List ℕ → List ℤ → Read Start → Type 0
Started c r facts numbers (got x n) =
    (r ≡ Done n (cond x.judged 1 0)) × (facts ≡ first_facts x.init) × (numbers ≡ first_numbers x.init) × (x.judged ≡ true → sums_fit c ≡ true)
Started c r facts numbers (refused k p) = r ≡ Refused k p

-- the goal's condition was read: the place after its section, and its cells, no more than n
unfoldable pub Reached : ℕ → Parsed → List ℕ → List ℕ → Read Cond → Type 0
Reached n r goal goal' (got g a) = (r ≡ Done a 0) × (goal' ≡ sets goal 0 (cond_cells g)) × (length (cond_cells g) ≤ n)
Reached n r goal goal' (refused k p) = r ≡ Refused k p

-- the goal was read, and where the sums were not judged before, they fit
unfoldable pub Aimed : ℕ → Scope → Bool → Parsed → List ℕ → List ℕ → Read Cond → Type 0
Aimed n c judged r goal goal' (got g a) =
    (r ≡ Done a 0) × (goal' ≡ sets goal 0 (cond_cells g)) × (length (cond_cells g) ≤ n) × (judged ≡ false → sums_fit c ≡ true)
Aimed n c judged r goal goal' (refused k p) = r ≡ Refused k p

-- init, goal and the end of the text
unfoldable pub rest_of : List ℕ → Scope → Reader Problem
rest_of s c = do
  p ← init_and_goal s c
  _ ← ending s
  give p

-- they were read, to the place n
pub record Settles (s : List ℕ) (c : Scope) (r : Parsed) (facts' : List ℕ) (numbers' : List ℤ) (was goal' : List ℕ) (p : Problem) (n : ℕ) : Type 0 where
  pub answer : r ≡ Done n (length c.objects)
  pub objects : p.objects ≡ c.objects
  pub facts : facts' ≡ first_facts p.init
  pub numbers : numbers' ≡ first_numbers p.init
  pub goal : goal' ≡ sets was 0 (cond_cells p.goal)
  pub few : length (cond_cells p.goal) ≤ length s
  pub short : length s ≤ 32768
  pub fits : sums_fit c ≡ true

unfoldable pub Settled : List ℕ → Scope → Parsed → List ℕ → List ℤ → List ℕ → List ℕ → Read Problem → Type 0
Settled s c r facts' numbers' was goal' (got p n) = Settles s c r facts' numbers' was goal' p n
Settled s c r facts' numbers' was goal' (refused k p) = r ≡ Refused k p
