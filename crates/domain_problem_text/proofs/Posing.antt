-- A problem by what stands before init and by the rest; and that the tables of a scope are those of some domain. Assumes nothing.
use mathlib.Core.Path.{◌≡◌, refl, sym, ◌∙◌}
use mathlib.Core.List.{List, [], ◌∷◌}
use mathlib.Core.Bool.{false}
use Prim.Native.Nat.{ℕ}
use native.Mathlib.Omega.{arith}
use lib.IntN.{ℤ}
use lib.ListN.{length}
use Rattle.domain_meaning.specs.Read.{Read, got, refused}
use Rattle.domain_meaning.specs.Tables.{Table}
use Rattle.domain_meaning.specs.Terms.{Scope}
use Rattle.domain_meaning.specs.Domain.{Domain}
use Rattle.domain_meaning.specs.Problem.{Problem, scope_of, premises, problem_text, read_problem}
use Rattle.domain_due.specs.Answers.{Parsed}
use Rattle.domain_due.specs.Answers.{Done, Refused}
use Rattle.domain_due.proofs.Dues.{done_parts, refused_parts, never_done}
use Rattle.domain_terms.specs.Scoped.{Scoped, Scopes}
use Rattle.domain_terms.specs.declared.scope.Counts.{Counts}
use Rattle.domain_problem_text.specs.Grounded.{Grounded, with_objects}
use Rattle.domain_problem_text.specs.Parts.{rest_of, Settled}
use Rattle.domain_problem_text.specs.Posed.{Posed}
use Rattle.domain_rows.specs.Layout.{tables_length}

-- ---- a domain whose tables they are

abbrev pub domain_of : List ℕ → Scope → Domain
domain_of w c = record { name = w; types = c.types; constants = c.objects; predicates = c.predicates; functions = c.functions; actions = [] }

none_of : (t : Table) → 0 ≡ length t → t ≡ []
none_of [] e = refl
none_of (x ∷ t) e = absurd (let z : ⊥ = omega arith in z)

pub domain_scoped : (w tables : List ℕ) (n : Counts) (c : Scope) → Scoped tables n c → n.variables ≡ 0 → n.in_action ≡ false
    → Scoped tables n (scope_of (domain_of w c) c.objects)
domain_scoped w tables n c h v a = record {
  types = h.types;
  objects = h.objects;
  predicates = h.predicates;
  functions = h.functions;
  variables = rw (none_of c.variables (sym v ∙ h.variables.count)) at h.variables;
  action = a;
  facts = h.facts;
  numbers = h.numbers;
}

-- ---- what was read before init, by the answer

pub record Premises (counts : Counts) (tables : List ℕ) (d : Domain) (a v : ℕ) (x : Read Table) : Type 0 where
  pub objects : Table
  pub is : x ≡ got objects a
  pub count : v ≡ length objects
  pub scope : Scoped tables (with_objects counts v) (scope_of d objects)
  pub long : length tables ≡ tables_length

module _ (counts : Counts) (r : Parsed) (tables : List ℕ) (d : Domain) where
  pub grounded_got : (x : Read Table) (a v : ℕ) → Grounded counts r tables d x → r ≡ Done a v → Premises counts tables d a v x
  unfolding Grounded
  grounded_got (got os n) a v h e =
      let q : Done n (length os) ≡ Done a v = sym h.0 ∙ e in
      let z : n ≡ a = (done_parts n a _ v q).0 in
      let l : length os ≡ v = (done_parts n a _ v q).1 in
      record { objects = os; is = rw z; count = sym l; scope = rw l at h.1; long = h.2 }
  grounded_got (refused k p) a v h e = never_done k p a v (sym h ∙ e)

  pub grounded_not : (x : Read Table) (k p : ℕ) → Grounded counts r tables d x → r ≡ Refused k p → x ≡ refused k p
  unfolding Grounded
  grounded_not (got os n) k p h e = never_done k p n _ (sym e ∙ h.0)
  grounded_not (refused j q) k p h e = let i = refused_parts j k q p (sym h ∙ e) in rw (i.0, i.1)

-- what a call may ask of the tables then
pub premises_scope : (counts : Counts) (tables : List ℕ) (d : Domain) (a v : ℕ) (x : Read Table) → Premises counts tables d a v x
    → Scopes tables (with_objects counts v)
premises_scope counts tables d a v x h = (scope_of d h.objects, h.scope)

-- ---- the whole

module _ (s : List ℕ) (d : Domain) (counts : Counts) (r : Parsed) (tables facts : List ℕ) (numbers : List ℤ) (was goal' : List ℕ) where
  pub posed_refused : (k p : ℕ) → premises s d 0 ≡ refused k p → r ≡ Refused k p → Posed s d counts r tables facts numbers was goal' (read_problem s d)
  unfolding read_problem problem_text Posed
  posed_refused k p e q = rw e q

  posed_by : (os : Table) (x : Read Problem) → Scoped tables (with_objects counts (length os)) (scope_of d os) → length tables ≡ tables_length
      → Settled s (scope_of d os) r facts numbers was goal' x → Posed s d counts r tables facts numbers was goal' x
  unfolding Settled Posed
  posed_by os (got p n) h l q =
      record {
        answer = rw q.objects q.answer;
        scope = rw q.objects h;
        long = l;
        facts = q.facts;
        numbers = q.numbers;
        goal = q.goal;
        few = q.few;
        short = q.short;
        fits = rw q.objects q.fits;
      }
  posed_by os (refused k p) h l q = q

  pub posed : (a v : ℕ) (x : Premises counts tables d a v (premises s d 0))
      → Settled s (scope_of d x.objects) r facts numbers was goal' (rest_of s (scope_of d x.objects) a)
      → Posed s d counts r tables facts numbers was goal' (read_problem s d)
  unfolding read_problem problem_text rest_of
  posed a v x h = rw x.is (posed_by x.objects _ (rw x.count at x.scope) x.long h)
