-- The objects stored in their part of the tables: the other parts stay. Assumes nothing.
use mathlib.Core.Path.{◌≡◌, sym, ap, ◌∙◌}
use mathlib.Core.List.{List, ◌++◌}
use Prim.Native.Nat.{ℕ, ◌+◌, ◌*◌}
use native.Mathlib.Omega.{arith}
use lib.ListN.{length, take, drop}
use lib.Seq.{sets, length-sets}
use Rattle.base_laws.proofs.Sets.{part_back, sets_whole}
use Rattle.text_words.specs.Bytes.{bytes}
use Rattle.domain_meaning.specs.Read.{Read, got, refused}
use Rattle.domain_meaning.specs.Tables.{Table}
use Rattle.domain_meaning.specs.Lists.{names_to}
use Rattle.domain_meaning.specs.Domain.{Domain, opened, other, begins_with, section}
use Rattle.domain_meaning.specs.Problem.{scope_of}
use Rattle.domain_due.specs.Answers.{Parsed}
use Rattle.domain_due.specs.Answers.{Done, Refused}
use Rattle.domain_rows.specs.Held.{Holds}
use Rattle.domain_rows.proofs.Parts.{part_before, part_behind_lem, part_stored}
use Rattle.domain_rows.proofs.Rows.{rows_long}
use Rattle.domain_typed_lists.specs.Outcome.{Outcome}
use Rattle.domain_terms.specs.Scoped.{Scoped}
use Rattle.domain_terms.specs.declared.scope.Counts.{Counts}
use Rattle.domain_problem_text.specs.Grounded.{with_objects, Grounded}
use Rattle.domain_rows.specs.Layout.{objects_at, predicates_at, functions_at, variables_at, tables_length}

-- a copy of all rows holds what they hold
pub copied : (m : ℕ) (rows : List ℕ) (n : ℕ) (t : Table) (v was new : List ℕ) → Holds m rows n t → v ≡ rows → length was ≡ 38 * m → new ≡ sets was 0 v
    → Holds m new n t
copied m rows n t v was new h e l q = rw (q, e, sets_whole was rows (l ∙ sym (rows_long m rows n t h))) h

-- ---- the tables with other objects

module _ (was : List ℕ) (n : Counts) (d : Domain) (h : Scoped was n (scope_of d d.constants)) (long : length was ≡ tables_length) where
  pub grounded_none : (r : Parsed) (at : ℕ) → r ≡ Done at n.objects → Grounded n r was d (got d.constants at)
  unfolding Grounded
  grounded_none r at e = (
    rw e (ap (Done at) h.objects.count),
    record {
      types = h.types;
      objects = rw h.objects.count at h.objects;
      predicates = h.predicates;
      functions = h.functions;
      variables = h.variables;
      action = h.action;
      facts = h.facts;
      numbers = h.numbers;
    },
    long,
  )

  stored : (ys : List ℕ) (os : Table) → Holds 64 ys (length os) os → Scoped (sets was objects_at ys) (with_objects n (length os)) (scope_of d os)
  stored ys os g =
      let l : length ys ≡ 2432 = rows_long 64 ys (length os) os g in
      let e : predicates_at ≡ objects_at + length ys = omega arith in
      record {
        types = rw (part_before ys was 0 objects_at objects_at (omega arith) (omega arith)) h.types;
        objects = rw (part_stored was ys objects_at predicates_at e (omega arith)) g;
        predicates = rw (part_behind_lem ys was predicates_at functions_at objects_at (omega arith)) h.predicates;
        functions = rw (part_behind_lem ys was functions_at variables_at objects_at (omega arith)) h.functions;
        variables = rw (part_behind_lem ys was variables_at tables_length objects_at (omega arith)) h.variables;
        action = h.action;
        facts = h.facts;
        numbers = h.numbers;
      }

  pub grounded : (r : Parsed) (ys : List ℕ) (x : Read Table) → Outcome 64 r ys x
      → Grounded n r (take objects_at was ++ (ys ++ drop 2432 (drop objects_at was))) d x
  unfolding Outcome Grounded
  grounded r ys (got os a) o =
      let l : length ys ≡ 2432 = rows_long 64 ys (length os) os o.1 in
      let q = part_back was ys objects_at 2432 (omega arith) (omega arith) in
      (o.0, rw q (stored ys os o.1), ap length q ∙ length-sets was objects_at ys ∙ long)
  grounded r ys (refused k p) o = o

-- ---- the section

pub grounded_by : (n : Counts) (r : Parsed) (tables : List ℕ) (d : Domain) (x y : Read Table) → x ≡ y → Grounded n r tables d y → Grounded n r tables d x
grounded_by n r tables d x y e h = rw e h

pub grounded_refused : (n : Counts) (r : Parsed) (tables : List ℕ) (d : Domain) (x : Read Table) (k p : ℕ) → x ≡ refused k p → r ≡ Refused k p
    → Grounded n r tables d x
unfolding Grounded
grounded_refused n r tables d x k p e h = rw e h

module _ (s : List ℕ) (d : Domain) (at : ℕ) where
  pub no_objects_lem : begins_with s (bytes ":objects") at ≡ got other at
      → section s ":objects" d.constants (names_to s d.types 64 d.constants) at ≡ got d.constants at
  no_objects_lem e = rw e

  pub some_objects : (p e : ℕ) → begins_with s (bytes ":objects") at ≡ got (opened p) e
      → section s ":objects" d.constants (names_to s d.types 64 d.constants) at ≡ names_to s d.types 64 d.constants e
  some_objects p e q = rw q
