-- The scope of an action: the tables, with its parameters where the variables stand. Assumes nothing.
use mathlib.Core.Path.{◌≡◌, refl, sym, ap, ◌∙◌}
use mathlib.Core.List.{List}
use Prim.Native.Nat.{ℕ}
use native.Mathlib.Omega.{arith}
use lib.ListN.{length}
use lib.Seq.{sets}
use Rattle.base_laws.proofs.Sets.{sets_whole}
use Rattle.text_tokens.specs.Runs.{part}
use Rattle.domain_meaning.specs.Read.{Read, refused}
use Rattle.domain_meaning.specs.Tables.{Table}
use Rattle.domain_meaning.specs.Terms.{Scope}
use Rattle.domain_meaning.specs.Actions.{within}
use Rattle.domain_rows.specs.Held.{Holds, Stands}
use Rattle.domain_rows.proofs.Rows.{rows_long}
use Rattle.domain_rows.proofs.Parts.{part_before, part_stored}
use Rattle.domain_typed_lists.proofs.Outcomes.{As}
use Rattle.domain_terms.specs.Scoped.{Scoped, Scopes}
use Rattle.domain_terms.specs.declared.scope.Counts.{Counts}
use Rattle.domain_actions.specs.Titles.{acting, Owned}
use Rattle.domain_rows.specs.Layout.{objects_at, predicates_at, functions_at, variables_at, tables_length}

-- types that are lent as a part of the tables
pub types_held : (tables types : List ℕ) (n : Counts) (c : Scope) → types ≡ part tables 0 objects_at → Scoped tables n c → Holds 17 types n.types c.types
types_held tables types n c e s = rw e s.types

pub types_stand : (tables types : List ℕ) (n : Counts) → types ≡ part tables 0 objects_at → Scopes tables n → Stands 17 types n.types
types_stand tables types n e s = (s.0.types, types_held tables types n s.0 e s.1)

-- the variables' rows stored over those of the tables
stored : (tables table : List ℕ) (n : Counts) (c : Scope) (v : ℕ) (vs : Table) → Scoped tables n c → length tables ≡ tables_length → Holds 4 table v vs
    → Scoped (sets tables variables_at table) (acting n v) (within c vs)
stored tables table n c v vs s l h =
    let long = rows_long 4 table v vs h in
    record {
      types = rw (part_before table tables 0 objects_at variables_at (omega arith) (omega arith)) s.types;
      objects = rw (part_before table tables objects_at predicates_at variables_at (omega arith) (omega arith)) s.objects;
      predicates = rw (part_before table tables predicates_at functions_at variables_at (omega arith) (omega arith)) s.predicates;
      functions = rw (part_before table tables functions_at variables_at variables_at (omega arith) (omega arith)) s.functions;
      variables = rw (part_stored tables table variables_at tables_length (omega (arith, long)) (omega (arith, l))) h;
      action = refl;
      facts = s.facts;
      numbers = s.numbers;
    }

module _ (tables table was copied own : List ℕ) (n : Counts) (c : Scope) (s : Scoped tables n c) (l : length tables ≡ tables_length)
    (k : length was ≡ tables_length) where
  pub owned : (x : Read Table) (a v : ℕ) → As 4 table a v x → copied ≡ sets was 0 tables → own ≡ sets copied variables_at table → Owned c n own x
  unfolding Owned
  owned x a v y e f =
      let g : own ≡ sets tables variables_at table = f ∙ ap (λ (q : List ℕ). sets q variables_at table) (e ∙ sets_whole was tables (k ∙ sym l)) in
      rw (y.is, g) (stored tables table n c (length y.table) y.table s l (rw y.holds.count at y.holds))

pub unowned : (c : Scope) (n : Counts) (own : List ℕ) (x : Read Table) (k p : ℕ) → x ≡ refused k p → Owned c n own x
unfolding Owned
unowned c n own x k p e = rw e tt
