-- The predicates and the functions of a scope's tables, each as the signatures that a reference is read by. Assumes nothing.
use mathlib.Core.List.{List}
use native.Mathlib.Omega.{arith}
use Rattle.domain_meaning.specs.Terms.{Scope}
use Rattle.domain_terms.specs.Scoped.{Scoped, Signatures}
use Rattle.domain_terms.specs.declared.scope.Counts.{Counts}
use Prim.Native.Nat.{ℕ}
use Rattle.domain_rows.specs.Layout.{predicates_at, functions_at, variables_at}

module _ (tables : List ℕ) (n : Counts) (c : Scope) (h : Scoped tables n c) where
  pub predicates_signed : Signatures tables predicates_at n.predicates
  predicates_signed = record {
    rows = 32;
    to = functions_at;
    table = c.predicates;
    holds = h.predicates;
    signed = h.facts;
    few = omega (arith, h.predicates.fits);
    near = omega arith;
  }

  pub functions_signed : Signatures tables functions_at n.functions
  functions_signed = record {
    rows = 16;
    to = variables_at;
    table = c.functions;
    holds = h.functions;
    signed = h.numbers;
    few = omega (arith, h.functions.fits);
    near = omega arith;
  }
