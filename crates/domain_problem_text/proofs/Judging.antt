-- The sums, and the ways through the section that is due. Assumes nothing.
use mathlib.Core.Path.{◌≡◌}
use mathlib.Core.List.{List}
use mathlib.Core.Bool.{false}
use Prim.Native.Nat.{ℕ, ◌≤◌, ◌<◌}
use lib.Dec.{leb}
use borrow.Author.Tests.{le-leb, lt-leb}
use Rattle.domain_meaning.specs.Read.{got, refused}
use Rattle.domain_meaning.specs.Due.{opening, word_due}
use Rattle.domain_meaning.specs.Terms.{Scope}
use Rattle.domain_meaning.specs.Problem.{sums_fit, section_due_of}
use Rattle.domain_meaning.specs.Indexes.{sum_of}
use Rattle.domain_terms.specs.Scoped.{Scoped}
use Rattle.domain_terms.specs.declared.scope.Counts.{Counts}

-- ---- the sums

module _ (tables : List ℕ) (n : Counts) (c : Scope) (h : Scoped tables n c) where
  module _ (a : ℕ) (e : a ≡ sum_of n.objects c.predicates) where
    pub predicates_passed : 16384 < a → false ≡ sums_fit c
    predicates_passed k = rw (← h.objects.count, ← e, lt-leb a 16384 k)

    pub functions_judged : a ≤ 16384 → (b : ℕ) → b ≡ sum_of n.objects c.functions → leb b 1024 ≡ sums_fit c
    functions_judged k b f = rw (← h.objects.count, ← e, le-leb a 16384 k, f)

-- ---- the section that is due: its bracket, then its word

module _ (s : List ℕ) (w : List ℕ) (at : ℕ) where
  pub due_unopened : (k p : ℕ) → opening s 15 at ≡ refused k p → section_due_of s w at ≡ refused k p
  unfolding section_due_of
  due_unopened k p e = rw e

  pub due_inside : (v a : ℕ) → opening s 15 at ≡ got v a → section_due_of s w at ≡ word_due s 14 w a
  unfolding section_due_of
  due_inside v a e = rw e
