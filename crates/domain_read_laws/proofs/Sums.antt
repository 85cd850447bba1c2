-- Sums that were judged to fit: 16,384 facts and 1,024 numbers at most. Assumes nothing.
use mathlib.Core.Path.{◌≡◌}
use mathlib.Core.Bool.{true}
use Prim.Native.Nat.{◌≤◌}
use lib.ListN.{length}
use lib.Dec.{leb}
use borrow.Author.Tests.{leb-true}
use Rattle.base_laws.proofs.Splits.{and_left, and_right}
use Rattle.domain_meaning.specs.Terms.{Scope}
use Rattle.domain_meaning.specs.Problem.{sums_fit}
use Rattle.domain_meaning.specs.Indexes.{sum_of}

pub sums_fit_lem : (c : Scope) → sums_fit c ≡ true
    → (sum_of (length c.objects) c.predicates ≤ 16384) × (sum_of (length c.objects) c.functions ≤ 1024)
sums_fit_lem c h =
    let facts = sum_of (length c.objects) c.predicates in
    let numbers = sum_of (length c.objects) c.functions in
    let few = leb facts 16384 in
    let fewer = leb numbers 1024 in
    (leb-true facts 16384 (and_left few fewer h), leb-true numbers 1024 (and_right few fewer h))
