-- What is said of what an effect leads to, said of the effect: one law for each way through it. Assumes nothing.
use Rattle.std.specs.Prelude.{Ok, Err}
use mathlib.Core.Path.{◌≡◌}
use mathlib.Core.List.{List}
use mathlib.Core.Bool.{true}
use Prim.Native.Nat.{ℕ, ◌+◌, ◌≤◌, ◌<◌}
use lib.ListN.{length}
use Rattle.domain_meaning.specs.Read.{Read, Reader, refused}
use Rattle.domain_meaning.specs.Terms.{Scope, Counted}
use Rattle.domain_meaning.specs.Effects.{Change, Effect, becomes_at, change_at, deletion, effects_to}
use Rattle.domain_due.specs.Answers as A
use Rattle.domain_expressions.specs.Codes.{Written, Spent}
use Rattle.domain_expressions.specs.Codes.{Progress}
use Rattle.domain_stored_meaning.specs.Cells.{change_cell, effects_cells}
use Rattle.domain_effects.specs.Leads.{Begun, Changes, Leads, Inside}
use Rattle.domain_effects.specs.declared.heads.EffectHead.{EffectHead}
use Rattle.domain_effects.specs.declared.heads.EffectHead.TheVariants as L

-- ---- places

module _ (least most levels : ℕ) (r : Begun) where
  pub all_place : (e : ℕ) → r ≡ Ok (L.All e) → Inside least most levels r → (least ≤ e) × (e ≤ most) × (0 < levels)
  unfolding Inside
  all_place e q h = rw q at h

  pub not_place : (e : ℕ) → r ≡ Ok (L.Not e) → Inside least most levels r → (least ≤ e) × (e ≤ most) × (0 < levels)
  unfolding Inside
  not_place e q h = rw q at h

  pub change_place : (tag p e : ℕ) → r ≡ Ok (L.Change tag p e) → Inside least most levels r → (least ≤ e) × (e ≤ most) × (0 < levels) × (tag ≤ 251)
  unfolding Inside
  change_place tag p e q h = rw q at h

  pub fact_place : (p e : ℕ) → r ≡ Ok (L.Fact p e) → Inside least most levels r → (least ≤ e) × (e ≤ most) × (0 < levels)
  unfolding Inside
  fact_place p e q h = rw q at h

-- ---- the ways

module _ (s : List ℕ) (d : ℕ) (c : Scope) (f : ℕ → Reader (Counted (List Effect))) (n : ℕ) (r : Begun) (x : Read (Counted (List Effect)))
    (h : Leads s d c f n r x)
    (code : List ℕ) (u : ℕ) (b : Progress) (m : List ℕ) where
  pub whole_all : (e : ℕ) → r ≡ Ok (L.All e) → Written effects_cells code u b m (effects_to (length s + 1) s d f n e) → Written effects_cells code u b m x
  unfolding Leads
  whole_all e q w = let k : x ≡ effects_to (length s + 1) s d f n e = rw q at h in rw k w

  pub whole_not : (e : ℕ) → r ≡ Ok (L.Not e) → Written effects_cells code u b m (deletion s d c n e) → Written effects_cells code u b m x
  unfolding Leads
  whole_not e q w = let k : x ≡ deletion s d c n e = rw q at h in rw k w

  pub whole_change : (tag p e : ℕ) → r ≡ Ok (L.Change tag p e) → ((how : Change) → tag ≡ change_cell how
      → Written effects_cells code u b m (change_at s d c how n p e)) → Written effects_cells code u b m x
  unfolding Leads
  whole_change tag p e q w = let k : Changes s d c n tag p e x = rw q at h in rw k.2 (w k.0 k.1)

  pub whole_fact : (p e : ℕ) → r ≡ Ok (L.Fact p e) → Written effects_cells code u b m (becomes_at s d c true n p e e) → Written effects_cells code u b m x
  unfolding Leads
  whole_fact p e q w = let k : x ≡ becomes_at s d c true n p e e = rw q at h in rw k w

  pub whole_refused : (k p : ℕ) → r ≡ Err (A.at k p) → x ≡ refused k p
  unfolding Leads
  whole_refused k p q = rw q at h
