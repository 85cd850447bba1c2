-- The times of a plan's happenings, and traces through them. Assumes nothing.
use mathlib.Core.Bool.{Bool, true, false}
use mathlib.Core.List.{List, [], ◌∷◌, ◌++◌, map}
use mathlib.Core.Logic.{inl, inr}
use mathlib.Core.Path.{◌≡◌, refl, sym, ap, subst}
use Prim.Native.Nat.{ℕ, suc, ◌≤◌, ◌<◌}
use native.Mathlib.Nat.{eq-or-lt_of_le}
use native.Mathlib.Omega.{arith}
use lib.Dec.{eqb}
use lib.ListN.{length}
use borrow.Author.Tests.{eqb-true, eqb-false, ne_eqb}
use Rattle.domain_meaning.specs.Actions.{Action}
use Rattle.happening_meaning.specs.State.{State, Grounds}
use Rattle.plan_meaning.specs.Plan.{Step, Point, time, points, at, latest}
use Rattle.plan_meaning.specs.Promised.{Act}
use Rattle.plan_meaning.proofs.Lists.{all_map, all_append}
use Rattle.check_validity_meaning.specs.Lists.{All, ◌∈◌, Ascending}
use Rattle.check_validity_meaning.specs.Valid.{last_of, times_of, HappeningSequence, HappeningsBelow, Happens, Trace}
use Rattle.check_validity_meaning.proofs.Lists.{all_in, in_all, in_left, in_right}

-- ---- the points of a time

module _ {A : Type 0} where
  filled : {B : Type 0} {q : Point A} {qs : List (Point A)} → ◌≡◌ {A = List (Point A)} (q ∷ qs) [] → B
  filled e = absurd (let z = ap length e in let y : ⊥ = omega (arith, z) in y)

  pub none_at : (t : ℕ) (ps : List (Point A)) → All (λ v. ¬ (v ≡ t)) (map time ps) → at t ps ≡ []
  none_at t [] a = refl
  none_at t (p ∷ ps) a = rw (ne_eqb (time p) t a.0) (none_at t ps a.1)

  pub at_none : (t : ℕ) (ps : List (Point A)) → at t ps ≡ [] → All (λ v. ¬ (v ≡ t)) (map time ps)
  at_none t [] e = tt
  at_none t (p ∷ ps) e = go (eqb (time p) t) refl (at_none t ps)
    where
      go : (b : Bool) → eqb (time p) t ≡ b → (at t ps ≡ [] → All (λ v. ¬ (v ≡ t)) (map time ps)) → All (λ v. ¬ (v ≡ t)) (map time (p ∷ ps))
      go true q ih = filled (rw q at e)
      go false q ih = (eqb-false (time p) t q, ih (rw q at e))

  pub some_at : (t : ℕ) (ps : List (Point A)) (q : Point A) (qs : List (Point A)) → at t ps ≡ q ∷ qs → t ∈ map time ps
  some_at t [] q qs e = filled (sym e)
  some_at t (p ∷ ps) q qs e = go (eqb (time p) t) refl (some_at t ps q qs)
    where
      go : (b : Bool) → eqb (time p) t ≡ b → (at t ps ≡ q ∷ qs → t ∈ map time ps) → t ∈ map time (p ∷ ps)
      go true k ih = inl (sym (eqb-true (time p) t k))
      go false k ih = inr (ih (rw k at e))

  pub below_latest : (ps : List (Point A)) → All (λ v. v < suc (latest ps)) (map time ps)
  below_latest [] = tt
  below_latest (p ∷ ps) = (omega arith, all_map (λ v g. omega arith) (map time ps) (below_latest ps))

-- ---- sequences

ascending_snoc : (b t : ℕ) (ts : List ℕ) → Ascending b ts → b ≤ t → All (λ v. v < t) ts → Ascending b (ts ++ t ∷ [])
ascending_snoc b t [] a h l = (h, tt)
ascending_snoc b t (v ∷ ts) a h l = (a.0, ascending_snoc (suc v) t ts a.1 l.0 l.1)

pub last_snoc : (u t : ℕ) (ts : List ℕ) → last_of u (ts ++ t ∷ []) ≡ t
last_snoc u t [] = refl
last_snoc u t (v ∷ ts) = last_snoc v t ts

pub trace_snoc : (g : Grounds) (as' : List Action) (plan : List (Step Act)) (s n e : State) (ts : List ℕ) (t : ℕ)
    → Trace g as' plan s ts n → Happens g as' plan t n e → Trace g as' plan s (ts ++ t ∷ []) e
trace_snoc g as' plan s n e [] t q h = (e, subst (λ (u : State). Happens g as' plan t u e) (sym q) h, refl)
trace_snoc g as' plan s n e (v ∷ ts) t (m, h, r) k = (m, h, trace_snoc g as' plan m n e ts t r k)

module _ (plan : List (Step Act)) where
  pub none_below : HappeningsBelow plan 0 []
  none_below = record { ordered = tt; every = in_all (times_of plan) (λ v i l. absurd (let y : ⊥ = omega arith in y)); only = tt }

  -- an instant without points
  pub below_quiet : (t : ℕ) (ts : List ℕ) → at t (points plan) ≡ [] → HappeningsBelow plan t ts → HappeningsBelow plan (suc t) ts
  below_quiet t ts e b =
      let n = all_in (λ v. ¬ (v ≡ t)) (times_of plan) (at_none t (points plan) e) in
      let k = all_in (λ v. v < t → v ∈ ts) (times_of plan) b.every in
      record {
        ordered = b.ordered;
        every = in_all (times_of plan) (λ v i l. k v i (let m = n v i in omega (arith, m, l)));
        only = all_map (λ v x. (let l = x.0 in omega (arith, l), x.1)) ts b.only;
      }

  -- an instant with points
  pub below_more : (t : ℕ) (ts : List ℕ) → t ∈ times_of plan → HappeningsBelow plan t ts → HappeningsBelow plan (suc t) (ts ++ t ∷ [])
  below_more t ts i b =
      let k = all_in (λ v. v < t → v ∈ ts) (times_of plan) b.every in
      record {
        ordered = ascending_snoc 0 t ts b.ordered (omega arith) (all_map (λ v x. x.0) ts b.only);
        every = in_all (times_of plan) (λ v j l.
            elim (eq-or-lt_of_le l) [
              | inl e ↦ in_right v ts (t ∷ []) (inl (omega (arith, e)))
              | inr m ↦ in_left v ts (t ∷ []) (k v j (omega (arith, m)))
            ]);
        only = all_append _ ts (t ∷ []) (all_map (λ v x. (let l = x.0 in omega (arith, l), x.1)) ts b.only) ((omega arith, i), tt);
      }

  pub below_all : (ts : List ℕ) → HappeningsBelow plan (suc (latest (points plan))) ts → HappeningSequence plan ts
  below_all ts b =
      let k = all_in (λ v. v < suc (latest (points plan)) → v ∈ ts) (times_of plan) b.every in
      let l = all_in (λ v. v < suc (latest (points plan))) (times_of plan) (below_latest (points plan)) in
      record { ordered = b.ordered; every = in_all (times_of plan) (λ v i. k v i (l v i)); only = all_map (λ v x. x.1) ts b.only }

  pub all_below_lem : (ts : List ℕ) → HappeningSequence plan ts → HappeningsBelow plan (suc (latest (points plan))) ts
  all_below_lem ts b =
      let l = all_in (λ v. v < suc (latest (points plan))) (times_of plan) (below_latest (points plan)) in
      record { ordered = b.ordered; every = all_map (λ v i _. i) (times_of plan) b.every; only = all_map (λ v i. (l v i, i)) ts b.only }
