-- The loop over waiting points does not depend on its fuel; one turn of it. Assumes nothing.
use Prim.Native.Nat.{ℕ, zero, suc, ◌≤◌, ◌<◌}
use mathlib.Core.Bool.{Bool, true, false}
use mathlib.Core.List.{List, [], ◌∷◌}
use mathlib.Core.Path.{◌≡◌, refl, sym, ◌∙◌}
use native.Mathlib.Omega.{arith}
use borrow.Author.Tests.{ltb-true, ltb-false, eqb-false}
use lib.Dec.{ltb, eqb}
use lib.ListN.{length}
use Rattle.plan_meaning.specs.Plan.{Point, Run, Rules, time, at, from, instant}
use Rattle.plan_meaning.specs.Machine.{soonest, under_way, drain}
use Rattle.plan_meaning.proofs.Drain.{soonest_falls, drain_go, drain_done, none_waits}

-- at the soonest time a point waits
pub some_at : {A : Type 0} (m b : ℕ) (q : List (Point A)) → m ≡ soonest b q → m < b → 0 < length (at m q)
some_at m b [] e l = absurd (let y : ⊥ = omega arith in y)
some_at m b (p ∷ ps) e l = go (eqb (time p) m) refl (λ h. some_at m b ps h l)
  where
    go : (c : Bool) → eqb (time p) m ≡ c → (m ≡ soonest b ps → 0 < length (at m ps)) → 0 < length (at m (p ∷ ps))
    go true h ih = rw h (omega arith)
    go false h ih =
        let n = eqb-false (time p) m h in
        rw h (ih (omega arith))

module _ {S A W : Type 0} (R : Rules S A W) (b : ℕ) where
  -- the run after the soonest time of q
  abbrev Next : Run S W → List (Point A) → Run S W
  Next r q = instant R (soonest b q) (at (soonest b q) q) (under_way (soonest b q) q) r

  abbrev Rest : List (Point A) → List (Point A)
  Rest q = from (suc (soonest b q)) q

  fuel : (n k : ℕ) (r : Run S W) (q : List (Point A)) → length q ≤ n → length q ≤ k → drain R n b r q ≡ drain R k b r q
  fuel zero k r q h l = drain_done R b zero r q (none_waits R b q h) ∙ sym (drain_done R b k r q (none_waits R b q h))
  fuel (suc n) zero r q h l = drain_done R b (suc n) r q (none_waits R b q l) ∙ sym (drain_done R b zero r q (none_waits R b q l))
  fuel (suc n) (suc k) r q h l = go (ltb (soonest b q) b) refl (fuel n k (Next r q) (Rest q))
    where
      go : (c : Bool) → ltb (soonest b q) b ≡ c
          → (length (Rest q) ≤ n → length (Rest q) ≤ k → drain R n b (Next r q) (Rest q) ≡ drain R k b (Next r q) (Rest q))
          → drain R (suc n) b r q ≡ drain R (suc k) b r q
      go false e ih = drain_done R b (suc n) r q (ltb-false (soonest b q) b e) ∙ sym (drain_done R b (suc k) r q (ltb-false (soonest b q) b e))
      go true e ih =
          let f : length (Rest q) < length q = soonest_falls (soonest b q) b q (omega arith) (ltb-true (soonest b q) b e) in
          drain_go R b n r q (ltb-true (soonest b q) b e) ∙ ih (omega arith) (omega arith) ∙ sym (drain_go R b k r q (ltb-true (soonest b q) b e))

  turn : (r : Run S W) (q : List (Point A)) → soonest b q < b → drain R (length (Rest q)) b (Next r q) (Rest q) ≡ drain R (length q) b r q
  turn r q h =
      let f : length (Rest q) < length q = soonest_falls (soonest b q) b q (omega arith) h in
      fuel (length (Rest q)) (length q) (Next r q) (Rest q) (omega arith) (omega arith)
      ∙ sym (drain_go R b (length q) r q h)
      ∙ fuel (suc (length q)) (length q) r q (omega arith) (omega arith)

-- the same for the loop's variables, as the callees' contracts give them
module _ {A : Type 0} (b : ℕ) {t : ℕ} (q : List (Point A)) {q' : List (Point A)} (et : t ≡ soonest b q) (h : t < b) (eq : q' ≡ from (suc t) q) where
  pub shrinks : length q' < length q
  shrinks = rw eq (soonest_falls t b q (omega arith) h)

  pub round : {S W : Type 0} (R : Rules S A W) (r : Run S W) {r' : Run S W} {e : Run S W × List (Point A)} → r' ≡ instant R t (at t q) (under_way t q) r
      → drain R (length q) b r q ≡ e → drain R (length q') b r' q' ≡ e
  round R r er i = rw (eq, er, et) (turn R b r q (omega arith)) ∙ i
