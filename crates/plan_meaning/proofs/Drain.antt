-- The machine's loop runs the instants from the last start to a new one. Assumes nothing.
use Prim.Native.Nat.{ℕ, zero, suc, ◌+◌, ◌≤◌, ◌<◌}
use mathlib.Core.Bool.{Bool, true, false, cond, ◌&&◌}
use mathlib.Core.List.{List, [], ◌∷◌, ◌++◌}
use mathlib.Core.Logic.{◌⊎◌, inl, inr}
use mathlib.Core.Path.{◌≡◌, refl, sym, ap, ◌∙◌}
use native.Mathlib.Nat.{eq-or-lt_of_le}
use native.Mathlib.Omega.{arith}
use borrow.Author.Tests.{ltb-true, ltb-false, leb-true, leb-false, lt-ltb, le-ltb, le-leb, lt-leb, eqb-true, ne_eqb}
use lib.Dec.{leb, ltb}
use lib.ListN.{length}
use Rattle.plan_meaning.specs.Lists.{keep}
use Rattle.plan_meaning.specs.Plan.{Span, moment, lasting, Step, Point, begins, ends, Run, Rules, time, ending, points, at, from, ends_after, under}
use Rattle.plan_meaning.specs.Plan.{instant, up_to}
use Rattle.plan_meaning.specs.Machine.{soonest, under_way, drain}
use Rattle.plan_meaning.proofs.Lists.{All, all_map, all_keep, keep_all, keep_none, keep_keep, keep_shorter}

module _ {A : Type 0} where
  abbrev pub From : ℕ → List (Point A) → Type 0
  From a = All (λ p. a ≤ time p)

  abbrev pub Below : ℕ → List (Point A) → Type 0
  Below b = All (λ p. time p < b)

  pub at_before : (a t : ℕ) (q : List (Point A)) → t < a → From a q → at t q ≡ []
  at_before a t q h f = keep_none _ q (all_map (λ p g. ne_eqb (time p) t (λ e. omega arith)) q f)

  pub at_beyond : (b t : ℕ) (q : List (Point A)) → b ≤ t → Below b q → at t q ≡ []
  at_beyond b t q h f = keep_none _ q (all_map (λ p g. ne_eqb (time p) t (λ e. omega arith)) q f)

  pub at_from : (a t : ℕ) (q : List (Point A)) → a ≤ t → at t (from a q) ≡ at t q
  at_from a t q h = keep_keep _ _ (λ p e. le-leb a (time p) (omega (arith, eqb-true (time p) t e))) q

  pub from_from : (a b : ℕ) (q : List (Point A)) → a ≤ b → from b (from a q) ≡ from b q
  from_from a b q h = keep_keep _ _ (λ p e. le-leb a (time p) (omega (arith, leb-true b (time p) e))) q

  pub from_all : (a : ℕ) (q : List (Point A)) → From a q → from a q ≡ q
  from_all a q f = keep_all _ q (all_map (λ p g. le-leb a (time p) g) q f)

  pub from_none : (a : ℕ) (q : List (Point A)) → Below a q → from a q ≡ []
  from_none a q f = keep_none _ q (all_map (λ p g. lt-leb a (time p) g) q f)

  pub from_is : (a : ℕ) (q : List (Point A)) → From a (from a q)
  from_is a q = all_keep _ (λ p e. leb-true a (time p) e) q

  pub soonest_le : (b : ℕ) (q : List (Point A)) → soonest b q ≤ b
  soonest_le b [] = omega arith
  soonest_le b (p ∷ ps) = omega (arith, soonest_le b ps)

  pub soonest_from : (b : ℕ) (q : List (Point A)) → From (soonest b q) q
  soonest_from b [] = tt
  soonest_from b (p ∷ ps) = (omega arith, all_map (λ x g. omega arith) ps (soonest_from b ps))

  pub soonest_greatest : (a b : ℕ) (q : List (Point A)) → a ≤ b → From a q → a ≤ soonest b q
  soonest_greatest a b [] h f = h
  soonest_greatest a b (p ∷ ps) h f = omega (arith, soonest_greatest a b ps h f.1, f.0)

  pub soonest_falls : (m b : ℕ) (q : List (Point A)) → soonest b q ≤ m → m < b → length (from (suc m) q) < length q
  soonest_falls m b [] h l = omega arith
  soonest_falls m b (p ∷ ps) h l = go (leb (suc m) (time p)) refl (λ k. soonest_falls m b ps k l)
    where
      go : (c : Bool) → leb (suc m) (time p) ≡ c → (soonest b ps ≤ m → length (from (suc m) ps) < length ps)
          → length (from (suc m) (p ∷ ps)) < length (p ∷ ps)
      go true e ih =
          let g : suc m ≤ time p = leb-true (suc m) (time p) e in
          rw e (omega (arith, ih (omega arith)))
      go false e ih = rw e (omega (arith, keep_shorter (λ x. leb (suc m) (time x)) ps))

  -- a step under way is one whose end waits
  way_begins : (s t : ℕ) (x : Step A) (ps : List (Point A)) → under_way t (from s (begins x ∷ ps)) ≡ under_way t (from s ps)
  way_begins s t x ps = go (leb s x.start) refl
    where
      go : (c : Bool) → leb s x.start ≡ c → under_way t (from s (begins x ∷ ps)) ≡ under_way t (from s ps)
      go true e = rw e
      go false e = rw e

  way_ends : (s t : ℕ) (x : Step A) (d : ℕ) (ps : List (Point A)) → s ≤ t
      → under_way t (from s (ends x d ∷ ps)) ≡ cond (ltb t (x.start + d)) (x ∷ under_way t (from s ps)) (under_way t (from s ps))
  way_ends s t x d ps h = go (leb s (x.start + d)) refl
    where
      go : (c : Bool) → leb s (x.start + d) ≡ c
          → under_way t (from s (ends x d ∷ ps)) ≡ cond (ltb t (x.start + d)) (x ∷ under_way t (from s ps)) (under_way t (from s ps))
      go true e = rw e
      go false e = rw (e, le-ltb t (x.start + d) (omega (arith, leb-false s (x.start + d) e)))

  pub under_way_lem : (s t : ℕ) → s ≤ t → (plan : List (Step A)) → All (λ x. x.start ≤ s) plan → keep (under t) plan ≡ under_way t (from s (points plan))
  under_way_lem s t h [] a = refl
  under_way_lem s t h (x ∷ xs) a = go x.span (under_way_lem s t h xs a.1) ∙ sym (way_begins s t x (ending x x.span ++ points xs))
    where
      go : (k : Span) → keep (under t) xs ≡ under_way t (from s (points xs))
          → cond (leb x.start t && ends_after t x.start k) (x ∷ keep (under t) xs) (keep (under t) xs)
          ≡ under_way t (from s (ending x k ++ points xs))
      go moment ih = rw (le-leb x.start t (omega (arith, a.0))) ih
      go (lasting d) ih = rw (le-leb x.start t (omega (arith, a.0)), way_ends s t x d (points xs) h, ih)

-- ---- the loop: one turn, and its end

module _ {S A W : Type 0} (R : Rules S A W) (b : ℕ) where
  pub drain_go : (n : ℕ) (r : Run S W) (q : List (Point A)) → soonest b q < b
      → drain R (suc n) b r q ≡ drain R n b (instant R (soonest b q) (at (soonest b q) q) (under_way (soonest b q) q) r) (from (suc (soonest b q)) q)
  unfolding drain
  drain_go n r q h = rw (lt-ltb (soonest b q) b h, drain)

  pub drain_done : (n : ℕ) (r : Run S W) (q : List (Point A)) → b ≤ soonest b q → drain R n b r q ≡ (r, q)
  unfolding drain
  drain_done zero r q h = refl
  drain_done (suc n) r q h = rw (le-ltb (soonest b q) b h, drain)

  pub none_waits : (q : List (Point A)) → length q ≤ 0 → b ≤ soonest b q
  none_waits [] l = omega arith
  none_waits (p ∷ ps) l = omega arith

module _ {S A W : Type 0} (R : Rules S A W) (plan : List (Step A)) where
  -- instants with no point change nothing
  pub skip : (a b : ℕ) → a ≤ b → ((t : ℕ) → a ≤ t → t < b → at t (points plan) ≡ []) → up_to R plan b ≡ up_to R plan a
  unfolding up_to
  skip a zero h f = let e : zero ≡ a = omega arith in ap (up_to R plan) e
  skip a (suc b) h f = go (eq-or-lt_of_le h) (λ k. skip a b k (λ t p q. f t p (omega arith)))
    where
      go : (a ≡ suc b) ⊎ (a < suc b) → (a ≤ b → up_to R plan b ≡ up_to R plan a) → up_to R plan (suc b) ≡ up_to R plan a
      go (inl e) ih = ap (up_to R plan) (sym e)
      go (inr l) ih = rw (f b (omega arith) (omega arith)) (ih (omega arith))

  -- no point lies from a to below b, so nothing happens there
  pub quiet : (a b : ℕ) → a ≤ b → From b (from a (points plan)) → up_to R plan b ≡ up_to R plan a
  quiet a b h f = skip a b h (λ t p q. sym (at_from a t (points plan) p) ∙ at_before b t (from a (points plan)) q f)

  -- one turn of the loop: the happening of the soonest time m, on the run up to a, is the run up to m + 1
  pub turn : (a m : ℕ) → a ≤ m → All (λ x. x.start ≤ a) plan → From m (from a (points plan))
      → instant R m (at m (from a (points plan))) (under_way m (from a (points plan))) (up_to R plan a) ≡ up_to R plan (suc m)
  unfolding up_to
  turn a m h s f = rw (at_from a m (points plan) h, ← under_way_lem a m h plan s, ← quiet a m h f)

  module _ (b : ℕ) where
    stays : (n a : ℕ) → a ≤ b → b ≤ soonest b (from a (points plan))
        → drain R n b (up_to R plan a) (from a (points plan)) ≡ (up_to R plan b, from b (points plan))
    stays n a h l =
        let f : From b (from a (points plan)) = all_map (λ p g. omega arith) (from a (points plan)) (soonest_from b (from a (points plan))) in
        rw (drain_done R b n (up_to R plan a) (from a (points plan)) l, quiet a b h f, ← from_from a b (points plan) h, from_all b (from a (points plan)) f)

    -- the loop runs the plan from a up to b, and the points from b on still wait
    pub drains : (n a : ℕ) → a ≤ b → All (λ x. x.start ≤ a) plan → length (from a (points plan)) ≤ n
        → drain R n b (up_to R plan a) (from a (points plan)) ≡ (up_to R plan b, from b (points plan))
    drains zero a h s l = stays zero a h (none_waits R b (from a (points plan)) l)
    drains (suc n) a h s l = go (ltb m b) refl (drains n)
      where
        m : ℕ
        m = soonest b (from a (points plan))

        go : (c : Bool) → ltb m b ≡ c
            → ((k : ℕ) → k ≤ b → All (λ x. x.start ≤ k) plan → length (from k (points plan)) ≤ n
            → drain R n b (up_to R plan k) (from k (points plan)) ≡ (up_to R plan b, from b (points plan)))
            → drain R (suc n) b (up_to R plan a) (from a (points plan)) ≡ (up_to R plan b, from b (points plan))
        go false e ih = stays (suc n) a h (ltb-false m b e)
        go true e ih =
            let l' : m < b = ltb-true m b e in
            let am : a ≤ m = soonest_greatest a b (from a (points plan)) h (from_is a (points plan)) in
            let ff : from (suc m) (from a (points plan)) ≡ from (suc m) (points plan) = from_from a (suc m) (points plan) (omega arith) in
            let sh : length (from (suc m) (points plan)) < length (from a (points plan)) =
            rw ff at (soonest_falls m b (from a (points plan)) (omega arith) l') in
            drain_go R b n (up_to R plan a) (from a (points plan)) l'
            ∙ rw (turn a m am s (soonest_from b (from a (points plan))), ff) (ih (suc m) l' (all_map (λ x g. omega arith) plan s) (omega arith))
