-- The machine, fed the lines of a plan and finished, gives what the definition says of the whole plan. Assumes nothing.
use Prim.Native.Nat.{ℕ, zero, suc, ◌≤◌, max}
use mathlib.Core.Bool.{Bool, true, false, cond}
use mathlib.Core.List.{List, [], ◌∷◌, ◌++◌, append-nil, append_assoc}
use mathlib.Core.Option.{some}
use mathlib.Core.Path.{◌≡◌, refl, sym, ap, ◌∙◌}
use native.Mathlib.Omega.{arith}
use borrow.Author.Tests.{leb-false, lt-leb}
use lib.Dec.{leb}
use lib.ListN.{length}
use lib.Seq.{append_snoc}
use Rattle.plan_meaning.specs.Plan.{Span, moment, lasting, Step, Point, Rules, time, ending, points_of, points, from, latest, under, up_to, verdict}
use Rattle.plan_meaning.specs.Plan.{Answer, blank, step, refusal, Limits, refused, ended, steps, too_many, first_refusal, unless, result}
use Rattle.plan_meaning.specs.Machine.{Check, waits, halted, fresh, takes, finish}
use Rattle.plan_meaning.proofs.Lists.{All, all_map, all_append, keep_append}
use Rattle.plan_meaning.proofs.Drain.{From, Below, at_before, at_beyond, from_all, skip, drains}

module _ {A : Type 0} where
  points_append : (xs ys : List (Step A)) → points (xs ++ ys) ≡ points xs ++ points ys
  points_append [] ys = refl
  points_append (x ∷ xs) ys = rw (points_append xs ys) (sym (append_assoc (points_of x) (points xs) (points ys)))

  points_snoc : (xs : List (Step A)) (x : Step A) → points (xs ++ x ∷ []) ≡ points xs ++ points_of x
  points_snoc xs x = points_append xs (x ∷ []) ∙ ap (λ (l : List (Point A)). points xs ++ l) (append-nil (points_of x))

  -- no point of a step lies before its start
  from_start : (x : Step A) → From x.start (points_of x)
  from_start x = (omega arith, go x.span)
    where
      go : (k : Span) → From x.start (ending x k)
      go moment = tt
      go (lasting d) = (omega arith, tt)

  -- the points that wait once x is read
  queued : (before : List (Step A)) (x : Step A) → from x.start (points (before ++ x ∷ [])) ≡ from x.start (points before) ++ points_of x
  queued before x = rw (points_snoc before x, keep_append, from_all x.start (points_of x) (from_start x))

  below_latest : (q : List (Point A)) → Below (suc (latest q)) q
  below_latest [] = tt
  below_latest (p ∷ ps) = (omega arith, all_map (λ x g. omega arith) ps (below_latest ps))

  below_split : (s c : ℕ) (q : List (Point A)) → s ≤ c → Below c (from s q) → Below c q
  below_split s c [] h f = tt
  below_split s c (p ∷ ps) h f = go (leb s (time p)) refl (below_split s c ps h)
    where
      go : (b : Bool) → leb s (time p) ≡ b → (Below c (from s ps) → Below c ps) → Below c (p ∷ ps)
      go true e ih = let g : Below c (p ∷ from s ps) = rw e at f in (g.0, ih g.1)
      go false e ih = let g : Below c (from s ps) = rw e at f in (omega (arith, leb-false s (time p) e), ih g)

module _ {S A W : Type 0} (R : Rules S A W) where
  -- a later step changes nothing before its start
  extend : (plan : List (Step A)) (x : Step A) (b : ℕ) → b ≤ x.start → up_to R (plan ++ x ∷ []) b ≡ up_to R plan b
  unfolding up_to
  extend plan x zero h = refl
  extend plan x (suc t) h =
      rw (
        points_snoc plan x,
        keep_append,
        at_before x.start t (points_of x) h (from_start x),
        append-nil,
        keep_append (under t) plan (x ∷ []),
        lt-leb x.start t h,
        append-nil,
        extend plan x t (omega arith),
      )

  -- beyond the last point nothing happens
  same_end : (plan : List (Step A)) (b c : ℕ) → Below b (points plan) → Below c (points plan) → up_to R plan b ≡ up_to R plan c
  same_end plan b c f g =
      sym (skip R plan b (max b c) (omega arith) (λ t p q. at_beyond b t (points plan) p f))
      ∙ skip R plan c (max b c) (omega arith) (λ t p q. at_beyond c t (points plan) p g)

-- no start falls, up to the first refusal
abbrev pub Rises : {A E : Type 0} → ℕ → List (Answer A E) → Type 0
Rises s [] = Unit
Rises s (blank ∷ ls) = Rises s ls
Rises s (refusal e ∷ ls) = Unit
Rises s (step x ∷ ls) = (s ≤ x.start) × Rises x.start ls

module _ {S A W E : Type 0} (R : Rules S A W) (L : Limits A E) where
  -- the check after the steps before, s the start of the last of them
  abbrev at_line : List (Step A) → ℕ → Check S A W E
  at_line before s = waits (up_to R before s) s (from s (points before))

  finishes : (before : List (Step A)) (s : ℕ) → All (λ x. x.start ≤ s) before → finish R L (at_line before s) ≡ ended (verdict R before)
  unfolding verdict
  finishes before s a =
      let q : List (Point A) = from s (points before) in
      rw (
        drains R before (suc (max s (latest q))) (length q) s (omega arith) a (omega arith),
        same_end R before (suc (max s (latest q))) (suc (latest (points before)))
            (below_split s (suc (max s (latest q))) (points before) (omega arith) (all_map (λ p g. omega arith) q (below_latest q)))
            (below_latest (points before)),
      )

  pub halts : (e : E) (ls : List (Answer A E)) → finish R L (takes R L (halted e) ls) ≡ refused e
  halts e [] = refl
  halts e (l ∷ ls) = halts e ls

  streams : (before : List (Step A)) (s : ℕ) → All (λ x. x.start ≤ s) before → (ls : List (Answer A E)) → Rises s ls
      → finish R L (takes R L (at_line before s) ls) ≡ unless (first_refusal L before ls) (verdict R (before ++ steps ls))
  unfolding first_refusal
  streams before s a [] u = rw append-nil (finishes before s a)
  streams before s a (blank ∷ ls) u = streams before s a ls u
  streams before s a (refusal e ∷ ls) u = halts e ls
  streams before s a (step x ∷ ls) u =
      rw (
        drains R before x.start (length (from s (points before))) s u.0 a (omega arith),
        ← queued before x,
        ← extend R before x x.start (omega arith),
      )
      (go (too_many L before x) refl
      (streams (before ++ x ∷ []) x.start
      (all_append (λ y. y.start ≤ x.start) before (x ∷ []) (all_map (λ y g. let h = u.0 in omega arith) before a) (omega arith, tt)) ls u.1))
    where
      go : (d : Bool) → too_many L before x ≡ d
          → finish R L (takes R L (at_line (before ++ x ∷ []) x.start) ls) ≡ unless (first_refusal L (before ++ x ∷ []) ls)
          (verdict R ((before ++ x ∷ []) ++ steps ls))
          → finish R L (takes R L (cond (too_many L before x) (halted (L.crowded x)) (at_line (before ++ x ∷ []) x.start)) ls)
          ≡ unless (cond (too_many L before x) (some (L.crowded x)) (first_refusal L (before ++ x ∷ []) ls)) (verdict R (before ++ x ∷ steps ls))
      go true m ih = rw m (halts (L.crowded x) ls)
      go false m ih = rw (m, ← append_snoc before x (steps ls)) ih

  pub right : (ls : List (Answer A E)) → Rises 0 ls → finish R L (takes R L (fresh R L) ls) ≡ result R L ls
  unfolding result up_to
  right ls u = streams [] 0 tt ls u
