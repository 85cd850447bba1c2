-- The machine that reads a plan line by line: it keeps the run so far, the last start and the points that wait.
use Rattle.std.specs.Prelude.{ℕ, zero, suc, ◌+◌, max, min, true, false, cond, List, [], ◌∷◌, ◌++◌, ltb, length}
use Rattle.plan_meaning.specs.Plan.{Step, Point, begins, ends, Run, going, Rules, time, points_of, at, from, latest, instant, judged, Answer, blank, step}
use Rattle.plan_meaning.specs.Plan.{refusal, Limits, Result, refused, ended}

pub data Check (S A W E : Type 0) : Type 0 where
  waits : Run S W → ℕ → List (Point A) → Check S A W E
  halted : E → Check S A W E

module _ {A : Type 0} where
  -- the least time below b of the points that wait, or b
  abbrev pub soonest : ℕ → List (Point A) → ℕ
  soonest b [] = b
  soonest b (p ∷ ps) = min (time p) (soonest b ps)

  -- the steps whose ends wait and lie after t
  abbrev pub under_way : ℕ → List (Point A) → List (Step A)
  under_way t [] = []
  under_way t (begins x ∷ ps) = under_way t ps
  under_way t (ends x d ∷ ps) = cond (ltb t (x.start + d)) (x ∷ under_way t ps) (under_way t ps)

module _ {S A W : Type 0} (R : Rules S A W) where
  -- all happenings of waiting points below b, in the order of their times; the fuel is the number of points that wait
  unfoldable pub drain : ℕ → ℕ → Run S W → List (Point A) → Run S W × List (Point A)
  drain zero b r q = (r, q)
  drain (suc n) b r q =
      elim (ltb (soonest b q) b) [
        | true ↦ drain n b (instant R (soonest b q) (at (soonest b q) q) (under_way (soonest b q) q) r) (from (suc (soonest b q)) q)
        | false ↦ (r, q)
      ]

module _ {S A W E : Type 0} (R : Rules S A W) (L : Limits A E) where
  abbrev pub fresh : Check S A W E
  fresh = waits (going R.begin 0) 0 []

  abbrev pub admit : Step A → Run S W → List (Point A) → Check S A W E
  admit x r q = cond (ltb L.waiting (length q)) (halted (L.crowded x)) (waits r x.start q)

  abbrev pub drained : Step A → Run S W × List (Point A) → Check S A W E
  drained x rq = admit x rq.0 (rq.1 ++ points_of x)

  -- a line
  abbrev pub take : Check S A W E → Answer A E → Check S A W E
  take (halted e) a = halted e
  take (waits r s q) blank = waits r s q
  take (waits r s q) (refusal e) = halted e
  take (waits r s q) (step x) = drained x (drain R (length q) x.start r q)

  abbrev pub takes : Check S A W E → List (Answer A E) → Check S A W E
  takes m [] = m
  takes m (a ∷ ls) = takes (take m a) ls

  abbrev pub finish : Check S A W E → Result S W E
  finish (halted e) = refused e
  finish (waits r s q) = ended (judged R (drain R (length q) (suc (max s (latest q))) r q).0)
