-- What is to come of a plan does not hang on the state in which its run began. Assumes nothing.
use Prim.Native.Nat.{ℕ, zero, suc, max}
use mathlib.Core.Bool.{Bool, true, false}
use mathlib.Core.List.{List, [], ◌∷◌, map}
use mathlib.Core.Path.{◌≡◌, refl, sym, ap, ◌∙◌}
use borrow.Author.Tests.{ltb-true, ltb-false}
use lib.Dec.{ltb}
use lib.ListN.{length}
use Rattle.domain_meaning.specs.Actions.{Action}
use Rattle.happening_meaning.specs.State.{State}
use Rattle.happening_meaning.specs.Happening.{Promises}
use Rattle.happening_meaning.specs.declared.Outcome as Why
use Rattle.plan_meaning.specs.Plan.{Step, Point, Outcome, next, stop, Run, going, failed, Rules, at, from, latest, after, instant, judged, Answer, blank, step}
use Rattle.plan_meaning.specs.Plan.{refusal, ended}
use Rattle.plan_meaning.specs.Machine.{Check, waits, halted, soonest, under_way, drain, drained, take, finish}
use Rattle.plan_meaning.specs.Feed.{Feed, reading, byte, feed, close}
use Rattle.plan_meaning.specs.Text.{Reader}
use Rattle.plan_meaning.specs.Promised.{Act, point_for, outcome_of, rules_of}
use Rattle.plan_meaning.specs.Lines.{Refused, limits}
use Rattle.plan_meaning.proofs.Drain.{drain_go, drain_done}

module _ (P : Promises) (as' : List Action) (s t : State) where
  abbrev R : Rules State Act Why.Outcome
  R = rules_of P as' s

  abbrev Q : Rules State Act Why.Outcome
  Q = rules_of P as' t

  after_same : (u : ℕ) (x : State) (xs : List (Step Act)) (o : Outcome State Why.Outcome) → after R u x xs o ≡ after Q u x xs o
  after_same u x xs (stop w) = refl
  after_same u x xs (next n) = refl

  instant_same : (u : ℕ) (ps : List (Point Act)) (xs : List (Step Act)) (r : Run State Why.Outcome) → instant R u ps xs r ≡ instant Q u ps xs r
  instant_same u [] xs r = refl
  instant_same u (p ∷ ps) xs (failed x v w) = refl
  instant_same u (p ∷ ps) xs (going x v) = after_same u x xs (outcome_of (P.happen x (map (point_for as') (p ∷ ps))))

  drain_same : (n b : ℕ) (r : Run State Why.Outcome) (q : List (Point Act)) → drain R n b r q ≡ drain Q n b r q
  unfolding drain
  drain_same zero b r q = refl
  drain_same (suc n) b r q = go (ltb (soonest b q) b) refl (λ x. drain_same n b x (from (suc (soonest b q)) q))
    where
      go : (c : Bool) → ltb (soonest b q) b ≡ c → ((x : Run State Why.Outcome)
          → drain R n b x (from (suc (soonest b q)) q) ≡ drain Q n b x (from (suc (soonest b q)) q))
          → drain R (suc n) b r q ≡ drain Q (suc n) b r q
      go true e ih =
          drain_go R b n r q (ltb-true (soonest b q) b e)
          ∙ ih (instant R (soonest b q) (at (soonest b q) q) (under_way (soonest b q) q) r)
          ∙ ap (λ x. drain Q n b x (from (suc (soonest b q)) q)) (instant_same (soonest b q) (at (soonest b q) q) (under_way (soonest b q) q) r)
          ∙ sym (drain_go Q b n r q (ltb-true (soonest b q) b e))
      go false e ih = drain_done R b (suc n) r q (ltb-false (soonest b q) b e) ∙ sym (drain_done Q b (suc n) r q (ltb-false (soonest b q) b e))

  judged_same : (r : Run State Why.Outcome) → judged R r ≡ judged Q r
  judged_same (going x v) = refl
  judged_same (failed x v w) = refl

  take_same : (m : Check State Act Why.Outcome Refused) (a : Answer Act Refused) → take R limits m a ≡ take Q limits m a
  take_same (halted e) a = refl
  take_same (waits r u q) blank = refl
  take_same (waits r u q) (refusal e) = refl
  take_same (waits r u q) (step x) = ap (λ rq. drained R limits x rq) (drain_same (length q) x.start r q)

  finish_same : (m : Check State Act Why.Outcome Refused) → finish R limits m ≡ finish Q limits m
  finish_same (halted e) = refl
  finish_same (waits r u q) =
      ap (λ rq. ended (judged R rq.0)) (drain_same (length q) (suc (max u (latest q))) r q)
      ∙ ap (λ x. ended x) (judged_same (drain Q (length q) (suc (max u (latest q))) r q).0)

  module _ (D : Reader Act Refused) where
    byte_same : (m : Feed State Act Why.Outcome Refused) (b : ℕ) → byte R limits D m b ≡ byte Q limits D m b
    byte_same (reading (halted e) n part) b = refl
    byte_same (reading (waits r u q) n part) b = rw (take_same (waits r u q) (D.line n u part))

    pub feed_same : (bs : List ℕ) (m : Feed State Act Why.Outcome Refused) → feed R limits D m bs ≡ feed Q limits D m bs
    feed_same [] m = refl
    feed_same (b ∷ bs) m = ap (λ x. feed R limits D x bs) (byte_same m b) ∙ feed_same bs (byte Q limits D m b)

    pub close_same : (m : Feed State Act Why.Outcome Refused) → close R limits D m ≡ close Q limits D m
    close_same (reading (halted e) n part) = refl
    close_same (reading (waits r u q) n part) =
        ap (λ x. finish R limits x) (take_same (waits r u q) (D.line n u part)) ∙ finish_same (take Q limits (waits r u q) (D.line n u part))
