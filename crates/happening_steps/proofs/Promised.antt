-- An instant by the promises of this layer: the happening, and where it is done step 5 in the new state, line by line; one that fails leaves the state.
-- Assumes nothing.
use mathlib.Core.Bool.{true, false}
use mathlib.Core.List.{List, [], ◌∷◌}
use mathlib.Core.Path.{◌≡◌, ap, ◌∙◌}
use Rattle.happening_meaning.specs.State.{State, Grounds}
use Rattle.happening_meaning.specs.Happening.{Step, Point, is_done, unless, happened, happening, spans, spanning}
use Rattle.happening_meaning.specs.declared.Outcome.{Outcome}
use Rattle.happening_meaning.specs.declared.Outcome.TheVariants.{Done}
use Rattle.happening_meaning.proofs.Failing.{Fails, unless_done, unless_fails}
use Rattle.happening_meaning.proofs.Keeping.{happening_kept}
use Rattle.happening_meetings.proofs.Crossing.{each_end, each_turn, each_fails}
use Rattle.happening_steps.specs.Instants.{instant_of}

-- ---- step 5 over the lines

module _ (g : Grounds) (s : State) {xs : List Step} where
  pub spanning_end : xs ≡ [] → Done ≡ spanning g s xs
  unfolding spanning
  spanning_end e = each_end (spans g s) e

  module _ {x : Step} {ys : List Step} {o : Outcome} (e : xs ≡ x ∷ ys) (eo : o ≡ spans g s x) where
    pub spanning_turn : o ≡ Done → spanning g s ys ≡ spanning g s xs
    unfolding spanning
    spanning_turn d = each_turn (spans g s) e eo d

    pub spanning_fails : Fails o → o ≡ spanning g s xs
    unfolding spanning
    spanning_fails f = each_fails (spans g s) e eo f

-- ---- an instant

module _ (g : Grounds) (s : State) (ps : List Point) (xs : List Step) where
  pub instant_done : is_done (happening g s ps).outcome ≡ true
      → instant_of g s ps xs ≡ happened (spanning g (happening g s ps).state xs) (happening g s ps).state
  unfolding instant_of unless
  instant_done e = rw e

  pub instant_failed : is_done (happening g s ps).outcome ≡ false → instant_of g s ps xs ≡ happened (happening g s ps).outcome s
  unfolding instant_of unless
  instant_failed e = rw (e, happening_kept g s ps e)

  -- o is what the happening came to
  module _ {o : Outcome} {s' : State} (eh : happened o s' ≡ happening g s ps) where
    pub instant_stops : Fails o → happened o s' ≡ instant_of g s ps xs
    unfolding instant_of
    instant_stops f = rw (← eh) (ap (λ (r : Outcome). happened r s') (unless_fails o (spanning g s' xs) f))

    pub instant_spans : o ≡ Done → {r : Outcome} → r ≡ spanning g s' xs → happened r s' ≡ instant_of g s ps xs
    unfolding instant_of
    instant_spans d er = rw (← eh) (ap (λ (r : Outcome). happened r s') (er ∙ unless_done (spanning g s' xs) d))
