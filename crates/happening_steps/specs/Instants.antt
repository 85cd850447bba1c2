-- An instant: steps 1 to 4, then step 5 "In the new state"; its state is the one to be handed back, whichever step fails.
use Rattle.std.specs.Prelude.{List}
use Rattle.happening_meaning.specs.State.{State, Grounds}
use Rattle.happening_meaning.specs.Happening.{Step, Point, unless, Happened, happened, happening, spanning}

abbrev pub then_spanning : Grounds → List Step → Happened → Happened
then_spanning g xs h = happened (unless h.outcome (spanning g h.state xs)) h.state

unfoldable pub instant_of : Grounds → State → List Point → List Step → Happened
instant_of g s ps xs = then_spanning g xs (happening g s ps)
