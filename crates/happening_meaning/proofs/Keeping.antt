-- A happening that fails leaves the state as it was. Assumes nothing.
use mathlib.Core.Bool.{Bool, true, false, true≢false}
use mathlib.Core.List.{List}
use mathlib.Core.Path.{◌≡◌, refl}
use Rattle.happening_meaning.specs.State.{State, Grounds}
use Rattle.happening_meaning.specs.Happening.{Point, is_done, unless, each, Made, change_points, stays, new_facts, Happened, happened, on_done, applied}
use Rattle.happening_meaning.specs.Happening.{allowed, happening}
use Rattle.happening_meaning.specs.declared.Outcome.{Outcome}
use Rattle.happening_meaning.specs.declared.Outcome.TheVariants.{Done}

abbrev Kept : State → Happened → Type 0
Kept s h = is_done h.outcome ≡ false → h.state ≡ s

kept : (o : Outcome) (s : State) (h : Happened) → Kept s h → Kept s (on_done o s h)
kept o s h k = go (is_done o) refl
  where
    go : (b : Bool) → is_done o ≡ b → Kept s (on_done o s h)
    go true e = rw e k
    go false e = rw e (λ _. refl)

pub happening_kept : (g : Grounds) (s : State) (ps : List Point) → is_done (happening g s ps).outcome ≡ false → (happening g s ps).state ≡ s
unfolding happening
happening_kept g s ps = kept (allowed g s ps) s (applied g s ps m)
    (kept (unless m.outcome (each (stays g m.numbers) ps)) s (happened Done new) (λ e. absurd (true≢false e)))
  where
    m : Made
    m = change_points g s.numbers s.numbers ps

    new : State
    new = record { facts = new_facts g s.facts ps; numbers = m.numbers }
