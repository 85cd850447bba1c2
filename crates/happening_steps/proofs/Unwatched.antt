-- Step 5 need not be done again: over all conditions that read nothing that a happening wrote have the outcome they had. Assumes nothing.
use mathlib.Core.Path.{◌≡◌, sym, ap, subst}
use mathlib.Core.List.{List}
use Prim.Native.Nat.{ℕ}
use lib.Bits.{bit_and}
use Rattle.base_laws.proofs.Splits.{either}
use Rattle.domain_meaning.specs.Actions.{whole}
use Rattle.happening_meaning.specs.State.{State, Grounds}
use Rattle.happening_meaning.specs.Happening.{Step, Point, parts_for, is_done, unless, each, judged, change_points, stays, all_marks, Happened, happened, allowed}
use Rattle.happening_meaning.specs.Happening.{happening, spans}
use Rattle.happening_meaning.specs.declared.Outcome.{Outcome}
use Rattle.happening_meaning.specs.declared.Outcome.TheVariants.{Invariant}
use Rattle.happening_state.specs.Masks.{Touched}
use Rattle.happening_state.proofs.Keeping.{touched_none}
use Rattle.happening_tests.proofs.Framing.{unmasked}
use Rattle.happening_writes.specs.Masks.{mask_from}
use Rattle.happening_writes.proofs.Masking.{happened_touched}
use Rattle.happening_steps.specs.Watching.{watching}

module _ (g : Grounds) (s : State) where
  module _ (ps : List Point) where
    abbrev wrote : ℕ
    wrote = mask_from 0 (all_marks g ps)

    abbrev Only : Happened → Type 0
    Only h = Touched wrote s h.state

    -- a happening that fails touches nothing
    touched : Only (happening g s ps)
    unfolding happening
    touched =
        let m = change_points g s.numbers s.numbers ps in
        either Only (is_done (allowed g s ps))
        (either Only (is_done (unless m.outcome (each (stays g m.numbers) ps))) (happened_touched g s ps 0) (touched_none wrote s))
        (touched_none wrote s)

    pub unwatched : {o : Outcome} {t : State} → happened o t ≡ happening g s ps → (x : Step) → bit_and (watching g x) (mask_from 0 (all_marks g ps)) ≡ 0
        → spans g t x ≡ spans g s x
    unfolding spans watching
    unwatched {t = t} e x z =
        ap (judged (Invariant x.line) x.line)
        (sym (unmasked g x.objects wrote s t (parts_for whole x.conditions)
        (subst (λ (u : State). Touched wrote s u) (sym (ap (λ h. h.state) e)) touched) z))
