-- The ways of a happening: refused, a number that fails, a number that leaves the range, done. A failure leaves the old state. Assumes nothing.
use mathlib.Core.Path.{◌≡◌, sym, ap, ◌∙◌}
use mathlib.Core.List.{List}
use Prim.Native.Nat.{ℕ}
use lib.IntN.{ℤ}
use Rattle.happening_meaning.specs.State.{State, Grounds}
use Rattle.happening_meaning.specs.Happening.{Point, unless, each, made, change_points, stays, all_marks, new_facts, Happened, happened, on_done, allowed, happening}
use Rattle.happening_meaning.specs.declared.Outcome.{Outcome}
use Rattle.happening_meaning.specs.declared.Outcome.TheVariants.{Done}
use Rattle.happening_meaning.proofs.Failing.{unless_done}
use Rattle.happening_state.specs.States.{state_in}
use Rattle.happening_writes.specs.Changing.{settle_all}
use Rattle.happening_writes.proofs.Turning.{not_done}
use Rattle.happening_writes.proofs.Settling.{settled_old, settled_new}

kept : (o : Outcome) → (o ≡ Done → ⊥) → (s : State) (h : Happened) → happened o s ≡ on_done o s h
kept o f s h = rw (not_done o f)

first : (o next : Outcome) → (o ≡ Done → ⊥) → o ≡ unless o next
unfolding unless
first o next f = rw (not_done o f)

module _ (g : Grounds) (fs : List ℕ) (ns fr : List ℤ) (ps : List Point) (same : fr ≡ ns) {o : Outcome} (eo : o ≡ allowed g (state_in fs ns) ps) where
  pub happen_refused : (o ≡ Done → ⊥) → happened o (state_in fs ns) ≡ happening g (state_in fs ns) ps
  unfolding happening
  happen_refused f = rw (← eo) (kept o f (state_in fs ns) _)

  module _ (d : o ≡ Done) {c : Outcome} {ms : List ℤ} (e : made c ms ≡ change_points g ns fr ps) where
    changed : made c ms ≡ change_points g ns ns ps
    changed = e ∙ ap (λ x. change_points g ns x ps) same

    -- the numbers beside become the old ones again
    pub happen_back : {k : List ℤ} → k ≡ settle_all ns ms (all_marks g ps) → k ≡ ns
    happen_back ek = ek ∙ ap (λ x. settle_all ns x (all_marks g ps)) (ap (λ m. m.numbers) changed) ∙ settled_old g ns ps

    -- the old ones become the numbers beside
    pub happen_forth : {k : List ℤ} → k ≡ settle_all ms ns (all_marks g ps) → ms ≡ k
    happen_forth ek =
        sym (ek ∙ ap (λ x. settle_all x ns (all_marks g ps)) (ap (λ m. m.numbers) changed) ∙ settled_new g ns ps ∙ sym (ap (λ m. m.numbers) changed))

    pub happen_fails : (c ≡ Done → ⊥) → happened c (state_in fs ns) ≡ happening g (state_in fs ns) ps
    unfolding happening
    happen_fails f = rw (← eo, d, ← changed, ← first c (each (stays g ms) ps) f) (kept c f (state_in fs ns) _)

    module _ (dc : c ≡ Done) {s : Outcome} (es : s ≡ each (stays g ms) ps) where
      pub happen_leaves : (s ≡ Done → ⊥) → happened s (state_in fs ns) ≡ happening g (state_in fs ns) ps
      unfolding happening
      happen_leaves f = rw (← eo, d, ← changed, ← es, ← unless_done s dc) (kept s f (state_in fs ns) _)

      pub happen_done : s ≡ Done → {hs : List ℕ} {k : List ℤ} → hs ≡ new_facts g fs ps → k ≡ settle_all ms ns (all_marks g ps)
          → happened Done (state_in hs k) ≡ happening g (state_in fs ns) ps
      unfolding happening
      happen_done ds eh ek = rw (← eo, d, ← changed, ← es, ← unless_done s dc, ds, eh, ← happen_forth ek)
