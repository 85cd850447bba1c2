-- Init, goal and the end of the text, one after the other. Assumes nothing.
use mathlib.Core.Path.{◌≡◌, refl, sym, ap, ◌∙◌}
use mathlib.Core.List.{List}
use mathlib.Core.Bool.{Bool, true, false, cond}
use Prim.Native.Nat.{ℕ, ◌≤◌}
use lib.IntN.{ℤ}
use lib.ListN.{length}
use lib.Dec.{eqb}
use Rattle.text_words.specs.Bytes.{bytes}
use Rattle.domain_meaning.specs.Read.{Read, got, refused, and_then, give}
use Rattle.domain_meaning.specs.Terms.{Scope}
use Rattle.domain_meaning.specs.Conditions.{Cond}
use Rattle.domain_meaning.specs.Domain.{Opened, opened, other, on_opened, begins_with, ending}
use Rattle.domain_meaning.specs.Problem.{Init, Problem, nothing, init_at, sums_fit, sums_at, section_due_of, goal_to, init_and_goal}
use Rattle.domain_due.specs.Answers.{answer_of}
use Rattle.domain_due.specs.Answers.{Parsed}
use Rattle.domain_due.specs.Answers.{Done, Refused}
use Rattle.domain_due.proofs.Dues.{answer_done, answer_refused}
use Rattle.domain_preamble.specs.Onwards.{Onwards}
use Rattle.domain_sections.proofs.Short.{ending_short}
use Rattle.domain_problem_text.specs.Parts.{starting, start_at, goal_from, rest_of, Settled}
use Rattle.domain_problem_text.proofs.Starting.{Begun}
use Rattle.domain_problem_text.proofs.Aiming.{Goal}

-- ---- init and goal by their parts

module _ (s : List ℕ) (c : Scope) where
  abbrev problem_of : Init → Cond → Problem
  problem_of x g = record { objects = c.objects; init = x; goal = g }

  goal_parts : (x : Init) (o : Opened) (at : ℕ)
      → and_then (section_due_of s (bytes ":goal") at) (λ q b. and_then (on_opened o (λ p. give q) (sums_at c q) b)
      (λ _ e. and_then (goal_to s c e) (λ g. give (problem_of x g))))
      ≡ and_then (goal_from s c (on_opened o (λ p. true) false) at) (λ g. give (problem_of x g))
  unfolding goal_from
  goal_parts x o at = go o (section_due_of s (bytes ":goal") at)
    where
      on : (y : Read ℕ) → and_then y (λ _ e. and_then (goal_to s c e) (λ g. give (problem_of x g))) ≡ and_then (and_then y (λ _. goal_to s c))
          (λ g. give (problem_of x g))
      on (got v e) = refl
      on (refused k p) = refl

      go : (o : Opened) (y : Read ℕ)
          → and_then y (λ q b. and_then (on_opened o (λ p. give q) (sums_at c q) b) (λ _ e. and_then (goal_to s c e) (λ g. give (problem_of x g))))
          ≡ and_then (and_then y (λ q b. and_then (cond (on_opened o (λ p. true) false) (give q) (sums_at c q) b) (λ _. goal_to s c))) (λ g. give (problem_of x g))
      go (opened p) (got q b) = refl
      go other (got q b) = on (sums_at c q b)
      go (opened p) (refused k i) = refl
      go other (refused k i) = refl

  parts : (at : ℕ) → init_and_goal s c at ≡ and_then (start_at s c at) (λ x b. and_then (goal_from s c x.judged b) (λ g. give (problem_of x.init g)))
  unfolding init_and_goal start_at
  parts at = go (begins_with s (bytes ":init") at)
    where
      on : (o : Opened) (y : Read Init)
          → and_then y (λ x b. and_then (section_due_of s (bytes ":goal") b)
          (λ q d. and_then (on_opened o (λ p. give q) (sums_at c q) d) (λ _ e. and_then (goal_to s c e) (λ g. give (problem_of x g)))))
          ≡ and_then (and_then y (λ x. give (starting (on_opened o (λ p. true) false) x)))
          (λ x b. and_then (goal_from s c x.judged b) (λ g. give (problem_of x.init g)))
      on o (got x b) = goal_parts x o b
      on o (refused k p) = refl

      go : (y : Read Opened)
          → and_then y (λ o n. and_then (on_opened o (λ p. init_at s c p) (give nothing) n)
          (λ x b. and_then (section_due_of s (bytes ":goal") b)
          (λ q d. and_then (on_opened o (λ p. give q) (sums_at c q) d) (λ _ e. and_then (goal_to s c e) (λ g. give (problem_of x g))))))
          ≡ and_then (and_then y (λ o n. and_then (on_opened o (λ p. init_at s c p) (give nothing) n)
          (λ x. give (starting (on_opened o (λ p. true) false) x)))) (λ x b. and_then (goal_from s c x.judged b) (λ g. give (problem_of x.init g)))
      go (got o n) = on o (on_opened o (λ p. init_at s c p) (give nothing) n)
      go (refused k p) = refl

pub onwards_at : (n at a v : ℕ) (r : Parsed) → r ≡ Done a v → Onwards n at r → (at ≤ a) × (a ≤ n)
unfolding Onwards
onwards_at n at a v r e h = rw e at h

-- ---- one after the other, until one is refused

module _ (s : List ℕ) (c : Scope) (at : ℕ) (r : Parsed) (facts : List ℕ) (numbers : List ℤ) (was goal' : List ℕ) where
  pub settled_unstarted : (k p : ℕ) → start_at s c at ≡ refused k p → r ≡ Refused k p → Settled s c r facts numbers was goal' (rest_of s c at)
  unfolding rest_of Settled
  settled_unstarted k p e q = rw (parts s c at, e) q

  module _ (a v : ℕ) (x : Begun c facts numbers a v (start_at s c at)) where
    pub settled_aimless : (k p : ℕ) → goal_from s c (eqb v 1) a ≡ refused k p → r ≡ Refused k p → Settled s c r facts numbers was goal' (rest_of s c at)
    unfolding rest_of Settled
    settled_aimless k p e q = rw (parts s c at, x.is, ← x.flag, e) q

    module _ (b : ℕ) (g : Goal (length s) c (eqb v 1) was goal' b (goal_from s c (eqb v 1) a)) where
      pub settled_endless : (k p : ℕ) → r ≡ answer_of (ending s b) → r ≡ Refused k p → Settled s c r facts numbers was goal' (rest_of s c at)
      unfolding rest_of Settled
      settled_endless k p q e = rw (parts s c at, x.is, ← x.flag, g.is, answer_refused (ending s b) k p (sym q ∙ e)) e

      fit : (j : Bool) → eqb v 1 ≡ j → sums_fit c ≡ true
      fit true e = x.fits (sym x.flag ∙ e)
      fit false e = g.fits e

      pub settled : (z : Parsed) (n w i : ℕ) → z ≡ answer_of (ending s b) → z ≡ Done n w → i ≡ length c.objects → r ≡ Done n i
          → Settled s c r facts numbers was goal' (rest_of s c at)
      unfolding rest_of Settled
      settled z n w i q e o f =
          let k = answer_done (ending s b) n w (sym q ∙ e) in
          rw (parts s c at, x.is, ← x.flag, g.is, k)
          (record {
            answer = f ∙ ap (Done n) o;
            objects = refl;
            facts = x.facts_are;
            numbers = x.numbers_are;
            goal = g.stored;
            few = g.few;
            short = ending_short s b w n k;
            fits = fit (eqb v 1) refl;
          })
