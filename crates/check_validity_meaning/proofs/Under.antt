-- The lines under way: the test finds them, and step 5 decides what they ask. Assumes nothing.
use mathlib.Core.Bool.{Bool, true, false, cond, ◌&&◌, and-false, false≢true}
use mathlib.Core.List.{List, [], ◌∷◌, map}
use mathlib.Core.Logic.{inl, inr}
use mathlib.Core.Path.{◌≡◌, refl, sym, ap, subst, ◌∙◌}
use Prim.Native.Nat.{ℕ, ◌+◌, ◌<◌}
use lib.Dec.{leb}
use Rattle.domain_meaning.specs.Actions.{Action}
use Rattle.happening_meaning.specs.State.{State, Grounds}
use Rattle.happening_meaning.specs.Happening.{spanning}
use Rattle.plan_meaning.specs.Lists.{keep}
use Rattle.plan_meaning.specs.Plan.{Span, moment, lasting, Step, ends_after, under}
use Rattle.plan_meaning.specs.Promised.{Act, step_for}
use Rattle.check_validity_meaning.specs.Lists.{All, First}
use Rattle.check_validity_meaning.specs.Happens.{Spans}
use Rattle.check_validity_meaning.specs.Failing.{Broken}
use Rattle.check_validity_meaning.specs.Valid.{UnderWay, Spanned, Breaks}
use Rattle.check_validity_meaning.proofs.Deciding.{Decides, retold}
use Rattle.check_validity_meaning.proofs.Finding.{Finds, absent, finds_so, nothing, at_most, below, both}
use Rattle.check_validity_meaning.proofs.Steps.{spanning_decides}

abbrev is_lasting : Span → Bool
is_lasting moment = false
is_lasting (lasting d) = true

abbrev length_of : Span → ℕ
length_of moment = 0
length_of (lasting d) = d

pub under_way_lem : (t : ℕ) (x : Step Act) → Finds (UnderWay t x) (under t x)
under_way_lem t x = go x.span refl
  where
    go : (d : Span) → x.span ≡ d → Finds (UnderWay t x) (leb x.start t && ends_after t x.start d)
    go moment e = rw (and-false (leb x.start t)) (finds_so (λ p. absurd p) (λ u. false≢true (ap is_lasting (sym e ∙ u.durative))) nothing)
    go (lasting d) e =
        finds_so (λ h. record { duration = d; durative = e; started = h.0; ending = h.1 })
        (λ u. (u.started, subst (λ (n : ℕ). t < x.start + n) (ap length_of (sym u.durative ∙ e)) u.ending))
        (both (at_most x.start t) (below t (x.start + d)))

-- ---- what holds of the elements that a test keeps

module _ {A B : Type 0} (U : A → Type 0) (f : A → Bool) (finds : (x : A) → Finds (U x) (f x)) (h : A → B) (P F : B → Type 0) where
  abbrev Asks : A → Type 0
  Asks x = U x → P (h x)

  abbrev Lacks : A → Type 0
  Lacks x = U x × F (h x)

  pub asked : (xs : List A) → All P (map h (keep f xs)) → All Asks xs
  asked [] a = tt
  asked (x ∷ xs) a = go (f x) refl a (asked xs)
    where
      go : (b : Bool) → f x ≡ b → All P (map h (cond b (x ∷ keep f xs) (keep f xs))) → (All P (map h (keep f xs)) → All Asks xs) → All Asks (x ∷ xs)
      go true e a ih = ((λ u. a.0), ih a.1)
      go false e a ih = ((λ u. absurd (absent (finds x) e u)), ih a)

  pub kept : (xs : List A) → All Asks xs → All P (map h (keep f xs))
  kept [] a = tt
  kept (x ∷ xs) a = go (f x) refl (kept xs a.1)
    where
      go : (b : Bool) → f x ≡ b → All P (map h (keep f xs)) → All P (map h (cond b (x ∷ keep f xs) (keep f xs)))
      go true e ih = (a.0 ((finds x).found e), ih)
      go false e ih = ih

  pub first_asked : (xs : List A) → First P F (map h (keep f xs)) → First Asks Lacks xs
  first_asked [] a = absurd a
  first_asked (x ∷ xs) a = go (f x) refl a (first_asked xs)
    where
      go : (b : Bool) → f x ≡ b → First P F (map h (cond b (x ∷ keep f xs) (keep f xs))) → (First P F (map h (keep f xs)) → First Asks Lacks xs)
          → First Asks Lacks (x ∷ xs)
      go true e (inl q) ih = inl ((finds x).found e, q)
      go true e (inr q) ih = inr ((λ u. q.0), ih q.1)
      go false e q ih = inr ((λ u. absurd (absent (finds x) e u)), ih q)

  pub first_kept : (xs : List A) → First Asks Lacks xs → First P F (map h (keep f xs))
  first_kept [] a = absurd a
  first_kept (x ∷ xs) a = go (f x) refl a (first_kept xs)
    where
      go : (b : Bool) → f x ≡ b → First Asks Lacks (x ∷ xs) → (First Asks Lacks xs → First P F (map h (keep f xs)))
          → First P F (map h (cond b (x ∷ keep f xs) (keep f xs)))
      go true e (inl q) ih = inl q.1
      go true e (inr q) ih = inr (q.0 ((finds x).found e), ih q.1)
      go false e (inl q) ih = absurd (absent (finds x) e q.0)
      go false e (inr q) ih = ih q.1

pub under_decides : (g : Grounds) (as' : List Action) (plan : List (Step Act)) (t : ℕ) (s : State)
    → Decides (All (Spanned g as' plan t s) plan) (λ w. First (Spanned g as' plan t s) (Breaks g as' plan t s w) plan)
    (spanning g s (map (step_for as') (keep (under t) plan)))
under_decides g as' plan t s =
    retold (asked (UnderWay t) (under t) (under_way_lem t) (step_for as') (Spans g s) (λ _. Unit) plan)
    (kept (UnderWay t) (under t) (under_way_lem t) (step_for as') (Spans g s) (λ _. Unit) plan)
    (λ w. first_asked (UnderWay t) (under t) (under_way_lem t) (step_for as') (Spans g s) (λ x. Broken g s x w) plan)
    (λ w. first_kept (UnderWay t) (under t) (under_way_lem t) (step_for as') (Spans g s) (λ x. Broken g s x w) plan)
    (spanning_decides g s (map (step_for as') (keep (under t) plan)))
