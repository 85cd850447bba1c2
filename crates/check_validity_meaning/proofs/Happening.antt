-- A happening is done exactly where it is executable and no number leaves the range, and its state is then the result.
-- Otherwise its first failure is named. Assumes nothing.
use mathlib.Core.Bool.{Bool, true, false, not, true≢false}
use mathlib.Core.List.{List}
use mathlib.Core.Logic.{◌⊎◌, inl, inr}
use mathlib.Core.Path.{◌≡◌, refl, sym, ap, subst, ◌∙◌}
use Prim.Native.Nat.{ℕ, ◌<◌}
use lib.IntN.{ℤ}
use lib.ListN.{length}
use borrow.Author.Tests.{not-false}
use Rattle.happening_meaning.specs.State.{State, Grounds, inside, number_at}
use Rattle.happening_meaning.specs.Writes.{some}
use Rattle.happening_meaning.specs.Happening.{Point, line_of, marks, is_done, unless, each, tested, apart, change_points, leaves, stays, new_facts, Made, Happened}
use Rattle.happening_meaning.specs.Happening.{happened, on_done, applied, allowed, happening}
use Rattle.happening_meaning.specs.declared.Mark.{Mark}
use Rattle.happening_meaning.specs.declared.Mark.TheVariants.{Nothing, Fact, Number}
use Rattle.happening_meaning.specs.declared.Outcome.{Outcome}
use Rattle.happening_meaning.specs.declared.Outcome.TheVariants.{Done, Range}
use Rattle.check_validity_meaning.specs.Lists.{All, Pairwise, First, FirstPair, ◌∈◌}
use Rattle.check_validity_meaning.specs.Happens.{Applicable, Consistent, NonInterfering, Evaluable, Executable, NewNumber, Written, Result, Within}
use Rattle.check_validity_meaning.specs.Failing.{Inapplicable, Inconsistent, Interfering, FirstUnmade, Outside, Fails, inapplicable, inconsistent}
use Rattle.check_validity_meaning.specs.Failing.{interfering, unmade, outside}
use Rattle.check_validity_meaning.proofs.Lists.{all_in, in_all, none_in, all_none}
use Rattle.check_validity_meaning.proofs.Deciding.{Decides, is_done_lem, is_not, by_test, then, each_decides, retold}
use Rattle.check_validity_meaning.proofs.Marking.{assigns, changes_mark, mark_changes}
use Rattle.check_validity_meaning.proofs.Steps.{tested_decides}
use Rattle.check_validity_meaning.proofs.Apart.{apart_decides, pairs_decide}
use Rattle.check_validity_meaning.proofs.Made.{all_written_lem, only_all_written, is_all_written, puts, Makes, evaluated_by, evaluation_decides, makes_points}
use Rattle.check_validity_meaning.proofs.Numbers.{length_puts, new_numbers, only_numbers}
use Rattle.check_validity_meaning.proofs.Facts.{length_facts, new_facts_lem, only_facts}

-- ---- the range

module _ (g : Grounds) (t : State) (p : Point) where
  stays_within : some (leaves t.numbers) (marks g p) ≡ false → Within g t p
  unfolding leaves
  stays_within e how x c =
      not-false (inside (number_at t.numbers x))
      (all_in (λ m. leaves t.numbers m ≡ false) (marks g p) (none_in (leaves t.numbers) (marks g p) e) (Number (assigns how) x)
      (changes_mark g p how x c))

  within_stays : Within g t p → some (leaves t.numbers) (marks g p) ≡ false
  unfolding leaves
  within_stays h = all_none (leaves t.numbers) (marks g p) (in_all (marks g p) go)
    where
      go : (m : Mark) → m ∈ marks g p → leaves t.numbers m ≡ false
      go Nothing i = refl
      go (Fact a x) i = refl
      go (Number a x) i = let c = mark_changes g p a x i in ap not (h c.how x c.it)

  stays_decides : Decides (Within g t p) (Outside g t p) (stays g t.numbers p)
  unfolding stays
  stays_decides = by_test (some (leaves t.numbers) (marks g p)) (Range (line_of p)) refl stays_within within_stays

-- ---- the state after

abbrev Leads : Happened → Outcome → State → State → Type 0
Leads h o t s = (h.outcome ≡ o) × (o ≡ Done → h.state ≡ t) × (is_done o ≡ false → h.state ≡ s)

leads_then : (o n : Outcome) (h : Happened) (t s : State) → Leads h n t s → Leads (on_done o s h) (unless o n) t s
unfolding unless
leads_then o n h t s l = go (is_done o) refl
  where
    go : (b : Bool) → is_done o ≡ b → Leads (on_done o s h) (unless o n) t s
    go true e = rw e l
    go false e = rw e (refl, (λ d. is_not d e), λ d. refl)

module _ (g : Grounds) (s : State) (ps : List Point) where
  abbrev made_by : List ℤ
  made_by = puts s.numbers (all_written_lem g s ps)

  abbrev pub after : State
  after = record { facts = new_facts g s.facts ps; numbers = made_by }

  pub result : Executable g s ps → Result g s ps after
  result x =
      record {
        facts = (length_facts g ps s.facts, new_facts_lem g ps s made_by);
        writes = all_written_lem g s ps;
        written = is_all_written g s ps x.evaluable;
        numbers = (length_puts s.numbers (all_written_lem g s ps), new_numbers g s ps x.consistent x.apart after.facts);
      }

  pub only_result : Executable g s ps → (t : State) → Result g s ps t → t ≡ after
  only_result x t r =
      let f : t.facts ≡ after.facts = only_facts g ps s t r.facts.0 r.facts.1 in
      let n : t.numbers ≡ after.numbers = only_numbers g s ps x.consistent x.apart t r.numbers.0
      (subst (λ (ws : List Written). (i : ℕ) → i < length s.numbers → NewNumber s t ws i) (only_all_written g s ps r.writes r.written)
      r.numbers.1) in
      λ i. record { facts = f i; numbers = n i }

  abbrev evaluation : Outcome
  evaluation = each (evaluated_by g s) ps

  -- the outcome of all steps
  abbrev pub steps : Outcome
  steps = unless (allowed g s ps) (unless evaluation (each (stays g made_by) ps))

  applied_leads : (m : Made) → Makes m evaluation made_by → Leads (applied g s ps m) (unless evaluation (each (stays g made_by) ps)) after s
  unfolding unless
  applied_leads m a = go (is_done evaluation) refl
    where
      done_last : (o : Outcome) → unless o Done ≡ o
      done_last o = last (is_done o) refl
        where
          last : (b : Bool) → is_done o ≡ b → unless o Done ≡ o
          last true e = rw e (sym (is_done_lem o e))
          last false e = rw e

      go : (b : Bool) → is_done evaluation ≡ b → Leads (applied g s ps m) (unless evaluation (each (stays g made_by) ps)) after s
      go true e =
          rw (a.0, a.1 (is_done_lem evaluation e))
          (subst (λ (o : Outcome). Leads (on_done (unless evaluation (each (stays g made_by) ps)) s (happened Done after)) o after s)
          (done_last (unless evaluation (each (stays g made_by) ps)))
          (leads_then (unless evaluation (each (stays g made_by) ps)) Done (happened Done after) after s (refl, (λ d. refl), λ d. absurd (true≢false d))))
      go false e = let c : is_done m.outcome ≡ false = ap is_done a.0 ∙ e in rw (c, c, e) (a.0, (λ d. is_not d e), λ d. refl)

  pub leads : Leads (happening g s ps) steps after s
  unfolding happening
  leads =
      let m = change_points g s.numbers s.numbers ps in
      leads_then (allowed g s ps) (unless evaluation (each (stays g made_by) ps)) (applied g s ps m) after s (applied_leads m (makes_points g s s.numbers ps))

  -- ---- what is decided

  abbrev Allowed : Type 0
  Allowed = All (Applicable g s) ps × (All (Consistent g) ps × Pairwise (NonInterfering g) ps)

  abbrev Stepwise : Type 0
  Stepwise = Allowed × (All (Evaluable g s) ps × All (Within g after) ps)

  abbrev Forbidden : Outcome → Type 0
  Forbidden w =
      First (Applicable g s) (λ p. Inapplicable g s p w) ps
      ⊎ (All (Applicable g s) ps
      × (First (Consistent g) (λ p. Inconsistent g p w) ps
      ⊎ (All (Consistent g) ps × FirstPair (NonInterfering g) (λ p q. Interfering g p q w) ps)))

  abbrev Unexecuted : Outcome → Type 0
  Unexecuted w = First (Evaluable g s) (λ p. FirstUnmade g s p w) ps ⊎ (All (Evaluable g s) ps × First (Within g after) (λ p. Outside g after p w) ps)

  allowed_decides : Decides Allowed Forbidden (allowed g s ps)
  unfolding allowed
  allowed_decides = then (each_decides (tested g s) (tested_decides g s) ps) (then (each_decides (apart g) (apart_decides g) ps) (pairs_decide g ps))

  stepwise : Decides Stepwise (λ w. Forbidden w ⊎ (Allowed × Unexecuted w)) steps
  stepwise = then allowed_decides (then (evaluation_decides g s ps) (each_decides (stays g made_by) (stays_decides g after) ps))

  executable : Allowed → All (Evaluable g s) ps → Executable g s ps
  executable a e = record { applicable = a.0; consistent = a.1.0; apart = a.1.1; evaluable = e }

  abbrev DoneSo : Type 0
  DoneSo = Executable g s ps × All (Within g after) ps

  fails_of : (w : Outcome) → Forbidden w ⊎ (Allowed × Unexecuted w) → Fails g s ps w
  fails_of w (inl (inl f)) = inapplicable f
  fails_of w (inl (inr a)) = elim a.1 [ inl f ↦ inconsistent a.0 f | inr f ↦ interfering a.0 f.0 f.1 ]
  fails_of w (inr a) =
      elim a.1 [
        | inl f ↦ unmade a.0.0 a.0.1.0 a.0.1.1 f
        | inr f ↦ let x = executable a.0 f.0 in outside x after (result x) f.1
      ]

  of_fails : (w : Outcome) → Fails g s ps w → Forbidden w ⊎ (Allowed × Unexecuted w)
  of_fails w (inapplicable f) = inl (inl f)
  of_fails w (inconsistent a f) = inl (inr (a, inl f))
  of_fails w (interfering a b f) = inl (inr (a, inr (b, f)))
  of_fails w (unmade a b c f) = inr ((a, (b, c)), inl f)
  of_fails w (outside x t r f) =
      let q = only_result x t r in
      inr ((x.applicable, (x.consistent, x.apart)), inr (x.evaluable, subst (λ (u : State). First (Within g u) (λ p. Outside g u p w) ps) q f))

  pub happening_decides : Decides DoneSo (Fails g s ps) steps
  happening_decides =
      retold (λ x. (executable x.0 x.1.0, x.1.1))
      (λ x. ((x.0.applicable, (x.0.consistent, x.0.apart)), (x.0.evaluable, x.1)))
      fails_of of_fails stepwise
