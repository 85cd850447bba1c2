-- A happening of prepared points, the test of prepared lines under way and a prepared goal come to what the ones they are made of come to. Assumes nothing.
use Prim.Native.Nat.{ℕ}
use mathlib.Core.Path.{◌≡◌, refl, ap, ap₂, ◌∙◌}
use mathlib.Core.List.{List, [], ◌∷◌, ◌++◌, map}
use mathlib.Core.Bool.{Bool, true, false, ◌||◌}
use lib.IntN.{ℤ}
use Rattle.domain_meaning.specs.Conditions.{Cond}
use Rattle.domain_meaning.specs.Actions.{Lasting, moment, rule}
use Rattle.domain_prepared_meaning.specs.Preparing.{singles, test, lasts, goal_of}
use Rattle.happening_meaning.specs.State.{State, Grounds}
use Rattle.happening_meaning.specs.Truths.{truth_of}
use Rattle.happening_meaning.specs.Writes.{some}
use Rattle.happening_meaning.specs.Happening.{Step, Point, line_of, objects_of, conditions_of, effects_of, rule_of, unless, each, judged, lasting}
use Rattle.happening_meaning.specs.Happening.{tested, marks, apart, rule_reads, reads_fact, reads_number, reads, interfere, clear, pairs, Made}
use Rattle.happening_meaning.specs.Happening.{on_made, change_all, change_points, stays, all_marks, allowed, happening, spans, spanning, no_objects, reached}
use Rattle.happening_meaning.specs.declared.Mark.{Mark}
use Rattle.happening_meaning.specs.declared.Mark.TheVariants as M
use Rattle.happening_meaning.specs.declared.Outcome.{Outcome}
use Rattle.happening_meaning.specs.declared.Outcome.TheVariants.{Goal}
use Rattle.happening_prepared_laws.specs.Summed.{summed}
use Rattle.happening_prepared_laws.proofs.Conditions.{grounds, value_same, expr_reads_lem, conds_hold, single_truth, all_hold, all_read}
use Rattle.happening_prepared_laws.proofs.Effects.{made_same, marks_same, rights_read, change_all_lem}
use Rattle.happening_prepared_laws.proofs.Points.{Alike, Alikes, none, more, AlikeStep, AlikeSteps}

some_same : {A : Type 0} (f f' : A → Bool) (xs : List A) → ((x : A) → f x ≡ f' x) → some f xs ≡ some f' xs
unfolding some
some_same f f' [] h = refl
some_same f f' (x ∷ xs) h = ap₂ ◌||◌ (h x) (some_same f f' xs h)

-- with n objects, the first indexes of predicates (ps) and of functions (fs)
module _ (n : ℕ) (ps fs : List ℕ) where
  abbrev g : Grounds
  g = grounds n ps fs

  -- ---- steps 1 and 2

  module _ (s : State) {p q : Point} (h : Alike n ps fs p q) where
    lasting_same : (r : Lasting) → lasting summed s.numbers p (lasts n ps fs r) ≡ lasting g s.numbers q r
    unfolding lasting lasts
    lasting_same moment = refl
    lasting_same (rule e) = rw (h.line, h.duration, h.objects, value_same n ps fs (objects_of q) s.numbers e)

    tested_same : tested summed s p ≡ tested g s q
    unfolding tested
    tested_same = rw (h.rule, lasting_same (rule_of q), h.line, h.objects, h.conditions, all_hold n ps fs s (objects_of q) (conditions_of q))

  module _ {p q : Point} (h : Alike n ps fs p q) where
    point_marks : marks summed p ≡ marks g q
    point_marks = rw (h.objects, h.effects) (marks_same n ps fs (objects_of q) (effects_of q))

    apart_same : apart summed p ≡ apart g q
    unfolding apart
    apart_same = rw (h.line, point_marks)

    -- ---- step 3

    rule_reads_lem : (os : List ℕ) (x : ℕ) (r : Lasting) → rule_reads summed os x (lasts n ps fs r) ≡ rule_reads g os x r
    unfolding rule_reads lasts
    rule_reads_lem os x moment = refl
    rule_reads_lem os x (rule e) = expr_reads_lem n ps fs os x e

    reads_fact_lem : (x : ℕ) → reads_fact summed p x ≡ reads_fact g q x
    unfolding reads_fact
    reads_fact_lem x = rw (h.objects, h.conditions) (all_read n ps fs (objects_of q) false x (conditions_of q))

    reads_number_lem : (x : ℕ) → reads_number summed p x ≡ reads_number g q x
    unfolding reads_number
    reads_number_lem x =
        let os = objects_of q in
        rw (
          h.objects,
          h.conditions,
          h.rule,
          h.effects,
          all_read n ps fs os true x (conditions_of q),
          rule_reads_lem os x (rule_of q),
          rights_read n ps fs os x (effects_of q),
        )

    reads_same : (m : Mark) → reads summed p m ≡ reads g q m
    unfolding reads
    reads_same M.Nothing = refl
    reads_same (M.Fact a x) = reads_fact_lem x
    reads_same (M.Number a x) = reads_number_lem x

    -- ---- step 4

    changes_same : (old ns : List ℤ)
        → change_all summed old (line_of p) (objects_of p) ns (effects_of p) ≡ change_all g old (line_of q) (objects_of q) ns (effects_of q)
    changes_same old ns = rw (h.line, h.objects, h.effects) (change_all_lem n ps fs (objects_of q) old (line_of q) ns (effects_of q))

    stays_same : (ns : List ℤ) → stays summed ns p ≡ stays g ns q
    unfolding stays
    stays_same ns = rw (h.line, point_marks)

  interfere_same : {p p' q q' : Point} → Alike n ps fs p q → Alike n ps fs p' q' → interfere summed p p' ≡ interfere g q q'
  unfolding interfere
  interfere_same {p} {p'} {q} {q'} h k =
      rw (
        point_marks h,
        point_marks k,
        some_same (reads summed p) (reads g q) (marks g q') (reads_same h),
        some_same (reads summed p') (reads g q') (marks g q) (reads_same k),
      )

  clear_same : {p p' q q' : Point} → Alike n ps fs p q → Alike n ps fs p' q' → clear summed p p' ≡ clear g q q'
  unfolding clear
  clear_same h k = rw (interfere_same h k, h.line, k.line)

  -- ---- all points

  -- f of each
  each_same : {xs ys : List Point} (f f' : Point → Outcome) → ((p q : Point) → Alike n ps fs p q → f p ≡ f' q) → Alikes n ps fs xs ys
      → each f xs ≡ each f' ys
  unfolding each
  each_same f f' h none = refl
  each_same f f' h (more {p = p} {q = q} a as') = ap₂ unless (h p q a) (each_same f f' h as')

  pairs_same : {xs ys : List Point} → Alikes n ps fs xs ys → pairs summed xs ≡ pairs g ys
  unfolding pairs
  pairs_same none = refl
  pairs_same (more {p = p} {q = q} a as') = ap₂ unless (each_same (clear summed p) (clear g q) (λ x y b. clear_same a b) as') (pairs_same as')

  points_change : (old ns : List ℤ) {xs ys : List Point} → Alikes n ps fs xs ys → change_points summed old ns xs ≡ change_points g old ns ys
  unfolding change_points
  points_change old ns none = refl
  points_change old ns (more {p = p} {q = q} {xs = xs} {ys = ys} a as') =
      ap (λ (m : Made). on_made m (λ ms. change_points summed old ms xs)) (changes_same a old ns)
      ∙ made_same (change_all g old (line_of q) (objects_of q) ns (effects_of q)) (λ ms. change_points summed old ms xs) (λ ms. change_points g old ms ys)
      (λ ms. points_change old ms as')

  all_marks_lem : {xs ys : List Point} → Alikes n ps fs xs ys → all_marks summed xs ≡ all_marks g ys
  unfolding all_marks
  all_marks_lem none = refl
  all_marks_lem (more a as') = ap₂ ◌++◌ (point_marks a) (all_marks_lem as')

  module _ (s : State) {xs ys : List Point} (h : Alikes n ps fs xs ys) where
    allowed_same : allowed summed s xs ≡ allowed g s ys
    unfolding allowed
    allowed_same =
        ap₂ unless (each_same (tested summed s) (tested g s) (λ x y a. tested_same s a) h)
        (ap₂ unless (each_same (apart summed) (apart g) (λ x y a. apart_same a) h) (pairs_same h))

    -- prepared points happen as the points do
    pub happening_same : happening summed s xs ≡ happening g s ys
    unfolding happening
    happening_same =
        let ns = s.numbers in
        let m = change_points g ns ns ys in
        rw (
          allowed_same,
          points_change ns ns h,
          each_same (stays summed m.numbers) (stays g m.numbers) (λ x y a. stays_same a m.numbers) h,
          all_marks_lem h,
        )

  -- ---- step 5, and the goal

  spans_same : (s : State) {x y : Step} → AlikeStep n ps fs x y → spans summed s x ≡ spans g s y
  unfolding spans
  spans_same s {x} {y} h = rw (h.line, h.objects, h.during, all_hold n ps fs s y.objects _)

  pub spanning_same : (s : State) {xs ys : List Step} → AlikeSteps n ps fs xs ys → spanning summed s xs ≡ spanning g s ys
  unfolding spanning each
  spanning_same s none = refl
  spanning_same s (more a as') = ap₂ unless (spans_same s a) (spanning_same s as')

  pub reached_same : (c : Cond) (s : State) → reached summed (goal_of n ps fs c) s ≡ reached g c s
  unfolding reached goal_of truth_of
  reached_same c s =
      ap (judged Goal 0) (conds_hold summed s no_objects (map (test n ps fs) (singles c)) ∙ single_truth n ps fs s no_objects c)
