-- The facts after a happening: "(old without deleted) with added" is, fact by fact, what the definitions say, and only that. Assumes nothing.
use mathlib.Core.Bool.{Bool, true, false, true≢false, false≢true}
use mathlib.Core.List.{List, [], ◌∷◌}
use mathlib.Core.Logic.{◌⊎◌, inl, inr}
use mathlib.Core.Path.{◌≡◌, refl, sym, ap, subst, ◌∙◌}
use Prim.Native.Nat.{ℕ, ◌<◌}
use native.Mathlib.Omega.{arith}
use lib.Dec.{eqb}
use lib.IntN.{ℤ}
use lib.ListN.{length, get_or, set, length-set}
use lib.Seq.{get_or-set_same, get_or-set_other, ext_get_or}
use borrow.Author.Tests.{eqb-true, eqb-false}
use Rattle.happening_meaning.specs.State.{State, Grounds}
use Rattle.happening_meaning.specs.Happening.{without, with, each_mark, new_facts, Point, all_marks}
use Rattle.happening_meaning.specs.declared.Mark.{Mark}
use Rattle.happening_meaning.specs.declared.Mark.TheVariants.{Nothing, Fact, Number}
use Rattle.check_validity_meaning.specs.Lists.{◌∈◌}
use Rattle.check_validity_meaning.specs.Happens.{fact_at, NewFact}
use Rattle.check_validity_meaning.proofs.Marking.{index_of, adds, is_fact, all_makes, makes_all}

same_fact? : (b : Bool) (x : ℕ) (m : Mark) → (Fact b x ≡ m) ⊎ (¬ (Fact b x ≡ m))
same_fact? b x Nothing = inr (λ e. true≢false (ap is_fact e))
same_fact? b x (Number a y) = inr (λ e. true≢false (ap is_fact e))
same_fact? b x (Fact a y) = go b a (eqb x y) refl
  where
    go : (c d k : Bool) → eqb x y ≡ k → (Fact c x ≡ Fact d y) ⊎ (¬ (Fact c x ≡ Fact d y))
    go true true true e = inl (ap (Fact true) (eqb-true x y e))
    go false false true e = inl (ap (Fact false) (eqb-true x y e))
    go true false true e = inr (λ q. true≢false (ap adds q))
    go false true true e = inr (λ q. false≢true (ap adds q))
    go true true false e = inr (λ q. eqb-false x y e (ap index_of q))
    go false false false e = inr (λ q. eqb-false x y e (ap index_of q))
    go true false false e = inr (λ q. eqb-false x y e (ap index_of q))
    go false true false e = inr (λ q. eqb-false x y e (ap index_of q))

pub in? : (b : Bool) (x : ℕ) (ms : List Mark) → (Fact b x ∈ ms) ⊎ (¬ (Fact b x ∈ ms))
in? b x [] = inr (λ i. i)
in? b x (m ∷ ms) = go (same_fact? b x m) (in? b x ms)
  where
    go : (Fact b x ≡ m) ⊎ (¬ (Fact b x ≡ m)) → (Fact b x ∈ ms) ⊎ (¬ (Fact b x ∈ ms)) → (Fact b x ∈ (m ∷ ms)) ⊎ (¬ (Fact b x ∈ (m ∷ ms)))
    go (inl e) i = inl (inl e)
    go (inr n) (inl i) = inl (inr i)
    go (inr n) (inr k) = inr (elim [ inl e ↦ n e | inr i ↦ k i ])

-- ---- a pass that puts v wherever a mark is `Fact b`

pub record Puts (f : List ℕ → Mark → List ℕ) (b : Bool) (v : ℕ) : Type 0 where
  pub hit : (fs : List ℕ) (x : ℕ) → f fs (Fact b x) ≡ set fs x v
  pub miss : (fs : List ℕ) (x : ℕ) (m : Mark) → ¬ (Fact b x ≡ m) → get_or (f fs m) x 0 ≡ get_or fs x 0
  pub keeps : (fs : List ℕ) (m : Mark) → length (f fs m) ≡ length fs

without_puts : Puts without false 0
unfolding without
without_puts = record { hit = λ fs x. refl; miss = miss; keeps = keeps }
  where
    miss : (fs : List ℕ) (x : ℕ) (m : Mark) → ¬ (Fact false x ≡ m) → get_or (without fs m) x 0 ≡ get_or fs x 0
    miss fs x Nothing n = refl
    miss fs x (Number a y) n = refl
    miss fs x (Fact true y) n = refl
    miss fs x (Fact false y) n = get_or-set_other fs y x 0 0 (λ e. n (ap (Fact false) e))

    keeps : (fs : List ℕ) (m : Mark) → length (without fs m) ≡ length fs
    keeps fs Nothing = refl
    keeps fs (Number a y) = refl
    keeps fs (Fact true y) = refl
    keeps fs (Fact false y) = length-set fs y 0

with_puts : Puts with true 1
unfolding with
with_puts = record { hit = λ fs x. refl; miss = miss; keeps = keeps }
  where
    miss : (fs : List ℕ) (x : ℕ) (m : Mark) → ¬ (Fact true x ≡ m) → get_or (with fs m) x 0 ≡ get_or fs x 0
    miss fs x Nothing n = refl
    miss fs x (Number a y) n = refl
    miss fs x (Fact false y) n = refl
    miss fs x (Fact true y) n = get_or-set_other fs y x 1 0 (λ e. n (ap (Fact true) e))

    keeps : (fs : List ℕ) (m : Mark) → length (with fs m) ≡ length fs
    keeps fs Nothing = refl
    keeps fs (Number a y) = refl
    keeps fs (Fact false y) = refl
    keeps fs (Fact true y) = length-set fs y 1

module _ {f : List ℕ → Mark → List ℕ} {b : Bool} {v : ℕ} (P : Puts f b v) where
  pass_length : (fs : List ℕ) (ms : List Mark) → length (each_mark f fs ms) ≡ length fs
  unfolding each_mark
  pass_length fs [] = refl
  pass_length fs (m ∷ ms) = pass_length (f fs m) ms ∙ P.keeps fs m

  pass_kept : (x : ℕ) (fs : List ℕ) (ms : List Mark) → ¬ (Fact b x ∈ ms) → get_or (each_mark f fs ms) x 0 ≡ get_or fs x 0
  unfolding each_mark
  pass_kept x fs [] n = refl
  pass_kept x fs (m ∷ ms) n = pass_kept x (f fs m) ms (λ i. n (inr i)) ∙ P.miss fs x m (λ e. n (inl e))

  put_there : (x : ℕ) (fs : List ℕ) (m : Mark) → x < length fs → Fact b x ≡ m → get_or (f fs m) x 0 ≡ v
  put_there x fs m h e = subst (λ (k : Mark). get_or (f fs k) x 0 ≡ v) e (ap (λ (l : List ℕ). get_or l x 0) (P.hit fs x) ∙ get_or-set_same fs x v 0 h)

  pass_hit : (x : ℕ) (fs : List ℕ) (ms : List Mark) → x < length fs → Fact b x ∈ ms → get_or (each_mark f fs ms) x 0 ≡ v
  unfolding each_mark
  pass_hit x fs [] h i = absurd i
  pass_hit x fs (m ∷ ms) h i = go (in? b x ms) i (pass_hit x (f fs m) ms (subst (λ (n : ℕ). x < n) (sym (P.keeps fs m)) h))
    where
      go : (Fact b x ∈ ms) ⊎ (¬ (Fact b x ∈ ms)) → (Fact b x ≡ m) ⊎ (Fact b x ∈ ms) → (Fact b x ∈ ms → get_or (each_mark f (f fs m) ms) x 0 ≡ v)
          → get_or (each_mark f (f fs m) ms) x 0 ≡ v
      go (inl j) i r = r j
      go (inr n) (inl e) r = pass_kept x (f fs m) ms n ∙ put_there x fs m h e
      go (inr n) (inr j) r = r j

-- ---- both passes

module _ (g : Grounds) (ps : List Point) where
  pub length_facts : (fs : List ℕ) → length (new_facts g fs ps) ≡ length fs
  length_facts fs = pass_length with_puts (each_mark without fs (all_marks g ps)) (all_marks g ps) ∙ pass_length without_puts fs (all_marks g ps)

  pub new_facts_lem : (s : State) (ns : List ℤ) (x : ℕ) → x < length s.facts
      → NewFact g s ps (record { facts = new_facts g s.facts ps; numbers = ns }) x
  new_facts_lem s ns x h =
      let ms = all_marks g ps in
      let fs = each_mark without s.facts ms in
      record {
        added = λ i. pass_hit with_puts x fs ms (subst (λ (n : ℕ). x < n) (sym (pass_length without_puts s.facts ms)) h) (makes_all g true x ps i);
        deleted = λ n i. pass_kept with_puts x fs ms (λ j. n (all_makes g true x ps j)) ∙ pass_hit without_puts x s.facts ms h (makes_all g false x ps i);
        kept = λ n k. pass_kept with_puts x fs ms (λ j. n (all_makes g true x ps j))
            ∙ pass_kept without_puts x s.facts ms (λ j. k (all_makes g false x ps j));
      }

one_fact : (g : Grounds) (ps : List Point) (x : ℕ) (s t u : State) → NewFact g s ps t x → NewFact g s ps u x → fact_at t x ≡ fact_at u x
one_fact g ps x s t u a b = go (in? true x (all_marks g ps)) (in? false x (all_marks g ps))
  where
    go : (Fact true x ∈ all_marks g ps) ⊎ (¬ (Fact true x ∈ all_marks g ps)) → (Fact false x ∈ all_marks g ps) ⊎ (¬ (Fact false x ∈ all_marks g ps))
        → fact_at t x ≡ fact_at u x
    go (inl i) d = let m = all_makes g true x ps i in a.added m ∙ sym (b.added m)
    go (inr n) (inl i) =
        let m = all_makes g false x ps i in
        a.deleted (λ h. n (makes_all g true x ps h)) m ∙ sym (b.deleted (λ h. n (makes_all g true x ps h)) m)
    go (inr n) (inr k) =
        a.kept (λ h. n (makes_all g true x ps h)) (λ h. k (makes_all g false x ps h))
        ∙ sym (b.kept (λ h. n (makes_all g true x ps h)) (λ h. k (makes_all g false x ps h)))

module _ (g : Grounds) (ps : List Point) where
  pub only_facts : (s t : State) → length t.facts ≡ length s.facts → ((x : ℕ) → x < length s.facts → NewFact g s ps t x)
      → t.facts ≡ new_facts g s.facts ps
  only_facts s t e n =
      ext_get_or 0 t.facts (new_facts g s.facts ps) (e ∙ sym (length_facts g ps s.facts))
      (λ x h. let k : x < length s.facts = omega (arith, h, e) in
      one_fact g ps x s t (record { facts = new_facts g s.facts ps; numbers = t.numbers }) (n x k) (new_facts_lem g ps s t.numbers x k))
