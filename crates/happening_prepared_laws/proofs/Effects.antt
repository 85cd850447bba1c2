-- Prepared effects read, mark and change what those that they are made of do. Assumes nothing.
use Prim.Native.Nat.{ℕ}
use mathlib.Core.Path.{◌≡◌, refl, ap, ap₂, ◌∙◌}
use mathlib.Core.List.{List, [], ◌∷◌, map}
use mathlib.Core.Bool.{true, false, cond, ◌||◌}
use lib.IntN.{ℤ}
use Rattle.domain_meaning.specs.Effects.{assign, raise, lower, Effect, becomes, changes}
use Rattle.domain_prepared_meaning.specs.Preparing.{effect}
use Rattle.happening_meaning.specs.Happening.{is_done, Made, made, on_made, on_needed, needed, set_number, change_one, change_all}
use Rattle.happening_meaning.specs.Writes.{some, right_reads, mark_of, marks_of}
use Rattle.happening_meaning.specs.declared.Value.{Value}
use Rattle.happening_meaning.specs.declared.Mark.TheVariants.{Fact, Number}
use Rattle.happening_meaning.specs.declared.Outcome.TheVariants.{Done}
use Rattle.happening_prepared_laws.specs.Summed.{summed}
use Rattle.happening_prepared_laws.proofs.Conditions.{grounds, fact_same, number_same, value_same, expr_reads_lem}

-- the next numbers by two functions that are the same
pub made_same : (m : Made) (f f' : List ℤ → Made) → ((ns : List ℤ) → f ns ≡ f' ns) → on_made m f ≡ on_made m f'
made_same m f f' h = ap (λ (k : Made). cond (is_done m.outcome) k m) (h m.numbers)

-- with n objects, the first indexes of predicates (ps) and of functions (fs)
module _ (n : ℕ) (ps fs os : List ℕ) where
  mark_same : (e : Effect) → mark_of summed os (effect n ps fs e) ≡ mark_of (grounds n ps fs) os e
  unfolding mark_of effect
  mark_same (becomes yes' r) = ap (Fact yes') (fact_same n ps fs os r)
  mark_same (changes assign r e) = ap (Number true) (number_same n ps fs os r)
  mark_same (changes raise r e) = ap (Number false) (number_same n ps fs os r)
  mark_same (changes lower r e) = ap (Number false) (number_same n ps fs os r)

  pub marks_same : (es : List Effect) → marks_of summed os (map (effect n ps fs) es) ≡ marks_of (grounds n ps fs) os es
  marks_same [] = refl
  marks_same (e ∷ es) = ap₂ ◌∷◌ (mark_same e) (marks_same es)

  right_reads_lem : (x : ℕ) (e : Effect) → right_reads summed os x (effect n ps fs e) ≡ right_reads (grounds n ps fs) os x e
  unfolding right_reads effect
  right_reads_lem x (becomes yes' r) = refl
  right_reads_lem x (changes how r e) = expr_reads_lem n ps fs os x e

  pub rights_read : (x : ℕ) (es : List Effect)
      → some (right_reads summed os x) (map (effect n ps fs) es) ≡ some (right_reads (grounds n ps fs) os x) es
  unfolding some
  rights_read x [] = refl
  rights_read x (e ∷ es) = ap₂ ◌||◌ (right_reads_lem x e) (rights_read x es)

  module _ (old : List ℤ) (l : ℕ) where
    change_one_lem : (ns : List ℤ) (e : Effect) → change_one summed old l os ns (effect n ps fs e) ≡ change_one (grounds n ps fs) old l os ns e
    unfolding change_one effect
    change_one_lem ns (becomes yes' r) = refl
    change_one_lem ns (changes how r e) =
        ap₂ (λ (v : Value) (i : ℕ). on_needed l ns v (λ z. on_needed l ns (needed how old i) (λ _. made Done (set_number how ns i z))))
        (value_same n ps fs os old e) (number_same n ps fs os r)

    pub change_all_lem : (ns : List ℤ) (es : List Effect)
        → change_all summed old l os ns (map (effect n ps fs) es) ≡ change_all (grounds n ps fs) old l os ns es
    unfolding change_all
    change_all_lem ns [] = refl
    change_all_lem ns (e ∷ es) =
        ap (λ (m : Made). on_made m (λ ms. change_all summed old l os ms (map (effect n ps fs) es))) (change_one_lem ns e)
        ∙ made_same (change_one (grounds n ps fs) old l os ns e) (λ ms. change_all summed old l os ms (map (effect n ps fs) es))
        (λ ms. change_all (grounds n ps fs) old l os ms es) (λ ms. change_all_lem ms es)
