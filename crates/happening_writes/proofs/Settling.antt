-- Two tables of numbers that differ only where effects write: storing what the one has at those places makes the other equal to it. Assumes nothing.
use mathlib.Core.Path.{◌≡◌, refl, sym, ap, subst, ◌∙◌}
use mathlib.Core.List.{List, [], ◌∷◌, ◌++◌, append_assoc}
use mathlib.Core.Bool.{Bool, true, false, ◌||◌, or_assoc}
use Prim.Native.Nat.{ℕ, zero, suc}
use native.Mathlib.Omega.{arith}
use lib.Dec.{eqb}
use lib.IntN.{ℤ}
use lib.ListN.{length, get_or, set, length-set}
use lib.Seq.{get_or-set_other}
use borrow.Author.Tests.{eqb-true, eqb-false}
use Rattle.base_laws.proofs.Splits.{or_left, either}
use Rattle.domain_meaning.specs.Effects.{Change, assign, raise, lower, Effect, becomes, changes}
use Rattle.domain_meaning.specs.First.{undefined}
use Rattle.happening_meaning.specs.State.{Grounds, number_at, number_of}
use Rattle.happening_meaning.specs.Truths.{value_of}
use Rattle.happening_meaning.specs.Writes.{some, mark_of, marks_of}
use Rattle.happening_meaning.specs.Happening.{Point, line_of, objects_of, effects_of, marks, all_marks, made, is_done, on_needed, needed, new_number, set_number}
use Rattle.happening_meaning.specs.Happening.{change_one, change_all, change_points, Made}
use Rattle.happening_meaning.specs.declared.Value.{Value}
use Rattle.happening_meaning.specs.declared.Value.TheVariants as Is
use Rattle.happening_meaning.specs.declared.Mark.{Mark}
use Rattle.happening_meaning.specs.declared.Mark.TheVariants.{Nothing, Fact, Number}
use Rattle.happening_meaning.specs.declared.Outcome.TheVariants.{Done}
use Rattle.happening_writes.specs.Changing.{settle_one, settle_all}

pub settle_append : (source target : List ℤ) (ms ks : List Mark) → settle_all source target (ms ++ ks) ≡ settle_all source (settle_all source target ms) ks
unfolding settle_all
settle_append source target [] ks = refl
settle_append source target (m ∷ ms) ks = settle_append source (settle_one source target m) ms ks

-- ---- equal but for what marks name

unfoldable pub names : ℕ → Mark → Bool
names i Nothing = false
names i (Fact a x) = false
names i (Number a x) = eqb i x

abbrev pub Except : List Mark → List ℤ → List ℤ → Type 0
Except ms a b = (length a ≡ length b) × ((i : ℕ) → some (names i) ms ≡ false → number_at a i ≡ number_at b i)

pub except_same : (a : List ℤ) → Except [] a a
except_same a = (refl, λ i h. refl)

pub except_turn : (ms : List Mark) (a b : List ℤ) → Except ms a b → Except ms b a
except_turn ms a b x = (sym x.0, λ i h. sym (x.1 i h))

pub some_append : (f : Mark → Bool) (ms ks : List Mark) → some f (ms ++ ks) ≡ (some f ms || some f ks)
unfolding some
some_append f [] ks = refl
some_append f (m ∷ ms) ks = ap (λ (t : Bool). f m || t) (some_append f ms ks) ∙ sym (or_assoc (f m) (some f ms) (some f ks))

pub except_more : (ms ks : List Mark) (a b : List ℤ) → Except ms a b → Except (ms ++ ks) a b
except_more ms ks a b x = (x.0, λ i h. x.1 i (or_left (some (names i) ms) (some (names i) ks) (sym (some_append (names i) ms ks) ∙ h)))

one_more : (t u : Bool) → (t || (u || false)) ≡ false → u ≡ false
one_more true true e = e
one_more true false e = refl
one_more false true e = e
one_more false false e = refl

except_set : (ms : List Mark) (a b : List ℤ) (t : Bool) (x : ℕ) (y : ℤ) → Except ms a b → Except (ms ++ Number t x ∷ []) a (set b x y)
unfolding some names number_at
except_set ms a b t x y h = (
  h.0 ∙ sym (length-set b x y),
  λ i k. let q = sym (some_append (names i) ms (Number t x ∷ [])) ∙ k in
      h.1 i (or_left (some (names i) ms) (eqb i x || false) q)
      ∙ sym (get_or-set_other b x i y undefined (eqb-false i x (one_more (some (names i) ms) (eqb i x) q))),
)

except_needed : (ms : List Mark) (a b : List ℤ) (l : ℕ) (t : Bool) (how : Change) (x : ℕ) (v w : Value) → Except ms a b
    → Except (ms ++ Number t x ∷ []) a (on_needed l b v (λ z. on_needed l b w (λ _. made Done (set_number how b x z)))).numbers
except_needed ms a b l t how x (Is.Number z) (Is.Number u) h = except_set ms a b t x (new_number how (number_at b x) z) h
except_needed ms a b l t how x (Is.Number z) Is.Undefined h = except_more ms (Number t x ∷ []) a b h
except_needed ms a b l t how x (Is.Number z) Is.Range h = except_more ms (Number t x ∷ []) a b h
except_needed ms a b l t how x Is.Undefined w h = except_more ms (Number t x ∷ []) a b h
except_needed ms a b l t how x Is.Range w h = except_more ms (Number t x ∷ []) a b h

-- ---- after effects

module _ (g : Grounds) (old a : List ℤ) where
  except_one : (l : ℕ) (os : List ℕ) (ms : List Mark) (b : List ℤ) (e : Effect) → Except ms a b
      → Except (ms ++ mark_of g os e ∷ []) a (change_one g old l os b e).numbers
  unfolding change_one mark_of
  except_one l os ms b (becomes yes' r) h = except_more ms (mark_of g os (becomes yes' r) ∷ []) a b h
  except_one l os ms b (changes assign r e) h = except_needed ms a b l true assign (number_of g os r) (value_of g old os e)
      (needed assign old (number_of g os r)) h
  except_one l os ms b (changes raise r e) h = except_needed ms a b l false raise (number_of g os r) (value_of g old os e) (needed raise old (number_of g os r)) h
  except_one l os ms b (changes lower r e) h = except_needed ms a b l false lower (number_of g os r) (value_of g old os e) (needed lower old (number_of g os r)) h

  pub except_change : (l : ℕ) (os : List ℕ) (ms : List Mark) (b : List ℤ) (es : List Effect) → Except ms a b
      → Except (ms ++ marks_of g os es) a (change_all g old l os b es).numbers
  unfolding change_all
  except_change l os ms b [] h = except_more ms [] a b h
  except_change l os ms b (e ∷ es) h =
      subst (λ (ks : List Mark). Except ks a (change_all g old l os b (e ∷ es)).numbers) (append_assoc ms (mark_of g os e ∷ []) (marks_of g os es))
      (either (λ (x : Made). Except ((ms ++ mark_of g os e ∷ []) ++ marks_of g os es) a x.numbers) (is_done (change_one g old l os b e).outcome)
      (except_change l os (ms ++ mark_of g os e ∷ []) (change_one g old l os b e).numbers es (except_one l os ms b e h))
      (except_more (ms ++ mark_of g os e ∷ []) (marks_of g os es) a (change_one g old l os b e).numbers (except_one l os ms b e h)))

  pub except_points : (ms : List Mark) (b : List ℤ) (ps : List Point) → Except ms a b → Except (ms ++ all_marks g ps) a (change_points g old b ps).numbers
  unfolding change_points all_marks
  except_points ms b [] h = except_more ms [] a b h
  except_points ms b (p ∷ ps) h =
      let first = change_all g old (line_of p) (objects_of p) b (effects_of p) in
      let so = except_change (line_of p) (objects_of p) ms b (effects_of p) h in
      subst (λ (ks : List Mark). Except ks a (change_points g old b (p ∷ ps)).numbers) (append_assoc ms (marks g p) (all_marks g ps))
      (either (λ (x : Made). Except ((ms ++ marks g p) ++ all_marks g ps) a x.numbers) (is_done first.outcome)
      (except_points (ms ++ marks g p) first.numbers ps so)
      (except_more (ms ++ marks g p) (all_marks g ps) a first.numbers so))

-- ---- made equal again

equal : (a b : List ℤ) → length a ≡ length b → ((i : ℕ) → get_or a i undefined ≡ get_or b i undefined) → b ≡ a
equal [] [] e h = refl
equal [] (y ∷ b) e h = absurd (let z : ⊥ = omega arith in z)
equal (x ∷ a) [] e h = absurd (let z : ⊥ = omega arith in z)
equal (x ∷ a) (y ∷ b) e h = let r : b ≡ a = equal a b (omega arith) (λ i. h (suc i)) in let q : y ≡ x = sym (h 0) in cc

stored_there : (a b : List ℤ) (x : ℕ) → length a ≡ length b → get_or a x undefined ≡ get_or (set b x (get_or a x undefined)) x undefined
stored_there [] [] x e = refl
stored_there [] (y ∷ b) x e = absurd (let z : ⊥ = omega arith in z)
stored_there (z ∷ a) [] x e = absurd (let z : ⊥ = omega arith in z)
stored_there (z ∷ a) (y ∷ b) zero e = refl
stored_there (z ∷ a) (y ∷ b) (suc x) e = stored_there a b x (omega arith)

settle_number : (ms : List Mark) (a b : List ℤ) (t : Bool) (x : ℕ) → Except (Number t x ∷ ms) a b → Except ms a (set b x (number_at a x))
unfolding some names number_at
settle_number ms a b t x h = (h.0 ∙ sym (length-set b x (get_or a x undefined)), λ i k. go i k (eqb i x) refl)
  where
    go : (i : ℕ) → some (names i) ms ≡ false → (d : Bool) → eqb i x ≡ d → get_or a i undefined ≡ get_or (set b x (get_or a x undefined)) i undefined
    go i k true q = let e = eqb-true i x q in subst (λ (j : ℕ). get_or a j undefined ≡ get_or (set b x (get_or a x undefined)) j undefined) (sym e)
        (stored_there a b x h.0)
    go i k false q = h.1 i (rw q k) ∙ sym (get_or-set_other b x i (get_or a x undefined) undefined (eqb-false i x q))

pub except_settle : (ms : List Mark) (a b : List ℤ) → Except ms a b → settle_all a b ms ≡ a
unfolding settle_all settle_one some names number_at
except_settle [] a b h = equal a b h.0 (λ i. h.1 i refl)
except_settle (Nothing ∷ ms) a b h = except_settle ms a b h
except_settle (Fact t x ∷ ms) a b h = except_settle ms a b h
except_settle (Number t x ∷ ms) a b h = except_settle ms a (set b x (get_or a x undefined)) (settle_number ms a b t x h)

-- all points of a happening, wherever changing stopped
module _ (g : Grounds) (old : List ℤ) (ps : List Point) where
  pub settled_old : settle_all old (change_points g old old ps).numbers (all_marks g ps) ≡ old
  settled_old = except_settle (all_marks g ps) old (change_points g old old ps).numbers (except_points g old old [] old ps (except_same old))

  pub settled_new : settle_all (change_points g old old ps).numbers old (all_marks g ps) ≡ (change_points g old old ps).numbers
  settled_new =
      except_settle (all_marks g ps) (change_points g old old ps).numbers old
      (except_turn (all_marks g ps) old (change_points g old old ps).numbers (except_points g old old [] old ps (except_same old)))
