-- The walks over a list's effects, one turn: what the row at a place says of what is written from there on, and so of the walk. Assumes nothing.
use mathlib.Core.Path.{◌≡◌, refl, sym, ap, ◌∙◌}
use mathlib.Core.List.{List, [], ◌∷◌}
use mathlib.Core.Bool.{Bool, true, false, ◌||◌}
use Prim.Native.Nat.{ℕ, ◌+◌, ◌<◌}
use native.Mathlib.Omega.{arith}
use lib.IntN.{ℤ}
use lib.ListN.{length}
use Rattle.domain_meaning.specs.Effects.{Change, assign, raise, lower, changes}
use Rattle.domain_prepared_meaning.specs.Forms.{ref_by}
use Rattle.domain_prepared_meaning.specs.Decode.{form_at, expression_at, effects_at}
use Rattle.happening_meaning.specs.State.{number_of}
use Rattle.happening_meaning.specs.Truths.{value_of}
use Rattle.happening_meaning.specs.Writes.{some, collide, mark_of, marks_of, right_reads}
use Rattle.happening_meaning.specs.Happening.{made, is_done, on_made, Made, change_one, change_all}
use Rattle.happening_meaning.specs.declared.Mark.{Mark}
use Rattle.happening_meaning.specs.declared.Mark.TheVariants.{Nothing, Fact, Number}
use Rattle.happening_meaning.specs.declared.Outcome.{Outcome}
use Rattle.happening_meaning.specs.declared.Outcome.TheVariants.{Done, Duration, Condition, Undefined, Range, Itself, Conflict, Invariant, Goal}
use Rattle.happening_amounts.specs.Ranged.{Ranged}
use Rattle.happening_expressions.specs.Evaluated.{valued_of, expr_found}
use Rattle.happening_forms.specs.declared.Taken.{Taken}
use Rattle.happening_meaning.specs.declared.Value.{Value}
use Rattle.happening_expressions.proofs.Ranging.{value_ranged}
use Rattle.happening_forms.specs.Summed.{summed}
use Rattle.happening_forms.proofs.Placing.{fact_by, number_by}
use Rattle.happening_writes.specs.declared.rows.How.{How}
use Rattle.happening_writes.specs.Rows.{how_of, assigns, placed, marks_at}
use Rattle.happening_writes.specs.Changing.{Room, change_in, change_by}
use Rattle.happening_writes.proofs.Following.{FactAt, NumberAt}
use Rattle.happening_writes.proofs.Bounds.{room_less, room_step}
use Rattle.happening_writes.proofs.Changed.{change_same}

-- ---- what is written from a place on

pub marks_end : (rows os : List ℕ) (at : ℕ) → effects_at rows at ≡ [] → marks_at rows os at ≡ []
marks_end rows os at e = ap (marks_of summed os) e

pub marks_fact : (rows os : List ℕ) {at : ℕ} {a : Bool} {v n : ℕ} → FactAt rows at a v n → {x : ℕ} → x ≡ placed rows os at v
    → marks_at rows os at ≡ Fact a x ∷ marks_at rows os n
unfolding mark_of
marks_fact rows os {at} {a} {v} f e = ap (marks_of summed os) f.effects ∙ rw (e, fact_by os (form_at rows (at + 1) v))

pub marks_number : (rows os : List ℕ) {at : ℕ} {h : How} {v r : ℕ} → NumberAt rows at h v r → {x : ℕ} → x ≡ placed rows os at v → {n : ℕ}
    → n ≡ (expression_at rows r).next → {a : Bool} → a ≡ assigns h → marks_at rows os at ≡ Number a x ∷ marks_at rows os n
unfolding mark_of
marks_number rows os {at} {h} {v} {r} f e q k =
    ap (marks_of summed os) f.effects ∙ by_change f.change ∙ rw (e, q, k, number_by os (form_at rows (at + 1) v), f.called)
  where
    by_change : (c : Change)
        → marks_of summed os (changes c (ref_by (form_at rows (at + 1) v)) (expression_at rows r).tree ∷ effects_at rows (expression_at rows r).next)
        ≡ Number (assigns (how_of c)) (number_of summed os (ref_by (form_at rows (at + 1) v))) ∷ marks_at rows os (expression_at rows r).next
    by_change assign = refl
    by_change raise = refl
    by_change lower = refl

-- ---- a search: none is left, or the rest decides

module _ {A : Type 0} (f : A → Bool) {ks : List A} where
  pub some_none : ks ≡ [] → false ≡ some f ks
  unfolding some
  some_none e = rw e

  pub some_pass : {m : A} {ms : List A} → ks ≡ m ∷ ms → f m ≡ false → some f ms ≡ some f ks
  unfolding some
  some_pass e h = rw (e, h)

-- what is written of a fact collides with nothing
pub collide_none : {m : Mark} (ns : List Mark) → ((a : Bool) (x : ℕ) → m ≡ Number a x → ⊥) → false ≡ some (collide m) ns
unfolding some collide
collide_none {m = Nothing} [] h = refl
collide_none {m = Nothing} (n ∷ ns) h = collide_none {m = Nothing} ns h
collide_none {m = Fact a x} [] h = refl
collide_none {m = Fact a x} (n ∷ ns) h = collide_none {m = Fact a x} ns h
collide_none {m = Number a x} ns h = absurd (h a x refl)

-- ---- what right sides read

module _ (rows os : List ℕ) (x at : ℕ) where
  module _ {h : How} {v r : ℕ} (f : NumberAt rows at h v r) {e : Taken Bool} (q : e ≡ expr_found summed os x (expression_at rows r)) where
    read_one : some (right_reads summed os x) (effects_at rows at) ≡ (e.what || some (right_reads summed os x) (effects_at rows e.next))
    unfolding some right_reads expr_found
    read_one = rw (f.effects, q)

    pub rights_hit : e.what ≡ true → true ≡ some (right_reads summed os x) (effects_at rows at)
    rights_hit h = sym (read_one ∙ rw h)

    pub rights_on : e.what ≡ false → some (right_reads summed os x) (effects_at rows e.next) ≡ some (right_reads summed os x) (effects_at rows at)
    rights_on h = sym (read_one ∙ rw h)

    pub rights_further : at < e.next
    unfolding expr_found
    rights_further = rw q f.further

-- ---- the effects on numbers

pub not_done : (o : Outcome) → (o ≡ Done → ⊥) → is_done o ≡ false
not_done Done h = absurd (h refl)
not_done (Duration l) h = refl
not_done (Condition l) h = refl
not_done (Undefined l) h = refl
not_done (Range l) h = refl
not_done (Itself l) h = refl
not_done (Conflict l k) h = refl
not_done (Invariant l) h = refl
not_done Goal h = refl

module _ (rows os : List ℕ) (old : List ℤ) (l at : ℕ) where
  pub changes_end : (ns : List ℤ) → effects_at rows at ≡ [] → made Done ns ≡ change_all summed old l os ns (effects_at rows at)
  unfolding change_all
  changes_end ns e = rw e

  module _ {a : Bool} {v n : ℕ} (f : FactAt rows at a v n) (ns : List ℤ) where
    pub changes_fact : change_all summed old l os ns (effects_at rows n) ≡ change_all summed old l os ns (effects_at rows at)
    unfolding change_all change_one
    changes_fact = rw f.effects

    pub room_fact : Room (length (effects_at rows at)) old ns → Room (length (effects_at rows n)) old ns
    room_fact r = room_less (length (effects_at rows at)) (length (effects_at rows n)) old ns (rw f.effects (omega arith)) r

  module _ {h : How} {v r : ℕ} (f : NumberAt rows at h v r) {x : ℕ} (ex : x ≡ placed rows os at v) {e : Taken Value}
      (ee : e ≡ valued_of summed old os (expression_at rows r)) where
    value_so : e.what ≡ value_of summed old os (expression_at rows r).tree
    unfolding valued_of
    value_so = ap (λ (w : Taken Value). w.what) ee

    next_so : e.next ≡ (expression_at rows r).next
    unfolding valued_of
    next_so = ap (λ (w : Taken Value). w.next) ee

    pub further_so : at < e.next
    further_so = rw next_so f.further

    pub ranged_so : Ranged e.what
    ranged_so = rw value_so (value_ranged summed old os (expression_at rows r).tree)

    module _ (ns : List ℤ) {o : Outcome} {ms : List ℤ} (q : made o ms ≡ change_by l old ns (change_in h) x e.what) where
      by_one : change_one summed old l os ns (changes f.change (ref_by (form_at rows (at + 1) v)) (expression_at rows r).tree) ≡ made o ms
      unfolding change_one change_by
      by_one =
          ap (λ (i : ℕ). change_by l old ns f.change i (value_of summed old os (expression_at rows r).tree)) (number_by os (form_at rows (at + 1) v) ∙ sym ex)
          ∙ ap (change_by l old ns f.change x) (sym value_so)
          ∙ ap (λ (c : Change). change_by l old ns c x e.what) (sym (change_same f.change) ∙ ap change_in f.called)
          ∙ sym q

      one_change : change_all summed old l os ns (effects_at rows at) ≡ on_made (made o ms) (λ ks. change_all summed old l os ks (effects_at rows e.next))
      unfolding change_all
      one_change = rw (f.effects, by_one, next_so)

      pub changes_fail : (o ≡ Done → ⊥) → made o ms ≡ change_all summed old l os ns (effects_at rows at)
      changes_fail d = sym (one_change ∙ rw (not_done o d))

      pub changes_number : o ≡ Done → change_all summed old l os ms (effects_at rows e.next) ≡ change_all summed old l os ns (effects_at rows at)
      changes_number d = sym (one_change ∙ rw d)

      pub room_number : Room (length (effects_at rows at)) old ns → Room (length (effects_at rows e.next)) old ms
      room_number t =
          rw (ap (λ (m : Made). m.numbers) q, next_so)
          (room_step (length (effects_at rows (expression_at rows r).next)) l old ns (change_in h) x e.what
          ranged_so (rw f.effects at t))
