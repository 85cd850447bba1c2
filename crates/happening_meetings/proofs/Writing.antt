-- The walk over the effects of a list, one after the other. Assumes nothing.
use mathlib.Core.Path.{◌≡◌, refl, sym, ap, ◌∙◌}
use mathlib.Core.List.{List, [], ◌∷◌}
use mathlib.Core.Bool.{Bool, cond, ◌||◌}
use Prim.Native.Nat.{ℕ, ◌+◌, ◌<◌}
use Rattle.domain_meaning.specs.Effects.{Change, assign, raise, lower}
use Rattle.domain_prepared_meaning.specs.Forms.{ref_by}
use Rattle.domain_prepared_meaning.specs.Decode.{form_at, expression_at, effects_at}
use Rattle.happening_meaning.specs.State.{fact_of, number_of}
use Rattle.happening_forms.specs.Summed.{summed}
use Rattle.happening_forms.proofs.Placing.{fact_at_lem, number_at}
use Rattle.happening_writes.specs.declared.rows.How.{How}
use Rattle.happening_writes.specs.Rows.{how_of, assigns, placed}
use Rattle.happening_writes.proofs.Following.{FactAt, NumberAt}
use Rattle.happening_meetings.specs.declared.walks.Mode.{Mode}
use Rattle.happening_meetings.specs.Accesses.{Access, access, fact_cell, number_cell, changing, expr_accesses, effect_accesses, effects_accesses}
use Rattle.happening_meetings.specs.Marks.{after_one, met_one, Went}
use Rattle.happening_meetings.proofs.Going.{went_one, went_both, Onward, onward_end, onward_turn}
use Rattle.happening_meetings.proofs.Reading.{Walks}

changing_so : (c : Change) → changing c ≡ cond (assigns (how_of c)) 3 1
changing_so assign = refl
changing_so raise = refl
changing_so lower = refl

module _ (rows os : List ℕ) (at : ℕ) {mode : Mode} {f : Bool} {m l : List ℕ} {whole : List Access}
    (o : Onward mode f m (effects_accesses summed os (effects_at rows at)) l whole) where
  pub effects_over : effects_at rows at ≡ [] → Went mode l whole f m
  unfolding effects_accesses
  effects_over e = onward_end o (ap (effects_accesses summed os) e)

  module _ {x c kind : ℕ} {h : Bool} {k : List ℕ} (eh : h ≡ met_one mode m (access kind c)) (ek : k ≡ after_one mode m (access kind c)) where
    pub effects_fact : {a : Bool} {v next : ℕ} → FactAt rows at a v next → x ≡ placed rows os at v → c ≡ fact_cell x → kind ≡ cond a 1 2 → {b : Bool}
        → b ≡ (f || h)
        → Onward mode b k (effects_accesses summed os (effects_at rows next)) l whole
    unfolding effects_accesses effect_accesses
    effects_fact {a} {v} {next} fa ex ec ei q =
        let y : c ≡ fact_cell (fact_of summed os (ref_by (form_at rows (at + 1) v))) = ec ∙ ap fact_cell (fact_at_lem os (form_at rows (at + 1) v) ex) in
        let one : Access = access (cond a 1 2) (fact_cell (fact_of summed os (ref_by (form_at rows (at + 1) v)))) in
        let z : access kind c ≡ one = cc in
        onward_turn o {xs = one ∷ []} (ap (effects_accesses summed os) fa.effects)
        (went_one mode m one (eh ∙ ap (met_one mode m) z) (ek ∙ ap (after_one mode m) z)) q

    pub effects_number : {how : How} {v right : ℕ} → NumberAt rows at how v right → x ≡ placed rows os at v → c ≡ number_cell x → kind ≡ cond (assigns how) 3 1
        → {next : ℕ} {e d b : Bool} {n : List ℕ} → Walks os mode k (expression_at rows right) next e n → d ≡ (h || e) → b ≡ (f || d)
        → Onward mode b n (effects_accesses summed os (effects_at rows next)) l whole
    unfolding effects_accesses effect_accesses
    effects_number {how} {v} {right} na ex ec ei {next} {e} {d} {b} {n} w p q =
        let r = ref_by (form_at rows (at + 1) v) in
        let y : c ≡ number_cell (number_of summed os r) = ec ∙ ap number_cell (number_at os (form_at rows (at + 1) v) ex) in
        let one : Access = access (changing na.change) (number_cell (number_of summed os r)) in
        let s : kind ≡ changing na.change = ei ∙ ap (λ (j : How). cond (assigns j) 3 1) (sym na.called) ∙ sym (changing_so na.change) in
        let z : access kind c ≡ one = cc in
        rw w.0
        (onward_turn o {xs = one ∷ expr_accesses summed os (expression_at rows right).tree} (ap (effects_accesses summed os) na.effects)
        (went_both mode m (went_one mode m one (eh ∙ ap (met_one mode m) z) (ek ∙ ap (after_one mode m) z)) w.1 p) q)

pub number_further : {rows : List ℕ} {at : ℕ} {how : How} {v right : ℕ} → NumberAt rows at how v right → {n : ℕ} → n ≡ (expression_at rows right).next → at < n
number_further na e = rw e na.further
