-- Actions copied: the six lists of one and their places, and all actions one after the other. Assumes nothing.
use mathlib.Core.Path.{◌≡◌, refl, ap, ◌∙◌}
use mathlib.Core.List.{List, [], ◌∷◌, ◌++◌}
use Prim.Native.Nat.{ℕ, suc, ◌+◌, ◌-◌, ◌*◌, ◌≤◌, ◌<◌}
use native.Mathlib.Omega.{arith}
use native.Mathlib.Numerals.{add-one}
use lib.ListN.{length, set, get_or, drop, length-append, length-drop, drop_of_length-le}
use lib.Seq.{sets, drop-cons, length-sets}
use borrow.Author.Tests.{lt-ltb, le-ltb, ne_eqb}
use Rattle.base_laws.proofs.Sets.{sets_append}
use Rattle.domain_meaning.specs.Tables.{Entry, Table, entry}
use Rattle.domain_meaning.specs.Actions.{Action}
use Rattle.domain_rows.specs.Held.{byte_at}
use Rattle.domain_stored_meaning.specs.Decode.{expression_at, lasting_at, conditions_at, effect_parts_at, when_of, action_from, action_at, actions_at}
use Rattle.domain_prepared_meaning.specs.Preparing.{parts_at, all_singles, all_effects}
use Rattle.domain_prepared_meaning.specs.Rows.{two_bytes, expr_bytes, lasts_bytes, tests_bytes, effects_bytes}
use Rattle.domain_prepared_meaning.specs.Rows.{sizes, places_from, action_bytes, all_places, actions_bytes}
use Rattle.domain_forms.specs.Stored.{Stored}
use Rattle.domain_preparing.specs.Written.{words_of, Acted, all_acted}
use Rattle.domain_forms.proofs.Storing.{sets_before, stored_one, stored_first, stored_then}

-- ---- the duration rule

module _ (n : ℕ) (ps fs code : List ℕ) (at : ℕ) (l : List ℕ) (u : ℕ) {l₁ : List ℕ} where
  pub lasts_out : length code ≤ at → l₁ ≡ set l u 0 → Stored l u (lasts_bytes n ps fs (lasting_at code at).tree) l₁ (u + 1)
  unfolding lasts_bytes lasting_at
  lasts_out h e = rw (le-ltb at (length code) h) (stored_one l u 0 e)

  module _ {tag : ℕ} (h : at < length code) (t : tag ≡ byte_at code at) where
    pub lasts_none : tag ≡ 0 → l₁ ≡ set l u 0 → Stored l u (lasts_bytes n ps fs (lasting_at code at).tree) l₁ (u + 1)
    unfolding lasts_bytes lasting_at
    lasts_none z e = rw (lt-ltb at (length code) h, ← t, z) (stored_one l u 0 e)

    pub lasts_rule : (tag ≡ 0 → ⊥) → l₁ ≡ set l u 1 → {l₂ : List ℕ} {f : ℕ} → Stored l₁ (u + 1) (expr_bytes n ps fs (expression_at code (at + 1)).tree) l₂ f
        → Stored l u (lasts_bytes n ps fs (lasting_at code at).tree) l₂ f
    unfolding lasts_bytes lasting_at
    lasts_rule z e s = rw (lt-ltb at (length code) h, ← t, ne_eqb tag 0 z) (stored_first l u 1 e s)

-- ---- six places

pub words_stored : (l : List ℕ) (at a b c d e f : ℕ) {l₁ l₂ l₃ l₄ l₅ l₆ : List ℕ} → l₁ ≡ sets l at (two_bytes a) → l₂ ≡ sets l₁ (at + 2) (two_bytes b)
    → l₃ ≡ sets l₂ (at + 4) (two_bytes c) → l₄ ≡ sets l₃ (at + 6) (two_bytes d) → l₅ ≡ sets l₄ (at + 8) (two_bytes e) → l₆ ≡ sets l₅ (at + 10) (two_bytes f)
    → l₆ ≡ sets l at (words_of (a ∷ b ∷ c ∷ d ∷ e ∷ f ∷ []))
words_stored l at a b c d e f e₁ e₂ e₃ e₄ e₅ e₆ =
    let p : at + 2 ≡ suc (suc at) = omega arith in
    let q : at + 4 ≡ suc (suc (suc (suc at))) = omega arith in
    let r : at + 6 ≡ suc (suc (suc (suc (suc (suc at))))) = omega arith in
    let s : at + 8 ≡ suc (suc (suc (suc (suc (suc (suc (suc at))))))) = omega arith in
    let t : at + 10 ≡ suc (suc (suc (suc (suc (suc (suc (suc (suc (suc at))))))))) = omega arith in
    rw (e₆, e₅, e₄, e₃, e₂, e₁, t, s, r, q, p)

-- ---- an action: its lists, then its places in front of them

placed : (l : List ℕ) (at u : ℕ) (ws bs : List ℕ) {l₁ l₂ : List ℕ} → l₁ ≡ sets l u bs → l₂ ≡ sets l₁ at ws → at + length ws ≤ u
    → l₂ ≡ sets (sets l at ws) u bs
placed l at u ws bs a b h = b ∙ ap (λ (k : List ℕ). sets k at ws) a ∙ sets_before l at u ws bs h

module _ (n : ℕ) (ps fs code starts : List ℕ) (j : ℕ) {p q r : ℕ} (ep : p ≡ byte_at starts (3 * j)) (eq : q ≡ byte_at starts (3 * j + 1))
    (er : r ≡ byte_at starts (3 * j + 2)) where
  abbrev tested : ℕ → List ℕ
  tested time = tests_bytes n ps fs (all_singles (parts_at (when_of time) (conditions_at code q).tree))

  abbrev effected : ℕ → List ℕ
  effected time = effects_bytes n ps fs (all_effects (parts_at (when_of time) (effect_parts_at code r).tree))

  pub action_stored : (l : List ℕ) (u : ℕ) {l₁ l₂ l₃ l₄ l₅ l₆ l₇ : List ℕ} {a b c d e f : ℕ} → Stored l u (lasts_bytes n ps fs (lasting_at code p).tree) l₁ a
      → Stored l₁ a (tested 1) l₂ b → Stored l₂ b (tested 2) l₃ c → Stored l₃ c (tested 3) l₄ d → Stored l₄ d (effected 1) l₅ e
      → Stored l₅ e (effected 3) l₆ f → l₇ ≡ sets l₆ (1 + 12 * j) (words_of (u ∷ a ∷ b ∷ c ∷ d ∷ e ∷ [])) → 1 + 12 * j + 12 ≤ u
      → (x : Entry) → Acted n ps fs l j u (action_at code starts j x) l₇ f
  unfolding action_at action_from action_bytes places_from when_of
  action_stored l u {l₁} {l₂} {l₃} {l₄} {l₅} {l₆} {l₇} {a} {b} {c} {d} {e} {f} s₁ s₂ s₃ s₄ s₅ s₆ w h x =
      let all : Stored l u (action_bytes n ps fs (action_from code p q r x)) l₆ f =
      stored_then l u _ s₁ (stored_then l₁ a _ s₂ (stored_then l₂ b _ s₃ (stored_then l₃ c _ s₄ (stored_then l₄ d _ s₅ s₆)))) in
      let six : words_of (u ∷ a ∷ b ∷ c ∷ d ∷ e ∷ []) ≡ places_from n ps fs u (sizes n ps fs (action_from code p q r x)) =
      rw (s₅.free, s₄.free, s₃.free, s₂.free, s₁.free) in
      let bs : List ℕ = action_bytes n ps fs (action_from code p q r x) in
      let ws : List ℕ = places_from n ps fs u (sizes n ps fs (action_from code p q r x)) in
      rw (← ep, ← eq, ← er)
      (record { are = placed l (1 + 12 * j) u ws bs all.are (w ∙ ap (λ (k : List ℕ). sets l₆ (1 + 12 * j) k) six) h; ends = all.free })

-- ---- all actions

module _ (n : ℕ) (ps fs : List ℕ) where
  places_length : (u : ℕ) (a : Action) → length (places_from n ps fs u (sizes n ps fs a)) ≡ 12
  unfolding places_from
  places_length u a = refl

  all_length : (u : ℕ) (as' : List Action) → length (all_places n ps fs u as') ≤ 12 * length as'
  unfolding all_places
  all_length u [] = omega arith
  all_length u (a ∷ as') =
      let p = places_length u a in
      let q = all_length (u + length (action_bytes n ps fs a)) as' in
      rw (length-append (places_from n ps fs u (sizes n ps fs a)) (all_places n ps fs (u + length (action_bytes n ps fs a)) as')) (omega arith)

  pub acted_length : {l : List ℕ} {j u : ℕ} {a : Action} {l' : List ℕ} {v : ℕ} → Acted n ps fs l j u a l' v → length l' ≡ length l
  acted_length {l} {j} {u} {a} t =
      rw t.are (length-sets (sets l (1 + 12 * j) (places_from n ps fs u (sizes n ps fs a))) u (action_bytes n ps fs a)
      ∙ length-sets l (1 + 12 * j) (places_from n ps fs u (sizes n ps fs a)))

  acted_step : (l : List ℕ) (j u : ℕ) (a : Action) (as' : List Action) {l' : List ℕ} {v : ℕ} → Acted n ps fs l j u a l' v
      → 1 + 12 * (j + 1) + 12 * length as' ≤ u → all_acted n ps fs l' (j + 1) v as' ≡ all_acted n ps fs l j u (a ∷ as')
  unfolding all_places actions_bytes
  acted_step l j u a as' t h =
      let xs : List ℕ = places_from n ps fs u (sizes n ps fs a) in
      let bs : List ℕ = action_bytes n ps fs a in
      let ys : List ℕ = all_places n ps fs (u + length bs) as' in
      let p : 1 + 12 * (j + 1) ≡ 1 + 12 * j + length xs = let z = places_length u a in omega arith in
      let q : 1 + 12 * j + length xs + length ys ≤ u = let z = all_length (u + length bs) as' in omega arith in
      rw (t.are, t.ends, p)
      (ap (λ (k : List ℕ). sets k (u + length bs) (actions_bytes n ps fs as'))
      (sets_before (sets l (1 + 12 * j) xs) (1 + 12 * j + length xs) u ys bs q ∙ ap (λ (k : List ℕ). sets k u bs) (sets_append l (1 + 12 * j) xs ys))
      ∙ sets_append (sets l (1 + 12 * j) (xs ++ ys)) u bs (actions_bytes n ps fs as'))

  module _ (code starts : List ℕ) where
    acts_length : (j : ℕ) (es : Table) → length (actions_at code starts j es) ≡ length es
    unfolding actions_at
    acts_length j [] = refl
    acts_length j (e ∷ es) = ap suc (acts_length (j + 1) es)

    -- what is left of the actions leads to the whole
    abbrev pub Onward : ℕ → List ℕ → List ℕ → ℕ → ℕ → Type 0
    Onward acting l₀ l j u =
        (es : Table) → length es ≡ acting
        → all_acted n ps fs l j u (actions_at code starts j (drop j es)) ≡ all_acted n ps fs l₀ 0 385 (actions_at code starts 0 es)

    module _ (acting : ℕ) (l₀ : List ℕ) where
      pub onward_start : Onward acting l₀ l₀ 0 385
      onward_start es h = refl

      module _ (l : List ℕ) (j u : ℕ) (o : Onward acting l₀ l j u) where
        pub onward_end : acting ≤ j → (es : Table) → length es ≡ acting → l ≡ all_acted n ps fs l₀ 0 385 (actions_at code starts 0 es)
        unfolding all_places actions_bytes actions_at
        onward_end h es e = let z : length es ≤ j = omega arith in rw (drop_of_length-le es z) at (o es e)

        pub onward_step : j < acting → acting ≤ 32 → 385 ≤ u → {l' : List ℕ} {v : ℕ} → ((x : Entry) → Acted n ps fs l j u (action_at code starts j x) l' v)
            → Onward acting l₀ l' (j + 1) v
        unfolding actions_at
        onward_step h most far t es e =
            let i : j < length es = omega arith in
            let rest : Table = drop (j + 1) es in
            let m : length (actions_at code starts (j + 1) rest) ≡ acting - (j + 1) = acts_length (j + 1) rest ∙ length-drop (j + 1) es ∙ rw e in
            let c : drop j es ≡ get_or es j (entry [] []) ∷ rest = rw add-one (drop-cons es j (entry [] []) i) in
            acted_step l j u (action_at code starts j (get_or es j (entry [] []))) (actions_at code starts (j + 1) rest) (t (get_or es j (entry [] [])))
            (omega (arith, m))
            ∙ (rw c at (o es e))
