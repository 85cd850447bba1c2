-- The ways through what stands after an action's parameters. Assumes nothing.
use mathlib.Core.Path.{◌≡◌, refl, sym, ap, ◌∙◌}
use mathlib.Core.List.{List, [], ◌∷◌, ◌++◌}
use mathlib.Core.Bool.{Bool, true, false}
use Prim.Native.Nat.{ℕ, ◌+◌, ◌*◌, ◌≤◌}
use native.Mathlib.Omega.{arith}
use lib.ListN.{length, length-append}
use lib.Seq.{sets}
use Rattle.domain_meaning.proofs.Readings.{then_under}
use Rattle.base_laws.proofs.Sets.{sets_append}
use Rattle.text_words.specs.Bytes.{bytes}
use Rattle.domain_meaning.specs.Read.{Read, Reader, got, refused, and_then}
use Rattle.domain_meaning.specs.Tables.{Entry}
use Rattle.domain_meaning.specs.Due.{closing, fixed}
use Rattle.domain_meaning.specs.Terms.{Scope}
use Rattle.domain_meaning.specs.Conditions.{Cond}
use Rattle.domain_meaning.specs.Effects.{Effect}
use Rattle.domain_meaning.specs.Actions.{Timed, Lasting, Action, duration_rule, simple_body, durative_body}
use Rattle.domain_due.specs.Answers.{Parsed}
use Rattle.domain_due.specs.Answers.{Done, Refused}
use Rattle.domain_terms.specs.Cells.{Wrote}
use Rattle.domain_terms.proofs.Taken.{Took, wrote_got, wrote_not}
use Rattle.domain_stored_meaning.specs.Cells.{cond_cells, list_cells, lasting_cells, parts_cells, action_cells}
use Rattle.domain_durations.specs.Lasts.{lasting_of, Reached}
use Rattle.domain_timed_parts.specs.Fields.{field_parts, ended_cells, Onwards}
use Rattle.domain_timed_parts.proofs.Natural.{simple_condition, simple_effect, durative_condition, durative_effect}
use Rattle.domain_actions.specs.Acted.{conditions_of, effects_of, rest_of, Bodied, Ended}

-- ---- the fields

module _ (s : List ℕ) (c : Scope) (durative : Bool) (code : List ℕ) (u : ℕ) (r : Parsed) (m : List ℕ) (at : ℕ) where
  pub field_durative : durative ≡ true → Wrote ended_cells code u r m (field_parts true true s c (bytes ":condition") 32 at)
      → Wrote (parts_cells cond_cells) code u r m (conditions_of durative s c at)
  unfolding conditions_of
  field_durative e w = rw e (durative_condition s c code u r m at w)

  pub field_simple : durative ≡ false → Wrote ended_cells code u r m (field_parts false true s c (bytes ":precondition") 32 at)
      → Wrote (parts_cells cond_cells) code u r m (conditions_of durative s c at)
  unfolding conditions_of
  field_simple e w = rw e (simple_condition s c code u r m at w)

pub field_effect : (s : List ℕ) (c : Scope) (durative : Bool) (code : List ℕ) (u : ℕ) (r : Parsed) (m : List ℕ) (at : ℕ)
    → Wrote ended_cells code u r m (field_parts durative false s c (bytes ":effect") 16 at) → Wrote (parts_cells list_cells) code u r m (effects_of durative s c at)
unfolding effects_of
field_effect s c true code u r m at w = durative_effect s c code u r m at w
field_effect s c false code u r m at w = simple_effect s c code u r m at w

-- ---- places

pub reached_at : (n u at a v : ℕ) (r : Parsed) → r ≡ Done a v → Reached n u at r → (at ≤ a) × (a ≤ n) × (u ≤ v) × (v + at ≤ u + a + 1)
unfolding Reached
reached_at n u at a v r e h = rw e at h

pub onwards_at : (n u at a v : ℕ) (r : Parsed) → r ≡ Done a v → Onwards n u at r → (at ≤ a) × (a ≤ n) × (u ≤ v) × (v + at ≤ u + a + 2)
unfolding Onwards
onwards_at n u at a v r e h = rw e at h

pub ended_at : (more n u at a v : ℕ) (r : Parsed) → r ≡ Done a v → Ended more n u at r → (at ≤ a) × (a ≤ n) × (u ≤ v) × (v + at ≤ u + a + more)
unfolding Ended
ended_at more n u at a v r e h = rw e at h

pub ended_by : (more n u at a v : ℕ) → at ≤ a → a ≤ n → u ≤ v → v + at ≤ u + a + more → Ended more n u at (Done a v)
unfolding Ended
ended_by more n u at a v lo hi up few = (lo, hi, up, few)

pub ended_refused : (more n u at k p : ℕ) (r : Parsed) → r ≡ Refused k p → Ended more n u at r
unfolding Ended
ended_refused more n u at k p r e = rw e tt

-- ---- the whole

abbrev made : Entry → Lasting → List (Timed Cond) → List (Timed (List Effect)) → Action
made e l cs es = record { declared = e; lasting = l; conditions = cs; effects = es }

abbrev behind_rule : Bool → List ℕ → Scope → Entry → Lasting → Reader Action
behind_rule durative s c e l at =
    and_then (conditions_of durative s c at) (λ cs a. and_then (effects_of durative s c a) (λ es b. and_then (closing s 14 b) (λ _ n. got (made e l cs es) n)))

rest_parts : (durative : Bool) (s : List ℕ) (c : Scope) (e : Entry) (at : ℕ)
    → rest_of durative s c e at ≡ and_then (lasting_of durative s c at) (behind_rule durative s c e)
unfolding rest_of lasting_of durative_body simple_body conditions_of effects_of
rest_parts true s c e at =
    sym (then_under (fixed s 14 ":duration" at) _ (behind_rule true s c e) _ (λ _ n. then_under (duration_rule s c n) _ (behind_rule true s c e) _ (λ x b. refl)))
rest_parts false s c e at = refl

bodied_refused : (e : Entry) (code : List ℕ) (u : ℕ) (starts : List ℕ) (n : ℕ) (r : Parsed) (code' starts' : List ℕ) (x : Read Action) (k p : ℕ)
    → x ≡ refused k p → r ≡ Refused k p
    → Bodied e code u starts n r code' starts' x
unfolding Bodied
bodied_refused e code u starts n r code' starts' x k p i q = rw i q

bodied_done : (code : List ℕ) (u : ℕ) (starts : List ℕ) (n : ℕ) (e : Entry) (l : Lasting) (cs : List (Timed Cond)) (es : List (Timed (List Effect)))
    (v w f m : ℕ) (code₁ code₂ code₃ starts' : List ℕ)
    → v ≡ u + length (lasting_cells l) → code₁ ≡ sets code u (lasting_cells l) → w ≡ v + length (parts_cells cond_cells cs)
    → code₂ ≡ sets code₁ v (parts_cells cond_cells cs)
    → f ≡ w + length (parts_cells list_cells es) → code₃ ≡ sets code₂ w (parts_cells list_cells es) → starts' ≡ sets starts (3 * n) (u ∷ v ∷ w ∷ [])
    → Bodied e code u starts n (Done m f) code₃ starts' (got (made e l cs es) m)
unfolding Bodied action_cells
bodied_done code u starts n e l cs es v w f m code₁ code₂ code₃ starts' ev k₁ ew k₂ ef k₃ q =
    let as' = lasting_cells l in
    let bs = parts_cells cond_cells cs in
    let ds = parts_cells list_cells es in
    let long : f ≡ u + length (as' ++ (bs ++ ds)) = omega (arith, ev, ew, ef, length-append as' (bs ++ ds), length-append bs ds) in
    let wu : w ≡ u + length as' + length bs = omega (arith, ev, ew) in (
      rw long refl,
      k₃ ∙ ap (λ (t : List ℕ). sets t w ds) k₂ ∙ ap (λ (t : ℕ). sets (sets code₁ v bs) t ds) ew ∙ sets_append code₁ v bs ds
          ∙ ap (λ (t : List ℕ). sets t v (bs ++ ds)) k₁
          ∙ ap (λ (t : ℕ). sets (sets code u as') t (bs ++ ds)) ev ∙ sets_append code u as' (bs ++ ds),
      q ∙ ap (λ (t : List ℕ). sets starts (3 * n) (u ∷ t)) (ap (λ (t : ℕ). t ∷ w ∷ []) ev ∙ ap (λ (t : ℕ). (u + length as') ∷ t ∷ []) wu),
      refl,
    )

module _ (s : List ℕ) (c : Scope) (e : Entry) (durative : Bool) (at : ℕ) (code : List ℕ) (u : ℕ) (starts : List ℕ) (n : ℕ) (r₁ : Parsed) (code₁ : List ℕ)
    (w₁ : Wrote lasting_cells code u r₁ code₁ (lasting_of durative s c at)) where
  pub rest_rule : (starts' : List ℕ) (k p : ℕ) → r₁ ≡ Refused k p → Bodied e code u starts n r₁ code₁ starts' (rest_of durative s c e at)
  rest_rule starts' k p i =
      bodied_refused e code u starts n r₁ code₁ starts' _ k p
      (rest_parts durative s c e at ∙ rw (wrote_not lasting_cells code u r₁ code₁ (lasting_of durative s c at) k p w₁ i) refl) i

  module _ (a v : ℕ) (i₁ : r₁ ≡ Done a v) (r₂ : Parsed) (code₂ : List ℕ)
      (w₂ : Wrote (parts_cells cond_cells) code₁ v r₂ code₂ (conditions_of durative s c a)) where
    g₁ : Took lasting_cells code u code₁ a v (lasting_of durative s c at)
    g₁ = wrote_got lasting_cells code u r₁ code₁ (lasting_of durative s c at) a v w₁ i₁

    pub rest_condition : (starts' : List ℕ) (k p : ℕ) → r₂ ≡ Refused k p → Bodied e code u starts n r₂ code₂ starts' (rest_of durative s c e at)
    rest_condition starts' k p i =
        bodied_refused e code u starts n r₂ code₂ starts' _ k p
        (rest_parts durative s c e at ∙ rw (g₁.is, wrote_not (parts_cells cond_cells) code₁ v r₂ code₂ (conditions_of durative s c a) k p w₂ i) refl) i

    module _ (b w : ℕ) (i₂ : r₂ ≡ Done b w) (r₃ : Parsed) (code₃ : List ℕ) (w₃ : Wrote (parts_cells list_cells) code₂ w r₃ code₃ (effects_of durative s c b)) where
      g₂ : Took (parts_cells cond_cells) code₁ v code₂ b w (conditions_of durative s c a)
      g₂ = wrote_got (parts_cells cond_cells) code₁ v r₂ code₂ (conditions_of durative s c a) b w w₂ i₂

      pub rest_effect : (starts' : List ℕ) (k p : ℕ) → r₃ ≡ Refused k p → Bodied e code u starts n r₃ code₃ starts' (rest_of durative s c e at)
      rest_effect starts' k p i =
          bodied_refused e code u starts n r₃ code₃ starts' _ k p
          (rest_parts durative s c e at ∙ rw (g₁.is, g₂.is, wrote_not (parts_cells list_cells) code₂ w r₃ code₃ (effects_of durative s c b) k p w₃ i) refl) i

      module _ (d f : ℕ) (i₃ : r₃ ≡ Done d f) where
        g₃ : Took (parts_cells list_cells) code₂ w code₃ d f (effects_of durative s c b)
        g₃ = wrote_got (parts_cells list_cells) code₂ w r₃ code₃ (effects_of durative s c b) d f w₃ i₃

        pub rest_open : (r : Parsed) (starts' : List ℕ) (k p : ℕ) → closing s 14 d ≡ refused k p → r ≡ Refused k p
            → Bodied e code u starts n r code₃ starts' (rest_of durative s c e at)
        rest_open r starts' k p z i = bodied_refused e code u starts n r code₃ starts' _ k p
            (rest_parts durative s c e at ∙ rw (g₁.is, g₂.is, g₃.is, z) refl) i

        pub rest_done : (o m : ℕ) (starts' : List ℕ) → closing s 14 d ≡ got o m → starts' ≡ sets starts (3 * n) (u ∷ v ∷ w ∷ [])
            → Bodied e code u starts n (Done m f) code₃ starts' (rest_of durative s c e at)
        rest_done o m starts' z q =
            rw (rest_parts durative s c e at, g₁.is, g₂.is, g₃.is, z)
            (bodied_done code u starts n e g₁.tree g₂.tree g₃.tree v w f m code₁ code₂ code₃ starts' g₁.free g₁.stored g₂.free
            g₂.stored g₃.free g₃.stored q)
