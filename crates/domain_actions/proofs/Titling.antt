-- An action is its header and what stands after it; how the next action begins. Assumes nothing.
use Rattle.std.specs.Prelude.{None, Option, Some, Err}
use mathlib.Core.Path.{◌≡◌, refl, sym, ◌∙◌}
use mathlib.Core.List.{List, [], ◌∷◌, ◌++◌, map-append}
use mathlib.Core.Bool.{Bool, true, false}
use Prim.Native.Nat.{ℕ, suc, ◌+◌, ◌≤◌, ◌<◌}
use native.Mathlib.Omega.{arith}
use lib.ListN.{length, length-map}
use Rattle.domain_meaning.proofs.Readings.{then_under}
use Rattle.text_words.specs.Bytes.{bytes}
use Rattle.domain_meaning.specs.Read.{Read, Reader, got, refused, and_then}
use Rattle.domain_meaning.specs.Tables.{Entry, Table, fresh}
use Rattle.domain_meaning.specs.Due.{opening, fixed, new_name}
use Rattle.domain_meaning.specs.Lists.{variables_to, signature}
use Rattle.domain_meaning.specs.Terms.{Scope}
use Rattle.domain_meaning.specs.Actions.{Action, within, action}
use Rattle.domain_meaning.specs.Domain.{opened, other, begins_with, actions_to}
use Rattle.domain_due.specs.Answers.{Parsed}
use Rattle.domain_due.specs.Answers.{Done, Refused}
use Rattle.domain_due.proofs.Dues.{never_done, done_parts, refused_parts}
use Rattle.domain_rows.specs.Held.{Holds}
use Rattle.domain_terms.specs.declared.scope.Counts.{Counts}
use Rattle.domain_terms.specs.Scoped.{Scoped}
use Rattle.domain_actions.specs.Titles.{Title, title_of, acting, Entered, Titled, Beyond}
use Rattle.domain_actions.specs.Acted.{rest_of, Bodied, Ended, declarations, Adds, Begins, Further}

-- ---- the header, by its answer

pub record Heads (c : Scope) (counts : Counts) (n : ℕ) (t : Table) (r : Parsed) (rows own : List ℕ) (x : Read Title) (a v : ℕ) : Type 0 where
  pub title : Title
  pub is : x ≡ got title a
  pub entered : Entered c counts n t r rows own title a
  pub count : v ≡ length title.variables

pub titled_got : (c : Scope) (counts : Counts) (n : ℕ) (t : Table) (r : Parsed) (rows own : List ℕ) (x : Read Title) (a v : ℕ)
    → Titled c counts n t r rows own x → r ≡ Done a v
    → Heads c counts n t r rows own x a v
unfolding Titled
titled_got c counts n t r rows own (got h m) a v w e =
    let q : Done m (length h.variables) ≡ Done a v = sym w.answer ∙ e in
    let z = done_parts m a (length h.variables) v q in
    let j = z.1 in
    record { title = h; is = rw z.0; entered = record { answer = e ∙ rw (← j); room = w.room; rows = w.rows; own = w.own }; count = sym j }
titled_got c counts n t r rows own (refused k p) a v w e = never_done k p a v (sym w ∙ e)

pub titled_not : (c : Scope) (counts : Counts) (n : ℕ) (t : Table) (r : Parsed) (rows own : List ℕ) (x : Read Title) (k p : ℕ)
    → Titled c counts n t r rows own x → r ≡ Refused k p → x ≡ refused k p
unfolding Titled
titled_not c counts n t r rows own (got h m) k p w e = never_done k p m (length h.variables) (sym e ∙ w.answer)
titled_not c counts n t r rows own (refused j q) k p w e =
    let o : Refused j q ≡ Refused k p = sym w ∙ e in
    let i = refused_parts j k q p o in
    rw (i.0, i.1)

pub beyond_at : (n at a v : ℕ) (r : Parsed) → r ≡ Done a v → Beyond n at r → (at + 4 ≤ a) × (a ≤ n)
unfolding Beyond
beyond_at n at a v r e h = rw e at h

pub acting_scope : (own : List ℕ) (counts : Counts) (c : Scope) (v w : ℕ) → v ≡ w → Scoped own (acting counts w) c → Scoped own (acting counts v) c
acting_scope own counts c v w e h = rw e h

pub held_count : (rows : List ℕ) (n : ℕ) (as' : List Action) → Holds 32 rows n (declarations as') → length as' ≡ n
held_count rows n as' h = sym (h.count ∙ length-map as' (λ (a : Action). a.declared))

-- ---- the whole

abbrev behind_title : List ℕ → Scope → Bool → List Action → Title → Reader (List Action)
behind_title s c durative as' h n =
    and_then (rest_of durative s (within c h.variables) (signature h.word h.variables) n) (λ a m. got (as' ++ a ∷ []) m)

titled : (s : List ℕ) (c : Scope) (durative : Bool) (as' : List Action) (at : ℕ)
    → action s c durative as' at ≡ and_then (title_of s c (declarations as') at) (behind_title s c durative as')
unfolding action title_of rest_of
titled s c true as' at =
    let g = behind_title s c true as' in
    sym
    (then_under (new_name s 14 at) _ g _
    (λ n m. then_under (fresh 32 (declarations as') n.place n.word m) _ g _
    (λ _ i. then_under (fixed s 14 ":parameters" i) _ g _ (λ _ j. then_under (opening s 14 j) _ g _
    (λ _ k. then_under (variables_to s c.types 4 k) _ g _ (λ vs l. refl))))))
titled s c false as' at =
    let g = behind_title s c false as' in
    sym
    (then_under (new_name s 14 at) _ g _
    (λ n m. then_under (fresh 32 (declarations as') n.place n.word m) _ g _
    (λ _ i. then_under (fixed s 14 ":parameters" i) _ g _ (λ _ j. then_under (opening s 14 j) _ g _
    (λ _ k. then_under (variables_to s c.types 4 k) _ g _ (λ vs l. refl))))))

added : (as' : List Action) (e : Entry) (n : ℕ) (code : List ℕ) (u : ℕ) (starts : List ℕ) (r : Parsed) (rows code' starts' : List ℕ) (x : Read Action)
    → n ≡ length as'
    → Holds 32 rows (n + 1) (declarations as' ++ e ∷ []) → Bodied e code u starts n r code' starts' x
    → Adds as' code u starts r rows code' starts' (and_then x (λ a m. got (as' ++ a ∷ []) m))
unfolding Bodied Adds
added as' e n code u starts r rows code' starts' (got a m) q h w =
    record {
      action = a;
      is = refl;
      answer = w.0;
      rows = rw (map-append (λ (b : Action). b.declared) as' (a ∷ []), w.3, ← q) h;
      cells = w.1;
      places = rw (← q) w.2;
    }
added as' e n code u starts r rows code' starts' (refused k p) q h w = w

adds_refused : (as' : List Action) (code : List ℕ) (u : ℕ) (starts : List ℕ) (r : Parsed) (rows code' starts' : List ℕ) (x : Read (List Action))
    (k p : ℕ) → x ≡ refused k p → r ≡ Refused k p
    → Adds as' code u starts r rows code' starts' x
unfolding Adds
adds_refused as' code u starts r rows code' starts' x k p e q = rw e q

module _ (s : List ℕ) (c : Scope) (counts : Counts) (durative : Bool) (as' : List Action) (at n : ℕ) (code : List ℕ) (u : ℕ) (starts : List ℕ)
    (r₁ : Parsed) (rows own : List ℕ)
    (w₁ : Titled c counts n (declarations as') r₁ rows own (title_of s c (declarations as') at)) where
  pub action_untitled : (k p : ℕ) → r₁ ≡ Refused k p → Adds as' code u starts r₁ rows code starts (action s c durative as' at)
  action_untitled k p i =
      adds_refused as' code u starts r₁ rows code starts _ k p
      (titled s c durative as' at ∙ rw (titled_not c counts n (declarations as') r₁ rows own _ k p w₁ i) refl) i

  pub action_titled : (a v : ℕ) (i : r₁ ≡ Done a v) → length as' ≡ n → (r : Parsed) (code' starts' : List ℕ)
      → (let h = (titled_got c counts n (declarations as') r₁ rows own (title_of s c (declarations as') at) a v w₁ i).title in
      Bodied (signature h.word h.variables) code u starts n r code' starts'
      (rest_of durative s (within c h.variables) (signature h.word h.variables) a))
      → Adds as' code u starts r rows code' starts' (action s c durative as' at)
  action_titled a v i q r code' starts' w =
      let g = titled_got c counts n (declarations as') r₁ rows own (title_of s c (declarations as') at) a v w₁ i in
      rw (titled s c durative as' at, g.is) (added as' (signature g.title.word g.title.variables) n code u starts r rows code' starts' _
      (sym q) g.entered.rows w)

-- four bytes at least stand before what is after the parameters
pub back : (r : Parsed) (n u at from : ℕ) → from + 4 ≤ at → Ended 4 n u at r → Ended 0 n u from r
unfolding Ended
back (Done a v) n u at from le h = (omega (arith, h.0), h.1, h.2, omega (arith, h.3))
back (Err why) n u at from le h = tt

-- ---- how the next begins

module _ (s : List ℕ) (c : Scope) (as' : List Action) (k at : ℕ) where
  pub begins_simple : (p e : ℕ) → begins_with s (bytes ":action") at ≡ got (opened p) e → Begins s c as' k (Some (false, e)) (actions_to (suc k) s c as' at) at
  unfolding Begins actions_to
  begins_simple p e h = rw h refl

  pub begins_durative : (p e : ℕ) → begins_with s (bytes ":action") at ≡ got other at → begins_with s (bytes ":durative-action") at ≡ got (opened p) e
      → Begins s c as' k (Some (true, e)) (actions_to (suc k) s c as' at) at
  unfolding Begins actions_to
  begins_durative p e h j = rw (h, j) refl

  pub begins_neither : begins_with s (bytes ":action") at ≡ got other at → begins_with s (bytes ":durative-action") at ≡ got other at
      → Begins s c as' k None (actions_to (suc k) s c as' at) at
  unfolding Begins actions_to
  begins_neither h j = rw (h, j) refl

pub further_by : (n from e : ℕ) (durative : Bool) → from < e → e ≤ n → Further n from (Some (durative, e))
unfolding Further
further_by n from e durative lo hi = (lo, hi)

pub further_not : (n from : ℕ) → Further n from None
unfolding Further
further_not n from = tt

pub further_at : (n from e : ℕ) (durative : Bool) (r : Option (Bool × ℕ)) → r ≡ Some (durative, e) → Further n from r → (from < e) × (e ≤ n)
unfolding Further
further_at n from e durative r q h = rw q at h
