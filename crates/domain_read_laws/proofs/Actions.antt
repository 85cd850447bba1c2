-- Actions that are read name what is declared and are signed, and their size is at most as many as bytes were read. Assumes nothing.
use mathlib.Core.Path.{◌≡◌, refl, sym, ap, subst, ◌∙◌}
use mathlib.Core.List.{List, [], ◌∷◌, ◌++◌, map}
use mathlib.Core.Bool.{Bool, true, false, cond, true≢false}
use Prim.Native.Nat.{ℕ, zero, suc, ◌+◌, ◌-◌, ◌≤◌}
use Prim.Native.String.{String}
use native.Mathlib.Omega.{arith}
use native.Mathlib.Decide.{ℕ_discrete}
use lib.ListN.{length}
use Rattle.text_words.specs.Bytes.{bytes}
use Rattle.text_words.specs.Spelling.{same_word}
use Rattle.text_words.proofs.Steps.{same_length}
use Rattle.text_tokens.specs.Runs.{part}
use Rattle.text_tokens.specs.Tokens.{token_at}
use Rattle.text_tokens.proofs.Within.{Within, token_in, part_length}
use Rattle.domain_meaning.specs.Read.{Reader, give, refuse}
use Rattle.domain_meaning.specs.Tables.{Entry, Table}
use Rattle.domain_meaning.specs.Due.{after_of, word_due, Name}
use Rattle.domain_meaning.specs.Lists.{signature}
use Rattle.domain_meaning.specs.Terms.{Scope, Counted}
use Rattle.domain_meaning.specs.Conditions.{Cond, condition}
use Rattle.domain_meaning.specs.Effects.{Effect, effect}
use Rattle.domain_meaning.specs.Indexes.{arity}
use Rattle.domain_meaning.specs.Actions.{When, start, Timed, Action, part_behind, part_at, parts_to, parts, duration_rule, when_field, within}
use Rattle.domain_meaning.specs.Actions.{simple_body, durative_body, action}
use Rattle.domain_meaning.proofs.Given.{Given, Any, Fits, reads, fits, stops, fits_also, given_then, given_also, given_either, given_word, word_gives}
use Rattle.domain_meaning.proofs.Given.{close_ahead, either_gives}
use Rattle.domain_meaning.proofs.Steps.{opening_fits, closing_fits, word_due_fits, new_name_fits, fresh_fits, time_ahead, rule_ahead, field_ahead}
use Rattle.domain_meaning.proofs.Tables.{variables_few}
use Rattle.domain_terms.specs.Scoped.{AllSigned}
use Rattle.domain_terms.proofs.Signing.{signed_signature, signed_more}
use Rattle.domain_stored_meaning.specs.Good.{GoodParts}
use Rattle.domain_read_laws.proofs.Sizes.{expr_size, cond_size, list_size, parts_size, lasting_size, action_size, actions_size}
use Rattle.domain_read_laws.proofs.Named.{NamedExpr, NamedCond, NamedEffects, NamedLasting, NamedTrees, NamedAction, NamedActions}
use Rattle.domain_read_laws.proofs.Tables.{Fit, fit_more}
use Rattle.domain_read_laws.proofs.Terms.{expression_fits}
use Rattle.domain_read_laws.proofs.Conditions.{condition_fits}
use Rattle.domain_read_laws.proofs.Effects.{listed_fits}

-- ---- parts, g being the size of what stands in one

module _ {A : Type 0} (P : A → Type 0) (g : A → ℕ) where
  good_join : (xs ys : List (Timed A)) → GoodParts P xs → GoodParts P ys → GoodParts P (xs ++ ys)
  unfolding GoodParts
  good_join [] ys h k = k
  good_join (x ∷ xs) ys h k = (h.0, good_join xs ys h.1 k)

  parts_join : (xs ys : List (Timed A)) → parts_size g (xs ++ ys) + 1 ≡ parts_size g xs + parts_size g ys
  unfolding parts_size
  parts_join [] ys = omega arith
  parts_join (x ∷ xs) ys = omega (arith, parts_join xs ys)

  one_part : (w : When) (x : A) → parts_size g (record { when = w; what = x } ∷ []) ≡ g x + 2
  unfolding parts_size
  one_part w x = omega arith

  no_part : parts_size g [] ≡ 1
  unfolding parts_size
  no_part = omega arith

  none_good : GoodParts P []
  unfolding GoodParts
  none_good = tt

  abbrev GoodOf : Counted (List (Timed A)) → Type 0
  GoodOf x = GoodParts P x.tree

  abbrev size_of : Counted (List (Timed A)) → ℕ
  size_of x = parts_size g x.tree

  -- f reads what stands in one
  module _ (s : List ℕ) (over : Bool) (f : ℕ → ℕ → Reader (Counted A))
      (r : (d n at : ℕ) → d ≤ 16 → Fits (λ x. P x.tree) (λ x. g x.tree) at 1 (f d n at)) where
    behind_time_fits : (d n p e at : ℕ) → d ≤ 16 → Fits GoodOf size_of at 1 (part_behind s over f d n p e at)
    unfolding part_behind GoodParts
    behind_time_fits d n p e at deep =
        given_then _ (time_ahead s d over p e at)
        (λ w a h. given_then _ (r d n a deep)
        (λ x b l. given_then _ (closing_fits s d b) (λ q i v. fits (l.good, tt) (omega arith) (omega (arith, one_part w x.tree)))))

    part_fits : (d n at : ℕ) → d ≤ 16 → Fits GoodOf size_of at 0 (part_at s over f d n at)
    unfolding part_at
    part_fits d n at deep =
        given_then _ (opening_fits s d at)
        (λ p a h. word_gives s a _ _ (λ w q e t l u y. fits_also (behind_time_fits (d - 1) n q e e (omega arith)) (omega arith) (λ x i v. omega arith)) stops)

    parts_to_fits : (k d n at : ℕ) → d ≤ 16 → Fits GoodOf size_of at 0 (parts_to s over f k d n at)
    unfolding parts_to
    parts_to_fits zero d n at deep = stops
    parts_to_fits (suc k) d n at deep =
        close_ahead (token_at s at) _ _ at (λ p. given_then _ (closing_fits s d at) (λ q i h. fits none_good (omega arith) (omega (arith, no_part))))
        (given_then _ (part_fits d n at deep)
        (λ x i h. given_then _ (parts_to_fits k d x.left i deep)
        (λ xs j u. fits (good_join x.tree xs.tree h.good u.good) (omega arith) (omega (arith, parts_join x.tree xs.tree)))))

    parts_fits : (d n at : ℕ) → d ≤ 16 → Fits GoodOf size_of at 0 (parts s over f d n at)
    unfolding parts
    parts_fits d n at deep =
        given_then _ (opening_fits s d at)
        (λ p a h. word_gives s a _ _
        (λ w q e t l u y. either_gives (same_word (part s q e) (bytes "and")) _ _ e
        (fits_also (parts_to_fits (length s + 1) (d - 1) n e (omega arith)) (omega arith) (λ x i v. omega arith))
        (fits_also (behind_time_fits (d - 1) n q e e (omega arith)) (omega arith) (λ x i v. omega arith)))
        stops)

-- ---- the fields: a missing one has the end of a list and no byte

field_fits : {A : Type 0} (P : List A → Type 0) (w : List A → ℕ) (more : ℕ) (s : List ℕ) (k : String) (r : Reader (List A)) (at : ℕ) → P [] → w [] ≤ more
    → ((n : ℕ) → Fits P w n (more + 1) (r n)) → Fits P w at more (when_field s k r at)
field_fits {A} P w more s k r at g h f = given_then _ (field_ahead s (bytes k) at) (λ b n u. go b n u.on u.size)
  where
    go : (b : Bool) (n : ℕ) → at ≤ n → cond b 1 0 + at ≤ n + 0 → Fits P w at more (cond b r (give []) n)
    go true n l u = fits_also (f n) l (λ a m v. omega arith)
    go false n l u = fits {a = []} {n = n} g l (omega arith)

abbrev conds_size : List (Timed Cond) → ℕ
conds_size xs = parts_size cond_size xs

abbrev lists_size : List (Timed (List Effect)) → ℕ
lists_size xs = parts_size list_size xs

-- a body of the action e, in its scope
record Body (c : Scope) (e : Entry) (a : Action) : Type 0 where
  trees : NamedTrees c a
  own : a.declared ≡ e

module _ (s : List ℕ) (c : Scope) where
  loose_condition : (d n at : ℕ) → d ≤ 16 → Fits (λ x. NamedCond c 16 x.tree) (λ x. cond_size x.tree) at 1 (condition d s c n at)
  loose_condition d n at h = given_also (condition_fits s c d n at h) (λ x m k. record { good = k.good.named; on = k.on; size = omega arith })

  duration_fits : (at : ℕ) → Fits (NamedExpr c 16) (λ x. expr_size x + 2) at 0 (duration_rule s c at)
  unfolding duration_rule
  duration_fits at =
      given_then _ (opening_fits s 14 at)
      (λ p a h. rule_ahead s a _
      (λ q b l. given_then _ (expression_fits s c 13 b (omega arith))
      (λ x i u. given_then _ (closing_fits s 13 i) (λ m n y. fits u.good.named (omega arith) (omega arith)))))

  simple_fits : (e : Entry) (at : ℕ) → Fits (Body c e) action_size at 6 (simple_body s c e at)
  unfolding simple_body lasting_size GoodParts NamedLasting
  simple_fits e at =
      given_then _ (field_fits (GoodParts (NamedCond c 16)) conds_size 1 s ":precondition" _ at tt (omega (arith, no_part (NamedCond c 16) cond_size))
      (λ n. given_then _ (condition_fits s c 14 32 n (omega arith))
      (λ x i h. fits (h.good.named, tt) (omega arith) (omega (arith, one_part (NamedCond c 16) cond_size start x.tree)))))
      (λ cs a h. given_then _ (field_fits (GoodParts (NamedEffects c)) lists_size 2 s ":effect" _ a tt (omega (arith, no_part (NamedEffects c) list_size))
      (λ n. given_then _ (listed_fits s c 14 16 n (omega arith))
      (λ x i l. fits (l.good, tt) (omega arith) (omega (arith, one_part (NamedEffects c) list_size start x.tree)))))
      (λ es b l. given_then _ (closing_fits s 14 b)
      (λ q i v. fits (record { trees = record { lasting = tt; conditions = h.good; effects = l.good }; own = refl }) (omega arith) (omega arith))))

  durative_fits : (e : Entry) (at : ℕ) → Fits (Body c e) action_size at 6 (durative_body s c e at)
  unfolding durative_body lasting_size NamedLasting
  durative_fits e at =
      given_then _ (word_due_fits s 14 at (bytes ":duration"))
      (λ p a h. given_then _ (duration_fits a)
      (λ x b l. given_then _ (field_fits (GoodParts (NamedCond c 16)) conds_size 1 s ":condition" _ b (none_good (NamedCond c 16) cond_size)
      (omega (arith, no_part (NamedCond c 16) cond_size))
      (λ n. given_then _ (parts_fits (NamedCond c 16) cond_size s true (λ d m. condition d s c m) loose_condition 14 32 n (omega arith))
      (λ y i v. fits v.good (omega arith) (omega arith))))
      (λ cs i v. given_then _ (field_fits (GoodParts (NamedEffects c)) lists_size 1 s ":effect" _ i (none_good (NamedEffects c) list_size)
      (omega (arith, no_part (NamedEffects c) list_size))
      (λ n. given_then _ (parts_fits (NamedEffects c) list_size s false (λ d m. effect d s c m) (listed_fits s c) 14 16 n (omega arith))
      (λ y j o. fits o.good (omega arith) (omega arith))))
      (λ es j o. given_then _ (closing_fits s 14 j)
      (λ q m t. fits (record { trees = record { lasting = l.good; conditions = v.good; effects = o.good }; own = refl }) (omega arith) (omega arith))))))

-- ---- actions one after the other

-- a word that is due has all its bytes
word_long : (s : List ℕ) (d at : ℕ) (w : List ℕ) → Given (λ _ n. at + length w ≤ n) Any (word_due s d w at)
unfolding word_due Within
word_long s d at w =
    given_word (λ t. Within s at t × (after_of t ≡ after_of (token_at s at))) (token_at s at) _ _ (after_of (token_at s at)) (token_in s at, refl)
    (λ k p e r. subst (λ (n : ℕ). Given (λ _ m. at + length w ≤ m) Any (cond (same_word (part s p e) w) (give p) (refuse 3 p) n)) r.1
    (given_either (same_word (part s p e) w) _ _ e (λ h. reads (omega (arith, r.0.0, long p e r.0.2 h))) (λ h. stops)))
    stops
  where
    long : (p e : ℕ) → e ≤ length s → same_word (part s p e) w ≡ true → length w ≡ e - p
    long p e h i = elim (ℕ_discrete (length (part s p e)) (length w)) [
      | yes j ↦ omega (arith, part_length s p e h)
      | no j ↦ absurd (true≢false (sym i ∙ same_length (part s p e) w j))
    ]

abbrev pub heads : List Action → Table
heads as' = map (λ a. a.declared) as'

-- actions that name what is declared, and whose own names fit their rows
pub record Acting (c : Scope) (as' : List Action) : Type 0 where
  pub names : Fit AllSigned 32 (heads as')
  pub named : NamedActions c as'

actions_join : (as' : List Action) (a : Action) → actions_size (as' ++ a ∷ []) ≡ actions_size as' + action_size a
unfolding actions_size
actions_join [] a = omega arith
actions_join (b ∷ as') a = omega (arith, actions_join as' a)

named_join : (c : Scope) (as' : List Action) (a : Action) → NamedActions c as' → NamedAction c a → NamedActions c (as' ++ a ∷ [])
unfolding NamedActions
named_join c [] a g h = (h, tt)
named_join c (b ∷ as') a g h = (g.0, named_join c as' a g.1 h)

heads_join : (as' : List Action) (a : Action) → heads as' ++ a.declared ∷ [] ≡ heads (as' ++ a ∷ [])
heads_join [] a = refl
heads_join (x ∷ as') a = ap (λ (l : Table). x.declared ∷ l) (heads_join as' a)

pub action_fits : (s : List ℕ) (c : Scope) (durative : Bool) (as' : List Action) (at : ℕ) → Acting c as'
    → Fits (Acting c) actions_size at (actions_size as') (action s c durative as' at)
unfolding action bytes
action_fits s c durative as' at g =
    given_then _ (new_name_fits s 14 at)
    (λ n a h. given_then _ (fresh_fits 32 (heads as') n.place n.word a)
    (λ p b l. given_then _ (word_long s 14 b (bytes ":parameters"))
    (λ q e v. given_then _ (opening_fits s 14 e)
    (λ o i u. given_then _ (variables_few s c.types 4 i)
    (λ vs j r. let x = signature n.word vs in given_then _ (body n vs j)
    (λ y m f. fits
    (record {
      names = rw (sym (heads_join as' y), f.good.own)
          (fit_more AllSigned 32 (heads as') x l.good h.good
          (signed_more (heads as') x g.names.kept (signed_signature n.word vs r.good)) g.names);
      named = named_join c as' y g.named
          (record { parameters = vs; few = r.good; count = ap arity f.good.own; trees = f.good.trees });
    })
    (omega arith) (omega (arith, actions_join as' y))))))))
  where
    body : (n : Name) (vs : Table) (j : ℕ)
        → Fits (Body (within c vs) (signature n.word vs)) action_size j 6
        (cond durative (durative_body s (within c vs) (signature n.word vs)) (simple_body s (within c vs) (signature n.word vs)) j)
    body n vs j = either_gives durative _ _ j (durative_fits s (within c vs) (signature n.word vs) j)
        (simple_fits s (within c vs) (signature n.word vs) j)
