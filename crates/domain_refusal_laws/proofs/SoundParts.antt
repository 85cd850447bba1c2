-- Actions of both kinds are read soundly. Assumes nothing.
use Rattle.std.specs.Prelude.{None, Option, Some}
use mathlib.Core.Path.{◌≡◌, refl}
use mathlib.Core.List.{List, map}
use mathlib.Core.Bool.{Bool, true, false, cond, ◌&&◌}
use Prim.Native.Nat.{ℕ, zero, suc, ◌+◌, ◌-◌, ◌≤◌, ◌<◌}
use Prim.Native.String.{String}
use native.Mathlib.Omega.{arith}
use lib.Dec.{eqb}
use lib.ListN.{length}
use Rattle.text_words.specs.Bytes.{bytes}
use Rattle.text_words.specs.Spelling.{same_word}
use Rattle.text_tokens.specs.Runs.{part}
use Rattle.text_tokens.specs.Tokens.{token_at, spot_at}
use Rattle.text_tokens.specs.declared.tokens.Token.{Token}
use Rattle.text_tokens.specs.declared.tokens.Token.TheVariants as T
use Rattle.text_tokens.proofs.Within.{Within, spot_within}
use Rattle.domain_meaning.specs.Read.{◌>>=◌, Reader, give}
use Rattle.domain_meaning.specs.Tables.{Entry}
use Rattle.domain_meaning.specs.Due.{token, wrong, on_word}
use Rattle.domain_meaning.specs.Lists.{signature}
use Rattle.domain_meaning.specs.Terms.{Scope, Counted}
use Rattle.domain_meaning.specs.Actions.{Action, start_or_end, time_of, part_behind, part_at, parts_to, parts, rule_head, duration_spot, duration_rule, field_of}
use Rattle.domain_meaning.specs.Actions.{when_field, within, simple_body, durative_body, action}
use Rattle.domain_refusal_laws.proofs.Sound.{Stands, Ends, reads, Sound, Any, gives, refuses, spent, then, fewer, choose, Looked, looked, After}
use Rattle.domain_refusal_laws.proofs.Sound.{token_then, follow, wrongs, on_word_lem, on_refusal_lem, peek_close}
use Rattle.domain_refusal_laws.proofs.SoundRows.{fresh_sound, opening_sound, closing_sound, word_sound, new_sound, variables_sound}
use Rattle.domain_refusal_laws.proofs.SoundTrees.{expression_sound, condition_sound, effect_sound}

module _ {s : List ℕ} {x : ℕ} where
  -- ---- the parts of a durative action

  start_sound : {from : ℕ} (d : ℕ) → After s x from Any (λ t. start_or_end s d t)
  start_sound d =
      on_word_lem (λ k p e h. choose (same_word (part s p e) (bytes "start")) (gives tt)
      (choose (same_word (part s p e) (bytes "end")) (gives tt) (refuses refl h))) (wrongs d)

  time_sound : {from p : ℕ} (d : ℕ) (over : Bool) (e : ℕ) → Stands s p → Sound s x from 0 Any (time_of s d over p e)
  unfolding time_of
  time_sound {p = p} d over e h =
      choose (same_word (part s p e) (bytes "at")) (fewer (token_then (start_sound d)))
      (choose (over && same_word (part s p e) (bytes "over")) (fewer (then (word_sound d (bytes "all")) (λ i _. gives tt))) (refuses refl h))

  module _ {A : Type 0} (over : Bool) {f : ℕ → ℕ → Reader (Counted A)} (h : (from d n : ℕ) → Sound s x from 1 Any (f d n)) where
    behind_sound : {from p : ℕ} (d n e : ℕ) → Stands s p → Sound s x from 0 Any (part_behind s over f d n p e)
    unfolding part_behind
    behind_sound d n e q = then (time_sound d over e q) (λ w _. then (h _ d n) (λ y _. then (closing_sound d) (λ i _. gives tt)))

    part_sound : {from : ℕ} (d n : ℕ) → Sound s x from 1 Any (part_at s over f d n)
    unfolding part_at
    part_sound d n = then (opening_sound d) (λ i _. token_then (on_word_lem (λ k p e q. behind_sound (d - 1) n e q) (wrongs (d - 1))))

    parts_to_lem : {from : ℕ} (k d n : ℕ) → length s < k + from → Sound s x from 1 Any (parts_to s over f k d n)
    unfolding parts_to
    parts_to_lem zero d n i = spent (omega arith)
    parts_to_lem {from = from} (suc k) d n i =
        peek_close
        (λ p q. then (closing_sound d) (λ i _. gives tt))
        (then (part_sound d n) (λ y _. then (parts_to_lem {from = from + 1} k d y.left (omega arith)) (λ ys _. gives tt)))

    parts_sound : {from : ℕ} (d n : ℕ) → Sound s x from 1 Any (parts s over f d n)
    unfolding parts
    parts_sound d n =
        then (opening_sound d) (λ i _. token_then (on_word_lem
        (λ k p e q. choose (same_word (part s p e) (bytes "and")) (fewer (parts_to_lem (length s + 1) (d - 1) n (omega arith))) (behind_sound (d - 1) n e q))
        (wrongs (d - 1))))

  -- ---- the duration rule

  head_sound : {from : ℕ} → After s x from Any (λ t. rule_head s t)
  head_sound = on_word_lem (λ k p e h. choose (same_word (part s p e) (bytes "=")) (gives tt) (refuses refl h)) (on_refusal_lem 13 (λ k p. eqb k 5))

  -- `?duration` where it stands, or the refusal of the token there
  spot_sound : {from : ℕ} → Sound s x from 0 Any (λ at. duration_spot s (spot_at s at (bytes "?duration")) at)
  spot_sound {from} = record { ends = λ at i j. go at i j (spot_at s at (bytes "?duration")) refl }
    where
      other : Sound {A = ℕ} s x from 0 Any (◌>>=◌ (token s) (λ t. wrong 13 t))
      other = fewer (token_then (wrongs 13))

      go : (at : ℕ) → from ≤ at → at ≤ length s → (t : Option (ℕ × ℕ)) → spot_at s at (bytes "?duration") ≡ t → Ends s x (at + 0) Any (duration_spot s t at)
      go at i j (Some (p, e)) q = let w = spot_within s at (bytes "?duration") p e j q in reads {n = e} (omega arith) w.1 tt
      go at i j None q = other.ends at i j

  rule_sound : {from : ℕ} (c : Scope) → Sound s x from 1 Any (duration_rule s c)
  unfolding duration_rule
  rule_sound c =
      then (opening_sound 14) (λ i _. token_then (follow head_sound
      (λ j _. then spot_sound (λ k _. then (expression_sound 13 c) (λ y _. then (closing_sound 13) (λ l _. gives tt))))))

  -- ---- fields and actions

  -- a field's word was seen: it is read
  field_sound : {from : ℕ} (w : List ℕ) → Sound s x from 0 Any (field_of s w)
  unfolding field_of Within
  field_sound {from} w = record { ends = λ at i j. go at j (token_at s at) refl (looked s at j) }
    where
      none : {b : Bool} (at : ℕ) → at ≤ length s → Ends s x (at + 0) Any (give b at)
      none at j = reads {n = at} (omega arith) j tt

      go : (at : ℕ) → at ≤ length s → (t : Token) → token_at s at ≡ t → Looked s at t
          → Ends s x (at + 0) Any (on_word t (λ k p e. cond (same_word (part s p e) w) (◌>>=◌ (token s) (λ t. give true)) (give false)) (give false) at)
      go at j (T.Word k p e) q l = either (same_word (part s p e) w)
        where
          either : (b : Bool) → Ends s x (at + 0) Any (cond b (◌>>=◌ (token s) (λ t. give true)) (give false) at)
          either true = rw q (reads {n = e} (omega (arith, l.within)) l.within.2 tt)
          either false = none at j
      go at j (T.Number z p e) q l = none at j
      go at j (T.Open p n) q l = none at j
      go at j (T.Close p n) q l = none at j
      go at j (T.Mark m p n) q l = none at j
      go at j (T.Refusal k p) q l = none at j
      go at j (T.End p) q l = none at j

  when_sound : {A : Type 0} {from : ℕ} (w : String) {m : Reader (List A)} → ((from : ℕ) → Sound s x from 1 Any m) → Sound s x from 0 Any (when_field s w m)
  when_sound w h = then (field_sound (bytes w)) (λ b _. choose b (fewer (h _)) (gives tt))

  simple_sound : {from : ℕ} (c : Scope) (e : Entry) → Sound s x from 0 Any (simple_body s c e)
  unfolding simple_body
  simple_sound c e =
      then (when_sound ":precondition" (λ from. then (condition_sound 14 c 32) (λ y _. gives tt))) (λ cs _.
      then (when_sound ":effect" (λ from. then (effect_sound 14 c 16) (λ y _. gives tt))) (λ es _. then (closing_sound 14) (λ i _. gives tt)))

  durative_sound : {from : ℕ} (c : Scope) (e : Entry) → Sound s x from 1 Any (durative_body s c e)
  unfolding durative_body
  durative_sound c e =
      then (word_sound 14 (bytes ":duration")) (λ i _. then (rule_sound c) (λ r _.
      then (when_sound ":condition" (λ from. then (parts_sound true (λ from d n. condition_sound d c n) 14 32) (λ y _. gives tt))) (λ cs _.
      then (when_sound ":effect" (λ from. then (parts_sound false (λ from d n. effect_sound d c n) 14 16) (λ y _. gives tt))) (λ es _.
      then (closing_sound 14) (λ j _. gives tt)))))

  pub action_sound : {from : ℕ} (c : Scope) (durative : Bool) (as' : List Action) → Sound s x from 1 Any (action s c durative as')
  unfolding action
  action_sound c durative as' =
      then (new_sound 14) (λ n h. then (fresh_sound 32 (map (λ a. a.declared) as') n.word h) (λ i _.
      then (word_sound 14 (bytes ":parameters")) (λ j _. then (opening_sound 14) (λ k _. then (variables_sound c.types 4) (λ vs _.
      then (choose durative (fewer (durative_sound (within c vs) (signature n.word vs))) (simple_sound (within c vs) (signature n.word vs)))
      (λ a _. gives tt))))))
