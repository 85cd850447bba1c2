-- Actions of both kinds depend on nothing after what they reach. Assumes nothing.
use Rattle.std.specs.Prelude.{None, Option, Some}
use mathlib.Core.Path.{◌≡◌, refl}
use mathlib.Core.List.{List, [], ◌++◌, map}
use mathlib.Core.Bool.{Bool, true, false, cond, ◌&&◌}
use Prim.Native.Nat.{ℕ, zero, suc, ◌+◌, ◌-◌, ◌≤◌, ◌<◌}
use Prim.Native.String.{String}
use native.Mathlib.Omega.{arith}
use native.Mathlib.Decide.{dec_le}
use lib.ListN.{length}
use lib.Dec.{eqb}
use Rattle.text_words.specs.Bytes.{bytes}
use Rattle.text_words.specs.Spelling.{same_word}
use Rattle.text_tokens.specs.Tokens.{token_at, spot_at}
use Rattle.text_tokens.specs.declared.tokens.Word.{Word}
use Rattle.text_tokens.specs.declared.tokens.Token.{Token}
use Rattle.text_tokens.specs.declared.tokens.Token.TheVariants as T
use Rattle.domain_meaning.specs.Read.{◌>>=◌, Reader, give, refuse}
use Rattle.domain_meaning.specs.Tables.{Entry, fresh}
use Rattle.domain_meaning.specs.Due.{token, wrong, on_word, after_of, word_due}
use Rattle.domain_meaning.specs.Lists.{signature}
use Rattle.domain_meaning.specs.Terms.{Scope, Counted, counts}
use Rattle.domain_meaning.specs.Actions.{start, whole, end, Action, start_or_end, time_of, part_behind, part_at, parts_to, parts, rule_head, duration_spot}
use Rattle.domain_meaning.specs.Actions.{duration_rule, field_of, when_field, within, simple_body, durative_body, action}
use Rattle.domain_refusal_laws.specs.Lowest.{seen, next_of}
use Rattle.domain_refusal_laws.proofs.Sight.{seen_later}
use Rattle.domain_refusal_laws.proofs.Nearness.{Spotted, spot_place, next_on}
use Rattle.domain_refusal_laws.proofs.Local.{Edge, next, Agrees, agrees_self, Far, Good, far, near, beyond, Over, Plain, gives, never, then, either_way}
use Rattle.domain_refusal_laws.proofs.Local.{bounded, Behind, token_then, peek_then, after, follow, refuses, wrongs, choose, gives_behind, held, worded}
use Rattle.domain_refusal_laws.proofs.Local.{on_word_lem, on_close_lem, on_refusal_lem}
use Rattle.domain_refusal_laws.proofs.Suffice.{Strict, opens_strict, Enough, enough, fewer, and_same, close_same}
use Rattle.domain_refusal_laws.proofs.Heads.{fresh_held, opening_local, closing_local, word_local, new_then}
use Rattle.domain_refusal_laws.proofs.Rows.{variables_local}
use Rattle.domain_refusal_laws.proofs.Trees.{expression_local, condition_local, effect_local}

-- ---- the parts of a durative action

start_behind : {E : Edge} (d : ℕ) (t : Token) → Behind E t (after_of t) (Over E (next E)) (λ v. start_or_end v d t)
start_behind d =
    on_word_lem
    (λ k p e. worded (λ v w. cond (same_word w (bytes "start")) (give start) (cond (same_word w (bytes "end")) (give end) (refuse 3 p)))
    (λ w. choose (same_word w (bytes "start")) gives_behind (choose (same_word w (bytes "end")) gives_behind refuses)))
    (λ t. wrongs d)

time_behind : {E : Edge} (d : ℕ) (over : Bool) (k : Word) (p e : ℕ) → Behind E (T.Word k p e) e (Over E (next E)) (λ v. time_of v d over p e)
unfolding time_of
time_behind d over k p e =
    worded
    (λ v w. cond (same_word w (bytes "at")) (◌>>=◌ (token v) (start_or_end v d))
    (cond (over && same_word w (bytes "over")) (◌>>=◌ (word_due v d (bytes "all")) (λ i. give whole)) (refuse 3 p)))
    (λ w. choose (same_word w (bytes "at")) (after (token_then (start_behind d)))
    (choose (over && same_word w (bytes "over")) (after (then (word_local d (bytes "all")) (λ i. gives))) refuses))

module _ {A : Type 0} (over : Bool) {f : List ℕ → ℕ → ℕ → Reader (Counted A)} (h : (E : Edge) (d n : ℕ) → Plain E (λ v. f v d n)) where
  part_behind_lem : {E : Edge} (d n : ℕ) (k : Word) (p e : ℕ) → Behind E (T.Word k p e) e (Over E (next E)) (λ v. part_behind v over (f v) d n p e)
  unfolding part_behind
  part_behind_lem {E} d n k p e = follow (time_behind d over k p e) (λ w. then (h E d n) (λ x. then (closing_local d) (λ i. gives)))

  part_rest : {E : Edge} (d n : ℕ) → Plain E (λ v. ◌>>=◌ (token v) (λ t. on_word t (λ k p e. part_behind v over (f v) d n p e) (wrong d t)))
  part_rest d n = token_then (on_word_lem (part_behind_lem d n) (λ t. wrongs d))

  part_local : {E : Edge} (d n : ℕ) → Plain E (λ v. part_at v over (f v) d n)
  unfolding part_at
  part_local d n = then (opening_local d) (λ i. part_rest (d - 1) n)

  part_strict : (d n : ℕ) → Strict (λ v. part_at v over (f v) d n)
  unfolding part_at
  part_strict d n = opens_strict d (λ v i. ◌>>=◌ (token v) (λ t. on_word t (λ k p e. part_behind v over (f v) (d - 1) n p e) (wrong (d - 1) t)))
      (λ s q i. part_rest (d - 1) n)

  parts_to_lem : {E : Edge} (k d n : ℕ) → Plain E (λ v. parts_to v over (f v) k d n)
  unfolding parts_to
  parts_to_lem zero d n = never
  parts_to_lem (suc k) d n =
      peek_then (λ m. on_close_lem
      (λ p j. after (then (closing_local d) (λ i. gives {a = counts [] n})))
      (λ t. after (then (part_local d n) (λ x. then (parts_to_lem k d x.left) (λ xs. gives {a = counts (x.tree ++ xs.tree) xs.left})))))

  parts_suffice : (s : List ℕ) (d j k n at : ℕ) → Enough s j at → Enough s k at → parts_to s over (f s) j d n at ≡ parts_to s over (f s) k d n at
  unfolding parts_to
  parts_suffice s d zero k n at ej ek = absurd (let y : ⊥ = omega arith in y)
  parts_suffice s d (suc j) zero n at ej ek = absurd (let y : ⊥ = omega arith in y)
  parts_suffice s d (suc j) (suc k) n at ej ek =
      close_same (token_at s at) _ _ _ at (and_same (part_at s over (f s) d n at) (λ x m e.
      let b : (next_of s at < length s) × (next_of s at < next_of s m) = (part_strict d n).strict s at m x e in
      rw (parts_suffice s d j k x.left m (fewer ej b) (fewer ek b))))

  parts_bounded : {E : Edge} (d n : ℕ) → Plain E (λ v. parts_to v over (f v) (length v + 1) d n)
  parts_bounded d n =
      bounded (λ k v. parts_to v over (f v) k d n) (λ s at j k a b. parts_suffice s d j k n at (enough s j at a) (enough s k at b)) (λ k. parts_to_lem k d n)

  parts_local : {E : Edge} (d n : ℕ) → Plain E (λ v. parts v over (f v) d n)
  unfolding parts
  parts_local d n =
      then (opening_local d) (λ i. token_then (on_word_lem
      (λ k p e. worded (λ v w. cond (same_word w (bytes "and")) (parts_to v over (f v) (length v + 1) (d - 1) n) (part_behind v over (f v) (d - 1) n p e))
      (λ w. choose (same_word w (bytes "and")) (after (parts_bounded (d - 1) n)) (part_behind_lem (d - 1) n k p e)))
      (λ t. wrongs (d - 1))))

-- ---- the duration rule

rule_behind : {E : Edge} (t : Token) → Behind E t (after_of t) (Over E (next E)) (λ v. rule_head v t)
rule_behind =
    on_word_lem
    (λ k p e. worded (λ v w. cond (same_word w (bytes "=")) (give p) (refuse 11 p)) (λ w. choose (same_word w (bytes "=")) gives_behind refuses))
    (on_refusal_lem (λ k p. choose (eqb k 5) refuses refuses) (λ t. wrongs 13))

-- `?duration` where it stands, or the refusal of the token there
spot_local : {E : Edge} → Plain E (λ v at. duration_spot v (spot_at v at (bytes "?duration")) at)
unfolding Far
spot_local {E} = record { good = λ u a at. go u a at (dec_le (seen E.text (next E at)) E.edge) }
  where
    w : List ℕ
    w = bytes "?duration"

    other : Plain {A = ℕ} E (λ v. ◌>>=◌ (token v) (wrong 13))
    other = token_then (λ t. wrongs 13)

    one : (u : List ℕ) → Agrees E u → (at : ℕ) → seen E.text (next E at) ≤ E.edge → (x : Option (ℕ × ℕ))
        → Good E (next E at) (Over E (next E)) (duration_spot E.text x at) (duration_spot u x at)
    one u a at i (Some (p, e)) = near i refl
    one u a at i None = other.good u a at

    two : (at : ℕ) → E.edge < seen E.text (next E at) → (x : Option (ℕ × ℕ)) → Spotted (next E at) x → Far E (Over E (next E)) (duration_spot E.text x at)
    two at i (Some (p, e)) k =
        record { past = omega (arith, seen_later E.text (next E at) (next E e) (next_on E.text at e k.1)) }
    two at i None k = beyond {f = next E at} _ _ i (other.good E.text (agrees_self E) at)

    go : (u : List ℕ) → Agrees E u → (at : ℕ) → Dec (seen E.text (next E at) ≤ E.edge)
        → Good E (next E at) (Over E (next E)) (duration_spot E.text (spot_at E.text at w) at) (duration_spot u (spot_at u at w) at)
    go u a at (yes i) = rw (← (a.same at i).duration) (one u a at i (spot_at E.text at w))
    go u a at (no i) = far (two at (omega arith) (spot_at E.text at w) (spot_place E.text at w))

rule_local : {E : Edge} (c : Scope) → Plain E (λ v. duration_rule v c)
unfolding duration_rule
rule_local c =
    then (opening_local 14) (λ i. token_then (λ t. follow (rule_behind t)
    (λ j. then spot_local (λ k. then (expression_local 13 c) (λ x. then (closing_local 13) (λ l. gives {a = x}))))))

-- ---- fields and actions

field_local : {E : Edge} (w : List ℕ) → Plain E (λ v. field_of v w)
unfolding field_of
field_local w =
    peek_then (λ n. on_word_lem
    (λ k p e. worded (λ v x. cond (same_word x w) (◌>>=◌ (token v) (λ t. give true)) (give false))
    (λ x. choose (same_word x w) (after (token_then (λ t. gives_behind {a = true}))) (gives_behind {a = false})))
    (λ t. gives_behind {a = false}))

when_local : {A : Type 0} {E : Edge} (w : String) {m : List ℕ → Reader (List A)} → Plain E m → Plain E (λ v. when_field v w (m v))
when_local w h = then (field_local (bytes w)) (λ b. either_way b h gives)

module _ {E : Edge} (c : Scope) (e : Entry) where
  simple_local : Plain E (λ v. simple_body v c e)
  unfolding simple_body
  simple_local =
      then (when_local ":precondition" (then (condition_local 14 c 32) (λ x. gives))) (λ cs.
      then (when_local ":effect" (then (effect_local 14 c 16) (λ x. gives))) (λ es. then (closing_local 14) (λ i. gives)))

  durative_local : Plain E (λ v. durative_body v c e)
  unfolding durative_body
  durative_local =
      then (word_local 14 (bytes ":duration")) (λ i. then (rule_local c) (λ x.
      then (when_local ":condition" (then (parts_local true (λ E d n. condition_local d c n) 14 32) (λ y. gives))) (λ cs.
      then (when_local ":effect" (then (parts_local false (λ E d n. effect_local d c n) 14 16) (λ y. gives))) (λ es. then (closing_local 14) (λ j. gives)))))

pub action_local : {E : Edge} (c : Scope) (durative : Bool) (as' : List Action) → Plain E (λ v. action v c durative as')
unfolding action
action_local c durative as' =
    new_then 14 (λ n e. held (fresh 32 (map (λ a. a.declared) as') n.place n.word)
    (fresh_held 32 (map (λ a. a.declared) as') n.place n.word) (λ i.
    after (then (word_local 14 (bytes ":parameters")) (λ j. then (opening_local 14) (λ k. then (variables_local c.types 4) (λ vs.
    then (either_way durative (durative_local (within c vs) (signature n.word vs)) (simple_local (within c vs) (signature n.word vs))) (λ a. gives)))))))
