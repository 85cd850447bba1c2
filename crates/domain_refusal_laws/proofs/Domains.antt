-- A domain's text depends on nothing after what is reached. Assumes nothing.
use mathlib.Core.List.{List, []}
use mathlib.Core.Path.{◌≡◌, refl}
use mathlib.Core.Bool.{Bool, true, false, cond, ◌&&◌}
use Prim.Native.Nat.{ℕ, zero, suc, ◌+◌, ◌<◌}
use native.Mathlib.Omega.{arith}
use lib.ListN.{length, get_or}
use lib.Dec.{eqb}
use Rattle.text_words.specs.Bytes.{bytes}
use Rattle.text_words.specs.Spelling.{same_word}
use Rattle.text_words.specs.Fixed.{is_flag}
use Rattle.text_tokens.specs.Runs.{part}
use Rattle.text_tokens.specs.Tokens.{token_at}
use Rattle.text_tokens.specs.declared.tokens.Word.{Word}
use Rattle.text_tokens.specs.declared.tokens.Word.TheVariants as W
use Rattle.text_tokens.specs.declared.tokens.Token.{Token}
use Rattle.text_tokens.specs.declared.tokens.Token.TheVariants as T
use Rattle.domain_meaning.specs.Read.{◌>>=◌, and_then, Reader, got, give, refuse}
use Rattle.domain_meaning.specs.Tables.{Table}
use Rattle.domain_meaning.specs.Due.{token, wrong, after_of, on_close, on_end}
use Rattle.domain_meaning.specs.Terms.{Scope}
use Rattle.domain_meaning.specs.Actions.{Action, action}
use Rattle.domain_meaning.specs.Domain.{Opened, opened, other, on_opened, section_word, begins_with, ending, heading_of, flag_word, flag_of, flags_to, actions_to}
use Rattle.domain_meaning.specs.Domain.{only_object, flags_section, types_section, constants_section, declared_section, vocabulary, scope_in, domain_text}
use Rattle.domain_refusal_laws.specs.Lowest.{next_of}
use Rattle.domain_refusal_laws.proofs.Local.{Edge, next, Over, Local, Plain, gives, never, then, bounded, Behind, token_then, after, follow, refuses}
use Rattle.domain_refusal_laws.proofs.Local.{wrongs, choose, Held, stays, stops, gives_behind, worded, begun, on_word_lem, on_close_lem, on_refusal_lem, on_open_lem}
use Rattle.domain_refusal_laws.proofs.Suffice.{held_at, forward, word_strict, bracket_facts, bracket_next, bracket_strict, Enough, enough, fewer}
use Rattle.domain_refusal_laws.proofs.Suffice.{and_same}
use Rattle.domain_refusal_laws.proofs.Heads.{opening_local, closing_local, word_local, name_then}
use Rattle.domain_refusal_laws.proofs.Rows.{names_local, types_local, declarations_local}
use Rattle.domain_refusal_laws.proofs.Parts.{action_local}
use Rattle.domain_refusal_laws.proofs.Sections.{word, Section, wide, begins_then, section_local, second_then}

-- ---- the heading and the end

pub heading_local : {E : Edge} (w : List ℕ) → Plain E (λ v. heading_of v w)
unfolding heading_of
heading_local w =
    then (opening_local 16) (λ i. then (word_local 15 (bytes "define")) (λ j. then (opening_local 15) (λ k. then (word_local 14 w) (λ l.
    name_then 14 (λ n e. after (then (closing_local 14) (λ m. gives {a = n})))))))

end_behind : {E : Edge} (t : Token) → Behind E t (after_of t) (Over E (next E)) (λ v. on_end t (λ q. give q) (wrong 16 t))
end_behind (T.Word k p e) = refuses
end_behind (T.Number z p e) = refuses
end_behind (T.Open p n) = refuses
end_behind (T.Close p n) = refuses
end_behind (T.Mark m p n) = refuses
end_behind (T.Refusal k p) = refuses
end_behind (T.End p) = gives_behind

pub ending_local : {E : Edge} → Local E (word E) (Over E (next E)) ending
unfolding ending
ending_local {E} = second_then (λ p n. behind) (on_close_lem (λ p n. after (token_then end_behind)) (on_open_lem (λ p n. after behind) (λ t. wrongs 15)))
  where
    behind : Plain {A = ℕ} E (λ v. ◌>>=◌ (token v) (wrong 14))
    behind = token_then (λ t. wrongs 14)

-- ---- requirements

flag_word_lem : {E : Edge} (k : Word) (p e : ℕ) → Behind E (T.Word k p e) e (Over E (next E)) (λ v. flag_word v k p e)
flag_word_lem W.Keyword p e = worded (λ v w. cond (is_flag w) (give p) (refuse 11 p)) (λ w. choose (is_flag w) gives_behind refuses)
flag_word_lem W.Name p e = refuses
flag_word_lem W.Variable p e = refuses
flag_word_lem W.Operator p e = refuses

flag_behind : {E : Edge} (t : Token) → Behind E t (after_of t) (Over E (next E)) (λ v. flag_of v t)
flag_behind =
    on_word_lem flag_word_lem
    (on_refusal_lem
    (λ k p. begun (λ v b. cond (eqb k 5 && eqb b 58) (refuse 11 p) (refuse k p)) (λ b. choose (eqb k 5 && eqb b 58) refuses refuses))
    (λ t. wrongs 14))

flags_local : {E : Edge} (k : ℕ) → Plain E (λ v. flags_to k v)
unfolding flags_to
flags_local zero = never
flags_local (suc k) = token_then (on_close_lem (λ p n. gives_behind) (λ t. follow (flag_behind t) (λ i. flags_local k)))

flag_held : (s : List ℕ) (k : Word) (p e n : ℕ) → Held p n (flag_word s k p e n)
flag_held s W.Keyword p e n = go (is_flag (part s p e))
  where
    go : (b : Bool) → Held p n (cond b (give p) (refuse 11 p) n)
    go true = stays p refl
    go false = stops 11 refl
flag_held s W.Name p e n = stops 3 refl
flag_held s W.Variable p e n = stops 3 refl
flag_held s W.Operator p e n = stops 3 refl

flags_suffice : (s : List ℕ) (j k at : ℕ) → Enough s j at → Enough s k at → flags_to j s at ≡ flags_to k s at
unfolding flags_to
flags_suffice s zero k at ej ek = absurd (let y : ⊥ = omega arith in y)
flags_suffice s (suc j) zero at ej ek = absurd (let y : ⊥ = omega arith in y)
flags_suffice s (suc j) (suc k) at ej ek = go (λ n a b. flags_suffice s j k n a b) (token_at s at) refl
  where
    refusal_same : (b : Bool) (x p n : ℕ) (g h : ℕ → Reader ℕ)
        → and_then (cond b (refuse 11 p) (refuse x p) n) g ≡ and_then (cond b (refuse 11 p) (refuse x p) n) h
    refusal_same true x p n g h = refl
    refusal_same false x p n g h = refl

    go : ((n : ℕ) → Enough s j n → Enough s k n → flags_to j s n ≡ flags_to k s n) → (t : Token) → token_at s at ≡ t
        → on_close t (λ p. give p) (◌>>=◌ (flag_of s t) (λ i. flags_to j s)) (after_of t) ≡ on_close t (λ p. give p)
        (◌>>=◌ (flag_of s t) (λ i. flags_to k s)) (after_of t)
    go f (T.Word x p e) q =
        and_same (flag_word s x p e e) (λ i n h.
        let r : n ≡ e = held_at (flag_word s x p e e) (flag_held s x p e e) h in
        let b : (next_of s at < length s) × (next_of s at < next_of s n) = rw r (word_strict s at x p e q) in
        f n (fewer ej b) (fewer ek b))
    go f (T.Number z p e) q = refl
    go f (T.Open p e) q = refl
    go f (T.Close p e) q = refl
    go f (T.Mark m p e) q = refl
    go f (T.Refusal x p) q = refusal_same (eqb x 5 && eqb (get_or s p 0) 58) x p p _ _
    go f (T.End p) q = refl

-- ---- actions, and the whole

-- a section that was found has a bracket, and the next token stands after it; else nothing was read
abbrev Begun : List ℕ → ℕ → Opened → ℕ → Type 0
Begun s at (opened p) e = (q : ℕ) × (m : ℕ) × (token_at s at ≡ T.Open q m) × (q < next_of s e)
Begun s at other e = e ≡ at

begun_at : (s w : List ℕ) (at e : ℕ) (o : Opened) → begins_with s w at ≡ got o e → Begun s at o e
unfolding begins_with
begun_at s w at e o h = go (token_at s at) refl
  where
    none : got other at ≡ got o e → Begun s at o e
    none k = let r : other ≡ o = cc in let q : e ≡ at = cc in rw (← r) q

    found : (q m : ℕ) → token_at s at ≡ T.Open q m → (x : Word) (b f : ℕ) → token_at s (q + 1) ≡ T.Word x b f → (y : Bool)
        → cond y (got (opened b) f) (got other at) ≡ got o e → Begun s at o e
    found q m i x b f j true k =
        let r : opened b ≡ o = cc in
        let t : f ≡ e = cc in
        let n : q < next_of s (q + 1) = rw (← (bracket_facts s at q m i).0) (bracket_next s at q m i) in
        rw (← r, ← t) (q, m, i, omega (arith, word_strict s (q + 1) x b f j))
    found q m i x b f j false k = none k

    second : (q m : ℕ) → token_at s at ≡ T.Open q m → (t : Token) → token_at s (q + 1) ≡ t → section_word s at w t ≡ got o e → Begun s at o e
    second q m i (T.Word x b f) j k = found q m i x b f j (same_word (part s b f) w) k
    second q m i (T.Number z b f) j k = none k
    second q m i (T.Open b f) j k = none k
    second q m i (T.Close b f) j k = none k
    second q m i (T.Mark x b f) j k = none k
    second q m i (T.Refusal x b) j k = none k
    second q m i (T.End b) j k = none k

    go : (t : Token) → token_at s at ≡ t → Begun s at o e
    go (T.Word k q m) i = none (rw i at h)
    go (T.Number z q m) i = none (rw i at h)
    go (T.Open q m) i = second q m i (token_at s (q + 1)) refl (rw i at h)
    go (T.Close q m) i = none (rw i at h)
    go (T.Mark x q m) i = none (rw i at h)
    go (T.Refusal x q) i = none (rw i at h)
    go (T.End q) i = none (rw i at h)

-- an action that was found goes on at a later token
action_strict : (s : List ℕ) (c : Scope) (durative : Bool) (as' : List Action) (at p e n : ℕ) (bs : List Action)
    → Begun s at (opened p) e → action s c durative as' e ≡ got bs n → (next_of s at < length s) × (next_of s at < next_of s n)
action_strict s c durative as' at p e n bs o i =
    bracket_strict s at o.0 o.1 o.2 e n o.3 (forward (λ s q. action_local c durative as') s e n bs i)

module _ (s : List ℕ) (c : Scope) (j k : ℕ) (f : (as' : List Action) (n : ℕ) → Enough s j n → Enough s k n → actions_to j s c as' n ≡ actions_to k s c as' n)
    (as' : List Action) (at : ℕ) (ej : Enough s (suc j) at) (ek : Enough s (suc k) at) where
  action_step : (durative : Bool) (p e : ℕ) → Begun s at (opened p) e
      → ◌>>=◌ (action s c durative as') (λ bs. actions_to j s c bs) e ≡ ◌>>=◌ (action s c durative as') (λ bs. actions_to k s c bs) e
  action_step durative p e o =
      and_same (action s c durative as' e) (λ bs n i.
      let b : (next_of s at < length s) × (next_of s at < next_of s n) = action_strict s c durative as' at p e n bs o i in
      f bs n (fewer ej b) (fewer ek b))

  durative_step : (o : Opened) (e : ℕ) → Begun s at o e
      → on_opened o (λ p. ◌>>=◌ (action s c true as') (λ bs. actions_to j s c bs)) (give as') e ≡ on_opened o
      (λ p. ◌>>=◌ (action s c true as') (λ bs. actions_to k s c bs)) (give as') e
  durative_step (opened p) e h = action_step true p e h
  durative_step other e h = refl

  simple_step : (o : Opened) (e : ℕ) → Begun s at o e
      → on_opened o (λ p. ◌>>=◌ (action s c false as') (λ bs. actions_to j s c bs))
      (◌>>=◌ (begins_with s (bytes ":durative-action")) (λ d. on_opened d (λ p. ◌>>=◌ (action s c true as') (λ bs. actions_to j s c bs)) (give as'))) e
      ≡ on_opened o (λ p. ◌>>=◌ (action s c false as') (λ bs. actions_to k s c bs))
      (◌>>=◌ (begins_with s (bytes ":durative-action")) (λ d. on_opened d (λ p. ◌>>=◌ (action s c true as') (λ bs. actions_to k s c bs)) (give as'))) e
  simple_step (opened p) e h = action_step false p e h
  simple_step other e h = rw h (and_same (begins_with s (bytes ":durative-action") at)
      (λ o n i. durative_step o n (begun_at s (bytes ":durative-action") at n o i)))

actions_suffice : (s : List ℕ) (c : Scope) (j k : ℕ) (as' : List Action) (at : ℕ) → Enough s j at → Enough s k at
    → actions_to j s c as' at ≡ actions_to k s c as' at
unfolding actions_to
actions_suffice s c zero k as' at ej ek = absurd (let y : ⊥ = omega arith in y)
actions_suffice s c (suc j) zero as' at ej ek = absurd (let y : ⊥ = omega arith in y)
actions_suffice s c (suc j) (suc k) as' at ej ek =
    and_same (begins_with s (bytes ":action") at) (λ o n i.
    simple_step s c j k (λ bs m a b. actions_suffice s c j k bs m a b) as' at ej ek o n (begun_at s (bytes ":action") at n o i))

actions_local : {E : Edge} (k : ℕ) (c : Scope) (as' : List Action) → Section E (λ v. actions_to k v c as')
unfolding actions_to
actions_local zero c as' = never
actions_local (suc k) c as' =
    begins_then (bytes ":action") _ (λ x p e. after (then (wide (action_local c false as')) (λ bs. actions_local k c bs)))
    (begins_then (bytes ":durative-action") _ (λ x p e. after (then (wide (action_local c true as')) (λ bs. actions_local k c bs))) gives)

flags_section_lem : {E : Edge} → Section E flags_section
unfolding flags_section
flags_section_lem = section_local ":requirements" 0 (wide (bounded flags_to (λ s at j k a b. flags_suffice s j k at (enough s j at a) (enough s k at b))
    flags_local))

types_section_lem : {E : Edge} → Section E types_section
unfolding types_section
types_section_lem = section_local ":types" only_object (wide types_local)

constants_section_lem : {E : Edge} (ts : Table) → Section E (λ v. constants_section v ts)
unfolding constants_section
constants_section_lem ts = section_local ":constants" [] (wide (names_local ts 64 []))

declared_section_lem : {E : Edge} (w : List ℕ) (ts : Table) (max most : ℕ) → Section E (λ v. declared_section v w ts max most)
unfolding declared_section
declared_section_lem w ts max most =
    begins_then w _ (λ x p e. after (wide (declarations_local ts max most))) gives

vocabulary_local : {E : Edge} → Local E (next E) (Over E (word E)) vocabulary
unfolding vocabulary
vocabulary_local =
    then (wide (heading_local (bytes "domain"))) (λ n. then flags_section_lem (λ i. then types_section_lem (λ ts. then (constants_section_lem ts) (λ os.
    then (declared_section_lem (bytes ":predicates") ts 32 3) (λ ps. then (declared_section_lem (bytes ":functions") ts 16 2) (λ fs. gives))))))

pub domain_local : {E : Edge} → Plain E domain_text
unfolding domain_text
domain_local =
    then vocabulary_local (λ v. then (bounded (λ k s. actions_to k s (scope_in v) [])
    (λ s at j k a b. actions_suffice s (scope_in v) j k [] at (enough s j at a) (enough s k at b)) (λ k. actions_local k (scope_in v) []))
    (λ as'. then ending_local (λ i. gives)))
