-- A problem's text depends on nothing after what is reached, where 7 at a number's name reaches to the end of its `(f ..)`. Assumes nothing.
use mathlib.Core.Path.{◌≡◌, refl}
use mathlib.Core.List.{List}
use mathlib.Core.Bool.{Bool, true, false, cond}
use Prim.Native.Nat.{ℕ, zero, suc, ◌+◌, ◌-◌, ◌≤◌, ◌<◌}
use native.Mathlib.Omega.{arith}
use lib.ListN.{length}
use lib.Dec.{eqb}
use Rattle.text_words.specs.Bytes.{bytes}
use Rattle.text_words.specs.Spelling.{same_word}
use Rattle.text_tokens.specs.Runs.{part}
use Rattle.text_tokens.specs.Tokens.{token_at}
use Rattle.text_tokens.specs.declared.tokens.Word.{Word}
use Rattle.text_tokens.specs.declared.tokens.Word.TheVariants as W
use Rattle.text_tokens.specs.declared.tokens.Token.{Token}
use Rattle.text_tokens.specs.declared.tokens.Token.TheVariants as T
use Rattle.domain_meaning.specs.Read.{◌>>=◌, and_then, Read, Reader, got, refused, give, refuse}
use Rattle.domain_meaning.specs.Tables.{declared}
use Rattle.domain_meaning.specs.Due.{token, wrong, after_of, on_open, on_word, opening, closing, word_due, Name}
use Rattle.domain_meaning.specs.Terms.{Scope, Ref, reference}
use Rattle.domain_meaning.specs.Domain.{Domain}
use Rattle.domain_meaning.specs.Problem.{Init, is_given, once, number_due, with_fact, with_number, value_of, init_word, init_to, sums_fit, sums_at, section_due_of}
use Rattle.domain_meaning.specs.Problem.{scope_of, same_domain, of_domain, nothing, init_at, goal_to, init_and_goal, premises, problem_text}
use Rattle.domain_meaning.specs.Indexes.{index_of}
use Rattle.domain_refusal_laws.specs.Lowest.{seen, next_of, closed}
use Rattle.domain_refusal_laws.proofs.Sight.{seen_later}
use Rattle.domain_refusal_laws.proofs.Nearness.{Fits}
use Rattle.domain_refusal_laws.proofs.Local.{Edge, next, agrees_self, Far, Good, far, near, beyond, Over, Local, Plain, gives, never, then, bounded}
use Rattle.domain_refusal_laws.proofs.Local.{Told, Behind, token_then, peek_then, after, follow, refuses, wrongs, choose, choose_then, Held, stays}
use Rattle.domain_refusal_laws.proofs.Local.{stops, gives_behind, held, worded, on_word_lem, on_number_lem, on_close_lem}
use Rattle.domain_refusal_laws.proofs.Suffice.{waits, Strict, opens_strict, Enough, enough, fewer, and_same, close_same}
use Rattle.domain_refusal_laws.proofs.Heads.{declared_held, opening_local, closing_local, word_then, name_then}
use Rattle.domain_refusal_laws.proofs.Rows.{names_local}
use Rattle.domain_refusal_laws.proofs.Closed.{Ended, closes_local, reference_local}
use Rattle.domain_refusal_laws.proofs.Trees.{condition_local}
use Rattle.domain_refusal_laws.proofs.Sections.{word, wide, begins_then, section_local, second_then}
use Rattle.domain_refusal_laws.proofs.Domains.{heading_local, ending_local}
use Rattle.domain_refusal_laws.proofs.Numbers.{reference_closed}

sums_held : (c : Scope) (p n : ℕ) → Held p n (sums_at c p n)
sums_held c p n = go (sums_fit c)
  where
    go : (b : Bool) → Held p n (cond b (give p) (refuse 12 p) n)
    go true = stays p refl
    go false = stops 12 refl

domain_held : (d : Domain) (x : Name) (n : ℕ) → Held x.place n (same_domain d x n)
domain_held d x n = go (same_word x.word d.name)
  where
    go : (b : Bool) → Held x.place n (cond b (give x) (refuse 13 x.place) n)
    go true = stays x refl
    go false = stops 13 refl

-- ---- a section that is due

module _ {A : Type 0} {E : Edge} {F : ℕ → Type 0} (w : List ℕ) (g : List ℕ → ℕ → Reader A)
    (y : (k : Word) (p e : ℕ) → Behind E (T.Word k p e) e F (λ v. g v p)) where
  due_word : (k : Word) (p e : ℕ) → Behind E (T.Word k p e) e F (λ v. ◌>>=◌ (cond (same_word (part v p e) w) (give p) (refuse 3 p)) (g v))
  due_word k p e =
      worded (λ v x. ◌>>=◌ (cond (same_word x w) (give p) (refuse 3 p)) (g v))
      (λ x. choose_then (λ v. give p) (λ v. refuse 3 p) g (same_word x w) (y k p e) refuses)

  due_inner : Local E (next E) F (λ v. ◌>>=◌ (word_due v 14 w) (g v))
  unfolding word_due
  due_inner = token_then (word_then 14 (λ v k p e. cond (same_word (part v p e) w) (give p) (refuse 3 p)) g due_word)

  due_token : (t : Token) → Behind E t (after_of t) F
      (λ v. ◌>>=◌ (◌>>=◌ (on_open t (λ p. cond (eqb 15 0) (refuse {A = ℕ} 12 p) (give p)) (wrong 15 t)) (λ i. word_due v 14 w)) (g v))
  due_token (T.Word k p e) = refuses
  due_token (T.Number z p e) = refuses
  due_token (T.Open p n) = after due_inner
  due_token (T.Close p n) = refuses
  due_token (T.Mark m p n) = refuses
  due_token (T.Refusal k p) = refuses
  due_token (T.End p) = refuses

  due_then : Local E (word E) F (λ v. ◌>>=◌ (section_due_of v w) (g v))
  unfolding section_due_of opening
  due_then = second_then (λ p n. due_inner) due_token

-- ---- init

-- the number that a function's name and arguments stand for, and what follows it
abbrev number_of : Scope → Ref → ℕ
number_of c r = index_of (length c.objects) c.functions r

abbrev valued : Init → List ℕ → ℕ → Reader Init
valued x v i = do
  t ← token v
  z ← number_due t
  _ ← closing v 13
  give (with_number x i z)

abbrev numbered : Scope → Init → ℕ → List ℕ → Ref → Reader Init
numbered c x p v r = do
  i ← once p (number_of c r) x.numbers
  valued x v i

number_due_lem : {E : Edge} (t : Token) → Behind E t (after_of t) (Over E (next E)) (λ v. number_due t)
number_due_lem = on_number_lem (λ z p e. gives_behind) (λ t. wrongs 13)

valued_local : {E : Edge} (x : Init) (i : ℕ) → Plain E (λ v. valued x v i)
valued_local x i = token_then (λ t. follow (number_due_lem t) (λ z. then (closing_local 13) (λ j. gives {a = with_number x i z})))

module _ {E : Edge} (waiting : (p : ℕ) → closed (length E.text + 1) E.text (seen E.text p - 1) ≤ E.reaches 7 p) (c : Scope) where
  -- a number that was given is known where its `(f ..)` is closed
  number_behind : (x : Init) (p e f : ℕ) → Behind E (T.Word W.Name p e) e (Over E (next E)) (λ v. ◌>>=◌ (reference v 12 c c.functions f) (numbered c x p v))
  unfolding Far Fits
  number_behind x p e f = record {
    good = λ u r. go u r (reference s 12 c c.functions f e) (reference u 12 c c.functions f e) refl
        ((closes_local 12 c c.functions f).good u r.agrees e);
  }
    where
      s : List ℕ
      s = E.text

      O : ℕ → Type 0
      O = Over E (next E)

      late : {u : List ℕ} → Told E u (T.Word W.Name p e) e → (a : Ref) (n : ℕ) → reference s 12 c c.functions f e ≡ got a n → Ended E n
          → (b : Bool) → Far E O (and_then (cond b (refuse 7 p) (give (number_of c a)) n) (valued x s))
      late r a n q z true =
          let d : seen s p - 1 ≡ e = omega (arith, r.fits.0) in
          λ _. omega (arith, z.ends, rw d at (waiting p), reference_closed s 12 c c.functions f e n a r.fits.1 q)
      late r a n q z false = beyond {f = next E n} _ _ z.over.past ((valued_local x (number_of c a)).good s (agrees_self E) n)

      on : (x y : Read Init) {m : ℕ} → seen s p ≤ E.edge → Good E m O x y → Good E p O x y
      on x y j (far z) = far z
      on x y j (near i d) = near j d

      same : (u : List ℕ) → Told E u (T.Word W.Name p e) e → seen s p ≤ E.edge → (a : Ref) (n : ℕ) (b : Bool)
          → Good E p O (and_then (cond b (refuse 7 p) (give (number_of c a)) n) (valued x s)) (and_then (cond b (refuse 7 p) (give (number_of c a)) n) (valued x u))
      same u r j a n true = near j refl
      same u r j a n false = on _ _ j ((valued_local x (number_of c a)).good u r.agrees n)

      both : (u : List ℕ) → Told E u (T.Word W.Name p e) e → seen s p ≤ E.edge → (a : Read Ref)
          → Good E p O (and_then a (numbered c x p s)) (and_then a (numbered c x p u))
      both u r j (got a n) = same u r j a n (is_given (number_of c a) x.numbers)
      both u r j (refused k m) = near j refl

      go : (u : List ℕ) → Told E u (T.Word W.Name p e) e → (a b : Read Ref) → reference s 12 c c.functions f e ≡ a → Good E (next E e) (Ended E) a b
          → Good E p O (and_then a (numbered c x p s)) (and_then b (numbered c x p u))
      go u r (got a n) b q (far z) = far (late r a n q z (is_given (number_of c a) x.numbers))
      go u r (refused k j) b q (far z) = far z
      go u r a b q (near i d) = rw (← d) (both u r (omega (arith, seen_later s p (next E e) r.on)) a)

  value_local : (x : Init) → Plain E (λ v. value_of v c x)
  value_local x =
      then (opening_local 13) (λ i. name_then 12 (λ n e. held (declared c.functions n.place n.word) (declared_held c.functions n.place n.word)
      (λ f. number_behind x n.place e f)))

  init_word_lem : (x : Init) (k : Word) (p e : ℕ) → Behind E (T.Word k p e) e (Over E (next E)) (λ v. init_word v c x k p e)
  init_word_lem x W.Name p e =
      worded (λ v w. ◌>>=◌ (declared c.predicates p w) (λ i. ◌>>=◌ (reference v 13 c c.predicates i)
      (λ r. give (with_fact x (index_of (length c.objects) c.predicates r)))))
      (λ w. held (declared c.predicates p w) (declared_held c.predicates p w) (λ i. after (then (reference_local 13 c c.predicates i) (λ r. gives))))
  init_word_lem x W.Operator p e =
      worded (λ v w. cond (same_word w (bytes "=")) (value_of v c x) (refuse 3 p)) (λ w. choose (same_word w (bytes "=")) (after (value_local x)) refuses)
  init_word_lem x W.Variable p e = refuses
  init_word_lem x W.Keyword p e = refuses

  init_token : (x : Init) (t : Token) → Behind E t (after_of t) (Over E (next E)) (λ v. on_word t (init_word v c x) (wrong 13 t))
  init_token x = on_word_lem (init_word_lem x) (λ t. wrongs 13)

  init_rest : (x : Init) → Plain E (λ v. ◌>>=◌ (token v) (λ t. on_word t (init_word v c x) (wrong 13 t)))
  init_rest x = token_then (init_token x)

  init_local : (k : ℕ) (x : Init) → Plain E (λ v. init_to k v c x)
  unfolding init_to
  init_local zero x = never
  init_local (suc k) x =
      peek_then (λ n. on_close_lem
      (λ p m. after (then (closing_local 14) (λ i. gives {a = x})))
      (λ t. after (then (opening_local 14) (λ i. token_then (λ h. follow (init_token x h) (λ y. init_local k y))))))

init_strict : (c : Scope) (x : Init) → Strict (λ v. ◌>>=◌ (opening v 14) (λ i. ◌>>=◌ (token v) (λ t. on_word t (init_word v c x) (wrong 13 t))))
init_strict c x = opens_strict 14 (λ v i. ◌>>=◌ (token v) (λ t. on_word t (init_word v c x) (wrong 13 t))) (λ s q i. init_rest (waits s) c x)

init_suffices : (s : List ℕ) (c : Scope) (j k : ℕ) (x : Init) (at : ℕ) → Enough s j at → Enough s k at → init_to j s c x at ≡ init_to k s c x at
unfolding init_to
init_suffices s c zero k x at ej ek = absurd (let y : ⊥ = omega arith in y)
init_suffices s c (suc j) zero x at ej ek = absurd (let y : ⊥ = omega arith in y)
init_suffices s c (suc j) (suc k) x at ej ek =
    close_same (token_at s at) _ _ _ at (and_same (opening s 14 at) (λ p e h.
    and_same (on_word (token_at s e) (init_word s c x) (wrong 13 (token_at s e)) (after_of (token_at s e))) (λ y n i.
    let b : (next_of s at < length s) × (next_of s at < next_of s n) = (init_strict c x).strict s at n y (rw h i) in
    init_suffices s c j k y n (fewer ej b) (fewer ek b))))

-- ---- the goal

module _ {E : Edge} (waiting : (p : ℕ) → closed (length E.text + 1) E.text (seen E.text p - 1) ≤ E.reaches 7 p) (c : Scope) where
  goal_local : Plain E (λ v. goal_to v c)
  goal_local = then (condition_local 14 c 64) (λ g. then (closing_local 14) (λ i. gives))

  init_behind : {k : Word} {e : ℕ} (p : ℕ) → Behind E (T.Word k p e) e (Over E (word E)) (λ v. init_at v c p)
  init_behind p = held (sums_at c p) (sums_held c p) (λ i. after
      (wide (bounded (λ k v. init_to k v c nothing) (λ s at j k a b. init_suffices s c j k nothing at (enough s j at a) (enough s k at b))
      (λ k. init_local waiting c k nothing))))

  both_local : Local E (word E) (Over E (next E)) (λ v. init_and_goal v c)
  unfolding init_and_goal
  both_local =
      begins_then (bytes ":init") _
      (λ k p e. follow (init_behind p) (λ x. due_then (bytes ":goal") _
      (λ l q f. after (then goal_local (λ g. gives {a = record { objects = c.objects; init = x; goal = g }})))))
      (due_then (bytes ":goal") _ (λ l q f. held (sums_at c q) (sums_held c q)
      (λ i. after (then goal_local (λ g. gives {a = record { objects = c.objects; init = nothing; goal = g }})))))

-- ---- the whole

of_domain_lem : {E : Edge} (d : Domain) → Local E (word E) (Over E (next E)) (λ v. of_domain v d)
of_domain_lem d =
    due_then (bytes ":domain") _
    (λ k p e. after (name_then 14 (λ n e. held (same_domain d n) (domain_held d n) (λ i. after (closing_local 14)))))

premises_local : {E : Edge} (d : Domain) → Local E (next E) (Over E (word E)) (λ v. premises v d)
unfolding premises
premises_local d =
    then (wide (heading_local (bytes "problem"))) (λ n. then (wide (of_domain_lem d))
    (λ i. section_local ":objects" d.constants (wide (names_local d.types 64 d.constants))))

pub problem_local : {E : Edge} → ((p : ℕ) → closed (length E.text + 1) E.text (seen E.text p - 1) ≤ E.reaches 7 p) → (d : Domain)
    → Plain E (λ v. problem_text v d)
unfolding problem_text
problem_local w d = then (premises_local d) (λ os. then (wide (both_local w (scope_of d os))) (λ p. then ending_local (λ i. gives)))
