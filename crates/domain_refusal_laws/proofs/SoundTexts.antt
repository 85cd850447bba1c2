-- The texts of a domain and of a problem are read soundly, so every refusal of one is listed. Assumes nothing.
use mathlib.Core.Path.{◌≡◌, refl}
use mathlib.Core.List.{List, []}
use mathlib.Core.Bool.{Bool, true, false, cond, ◌&&◌}
use Prim.Native.Nat.{ℕ, zero, suc, ◌+◌, ◌≤◌, ◌<◌}
use Prim.Native.String.{String}
use native.Mathlib.Omega.{arith}
use lib.Dec.{eqb}
use lib.ListN.{length, get_or}
use Rattle.text_words.specs.Bytes.{bytes}
use Rattle.text_words.specs.Spelling.{same_word}
use Rattle.text_words.specs.Fixed.{is_flag}
use Rattle.text_tokens.specs.Runs.{part}
use Rattle.text_tokens.specs.Tokens.{token_at}
use Rattle.text_tokens.specs.declared.tokens.Word.{Word}
use Rattle.text_tokens.specs.declared.tokens.Word.TheVariants as W
use Rattle.text_tokens.specs.declared.tokens.Token.{Token}
use Rattle.text_tokens.specs.declared.tokens.Token.TheVariants as T
use Rattle.text_tokens.proofs.Within.{Within}
use Rattle.domain_meaning.specs.Read.{◌>>=◌, and_then, Read, Reader, got, refused, give}
use Rattle.domain_meaning.specs.Tables.{Table}
use Rattle.domain_meaning.specs.Due.{token, wrong, after_of, on_end, Name}
use Rattle.domain_meaning.specs.Terms.{Scope}
use Rattle.domain_meaning.specs.Actions.{Action}
use Rattle.domain_meaning.specs.Domain.{Domain, Opened, opened, other, section_word, behind_open, begins_with, section, ending, heading_of, flag_word, flag_of}
use Rattle.domain_meaning.specs.Domain.{flags_to, actions_to, only_object, flags_section, types_section, constants_section, declared_section, vocabulary, scope_in}
use Rattle.domain_meaning.specs.Domain.{domain_text, read_domain}
use Rattle.domain_meaning.specs.Indexes.{index_of}
use Rattle.domain_meaning.specs.Problem.{Init, is_given, value_of, init_word, init_to, sums_fit, sums_at, section_due_of, scope_of, same_domain, of_domain, nothing}
use Rattle.domain_meaning.specs.Problem.{goal_to, init_and_goal, premises, problem_text, read_problem}
use Rattle.domain_refusal_laws.specs.Listed.{Listed, ListedInDomain, ListedInProblem}
use Rattle.domain_refusal_laws.proofs.Nearness.{Fits}
use Rattle.domain_refusal_laws.proofs.Sound.{Stands, Ends, reads, stops, Sound, Any, lower, gives, refuses, spent, then, fewer, choose, Looked, looked}
use Rattle.domain_refusal_laws.proofs.Sound.{After, token_then, follow, wrongs, on_word_lem, on_number_lem, on_open_lem, on_close_lem, on_refusal_lem, peek_close}
use Rattle.domain_refusal_laws.proofs.SoundRows.{declared_sound, opening_sound, closing_sound, word_sound, name_sound, names_sound, types_sound}
use Rattle.domain_refusal_laws.proofs.SoundRows.{declarations_sound}
use Rattle.domain_refusal_laws.proofs.SoundTrees.{reference_sound, condition_sound}
use Rattle.domain_refusal_laws.proofs.SoundParts.{action_sound}

module _ {s : List ℕ} {x : ℕ} where
  -- ---- sections

  -- a section that stands here takes its bracket and its word; else nothing is read
  begins_then : {A : Type 0} {from c : ℕ} {R : A → Type 0} (w : List ℕ) (g : Opened → Reader A)
      → ((p : ℕ) → Stands s p → Sound s x (from + 1) c R (g (opened p)))
      → Sound s x from 0 R (g other) → Sound s x from 0 R (◌>>=◌ (begins_with s w) g)
  unfolding begins_with Within
  begins_then {A} {from} {c} {R} w g h o = record { ends = λ at i j. first at i j (token_at s at) (looked s at j) }
    where
      second : (at q : ℕ) → from ≤ at → at ≤ length s → at ≤ q → (t : Token) → Looked s (q + 1) t → Ends s x (at + 0) R (and_then (section_word s at w t) g)
      second at q i j k (T.Word y p e) l = go (same_word (part s p e) w)
        where
          go : (b : Bool) → Ends s x (at + 0) R (and_then (cond b (got (opened p) e) (got other at)) g)
          go true = lower (g (opened p) e) (omega (arith, l.within)) ((h p l.stands).ends e (omega (arith, l.within)) l.within.2)
          go false = o.ends at i j
      second at q i j k (T.Number z p e) l = o.ends at i j
      second at q i j k (T.Open p n) l = o.ends at i j
      second at q i j k (T.Close p n) l = o.ends at i j
      second at q i j k (T.Mark m p n) l = o.ends at i j
      second at q i j k (T.Refusal y p) l = o.ends at i j
      second at q i j k (T.End p) l = o.ends at i j

      first : (at : ℕ) → from ≤ at → at ≤ length s → (t : Token) → Looked s at t → Ends s x (at + 0) R (and_then (behind_open s at w t) g)
      first at i j (T.Word k p e) l = o.ends at i j
      first at i j (T.Number z p e) l = o.ends at i j
      first at i j (T.Open p n) l = second at p i j l.within.0 (token_at s (p + 1)) (looked s (p + 1) (omega (arith, l.within)))
      first at i j (T.Close p n) l = o.ends at i j
      first at i j (T.Mark m p n) l = o.ends at i j
      first at i j (T.Refusal k p) l = o.ends at i j
      first at i j (T.End p) l = o.ends at i j

  section_sound : {A : Type 0} {from c : ℕ} (w : String) (none : A) {m : Reader A} → Sound s x (from + 1) c Any m → Sound s x from 0 Any (section s w none m)
  section_sound w none h = begins_then (bytes w) _ (λ p q. h) (gives tt)

  -- ---- the heading and the end

  heading_sound : {from : ℕ} (w : List ℕ) → Sound s x from 1 Any (heading_of s w)
  unfolding heading_of
  heading_sound w =
      then (opening_sound 16) (λ i _. then (word_sound 15 (bytes "define")) (λ j _. then (opening_sound 15) (λ k _. then (word_sound 14 w) (λ l _.
      then (name_sound 14) (λ n _. then (closing_sound 14) (λ m _. gives tt))))))

  end_sound : {from : ℕ} → Sound s x from 0 Any (◌>>=◌ (token s) (λ t. on_end t (λ q. give q) (wrong 16 t)))
  unfolding Fits
  end_sound {from} = record { ends = λ at i j. go at j (token_at s at) (looked s at j) ((wrongs {from = from} 16).ends at (token_at s at) i (looked s at j)) }
    where
      go : (at : ℕ) → at ≤ length s → (t : Token) → Looked s at t → Ends s x (at + 1) Any (wrong {A = ℕ} 16 t (after_of t))
          → Ends s x (at + 0) Any (on_end t (λ q. give q) (wrong 16 t) (after_of t))
      go at j (T.Word k p e) l (stops r) = stops r
      go at j (T.Number z p e) l (stops r) = stops r
      go at j (T.Open p n) l (stops r) = stops r
      go at j (T.Close p n) l (stops r) = stops r
      go at j (T.Mark m p n) l (stops r) = stops r
      go at j (T.Refusal k p) l (stops r) = stops r
      go at j (T.End p) l r = reads {n = p} (omega (arith, l.fits)) l.stands.inside tt

  ending_sound : {from : ℕ} → Sound s x from 1 Any (ending s)
  unfolding ending
  ending_sound = token_then (on_close_lem (λ p. end_sound) (on_open_lem (λ p h i. token_then (wrongs 14)) (wrongs 15)))

  -- ---- a domain

  flag_word_lem : {from : ℕ} (k : Word) (p e : ℕ) → Stands s p → Sound s x from 0 Any (flag_word s k p e)
  flag_word_lem W.Keyword p e h = choose (is_flag (part s p e)) (gives tt) (refuses refl h)
  flag_word_lem W.Name p e h = refuses refl h
  flag_word_lem W.Variable p e h = refuses refl h
  flag_word_lem W.Operator p e h = refuses refl h

  flag_sound : {from : ℕ} → After s x from Any (λ t. flag_of s t)
  flag_sound = on_word_lem (λ k p e h. flag_word_lem k p e h) (on_refusal_lem 14 (λ k p. eqb k 5 && eqb (get_or s p 0) 58))

  -- each step takes a byte: as many as the text has, and one, suffice
  flags_sound : {from : ℕ} (k : ℕ) → length s < k + from → Sound s x from 1 Any (flags_to k s)
  unfolding flags_to
  flags_sound zero h = spent (omega arith)
  flags_sound {from = from} (suc k) h = token_then (on_close_lem (λ p. gives tt) (follow flag_sound (λ i _. flags_sound {from = from + 1} k (omega arith))))

  actions_sound : {from : ℕ} (k : ℕ) (c : Scope) (as' : List Action) → length s < k + from → Sound s x from 0 Any (actions_to k s c as')
  unfolding actions_to
  actions_sound zero c as' h = spent (omega arith)
  actions_sound {from = from} (suc k) c as' h =
      begins_then (bytes ":action") _ (λ p q. then (action_sound c false as') (λ bs _. actions_sound {from = from + 1 + 1} k c bs (omega arith)))
      (begins_then (bytes ":durative-action") _ (λ p q. then (action_sound c true as') (λ bs _. actions_sound {from = from + 1 + 1} k c bs (omega arith))) (gives tt))

  flags_section_lem : {from : ℕ} → Sound s x from 0 Any (flags_section s)
  unfolding flags_section
  flags_section_lem = section_sound ":requirements" 0 (flags_sound (length s + 1) (omega arith))

  types_section_lem : {from : ℕ} → Sound s x from 0 Any (types_section s)
  unfolding types_section
  types_section_lem = section_sound ":types" only_object types_sound

  constants_section_lem : {from : ℕ} (ts : Table) → Sound s x from 0 Any (constants_section s ts)
  unfolding constants_section
  constants_section_lem ts = section_sound ":constants" [] (names_sound ts 64 [])

  declared_section_lem : {from : ℕ} (w : List ℕ) (ts : Table) (max most : ℕ) → Sound s x from 0 Any (declared_section s w ts max most)
  unfolding declared_section
  declared_section_lem w ts max most = begins_then w _ (λ p q. declarations_sound (length s + 1) ts max most [] (omega arith)) (gives tt)

  vocabulary_sound : {from : ℕ} → Sound s x from 1 Any (vocabulary s)
  unfolding vocabulary
  vocabulary_sound =
      then (heading_sound (bytes "domain")) (λ n _. then flags_section_lem (λ i _. then types_section_lem (λ ts _. then (constants_section_lem ts) (λ os _.
      then (declared_section_lem (bytes ":predicates") ts 32 3) (λ ps _. then (declared_section_lem (bytes ":functions") ts 16 2) (λ fs _. gives tt))))))

  domain_sound : {from : ℕ} → Sound s x from 1 Any (domain_text s)
  unfolding domain_text
  domain_sound = then vocabulary_sound (λ v _. then (actions_sound (length s + 1) (scope_in v) [] (omega arith)) (λ as' _. then ending_sound (λ i _. gives tt)))

  -- ---- a problem

  sums_sound : {from p : ℕ} (c : Scope) → Stands s p → Sound s x from 0 Any (sums_at c p)
  sums_sound c h = choose (sums_fit c) (gives tt) (refuses refl h)

  due_sound : {from : ℕ} (w : List ℕ) → Sound s x from 1 (Stands s) (section_due_of s w)
  unfolding section_due_of
  due_sound w = then (opening_sound 15) (λ i _. word_sound 14 w)

  value_sound : {from : ℕ} (c : Scope) (y : Init) → Sound s x from 1 Any (value_of s c y)
  value_sound c y =
      then (opening_sound 13) (λ i _. then (name_sound 12) (λ n h. then (declared_sound c.functions n.word h) (λ f _.
      then (reference_sound 12 c c.functions f) (λ r _. then {Q = Any}
      (choose (is_given (index_of (length c.objects) c.functions r) y.numbers) (refuses refl h) (gives tt)) (λ j _.
      token_then (follow {Q = Any} (on_number_lem (λ z p q. gives tt) (wrongs 13)) (λ z _. then (closing_sound 13) (λ k _. gives tt))))))))

  init_word_lem : {from : ℕ} (c : Scope) (y : Init) (k : Word) (p e : ℕ) → Stands s p → Sound s x from 0 Any (init_word s c y k p e)
  init_word_lem c y W.Name p e h = then (declared_sound c.predicates (part s p e) h) (λ i _. then (reference_sound 13 c c.predicates i) (λ r _. gives tt))
  init_word_lem c y W.Operator p e h = choose (same_word (part s p e) (bytes "=")) (fewer (value_sound c y)) (refuses refl h)
  init_word_lem c y W.Variable p e h = refuses refl h
  init_word_lem c y W.Keyword p e h = refuses refl h

  init_sound : {from : ℕ} (k : ℕ) (c : Scope) (y : Init) → length s < k + from → Sound s x from 1 Any (init_to k s c y)
  unfolding init_to
  init_sound zero c y h = spent (omega arith)
  init_sound {from = from} (suc k) c y h =
      peek_close
      (λ p q. then (closing_sound 14) (λ i _. gives tt))
      (then (opening_sound 14) (λ i _. token_then (follow (on_word_lem (λ k p e q. init_word_lem c y k p e q) (wrongs 13)) (λ z _. init_sound {from = from + 1 + 1} k c z (omega arith)))))

  goal_sound : {from : ℕ} (c : Scope) → Sound s x from 1 Any (goal_to s c)
  goal_sound c = then (condition_sound 14 c 64) (λ g _. then (closing_sound 14) (λ i _. gives tt))

  both_sound : {from : ℕ} (c : Scope) → Sound s x from 0 Any (init_and_goal s c)
  unfolding init_and_goal
  both_sound c =
      begins_then (bytes ":init") _
      (λ p h. then (then (sums_sound c h) (λ i _. init_sound (length s + 1) c nothing (omega arith))) (λ y _.
      then (due_sound (bytes ":goal")) (λ q _. then (goal_sound c) (λ g _. gives {a = record { objects = c.objects; init = y; goal = g }} tt))))
      (fewer (then (due_sound (bytes ":goal")) (λ q h. then (sums_sound c h)
      (λ i _. then (goal_sound c) (λ g _. gives {a = record { objects = c.objects; init = nothing; goal = g }} tt)))))

-- 13 is for a problem only
named_sound : {s : List ℕ} {from : ℕ} (d : Domain) (n : Name) → Stands s n.place → Sound s 1 from 0 Any (same_domain d n)
named_sound {s} {from} d n h = choose (same_word n.word d.name) (gives tt) (record { ends = λ at i j. stops another })
  where
    another : Listed (12 + 1) (length s) 13 n.place
    another = record { least = omega arith; highest = omega arith; inside = h.inside; low = h.low; long = λ e. absurd (let o : ⊥ = omega arith in o) }

of_domain_lem : {s : List ℕ} {from : ℕ} (d : Domain) → Sound s 1 from 1 Any (of_domain s d)
of_domain_lem d =
    then (due_sound (bytes ":domain")) (λ i _. then (name_sound 14) (λ n h. then (named_sound d n h) (λ j _. closing_sound 14)))

premises_sound : {s : List ℕ} {from : ℕ} (d : Domain) → Sound s 1 from 1 Any (premises s d)
unfolding premises
premises_sound d =
    then (heading_sound (bytes "problem")) (λ n _. then (of_domain_lem d)
    (λ i _. section_sound ":objects" d.constants (names_sound d.types 64 d.constants)))

problem_sound : {s : List ℕ} {from : ℕ} (d : Domain) → Sound s 1 from 1 Any (problem_text s d)
unfolding problem_text
problem_sound d = then (premises_sound d) (λ os _. then (both_sound (scope_of d os)) (λ p _. then ending_sound (λ i _. gives tt)))

-- ---- the law

refused_listed : {A : Type 0} {s : List ℕ} {x lo k p : ℕ} {Q : A → Type 0} (r : Read A) → r ≡ refused k p → Ends s x lo Q r → Listed (12 + x) (length s) k p
refused_listed (got a n) e (reads i j q) = let z : ◌≡◌ {A = ℕ} 0 1 = cc in absurd (let o : ⊥ = omega arith in o)
refused_listed {s = s} {x = x} {k = k} {p = p} (refused l q) e (stops h) =
    let d : l ≡ k = cc in
    let f : q ≡ p = cc in
    rw (← d, ← f) h

pub listed_in_domain_lem : ListedInDomain
unfolding read_domain
listed_in_domain_lem s k p e = refused_listed (domain_text s 0) e ((domain_sound {x = 0} {from = 0}).ends 0 (omega arith) (omega arith))

pub listed_in_problem_lem : ListedInProblem
unfolding read_problem
listed_in_problem_lem s d k p e = refused_listed (problem_text s d 0) e ((problem_sound {from = 0} d).ends 0 (omega arith) (omega arith))
