-- The ways through a part's time, and whether a field follows. Assumes nothing.
use Rattle.std.specs.Prelude.{None, Option, Some}
use mathlib.Core.Path.{◌≡◌, sym, ap, ◌∙◌}
use mathlib.Core.List.{List, [], ◌∷◌}
use mathlib.Core.Bool.{Bool, true, false}
use Prim.Native.Nat.{ℕ, ◌≤◌, ◌<◌}
use types.Run.{OneOf}
use denote.Enum.Declared.{tag_of}
use Rattle.text_words.specs.Bytes.{bytes}
use Rattle.text_words.specs.Spelling.{same_word}
use Rattle.text_tokens.specs.Runs.{part}
use Rattle.text_tokens.specs.Tokens.{token_at}
use Rattle.text_tokens.specs.declared.tokens.Word.{Word}
use Rattle.text_tokens.specs.declared.tokens.Token.{Token}
use Rattle.text_tokens.specs.declared.tokens.Token.TheVariants as T
use Rattle.text_tokens.specs.contracts.tokens.Token as token-type
use Rattle.domain_meaning.specs.Read.{Reader, give, refuse}
use Rattle.domain_meaning.specs.Due.{number_of, place_of, after_of, word_due}
use Rattle.domain_meaning.specs.Actions.{When, time_of, field_of}
use Rattle.domain_due.specs.Answers.{answer_of}
use Rattle.domain_due.specs.Answers.{Parsed}
use Rattle.domain_due.specs.Answers.{Done, Refused}
use Rattle.domain_due.proofs.Dues.{not_word, answer_done, answer_refused}
use Rattle.domain_timed_parts.specs.Times.{when_answer, behind_at, behind_over}
use Rattle.domain_timed_parts.specs.Fields.{field_found, Farther}

-- ---- after `at`

module _ (s : List ℕ) (d at : ℕ) where
  pub behind_else : (t : Token) (r : Parsed) → t ≡ token_at s at → OneOf (1 ∷ 2 ∷ 3 ∷ 4 ∷ 5 ∷ 6 ∷ []) (tag_of token-type.the_type t)
      → r ≡ Refused (number_of d t) (place_of t) → r ≡ when_answer (behind_at s d at)
  unfolding behind_at
  behind_else t r e h q = q ∙ rw (← e) (ap (λ (x : Reader When). when_answer (x (after_of t))) (sym (not_word t _ (refuse (number_of d t) (place_of t)) h)))

  module _ (k : Word) (p e : ℕ) (q : token_at s at ≡ T.Word k p e) where
    pub behind_start : same_word (part s p e) (bytes "start") ≡ true → Done e 1 ≡ when_answer (behind_at s d at)
    unfolding behind_at
    behind_start h = rw (q, h)

    pub behind_end : same_word (part s p e) (bytes "start") ≡ false → same_word (part s p e) (bytes "end") ≡ true → Done e 3 ≡ when_answer (behind_at s d at)
    unfolding behind_at
    behind_end h j = rw (q, h, j)

    pub behind_other : same_word (part s p e) (bytes "start") ≡ false → same_word (part s p e) (bytes "end") ≡ false → Refused 3 p ≡ when_answer (behind_at s d at)
    unfolding behind_at
    behind_other h j = rw (q, h, j)

  -- ---- after `over`

  pub over_refused : (r : Parsed) (k p : ℕ) → r ≡ answer_of (word_due s d (bytes "all") at) → r ≡ Refused k p → r ≡ when_answer (behind_over s d at)
  unfolding behind_over
  over_refused r k p e h = h ∙ rw (answer_refused (word_due s d (bytes "all") at) k p (sym e ∙ h))

  pub over_read : (r : Parsed) (a v : ℕ) → r ≡ answer_of (word_due s d (bytes "all") at) → r ≡ Done a v → Done a 2 ≡ when_answer (behind_over s d at)
  unfolding behind_over
  over_read r a v e h = rw (answer_done (word_due s d (bytes "all") at) a v (sym e ∙ h))

-- ---- the time, by a part's first word

module _ (s : List ℕ) (d : ℕ) (over : Bool) (p e : ℕ) where
  pub time_at : (r : Parsed) → same_word (part s p e) (bytes "at") ≡ true → r ≡ when_answer (behind_at s d e) → r ≡ when_answer (time_of s d over p e e)
  unfolding time_of behind_at
  time_at r h q = rw h q

  module _ (n : same_word (part s p e) (bytes "at") ≡ false) where
    pub time_over : (r : Parsed) → over ≡ true → same_word (part s p e) (bytes "over") ≡ true → r ≡ when_answer (behind_over s d e)
        → r ≡ when_answer (time_of s d over p e e)
    unfolding time_of behind_over
    time_over r o h q = rw (n, o, h) q

    pub time_neither : over ≡ true → same_word (part s p e) (bytes "over") ≡ false → Refused 3 p ≡ when_answer (time_of s d over p e e)
    unfolding time_of
    time_neither o h = rw (n, o, h)

    pub time_effect : over ≡ false → Refused 3 p ≡ when_answer (time_of s d over p e e)
    unfolding time_of
    time_effect o = rw (n, o)

-- ---- whether a field follows

module _ (s w : List ℕ) (at : ℕ) where
  pub field_else : (t : Token) → t ≡ token_at s at → OneOf (1 ∷ 2 ∷ 3 ∷ 4 ∷ 5 ∷ 6 ∷ []) (tag_of token-type.the_type t) → None ≡ field_found (field_of s w at)
  unfolding field_of
  field_else t e h = rw (← e) (ap (λ (x : Reader Bool). field_found (x at)) (sym (not_word t _ (give false) h)))

  module _ (k : Word) (p e : ℕ) (q : token_at s at ≡ T.Word k p e) where
    pub field_read : same_word (part s p e) w ≡ true → Some e ≡ field_found (field_of s w at)
    unfolding field_of
    field_read h = rw (q, h) (ap (λ (t : Token). Some (after_of t)) (sym q))

    pub field_other : same_word (part s p e) w ≡ false → None ≡ field_found (field_of s w at)
    unfolding field_of
    field_other h = rw (q, h)

pub farther_by : (n at e : ℕ) → at < e → e ≤ n → Farther n at (Some e)
unfolding Farther
farther_by n at e lo hi = (lo, hi)

pub farther_not : (n at : ℕ) → Farther n at None
unfolding Farther
farther_not n at = tt

pub farther_at : (n at e : ℕ) (f : Option ℕ) → f ≡ Some e → Farther n at f → (at < e) × (e ≤ n)
unfolding Farther
farther_at n at e f q h = rw q at h
