-- Signs and spaces at a place of a plan line. Assumes nothing.
use mathlib.Core.Path.{◌≡◌, refl, sym, ap, ◌∙◌}
use mathlib.Core.List.{List}
use mathlib.Core.Bool.{Bool, true, false, cond}
use Prim.Native.Nat.{ℕ, ◌+◌, ◌≤◌, ◌<◌}
use native.Mathlib.Omega.{arith}
use lib.Dec.{eqb}
use lib.ListN.{length, get_or}
use denote.Enum.Bare.{sameb}
use borrow.Author.Tests.{ne_eqb, eqb-true, eqb-false, le-ltb}
use Rattle.text_words.specs.Bytes.{bytes, kind_of, is_wordly, on_start}
use Rattle.text_words.specs.declared.bytes.Kind.{Kind}
use Rattle.text_words.specs.declared.bytes.Kind.TheVariants as K
use Rattle.text_words.specs.contracts.bytes.Kind as kind-type
use Rattle.text_tokens.specs.Runs.{gap_step, gap_end}
use Rattle.text_tokens.specs.Tokens.{judged_of, square_of, plan_token_at}
use Rattle.text_tokens.specs.Signs.{is_sign, Stands}
use Rattle.text_tokens.specs.declared.runs.Gap.TheVariants as G
use Rattle.text_tokens.specs.declared.tokens.Token.{Token}
use Rattle.text_tokens.specs.declared.tokens.Token.TheVariants as T
use Rattle.text_tokens.proofs.Steps.{gap_start, gap_over, gap_plain, gap_token}
use Rattle.text_tokens.proofs.Ways.{plan_end, plan_colon, plan_bracket}

never : {A : Type 0} → ◌≡◌ {A = Bool} false true → A
never e = absurd (let z : ◌≡◌ {A = ℕ} 0 1 = cc in let y : ⊥ = omega arith in y)

-- ---- which bytes are signs

pub bracket_same : (k : Kind) → sameb kind-type.the_type k K.Bracket ≡ on_start k false true false
bracket_same K.Digit = refl
bracket_same K.Letter = refl
bracket_same K.Bracket = refl
bracket_same K.White = refl
bracket_same K.Mark = refl
bracket_same K.Refused = refl

bracket_is : (k : Kind) → on_start k false true false ≡ true → k ≡ K.Bracket
bracket_is K.Digit h = never h
bracket_is K.Letter h = never h
bracket_is K.Bracket h = refl
bracket_is K.White h = never h
bracket_is K.Mark h = never h
bracket_is K.Refused h = never h

-- a sign is a colon or a bracket
by_sign : {A : Type 0} (b : ℕ) → is_sign b ≡ true → (b ≡ 58 → A) → ((b ≡ 58 → ⊥) → kind_of b ≡ K.Bracket → A) → A
unfolding is_sign
by_sign {A} b h f g = go (eqb b 58) refl h
  where
    go : (t : Bool) → eqb b 58 ≡ t → cond t true (on_start (kind_of b) false true false) ≡ true → A
    go true e k = f (eqb-true b 58 e)
    go false e k = g (eqb-false b 58 e) (bracket_is (kind_of b) k)

-- ---- gaps

bracket_comment : (b : ℕ) → kind_of b ≡ K.Bracket → b ≡ 59 → ⊥
unfolding kind_of bytes
bracket_comment b k q = never (sym (ap is_wordly (rw q at k)))

colon_gap : (b : ℕ) → b ≡ 58 → gap_step false b ≡ G.Token
unfolding gap_step kind_of bytes
colon_gap b q = rw q

bracket_gap : (b : ℕ) → kind_of b ≡ K.Bracket → gap_step false b ≡ G.Token
unfolding gap_step
bracket_gap b k = rw (ne_eqb b 59 (bracket_comment b k), k)

space_gap : (b : ℕ) → b ≡ 32 → gap_step false b ≡ G.Plain
unfolding gap_step kind_of bytes
space_gap b q = rw q

-- ---- the token there

judged_below : (p : ℕ) (t : Token) → p < 256 → judged_of (p + 1) t ≡ t
unfolding judged_of
judged_below p t h = rw (le-ltb 256 (p + 1) (omega arith))

colon_square : (p : ℕ) → square_of 58 p ≡ T.Mark 58 p (p + 1)
unfolding square_of
colon_square p = refl

module _ (s : List ℕ) (p : ℕ) where
  pub space_passed : p < length s → get_or s p 0 ≡ 32 → plan_token_at s (p + 1) ≡ plan_token_at s p
  unfolding plan_token_at
  space_passed i e = rw (gap_start s p, gap_plain s false p i (space_gap (get_or s p 0) e), ← gap_start s (p + 1))

  pub end_here : (t : Token) → length s ≤ p → t ≡ judged_of (length s) (T.End p) → t ≡ plan_token_at s p
  end_here t h j = plan_end s p p (sym (gap_start s p ∙ gap_over s false p h)) t h j

  stays : p < length s → gap_step false (get_or s p 0) ≡ G.Token → p ≡ gap_end s p
  stays i e = sym (gap_start s p ∙ gap_token s false p i e)

  sign_token : p < 256 → p < length s → is_sign (get_or s p 0) ≡ true → plan_token_at s p ≡ square_of (get_or s p 0) p
  sign_token l i h = by_sign (get_or s p 0) h
      (λ c. sym (plan_colon s p p (stays i (colon_gap _ c)) _ i c (rw (c, judged_below p (T.Mark 58 p (p + 1)) l) (colon_square p))))
      (λ n k. sym (plan_bracket s p p (stays i (bracket_gap _ k)) _ i n _ k refl (sym (judged_below p _ l))))

  pub sign_here : (b : ℕ) (t : Bool) → p ≤ 255 → p < length s → get_or s p 0 ≡ b → t ≡ is_sign b → Stands t s p b
  sign_here b true l i e h = (omega arith, rw (← e) (sign_token (omega arith) i (rw e (sym h))))
  sign_here b false l i e h = tt

  pub sign_found : (b : ℕ) (t : Bool) → t ≡ true → Stands t s p b → Stands true s p b
  sign_found b t e h = rw e at h
