-- What the other arm of a test of a byte's kind knows. Assumes nothing.
use mathlib.Core.Path.{◌≡◌, refl}
use mathlib.Core.List.{[], ◌∷◌}
use mathlib.Core.Bool.{false}
use types.Run.{OneOf, miss}
use denote.Enum.Declared.{tag_of}
use Rattle.text_words.specs.Bytes.{is_digit, is_letter, is_white, is_refused}
use Rattle.text_words.specs.declared.bytes.Kind.{Kind}
use Rattle.text_words.specs.declared.bytes.Kind.TheVariants as K
use Rattle.text_words.specs.contracts.bytes.Kind.{the_type}

pub not_digit : (k : Kind) → OneOf (1 ∷ 2 ∷ 3 ∷ 4 ∷ 5 ∷ []) (tag_of the_type k) → is_digit k ≡ false
not_digit K.Digit h = absurd (miss (1 ∷ 2 ∷ 3 ∷ 4 ∷ 5 ∷ []) 0 tt h)
not_digit K.Letter h = refl
not_digit K.Bracket h = refl
not_digit K.White h = refl
not_digit K.Mark h = refl
not_digit K.Refused h = refl

pub not_letter : (k : Kind) → OneOf (0 ∷ 2 ∷ 3 ∷ 4 ∷ 5 ∷ []) (tag_of the_type k) → is_letter k ≡ false
not_letter K.Digit h = refl
not_letter K.Letter h = absurd (miss (0 ∷ 2 ∷ 3 ∷ 4 ∷ 5 ∷ []) 1 tt h)
not_letter K.Bracket h = refl
not_letter K.White h = refl
not_letter K.Mark h = refl
not_letter K.Refused h = refl

pub not_white : (k : Kind) → OneOf (0 ∷ 1 ∷ 2 ∷ 4 ∷ 5 ∷ []) (tag_of the_type k) → is_white k ≡ false
not_white K.Digit h = refl
not_white K.Letter h = refl
not_white K.Bracket h = refl
not_white K.White h = absurd (miss (0 ∷ 1 ∷ 2 ∷ 4 ∷ 5 ∷ []) 3 tt h)
not_white K.Mark h = refl
not_white K.Refused h = refl

pub not_refused : (k : Kind) → OneOf (0 ∷ 1 ∷ 2 ∷ 3 ∷ 4 ∷ []) (tag_of the_type k) → is_refused k ≡ false
not_refused K.Digit h = refl
not_refused K.Letter h = refl
not_refused K.Bracket h = refl
not_refused K.White h = refl
not_refused K.Mark h = refl
not_refused K.Refused h = absurd (miss (0 ∷ 1 ∷ 2 ∷ 3 ∷ 4 ∷ []) 5 tt h)
