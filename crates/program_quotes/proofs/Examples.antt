-- Places of short texts, and bytes as they are quoted.
use mathlib.Core.Path.{◌≡◌, refl}
use mathlib.Core.List.{List, [], ◌∷◌}
use Prim.Native.Nat.{ℕ}
use Rattle.text_words.specs.Bytes.{bytes, kind_of}
use Rattle.program_quotes.specs.Location.{line_ends, behind, ahead, line_at, column_at, before_of, after_of, from_at, to_at, shown_byte}

text : List ℕ
text = bytes "ab\n\ncde"

-- its first place, an LF, the empty line, a byte of the last line, the end
lines : line_at text 0 ∷ line_at text 2 ∷ line_at text 3 ∷ line_at text 5 ∷ line_at text 7 ∷ [] ≡ 1 ∷ 1 ∷ 2 ∷ 3 ∷ 3 ∷ []
unfolding bytes text line_ends
lines = refl

columns : column_at text 0 ∷ column_at text 2 ∷ column_at text 3 ∷ column_at text 5 ∷ column_at text 7 ∷ [] ≡ 1 ∷ 3 ∷ 1 ∷ 2 ∷ 4 ∷ []
unfolding bytes text behind
columns = refl

-- what is quoted: from where, and to where
begins : from_at text 0 ∷ from_at text 2 ∷ from_at text 3 ∷ from_at text 5 ∷ from_at text 7 ∷ [] ≡ 0 ∷ 0 ∷ 3 ∷ 4 ∷ 4 ∷ []
unfolding bytes text behind ahead before_of
begins = refl

ends : to_at text 0 ∷ to_at text 2 ∷ to_at text 3 ∷ to_at text 5 ∷ to_at text 7 ∷ [] ≡ 2 ∷ 2 ∷ 3 ∷ 7 ∷ 7 ∷ []
unfolding bytes text behind ahead after_of
ends = refl

-- of a line of 80 bytes all is quoted, wherever the place lies; of one of 300 bytes 74 at most: a place at its beginning, one at 37 and one after it, in
-- the middle, near the end, and at the end
before : before_of 0 80 ∷ before_of 80 0 ∷ before_of 0 300 ∷ before_of 37 263 ∷ before_of 38 262 ∷ before_of 150 150 ∷ before_of 263 37 ∷ before_of 300 0 ∷ []
    ≡ 0 ∷ 80 ∷ 0 ∷ 37 ∷ 37 ∷ 37 ∷ 37 ∷ 37 ∷ []
unfolding before_of
before = refl

after : after_of 0 80 ∷ after_of 80 0 ∷ after_of 0 300 ∷ after_of 37 263 ∷ after_of 38 262 ∷ after_of 150 150 ∷ after_of 263 37 ∷ after_of 264 36 ∷ after_of 300 0 ∷ []
    ≡ 80 ∷ 0 ∷ 74 ∷ 37 ∷ 37 ∷ 37 ∷ 37 ∷ 36 ∷ 0 ∷ []
unfolding after_of
after = refl

-- the end of a text whose last byte is LF lies on a line of its own
last : line_at (bytes "a\n") 2 ∷ column_at (bytes "a\n") 2 ∷ [] ≡ 2 ∷ 1 ∷ []
unfolding bytes line_ends behind
last = refl

-- tab, CR, space, a letter, the last that can be seen, and what can't
bytes_shown : shown_byte 9 ∷ shown_byte 13 ∷ shown_byte 32 ∷ shown_byte 97 ∷ shown_byte 126 ∷ shown_byte 0 ∷ shown_byte 127 ∷ shown_byte 200 ∷ []
    ≡ 32 ∷ 32 ∷ 32 ∷ 97 ∷ 126 ∷ 46 ∷ 46 ∷ 46 ∷ []
unfolding kind_of bytes shown_byte
bytes_shown = refl
