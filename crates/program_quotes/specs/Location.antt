-- Where a place of a text lies for a person. A place is the number of bytes before it; lines and columns count from 1, columns in bytes.
use Rattle.std.specs.Prelude.{ℕ, suc, ◌+◌, ◌-◌, min, List, [], ◌∷◌, cond, take, drop, eqb, leb}
use Prim.Native.Char.{code}
use Rattle.text_words.specs.Bytes.{kind_of, is_white, is_refused}

-- how many LFs there are
unfoldable pub line_ends : List ℕ → ℕ
line_ends [] = 0
line_ends (b ∷ s) = cond (eqb b 10) (suc (line_ends s)) (line_ends s)

-- how many bytes stand after the last LF, or after the beginning if there is none; k of them stand before s
unfoldable pub behind : ℕ → List ℕ → ℕ
behind k [] = k
behind k (b ∷ s) = cond (eqb b 10) (behind 0 s) (behind (suc k) s)

-- how many bytes stand before the first LF, or the end
unfoldable pub ahead : List ℕ → ℕ
ahead [] = 0
ahead (b ∷ s) = cond (eqb b 10) 0 (suc (ahead s))

abbrev pub line_at : List ℕ → ℕ → ℕ
line_at t p = 1 + line_ends (take p t)

abbrev pub column_at : List ℕ → ℕ → ℕ
column_at t p = 1 + behind 0 (take p t)

-- A line of at most 80 bytes is quoted whole. Of a longer one 74 bytes are, with room for the signs of what is left out: from its beginning, or from 37
-- bytes before a place that lies further on. n bytes of the line stand before the place and m from it on: how many of the n are quoted,
unfoldable pub before_of : ℕ → ℕ → ℕ
before_of n m = cond (leb (n + m) 80) n (min n 37)

-- and how many of the m
unfoldable pub after_of : ℕ → ℕ → ℕ
after_of n m = cond (leb (n + m) 80) m (min m (74 - min n 37))

-- where what is quoted of the place's line begins
abbrev pub from_at : List ℕ → ℕ → ℕ
from_at t p = p - before_of (behind 0 (take p t)) (ahead (drop p t))

-- and where it ends
abbrev pub to_at : List ℕ → ℕ → ℕ
to_at t p = p + after_of (behind 0 (take p t)) (ahead (drop p t))

-- white is quoted as a space, a byte not allowed as a point
unfoldable pub shown_byte : ℕ → ℕ
shown_byte b = cond (is_refused (kind_of b)) (code ".") (cond (is_white (kind_of b)) (code " ") b)
