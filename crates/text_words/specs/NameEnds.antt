-- Where the bytes that may stand in a name end: what the code answers while it reads a name.
use Rattle.std.specs.Prelude.{ℕ, suc, ◌+◌, List, [], ◌∷◌, cond, drop}
use Rattle.text_words.specs.Spelling.{name_byte}

-- how many bytes that may stand in a name are at the front
unfoldable pub named : List ℕ → ℕ
named [] = 0
named (b ∷ bs) = cond (name_byte b) (suc (named bs)) 0

unfoldable pub name_end : List ℕ → ℕ → ℕ
name_end w p = p + named (drop p w)
