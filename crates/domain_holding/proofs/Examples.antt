-- Worked examples: what a block of 8 bytes holds of short texts, whole and in pieces. Each by computation.
use mathlib.Core.Path.{◌≡◌, refl}
use mathlib.Core.List.{List, [], ◌∷◌}
use Prim.Native.Nat.{ℕ}
use Prim.Native.String.{String}
use Rattle.text_words.specs.Bytes.{bytes, kind_of, in_run}
use Rattle.text_words.specs.Spelling.{name_byte}
use Rattle.domain_holding.specs.Keeping.{decisive, last_of, held_of, Kept, empty, look_of, next_of, go_on}

pub data Row : Type 0 where
  row : String → String → Row

abbrev pub held_all : List Row → List (List ℕ)
held_all [] = []
held_all (row text held ∷ rows) = held_of 8 (bytes text) ∷ held_all rows

abbrev pub wanted : List Row → List (List ℕ)
wanted [] = []
wanted (row text held ∷ rows) = bytes held ∷ wanted rows

-- texts that fit; a run that ends at the block's end; a name that goes on; runs whose rest has a byte that may not stand in a name, at once, later and
-- as its last byte; such a byte after the run's end, which a blank, a bracket, a comment or a byte not allowed makes; a run that has one in the block
rows : List Row
rows =
    row "" ""
    ∷ row "(a)" "(a)"
    ∷ row "(define)" "(define)"
    ∷ row "(define) $" "(define)"
    ∷ row "(abcdefg" "(abcdefg"
    ∷ row "(abcdefghij" "(abcdefg"
    ∷ row "(abcdefgh-1_j" "(abcdefg"
    ∷ row "(abcdefg.hij" "(abcdef."
    ∷ row "(abcdefghij\"k" "(abcdef\""
    ∷ row "(abcdefghij{ a" "(abcdef{"
    ∷ row "(abcdefghi:?" "(abcdef:"
    ∷ row "(abcdefg $" "(abcdefg"
    ∷ row "(abcdefgh)$" "(abcdefg"
    ∷ row "(abcdefgh;$" "(abcdefg"
    ∷ row "(abcdefgh\u{1}$" "(abcdefg"
    ∷ row "(ab$defgh." "(ab$def."
    ∷ row "(abcde $" "(abcde $"
    ∷ row "(abcde ?xy$" "(abcde $"
    ∷ []

held : held_all rows ≡ wanted rows
unfolding bytes kind_of in_run name_byte decisive last_of held_of rows
held = refl

-- a text in pieces, cut before the block's end, at it and after it
abbrev pub in_pieces : Kept → List String → Kept
in_pieces k [] = k
in_pieces k (s ∷ ss) = in_pieces (go_on 8 k (bytes s)) ss

pieces : ((in_pieces empty ("(abc" ∷ "defg" ∷ "" ∷ "hi" ∷ "j.k" ∷ "$" ∷ [])).bytes ≡ bytes "(abcdef.")
    × ((in_pieces empty ("(abcdefgh" ∷ " " ∷ "." ∷ [])).bytes ≡ bytes "(abcdefg")
unfolding bytes kind_of in_run name_byte look_of next_of go_on
pieces = (refl, refl)
