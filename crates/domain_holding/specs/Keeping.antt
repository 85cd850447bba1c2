-- What is held of a text in a block of n bytes: its first n bytes. If the run at the block's end goes on after it, the first byte of the run's rest
-- that may not stand in a name takes the place of the last one: so the run is a name, or none, as it is in the whole text.
use Rattle.std.specs.Prelude.{ℕ, zero, suc, ◌-◌, List, [], ◌∷◌, ◌++◌, Bool, false, cond, ◌&&◌, length, take, drop, set, ltb}
use Prim.Native.Char.{code}
use Rattle.text_words.specs.Bytes.{in_run}
use Rattle.text_words.specs.Spelling.{name_byte}
use Rattle.domain_holding.specs.declared.Held.{Held}

-- a byte that goes on a run of a domain or problem
abbrev pub goes_on : ℕ → Bool
goes_on b = in_run (code ";") b

-- what stands for the byte b of a run and the bytes after it: the first of them that may not stand in a name, or else b
unfoldable pub decisive : ℕ → List ℕ → ℕ
decisive b [] = b
decisive b (x ∷ xs) = cond (goes_on x) (cond (name_byte x) (decisive b xs) x) b

-- the last byte of the block, with what stands after it
unfoldable pub last_of : List ℕ → List ℕ
last_of [] = []
last_of (b ∷ bs) = cond (goes_on b) (decisive b bs) b ∷ []

-- a block of no bytes holds none
unfoldable pub held_of : ℕ → List ℕ → List ℕ
held_of zero t = []
held_of (suc q) t = take q t ++ last_of (drop q t)

-- ---- piece by piece

-- what is kept of a text so far, and whether the run at its end may go on
pub record Kept : Type 0 where
  pub bytes : List ℕ
  pub going : Bool

abbrev pub kept : List ℕ → Bool → Kept
kept l o = record { bytes = l; going = o }

abbrev pub empty : Kept
empty = kept [] false

-- the next byte, after a block that is full
unfoldable pub look_of : Kept → ℕ → Kept
look_of k b = cond (k.going && goes_on b) (cond (name_byte b) k (kept (set k.bytes (length k.bytes - 1) b) false)) (kept k.bytes false)

-- the next byte: it is kept as long as there is room
unfoldable pub next_of : ℕ → Kept → ℕ → Kept
next_of n k b = cond (ltb (length k.bytes) n) (kept (k.bytes ++ b ∷ []) (goes_on b)) (look_of k b)

-- the bytes of the next piece
unfoldable pub go_on : ℕ → Kept → List ℕ → Kept
go_on n k [] = k
go_on n k (b ∷ bs) = go_on n (next_of n k b) bs

-- what a lent block holds, by how much of it is in use
unfoldable pub kept_in : List ℕ → Held → Kept
kept_in block held = kept (take held.used block) held.going
