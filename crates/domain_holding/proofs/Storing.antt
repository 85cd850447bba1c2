-- One byte more in a block, by each way that the code goes, and the bytes of a piece one by one. Assumes nothing.
use mathlib.Core.Path.{◌≡◌, refl}
use mathlib.Core.List.{List, [], ◌∷◌}
use mathlib.Core.Bool.{Bool, true, false, cond, ◌&&◌, and-true}
use Prim.Native.Nat.{ℕ, ◌+◌, ◌-◌, ◌≤◌, ◌<◌}
use native.Mathlib.Numerals.{add-one}
use native.Mathlib.Omega.{arith}
use lib.ListN.{length, get_or, take, drop, set, length-take, length-set, drop_of_length-le}
use lib.Seq.{take_all, take-suc-set}
use borrow.Author.Tests.{lt-ltb, le-ltb}
use Rattle.base_laws.proofs.Lists.{at_cons}
use Rattle.text_words.specs.Bytes.{bytes, kind_of}
use Rattle.text_words.specs.Spelling.{name_byte, name_bytes, is_name}
use Rattle.domain_holding.specs.declared.Held.{Held}
use Rattle.domain_holding.specs.Keeping.{goes_on, Kept, kept, look_of, next_of, go_on, kept_in}

-- after a letter, a byte makes a name if it may stand in one
pub name_of_two : (b : ℕ) → is_name (97 ∷ b ∷ []) ≡ name_byte b
unfolding is_name name_bytes kind_of bytes
name_of_two b = and-true (name_byte b)

module _ (block : List ℕ) (held : Held) (b : ℕ) where
  pub stored : (on : Bool) → on ≡ goes_on b → held.used < length block
      → kept_in (set block held.used b) (record { used = held.used + 1; going = on }) ≡ next_of (length block) (kept_in block held) b
  unfolding kept_in next_of
  stored on e h =
      let l : length (take held.used block) < length block = simp length-take (omega arith) in
      rw (lt-ltb (length (take held.used block)) (length block) l, add-one held.used, take-suc-set block held.used b h, e)

  module _ (h : length block ≤ held.used) where
    full : next_of (length block) (kept_in block held) b ≡ look_of (kept_in block held) b
    unfolding kept_in next_of
    full = rw (take_all held.used block h, le-ltb (length block) (length block) (omega arith))

    pub idle : held.going ≡ false → kept_in block held ≡ next_of (length block) (kept_in block held) b
    unfolding kept_in look_of
    idle e = rw (full, kept_in, look_of, e)

    pub ended : goes_on b ≡ false → kept_in block (record { used = held.used; going = false }) ≡ next_of (length block) (kept_in block held) b
    unfolding kept_in look_of
    ended e = rw (full, look_of, e) (go held.going)
      where
        go : (t : Bool) → kept (take held.used block) false ≡ cond (t && false)
            (cond (name_byte b) (kept (take held.used block) held.going)
            (kept (set (take held.used block) (length (take held.used block) - 1) b) false)) (kept (take held.used block) false)
        go true = refl
        go false = refl

    module _ (g : held.going ≡ true) (e : goes_on b ≡ true) where
      pub named : name_byte b ≡ true → kept_in block held ≡ next_of (length block) (kept_in block held) b
      unfolding kept_in look_of
      named n = rw (full, look_of, g, e, n)

      pub odd : name_byte b ≡ false → kept_in (set block (length block - 1) b) (record { used = held.used; going = false }) ≡ next_of (length block)
          (kept_in block held) b
      unfolding kept_in look_of
      odd n =
          let l : length (set block (length block - 1) b) ≤ held.used = simp length-set (omega arith) in
          rw (full, look_of, g, e, n, take_all held.used block h, take_all held.used (set block (length block - 1) b) l)

-- ---- a piece

module _ (n : ℕ) (k : Kept) (piece : List ℕ) (i : ℕ) where
  pub on_byte : i < length piece → go_on n k (drop i piece) ≡ go_on n (next_of n k (get_or piece i 0)) (drop (i + 1) piece)
  unfolding go_on
  on_byte h = rw (at_cons piece i h)

  pub on_end_lem : length piece ≤ i → go_on n k (drop i piece) ≡ k
  unfolding go_on
  on_end_lem h = rw (drop_of_length-le piece h)
