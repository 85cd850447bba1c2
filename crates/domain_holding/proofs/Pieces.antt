-- A text that comes in pieces: what is kept of it is what is held of the whole. Assumes nothing.
use mathlib.Core.Path.{◌≡◌, refl, sym}
use mathlib.Core.List.{List, [], ◌∷◌, ◌++◌, append-nil}
use mathlib.Core.Bool.{Bool, true, false, cond, ◌&&◌}
use Prim.Native.Nat.{ℕ, zero, suc, ◌+◌, ◌-◌, ◌≤◌, ◌<◌}
use native.Mathlib.Omega.{arith}
use lib.ListN.{length, set, length-append}
use lib.Seq.{set_at, append_snoc}
use borrow.Author.Tests.{lt-ltb, le-ltb}
use Rattle.text_words.specs.Spelling.{name_byte}
use Rattle.domain_holding.specs.Keeping.{goes_on, decisive, last_of, held_of, Kept, kept, empty, look_of, next_of, go_on}

-- pieces one after the other
pub go_on_both : (n : ℕ) (k : Kept) (s t : List ℕ) → go_on n k (s ++ t) ≡ go_on n (go_on n k s) t
unfolding go_on
go_on_both n k [] t = refl
go_on_both n k (b ∷ s) t = go_on_both n (next_of n k b) s t

-- the next byte, by whether there is room
room : (n : ℕ) (l : List ℕ) (o : Bool) (b : ℕ) → length l < n → next_of n (kept l o) b ≡ kept (l ++ b ∷ []) (goes_on b)
unfolding next_of
room n l o b h = rw (lt-ltb (length l) n h)

no_room : (n : ℕ) (l : List ℕ) (o : Bool) (b : ℕ) → n ≤ length l → next_of n (kept l o) b ≡ look_of (kept l o) b
unfolding next_of
no_room n l o b h = rw (le-ltb (length l) n h)

-- a full block, b its last byte
full : (n : ℕ) (l : List ℕ) (b : ℕ) (o : Bool) (bs : List ℕ) → length l + 1 ≡ n → (go_on n (kept (l ++ b ∷ []) o) bs).bytes ≡ l ++ cond o (decisive b bs) b ∷ []
unfolding go_on decisive look_of
full n l b true [] e = refl
full n l b false [] e = refl
full n l b o (x ∷ bs) e = rw (go_on, no_room n (l ++ b ∷ []) o x (omega (arith, long)), look_of)
    (go o (goes_on x) (name_byte x) (full n l b true bs e) (full n l b false bs e) (full n l x false bs e))
  where
    long : length (l ++ b ∷ []) ≡ length l + 1
    long = length-append l (b ∷ [])

    changed : set (l ++ b ∷ []) (length (l ++ b ∷ []) - 1) x ≡ l ++ x ∷ []
    changed = set_at l b [] x (length (l ++ b ∷ []) - 1) (omega (arith, long))

    go : (o g m : Bool) → (go_on n (kept (l ++ b ∷ []) true) bs).bytes ≡ l ++ decisive b bs ∷ [] → (go_on n (kept (l ++ b ∷ []) false) bs).bytes ≡ l ++ b ∷ []
        → (go_on n (kept (l ++ x ∷ []) false) bs).bytes ≡ l ++ x ∷ []
        → (go_on n (cond (o && g) (cond m (kept (l ++ b ∷ []) o) (kept (set (l ++ b ∷ []) (length (l ++ b ∷ []) - 1) x) false))
        (kept (l ++ b ∷ []) false)) bs).bytes
        ≡ l ++ cond o (cond g (cond m (decisive b bs) x) b) b ∷ []
    go false g m on off odd = off
    go true false m on off odd = off
    go true true true on off odd = on
    go true true false on off odd = rw changed odd

-- a block with room for q bytes and one more
filling : (n : ℕ) (l : List ℕ) (o : Bool) (q : ℕ) (t : List ℕ) → length l + suc q ≡ n → (go_on n (kept l o) t).bytes ≡ l ++ held_of (suc q) t
unfolding go_on held_of last_of
filling n l o zero [] e = sym (append-nil l)
filling n l o (suc q) [] e = sym (append-nil l)
filling n l o zero (b ∷ bs) e = rw (go_on, room n l o b (omega arith)) (full n l b (goes_on b) bs (omega arith))
filling n l o (suc q) (b ∷ bs) e =
    rw (go_on, room n l o b (omega arith), ← append_snoc l b (held_of (suc q) bs), held_of)
    (filling n (l ++ b ∷ []) (goes_on b) q bs (omega (arith, length-append l (b ∷ []))))

none : (t : List ℕ) → (go_on 0 empty t).bytes ≡ []
unfolding go_on next_of look_of
none [] = refl
none (b ∷ t) = none t

-- whatever the pieces were: what is kept of the whole text, byte by byte, is what is held of it
pub whole : (n : ℕ) (t : List ℕ) → (go_on n empty t).bytes ≡ held_of n t
unfolding held_of
whole zero t = none t
whole (suc q) t = filling (suc q) [] false q t (omega arith)
