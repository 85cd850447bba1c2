-- The six lists of an action that stand in rows one after the other, and the six places that say where each begins. Assumes nothing.
use mathlib.Core.Path.{◌≡◌}
use mathlib.Core.List.{List, [], ◌∷◌, ◌++◌}
use Prim.Native.Nat.{ℕ, ◌+◌, ◌*◌, ◌<◌}
use native.Mathlib.Omega.{arith}
use lib.ListN.{length}
use Rattle.domain_stored_meaning.proofs.Standing.{Stands, behind, front, after}
use Rattle.domain_prepared_meaning.specs.Rows.{two_bytes, places_from}
use Rattle.domain_prepared_meaning.specs.Decode.{place_in}
use Rattle.domain_prepared_meaning.proofs.Forms.{word_read}

place_read : (rows : List ℕ) (i j x : ℕ) (xs : List ℕ) → x < 65536 → Stands rows (1 + 12 * i + 2 * j) (two_bytes x ++ xs) → place_in rows i j ≡ x
unfolding place_in
place_read rows i j x xs h s = word_read rows (1 + 12 * i + 2 * j) x xs h s

next_place : {rows : List ℕ} {p x y : ℕ} {xs : List ℕ} (q : ℕ) → p + 1 + 1 ≡ q → Stands rows p (x ∷ y ∷ xs) → Stands rows q xs
next_place q e s = rw e at (behind (behind s))

-- the places of action i, whose lists begin at u; five of them have the sizes k to p
pub record Places (rows : List ℕ) (i u k l m o p : ℕ) : Type 0 where
  pub lasting : place_in rows i 0 ≡ u
  pub first : place_in rows i 1 ≡ u + k
  pub during : place_in rows i 2 ≡ u + k + l
  pub last : place_in rows i 3 ≡ u + k + l + m
  pub begun : place_in rows i 4 ≡ u + k + l + m + o
  pub ended : place_in rows i 5 ≡ u + k + l + m + o + p

pub places_read : (n : ℕ) (ps fs rows : List ℕ) (i u k l m o p : ℕ) (zs : List ℕ) → u + k + l + m + o + p < 65536
    → Stands rows (1 + 12 * i) (places_from n ps fs u (k ∷ l ∷ m ∷ o ∷ p ∷ []) ++ zs) → Places rows i u k l m o p
unfolding places_from
places_read n ps fs rows i u k l m o p zs h s =
    let e : 1 + 12 * i ≡ 1 + 12 * i + 2 * 0 = omega arith in
    let s0 = rw e at s in
    let s1 = next_place (1 + 12 * i + 2 * 1) (omega arith) s0 in
    let s2 = next_place (1 + 12 * i + 2 * 2) (omega arith) s1 in
    let s3 = next_place (1 + 12 * i + 2 * 3) (omega arith) s2 in
    let s4 = next_place (1 + 12 * i + 2 * 4) (omega arith) s3 in
    let s5 = next_place (1 + 12 * i + 2 * 5) (omega arith) s4 in
    record {
      lasting = place_read rows i 0 u _ (omega arith) s0;
      first = place_read rows i 1 (u + k) _ (omega arith) s1;
      during = place_read rows i 2 (u + k + l) _ (omega arith) s2;
      last = place_read rows i 3 (u + k + l + m) _ (omega arith) s3;
      begun = place_read rows i 4 (u + k + l + m + o) _ (omega arith) s4;
      ended = place_read rows i 5 (u + k + l + m + o + p) zs h s5;
    }

-- six lists one after the other
pub record Six (rows : List ℕ) (u : ℕ) (a b c d e f : List ℕ) : Type 0 where
  pub lasting : Stands rows u a
  pub first : Stands rows (u + length a) b
  pub during : Stands rows (u + length a + length b) c
  pub last : Stands rows (u + length a + length b + length c) d
  pub begun : Stands rows (u + length a + length b + length c + length d) e
  pub ended : Stands rows (u + length a + length b + length c + length d + length e) f

pub six_stand : {rows : List ℕ} {u : ℕ} (a b c d e f : List ℕ) → Stands rows u (a ++ (b ++ (c ++ (d ++ (e ++ f))))) → Six rows u a b c d e f
six_stand a b c d e f s =
    let s1 = after a (b ++ (c ++ (d ++ (e ++ f)))) s in
    let s2 = after b (c ++ (d ++ (e ++ f))) s1 in
    let s3 = after c (d ++ (e ++ f)) s2 in
    let s4 = after d (e ++ f) s3 in
    record {
      lasting = front a (b ++ (c ++ (d ++ (e ++ f)))) s;
      first = front b (c ++ (d ++ (e ++ f))) s1;
      during = front c (d ++ (e ++ f)) s2;
      last = front d (e ++ f) s3;
      begun = front e f s4;
      ended = after e f s4;
    }
