-- Definitions over a text, a step at a place of it: counting up to an LF; and the bytes on both sides of a place. Assumes nothing.
use mathlib.Core.Path.{◌≡◌, refl, sym, ap, ◌∙◌}
use mathlib.Core.Bool.{cond}
use mathlib.Core.List.{List, [], ◌∷◌}
use Prim.Native.Nat.{ℕ, suc, ◌+◌, ◌-◌, ◌≤◌}
use native.Mathlib.Nat.{sub-zero}
use native.Mathlib.Omega.{arith}
use lib.ListN.{length, take, drop, length-take, length-drop}
use lib.Seq.{take_all}
use Rattle.std.specs.Prelude.{eqb, not}
use native.Mathlib.Numerals.{one-add}
use Rattle.std.specs.List.{count_by, prefix_len, suffix_len}
use Rattle.std.proofs.lemmas.List.Recursion.{is_count_by, is_position_or_len}
use Rattle.std.proofs.lemmas.List.{reverse-append, length-reverse}
use Rattle.std.proofs.lemmas.List.Folds.{position_or_len_push}
use Rattle.std.proofs.lemmas.List.Sums.{suffix_len-le-length}
use Rattle.std.proofs.lemmas.Bool.Decides.{nat_tests}
use Rattle.text_tokens.specs.Runs.{part}
use Rattle.program_quotes.specs.Location.{line_ends, behind, ahead}

-- ---- counting LFs, and up to one

pub ends_counted : (s : List ℕ) → line_ends s ≡ count_by (λ b. eqb b 10) s
unfolding line_ends
ends_counted s = is_count_by line_ends (λ b. eqb b 10) refl (λ b t. rw one-add) s

ahead_first : (s : List ℕ) → ahead s ≡ prefix_len (λ b. not (eqb b 10)) s
unfolding ahead
ahead_first s = is_position_or_len ahead (λ b. eqb b 10) refl (λ b t. rw one-add) s

behind_at : (s : List ℕ) (k : ℕ) → behind k s ≡ cond (eqb (suffix_len (λ b. not (eqb b 10)) s) (length s)) (k + length s) (suffix_len (λ b. not (eqb b 10)) s)
unfolding behind
behind_at [] k = omega arith
behind_at (b ∷ s) k = rw (reverse-append (b ∷ []) s, position_or_len_push (λ b. eqb b 10), length-reverse)
    (grind (arith, nat_tests, behind_at s 0, behind_at s (suc k), suffix_len-le-length (λ b. not (eqb b 10)) s, length-reverse s))

behind_last : (s : List ℕ) → behind 0 s ≡ suffix_len (λ b. not (eqb b 10)) s
behind_last s = grind (arith, nat_tests, behind_at s 0)

-- ---- the bytes before a place, and those from it on

pub front : (t : List ℕ) (p : ℕ) → part t 0 p ≡ take p t
front t p = ap (λ (n : ℕ). take n t) (sub-zero p)

-- no more of them than the place counts
pub front_most : (t : List ℕ) (p : ℕ) {s : List ℕ} → s ≡ part t 0 p → length s ≤ p
front_most t p e = omega (arith, length-take p t, ap (λ (l : List ℕ). length l) (e ∙ front t p))

rest : (t : List ℕ) (p : ℕ) → part t p (length t) ≡ drop p t
rest t p = take_all (length t - p) (drop p t) (omega (arith, length-drop p t))

pub rest_length : (t : List ℕ) (p : ℕ) {s : List ℕ} → s ≡ part t p (length t) → length s ≡ length t - p
rest_length t p e = ap (λ (l : List ℕ). length l) (e ∙ rest t p) ∙ length-drop p t

-- how many of them are of the place's line
pub before_place : (t : List ℕ) (p : ℕ) {s : List ℕ} {n : ℕ} → s ≡ part t 0 p → n ≡ suffix_len (λ b. not (eqb b 10)) s → n ≡ behind 0 (take p t)
before_place t p {s} e h = h ∙ sym (behind_last s) ∙ ap (λ (l : List ℕ). behind 0 l) (e ∙ front t p)

pub from_place : (t : List ℕ) (p : ℕ) {s : List ℕ} {m : ℕ} → s ≡ part t p (length t) → m ≡ prefix_len (λ b. not (eqb b 10)) s → m ≡ ahead (drop p t)
from_place t p {s} e h = h ∙ sym (ahead_first s) ∙ ap (λ (l : List ℕ). ahead l) (e ∙ rest t p)
