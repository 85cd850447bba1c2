-- Whole lines from their parts, and how long the parts are. Assumes nothing.
use mathlib.Core.Path.{◌≡◌}
use mathlib.Core.List.{List, [], ◌∷◌, ◌++◌, append_assoc}
use Prim.Native.Nat.{ℕ, ◌+◌, ◌/◌, ◌%◌, ◌≤◌}
use native.Mathlib.Omega.{arith}
use lib.ListN.{length, length-append}
use lib.Seq.{sets}
use Rattle.text_words.specs.Bytes.{bytes}
use Rattle.happening_meaning.specs.declared.Outcome.{Outcome}
use Rattle.happening_meaning.specs.declared.Outcome.TheVariants.{Done, Duration, Condition, Undefined, Range, Itself, Conflict, Invariant, Goal}
use Rattle.check_wording.specs.Wording.{digit, decimal, time_of, word_of, line_of, second_of, behind_space, ended, verdict_line, refusal_line}
use Rattle.check_wording.proofs.Puts.{Put, behind, from_start}
use Rattle.check_wording.proofs.Digits.{decimal_short}

pub word_short : (o : Outcome) → length (word_of o) ≤ 9
unfolding word_of bytes
word_short Done = omega arith
word_short (Duration l) = omega arith
word_short (Condition l) = omega arith
word_short (Undefined l) = omega arith
word_short (Range l) = omega arith
word_short (Itself l) = omega arith
word_short (Conflict l m) = omega arith
word_short (Invariant l) = omega arith
word_short Goal = omega arith

pub time_length : (t : ℕ) → length (time_of t) ≡ length (decimal (t / 1000)) + 4
unfolding time_of
time_length t = rw length-append

pub time_short : (t : ℕ) → length (time_of t) ≤ 24
time_short t = omega (arith, time_length t, decimal_short (t / 1000))

-- ---- parts put one after the other

pub time_put : (a : List ℕ) (n t : ℕ) {b c d e f : List ℕ} {i j k l m : ℕ} → Put a n (decimal (t / 1000)) b i → Put b i (46 ∷ []) c j
    → Put c j (digit (t / 100 % 10) ∷ []) d k → Put d k (digit (t / 10 % 10) ∷ []) e l → Put e l (digit (t % 10) ∷ []) f m → Put a n (time_of t) f m
unfolding time_of
time_put a n t {b} {c} {d} {e} {f} {i} {j} {k} p q r s u =
    let two = digit (t / 10 % 10) ∷ digit (t % 10) ∷ [] in
    let three = digit (t / 100 % 10) ∷ two in
    behind a n (decimal (t / 1000)) (46 ∷ three) p
    (behind b i (46 ∷ []) three q (behind c j (digit (t / 100 % 10) ∷ []) two r (behind d k (digit (t / 10 % 10) ∷ []) (digit (t % 10) ∷ []) s u)))

-- the two numbers that end a line
abbrev pub last_two : ℕ → ℕ → List ℕ
last_two p q = ended (behind_space (decimal p) ++ behind_space (decimal q))

pub ended_put : (a : List ℕ) (n p q : ℕ) {b c d : List ℕ} {i j k : ℕ} → Put a n (behind_space (decimal p)) b i → Put b i (behind_space (decimal q)) c j
    → Put c j (10 ∷ []) d k → Put a n (last_two p q) d k
ended_put a n p q f g h =
    let both = behind_space (decimal p) ++ behind_space (decimal q) in
    behind a n both (10 ∷ []) (behind a n (behind_space (decimal p)) (behind_space (decimal q)) f g) h

pub verdict_put : (a : List ℕ) (o : Outcome) (t : ℕ) {b c d e : List ℕ} {i j k l : ℕ} → Put a 0 (word_of o) b i → Put b i (32 ∷ []) c j
    → Put c j (time_of t) d k → Put d k (last_two (line_of o) (second_of o)) e l
    → (e ≡ sets a 0 (verdict_line o t)) × (l ≡ length (verdict_line o t))
unfolding verdict_line
verdict_put a o t {b} {c} {d} {e} {i} {j} p q r s =
    let last = last_two (line_of o) (second_of o) in
    from_start a (word_of o ++ (behind_space (time_of t) ++ last)) (verdict_line o t)
    (behind a 0 (word_of o) (behind_space (time_of t) ++ last) p (behind b i (32 ∷ []) (time_of t ++ last) q (behind c j (time_of t) last r s)))
    (simp append_assoc)

pub refusal_put : (a w : List ℕ) (n p q : ℕ) {b c d e : List ℕ} {i j k l : ℕ} → Put a 0 (bytes "refused ") b i → Put b i w c j
    → Put c j (behind_space (decimal n)) d k → Put d k (last_two p q) e l
    → (e ≡ sets a 0 (refusal_line w n p q)) × (l ≡ length (refusal_line w n p q))
unfolding refusal_line
refusal_put a w n p q {b} {c} {d} {e} {i} {j} f g r s =
    let last = last_two p q in
    let number = behind_space (decimal n) in
    from_start a (bytes "refused " ++ (w ++ (number ++ last))) (refusal_line w n p q)
    (behind a 0 (bytes "refused ") (w ++ (number ++ last)) f (behind b i w (number ++ last) g (behind c j number last r s)))
    (simp append_assoc)
