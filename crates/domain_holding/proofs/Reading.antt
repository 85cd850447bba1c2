-- What is held of a text in a block of at least 32,850 bytes is read as the whole text is: each has the same tokens. What begins at or past 32,768 of a
-- text too long is 1 in both; a run that begins before it and reaches the block's end is refused in both, with the same number. Assumes nothing.
use Rattle.std.specs.Prelude.{Option, None, Some}
use mathlib.Core.Path.{◌≡◌, refl, sym, ap, ◌∙◌}
use mathlib.Core.List.{List, [], ◌∷◌, ◌++◌}
use mathlib.Core.Bool.{Bool, true, false, cond, ◌||◌}
use Prim.Native.Nat.{ℕ, zero, suc, ◌+◌, ◌-◌, ◌≤◌, ◌<◌}
use native.Mathlib.Omega.{arith}
use native.Mathlib.Decide.{dec_le}
use lib.ListN.{length, get_or, take, drop, length-append, length-take, length-drop, take-append-drop}
use lib.Seq.{take-append_seam, drop-append-le}
use lib.Dec.{leb}
use borrow.Author.Tests.{lt-leb}
use Rattle.base_laws.proofs.Lists.{at_cons}
use Rattle.text_words.specs.Bytes.{bytes, kind_of, on_start}
use Rattle.text_words.specs.declared.bytes.Kind.{Kind}
use Rattle.text_words.specs.declared.bytes.Kind.TheVariants as K
use Rattle.text_tokens.specs.Runs.{part, gap_end, run_end}
use Rattle.text_tokens.specs.Tokens.{is_past, bracket_of, domain_run, end_of, token_at, spot_at}
use Rattle.text_tokens.specs.declared.tokens.Token.TheVariants as T
use Rattle.domain_meaning.specs.Domain.{Domain, read_domain}
use Rattle.domain_meaning.specs.Problem.{read_problem}
use Rattle.domain_refusal_laws.specs.Lowest.{seen, next_of}
use Rattle.domain_refusal_laws.specs.Alike.{SameAt}
use Rattle.domain_refusal_laws.proofs.Sight.{gap_near, run_near, byte_near}
use Rattle.domain_refusal_laws.proofs.Nearness.{not_past, past_is, next_low}
use Rattle.domain_refusal_laws.proofs.Local.{same_self, agrees_bytes}
use Rattle.domain_refusal_laws.proofs.Suffice.{edge_of}
use Rattle.domain_refusal_laws.proofs.Alike.{alike_in_domain, alike_in_problem}
use Rattle.domain_holding.specs.Keeping.{last_of, held_of}
use Rattle.domain_holding.proofs.Runs.{unlike, fault_of, long_word, same_names, same_fault, run_at}

-- ---- what a text says at a place

module _ (s : List ℕ) (at : ℕ) where
  past_token : 32768 < length s → 32768 ≤ gap_end s at → token_at s at ≡ T.Refusal 1 32768
  unfolding token_at
  past_token h k = rw (past_is (length s) (gap_end s at) h k)

  past_spot : (w : List ℕ) → 32768 < length s → 32768 ≤ gap_end s at → spot_at s at w ≡ None
  unfolding spot_at
  past_spot w h k = rw (past_is (length s) (gap_end s at) h k)

  module _ (g : ℕ) (e : gap_end s at ≡ g) (low : g < 32768) (within : g < length s) (long : 34 ≤ length (part s g (end_of s 59 g))) where
    -- a run too long for any word
    run_token : (k : Kind) → kind_of (get_or s g 0) ≡ k → ((a b : ℕ) → on_start k a b b ≡ a) → token_at s at ≡ T.Refusal (fault_of (part s g (end_of s 59 g))) g
    unfolding token_at
    run_token k d f =
        rw (e, not_past (length s) g low, lt-leb (length s) g within, d) (go k f)
      where
        go : (k : Kind) → ((a b : ℕ) → on_start k a b b ≡ a) → on_start k (domain_run s g (end_of s 59 g)) (bracket_of (get_or s g 0) g) (T.Refusal 2 g) ≡
            T.Refusal (fault_of (part s g (end_of s 59 g))) g
        go K.Digit f = long_word (part s g (end_of s 59 g)) g (end_of s 59 g) long
        go K.Letter f = long_word (part s g (end_of s 59 g)) g (end_of s 59 g) long
        go K.Bracket f = absurd (let o : ⊥ = omega (arith, f 1 0) in o)
        go K.White f = long_word (part s g (end_of s 59 g)) g (end_of s 59 g) long
        go K.Mark f = long_word (part s g (end_of s 59 g)) g (end_of s 59 g) long
        go K.Refused f = absurd (let o : ⊥ = omega (arith, f 1 0) in o)

    run_spot : (w : List ℕ) → length w < 34 → spot_at s at w ≡ None
    unfolding spot_at
    run_spot w h = rw (e, unlike (part s g (end_of s 59 g)) w (λ d. omega arith)) (go (is_past (length s) g || leb (length s) g))
      where
        go : (t : Bool) → ◌≡◌ {A = Option (ℕ × ℕ)} (cond t None (cond false (Some (g, end_of s 59 g)) None)) None
        go true = refl
        go false = refl

-- ---- a text that is longer than the block: p is the block without its last byte, b that byte, bs what stands after it

module _ (p : List ℕ) (b : ℕ) (bs : List ℕ) (long : 32849 ≤ length p) where
  unfoldable held : List ℕ
  held = p ++ last_of (b ∷ bs)

  unfoldable whole : List ℕ
  whole = p ++ b ∷ bs

  same : take (length p) held ≡ take (length p) whole
  unfolding held whole last_of
  same = rw (take-append_seam p (last_of (b ∷ bs)), take-append_seam p (b ∷ bs))

  held_long : length p < length held
  unfolding held last_of
  held_long = omega (arith, length-append p (last_of (b ∷ bs)))

  whole_long : length p < length whole
  unfolding whole
  whole_long = omega (arith, length-append p (b ∷ bs))

  -- a token that is refused in both
  refused_both : (at k g : ℕ) → g < length p → token_at held at ≡ T.Refusal k g → token_at whole at ≡ T.Refusal k g
      → spot_at held at (bytes "either") ≡ None → spot_at whole at (bytes "either") ≡ None
      → spot_at held at (bytes "?duration") ≡ None → spot_at whole at (bytes "?duration") ≡ None → SameAt held whole at
  refused_both at k g low e d x y v w =
      record {
        token = e ∙ sym d;
        whole = rw e (let z : g - g ≡ 0 = omega arith in rw z);
        tail = rw e (let z : g - (g + 1) ≡ 0 = omega arith in rw z);
        first = rw e (byte_near held whole (length p) same g low);
        either = x ∙ sym y;
        duration = v ∙ sym w;
      }

  -- past the most bytes
  past_both : (at : ℕ) → 32768 ≤ gap_end held at → SameAt held whole at
  past_both at h =
      let l : 32768 < length held = omega (arith, held_long) in
      let m : 32768 < length whole = omega (arith, whole_long) in
      let k : 32768 ≤ gap_end whole at = omega (arith, gap_near held whole (length p) same at) in
      refused_both at 1 32768 (omega arith) (past_token held at l h) (past_token whole at m k)
      (past_spot held at (bytes "either") l h) (past_spot whole at (bytes "either") m k)
      (past_spot held at (bytes "?duration") l h) (past_spot whole at (bytes "?duration") m k)

  -- the run that begins at g reaches the block's last byte
  module _ (g : ℕ) (low : g < 32768) (far : length p < end_of held 59 g + 1) where
    run_length : (s : List ℕ) → length p < length s → length p ≤ end_of s 59 g → 34 ≤ length (part s g (end_of s 59 g))
    run_length s h k = rw (length-take, length-drop) (omega arith)

    held_run : 34 ≤ length (part held g (end_of held 59 g))
    held_run = run_length held held_long (omega arith)

    whole_run : 34 ≤ length (part whole g (end_of whole 59 g))
    whole_run = run_length whole whole_long (omega (arith, run_near held whole (length p) same (g + 1)))

    fault : fault_of (part held g (end_of held 59 g)) ≡ fault_of (part whole g (end_of whole 59 g))
    unfolding held whole
    fault =
        let i : g + 1 ≤ length p = omega arith in
        let j : g + 1 < length p = omega arith in
        rw (
          run_at held g (omega (arith, held_long)),
          run_at whole g (omega (arith, whole_long)),
          byte_near held whole (length p) same g (omega arith),
          drop-append-le (g + 1) p (last_of (b ∷ bs)) i,
          drop-append-le (g + 1) p (b ∷ bs) i,
          at_cons p (g + 1) j,
        )
        (same_fault (get_or whole g 0) (get_or p (g + 1) 0) (drop (g + 1 + 1) p ++ last_of (b ∷ bs)) (drop (g + 1 + 1) p ++ b ∷ bs)
        (same_names (drop (g + 1 + 1) p) b bs))

    run_both : (at : ℕ) → gap_end held at ≡ g → gap_end whole at ≡ g → (k : Kind) → kind_of (get_or held g 0) ≡ k → ((a b : ℕ) → on_start k a b b ≡ a)
        → SameAt held whole at
    unfolding bytes
    run_both at e d k x f =
        let l : g < length held = omega (arith, held_long) in
        let m : g < length whole = omega (arith, whole_long) in
        let y : kind_of (get_or whole g 0) ≡ k = rw (byte_near held whole (length p) same g (omega arith)) at x in
        refused_both at (fault_of (part held g (end_of held 59 g))) g (omega arith)
        (run_token held at g e low l held_run k x f) (rw fault (run_token whole at g d low m whole_run k y f))
        (run_spot held at g e low l held_run (bytes "either") (omega arith)) (run_spot whole at g d low m whole_run (bytes "either") (omega arith))
        (run_spot held at g e low l held_run (bytes "?duration") (omega arith)) (run_spot whole at g d low m whole_run (bytes "?duration") (omega arith))

  -- a token that is not wholly seen before the block's last byte
  far_both : (at : ℕ) → gap_end held at < 32768 → length p < seen held (gap_end held at) → SameAt held whole at
  unfolding seen
  far_both at low h = go (kind_of (get_or held (gap_end held at) 0)) refl h
    where
      g : ℕ
      g = gap_end held at

      there : gap_end whole at ≡ g
      there = omega (arith, gap_near held whole (length p) same at)

      go : (k : Kind) → kind_of (get_or held g 0) ≡ k → length p < on_start k (run_end held 59 (g + 1) + 1) (g + 1) (g + 1) → SameAt held whole at
      go K.Digit e i = run_both g low i at refl there K.Digit e (λ a b. refl)
      go K.Letter e i = run_both g low i at refl there K.Letter e (λ a b. refl)
      go K.Bracket e i = absurd (let o : ⊥ = omega arith in o)
      go K.White e i = run_both g low i at refl there K.White e (λ a b. refl)
      go K.Mark e i = run_both g low i at refl there K.Mark e (λ a b. refl)
      go K.Refused e i = absurd (let o : ⊥ = omega arith in o)

  same_tokens : (at : ℕ) → SameAt held whole at
  same_tokens at = go (dec_le (seen held (next_of held at)) (length p)) (dec_le 32768 (gap_end held at))
    where
      go : Dec (seen held (next_of held at) ≤ length p) → Dec (32768 ≤ gap_end held at) → SameAt held whole at
      go (yes i) d = (agrees_bytes (edge_of held (length p)) whole same).same at i
      go (no i) (yes j) = past_both at j
      go (no i) (no j) =
          let e : next_of held at ≡ gap_end held at = next_low held at (omega arith) in
          far_both at (omega arith) (rw e at (let k : length p < seen held (next_of held at) = omega arith in k))

-- ---- any text

pub held_tokens : (n : ℕ) (t : List ℕ) → 32850 ≤ n → (at : ℕ) → SameAt (held_of n t) t at
unfolding held_of last_of held whole
held_tokens zero t h at = absurd (let o : ⊥ = omega arith in o)
held_tokens (suc q) t h at = go (drop q t) refl
  where
    go : (l : List ℕ) → drop q t ≡ l → SameAt (take q t ++ last_of l) t at
    go [] e =
        let w : take q t ++ [] ≡ t = rw (← e) (take-append-drop q t) in
        rw w (same_self t at)
    go (b ∷ bs) e =
        let w : take q t ++ b ∷ bs ≡ t = rw (← e) (take-append-drop q t) in
        let l : 32849 ≤ length (take q t) = omega (arith, length-take q t, length-drop q t, ap length e) in
        rw w at (same_tokens (take q t) b bs l at)

-- what a held domain says, the whole text says
pub held_domain : (n : ℕ) (t : List ℕ) → 32850 ≤ n → read_domain (held_of n t) ≡ read_domain t
held_domain n t h = alike_in_domain (held_of n t) t (held_tokens n t h)

-- and so for a problem
pub held_problem : (n : ℕ) (t : List ℕ) (d : Domain) → 32850 ≤ n → read_problem (held_of n t) d ≡ read_problem t d
held_problem n t d h = alike_in_problem (held_of n t) t d (held_tokens n t h)
