-- A heading that was read: where its name lies in the text, and that it has six bytes at least. Assumes nothing.
use mathlib.Core.Path.{◌≡◌, sym, ap, ◌∙◌}
use mathlib.Core.List.{List}
use Prim.Native.Nat.{ℕ, ◌+◌, ◌-◌, ◌≤◌}
use native.Mathlib.Omega.{arith}
use lib.ListN.{length}
use Rattle.text_words.specs.Bytes.{bytes}
use Rattle.text_tokens.specs.Runs.{part}
use Rattle.text_tokens.proofs.Within.{part_length}
use Rattle.domain_meaning.specs.Read.{got}
use Rattle.domain_meaning.specs.Due.{Name}
use Rattle.domain_meaning.specs.Domain.{heading_of}
use Rattle.domain_meaning.proofs.Given.{Given, Any, reads, given_got, given_then}
use Rattle.domain_meaning.proofs.Steps.{Past, Spelt, opening_fits, closing_fits, word_due_fits, any_name_fits}

pub record Headed (s : List ℕ) (at : ℕ) (n : Name) (a : ℕ) : Type 0 where
  pub name : part s n.place (n.place + length n.word) ≡ n.word
  pub named : n.place + length n.word ≤ length s
  pub past : at + 6 ≤ a
  pub within : a ≤ length s

-- the name n up to b, and the closing bracket after it
closed : (s : List ℕ) (at d b a : ℕ) (n : Name) → at + 4 ≤ d → Spelt s d n b → Past s b a → Headed s at n a
closed s at d b a n h w c =
    let l : length n.word ≡ b - n.place = ap length w.is ∙ part_length s n.place b w.within in
    let g : n.place + length n.word ≡ b = omega (arith, l, w.starts) in
    record { name = rw g (sym w.is); named = omega (arith, g, w.within); past = omega (arith, h, w.past, c.past); within = c.within }

heading_fits : (s w : List ℕ) (at : ℕ) → Given (Headed s at) Any (heading_of s w at)
unfolding heading_of
heading_fits s w at =
    given_then _ (opening_fits s 16 at)
    (λ o a h. given_then _ (word_due_fits s 15 a (bytes "define"))
    (λ p b i. given_then _ (opening_fits s 15 b)
    (λ q c j. given_then _ (word_due_fits s 14 c w)
    (λ r d k. given_then _ (any_name_fits s 14 d)
    (λ n e l. given_then _ (closing_fits s 14 e) (λ x f m. reads (closed s at d e f n (omega arith) l m)))))))

pub headed : (s w : List ℕ) (at : ℕ) (n : Name) (a : ℕ) → heading_of s w at ≡ got n a → Headed s at n a
headed s w at n a q = given_got (heading_fits s w at) q

pub heading_past : (s w : List ℕ) (n : Name) (a : ℕ) → heading_of s w 0 ≡ got n a → 6 ≤ a
heading_past s w n a q = omega (arith, (headed s w 0 n a q).past)
