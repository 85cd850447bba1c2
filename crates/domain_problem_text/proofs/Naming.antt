-- The ways through the domain's name, and through what stands before init. Assumes nothing.
use Rattle.std.specs.Prelude.{Err}
use mathlib.Core.Path.{◌≡◌, sym, ap, ◌∙◌}
use mathlib.Core.List.{List}
use mathlib.Core.Bool.{Bool, true, false}
use Prim.Native.Nat.{ℕ, ◌≤◌}
use native.Mathlib.Omega.{arith}
use Rattle.text_words.specs.Bytes.{bytes}
use Rattle.text_words.specs.Spelling.{same_word}
use Rattle.text_tokens.specs.Runs.{part}
use Rattle.domain_meaning.specs.Read.{Read, got, refused}
use Rattle.domain_meaning.specs.Due.{Name, any_name, closing}
use Rattle.domain_meaning.specs.Lists.{names_to}
use Rattle.domain_meaning.specs.Domain.{Domain, section, heading_of}
use Rattle.domain_meaning.specs.Problem.{section_due_of, of_domain, premises}
use Rattle.domain_due.specs.Answers.{answer_of, Ahead}
use Rattle.domain_due.specs.Answers.{Parsed}
use Rattle.domain_due.specs.Answers.{Done, Refused}
use Rattle.domain_due.proofs.Dues.{answer_done, refused_parts}
use Rattle.domain_preamble.specs.Onwards.{Onwards}
use Rattle.domain_sections.specs.Openings.{titled_of, TitledIn}
use Rattle.domain_sections.specs.Openings.{Titled}
use Rattle.domain_sections.specs.Openings as H
use Rattle.domain_sections.proofs.Frames.{heading_parts}

-- what was read, by what was answered of it
pub read_by : (x : Read ℕ) (r : Parsed) (a v : ℕ) → r ≡ answer_of x → r ≡ Done a v → x ≡ got v a
read_by x r a v q e = answer_done x a v (sym q ∙ e)

-- what was answered of two words, of those that they are
pub same_as : (r t : Bool) (v w x y : List ℕ) → r ≡ same_word v x → v ≡ w → x ≡ y → r ≡ t → same_word w y ≡ t
same_as r t v w x y q e f h = rw (← e, ← f) (sym q ∙ h)

-- ---- places

pub ahead_further : (r : Parsed) (n at b : ℕ) → at ≤ b → Ahead n b r → Ahead n at r
unfolding Ahead
ahead_further (Done a v) n at b h k = (omega (arith, k.0), k.1)
ahead_further (Err why) n at b h q = tt

pub onwards_further : (r : Parsed) (n at b : ℕ) → at ≤ b → Onwards n b r → Onwards n at r
unfolding Onwards
onwards_further (Done a v) n at b h k = (omega (arith, k.0), k.1)
onwards_further (Err why) n at b h q = tt

pub onwards_refused : (n at k p : ℕ) (r : Parsed) → r ≡ Refused k p → Onwards n at r
unfolding Onwards
onwards_refused n at k p r e = rw e tt

pub titled_end : (n a p e : ℕ) (r : Titled) → r ≡ H.At a p e → TitledIn n r → a ≤ n
unfolding TitledIn
titled_end n a p e r q h = rw q at h

-- ---- `(:domain NAME)`

module _ (s : List ℕ) (d : Domain) (at : ℕ) where
  pub of_undue : (k p : ℕ) → section_due_of s (bytes ":domain") at ≡ refused k p → of_domain s d at ≡ refused k p
  of_undue k p e = rw e

  module _ (v a : ℕ) (q : section_due_of s (bytes ":domain") at ≡ got v a) where
    pub of_unnamed : (k p : ℕ) → any_name s 14 a ≡ refused k p → of_domain s d at ≡ refused k p
    of_unnamed k p e = rw (q, e)

    module _ (p e : ℕ) (n : any_name s 14 a ≡ got (record { place = p; word = part s p e }) e) where
      pub of_other : same_word (part s p e) d.name ≡ false → of_domain s d at ≡ refused 13 p
      of_other m = rw (q, n, m)

      pub of_same : same_word (part s p e) d.name ≡ true → of_domain s d at ≡ closing s 14 e
      of_same m = rw (q, n, m)

-- ---- a heading that was read, and one that was refused

pub record Headed (a : ℕ) (x : Read Name) : Type 0 where
  pub name : Name
  pub is : x ≡ got name a

pub headed : (x : Read Name) (a p e : ℕ) → titled_of x ≡ H.At a p e → Headed a x
headed (got n b) a p e h = let q : b ≡ a = (heading_parts b a _ p _ e h).0 in record { name = n; is = ap (λ (j : ℕ). got n j) q }
headed (refused k q) a p e h = absurd (let z : ◌≡◌ {A = ℕ} 0 1 = cc in let y : ⊥ = omega arith in y)

pub unheaded : (x : Read Name) (k p : ℕ) → titled_of x ≡ H.Refused k p → x ≡ refused k p
unheaded (got n b) k p h = absurd (let z : ◌≡◌ {A = ℕ} 0 1 = cc in let y : ⊥ = omega arith in y)
unheaded (refused j q) k p h = let z = refused_parts j k q p h in rw (z.0, z.1)

-- ---- what stands before init

module _ (s : List ℕ) (d : Domain) where
  pub before_heading : (k p : ℕ) → heading_of s (bytes "problem") 0 ≡ refused k p → premises s d 0 ≡ refused k p
  unfolding premises
  before_heading k p e = rw e

  module _ (a : ℕ) (h : Headed a (heading_of s (bytes "problem") 0)) where
    pub before_domain : (k p : ℕ) → of_domain s d a ≡ refused k p → premises s d 0 ≡ refused k p
    unfolding premises
    before_domain k p e = rw (h.is, e)

    pub behind_domain : (v b : ℕ) → of_domain s d a ≡ got v b
        → premises s d 0 ≡ section s ":objects" d.constants (names_to s d.types 64 d.constants) b
    unfolding premises
    behind_domain v b e = rw (h.is, e)
