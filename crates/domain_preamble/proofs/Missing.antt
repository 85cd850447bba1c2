-- A section that may be missing: what is read where it stands, and where it does not. Assumes nothing.
use Rattle.std.specs.Prelude.{None, Option, Some, Err}
use mathlib.Core.Path.{◌≡◌, refl, sym, ◌∙◌}
use mathlib.Core.List.{List, []}
use mathlib.Core.Bool.{Bool, true, false, cond}
use Prim.Native.Nat.{ℕ, ◌+◌, ◌≤◌, ◌<◌}
use native.Mathlib.Omega.{arith}
use lib.ListN.{length}
use Rattle.std.proofs.lemmas.Option.{some_pair_parts}
use Rattle.text_words.specs.Bytes.{bytes}
use Rattle.text_words.specs.Spelling.{same_word}
use Rattle.text_tokens.specs.Runs.{part}
use Rattle.text_tokens.specs.Tokens.{token_at}
use Rattle.text_tokens.specs.declared.tokens.Token.{Token}
use Rattle.text_tokens.specs.declared.tokens.Token.TheVariants as T
use Rattle.domain_meaning.specs.Read.{Read, got}
use Rattle.domain_meaning.specs.Tables.{Table}
use Rattle.domain_meaning.specs.Lists.{types_to, names_to, declarations}
use Rattle.domain_meaning.specs.Domain as G
use Rattle.domain_meaning.specs.Domain.{opened, other, section_word, behind_open, begins_with, flags_to, only_object, flags_section, types_section, constants_section}
use Rattle.domain_meaning.specs.Domain.{declared_section}
use Rattle.domain_due.specs.Answers.{Ahead, Parsed, Done}
use Rattle.domain_sections.specs.Openings.{opened_of, Further}
use Rattle.domain_preamble.specs.Onwards.{Onwards}

-- ---- a section stands there, or nothing is read

data Begun (at : ℕ) (x : Read G.Opened) : Type 0 where
  absent : x ≡ got other at → Begun at x
  present : (p e : ℕ) → x ≡ got (opened p) e → Begun at x

chosen : (at p e : ℕ) (b : Bool) → Begun at (cond b (got (opened p) e) (got other at))
chosen at p e true = present p e refl
chosen at p e false = absent refl

by_word : (s w : List ℕ) (at : ℕ) (t : Token) → Begun at (section_word s at w t)
by_word s w at (T.Word k p e) = chosen at p e (same_word (part s p e) w)
by_word s w at (T.Number z p e) = absent refl
by_word s w at (T.Open p n) = absent refl
by_word s w at (T.Close p n) = absent refl
by_word s w at (T.Mark m p n) = absent refl
by_word s w at (T.Refusal k p) = absent refl
by_word s w at (T.End p) = absent refl

by_open : (s w : List ℕ) (at : ℕ) (t : Token) → Begun at (behind_open s at w t)
by_open s w at (T.Word k p e) = absent refl
by_open s w at (T.Number z p e) = absent refl
by_open s w at (T.Open p n) = by_word s w at (token_at s (p + 1))
by_open s w at (T.Close p n) = absent refl
by_open s w at (T.Mark m p n) = absent refl
by_open s w at (T.Refusal k p) = absent refl
by_open s w at (T.End p) = absent refl

begun : (s w : List ℕ) (at : ℕ) → Begun at (begins_with s w at)
unfolding begins_with
begun s w at = by_open s w at (token_at s at)

none_by : (at : ℕ) (x : Read G.Opened) → Begun at x → None ≡ opened_of x → x ≡ got other at
none_by at x (absent e) h = e
none_by at x (present p e q) h = absurd (let h' = rw q at h in let z : ◌≡◌ {A = ℕ} 0 1 = cc in let y : ⊥ = omega arith in y)

some_by : (at p e : ℕ) (x : Read G.Opened) → Begun at x → Some (p, e) ≡ opened_of x → x ≡ got (opened p) e
some_by at p e x (absent q) h = absurd (let h' = rw q at h in let z : ◌≡◌ {A = ℕ} 0 1 = cc in let y : ⊥ = omega arith in y)
some_by at p e x (present p' e' q) h = let h' = rw q at h in let z = some_pair_parts p p' e e' h' in rw (q, z.0, z.1)

module _ (s w : List ℕ) (at : ℕ) (r : Option (ℕ × ℕ)) (q : r ≡ opened_of (begins_with s w at)) where
  pub is_missing : r ≡ None → begins_with s w at ≡ got other at
  is_missing e = none_by at (begins_with s w at) (begun s w at) (sym e ∙ q)

  pub is_there : (p e : ℕ) → r ≡ Some (p, e) → begins_with s w at ≡ got (opened p) e
  is_there p e h = some_by at p e (begins_with s w at) (begun s w at) (sym h ∙ q)

pub further_at : (n from p e : ℕ) (r : Option (ℕ × ℕ)) → r ≡ Some (p, e) → Further n from r → (from < e) × (e ≤ n)
unfolding Further
further_at n from p e r q h = rw q at h

-- ---- where it ends

pub onwards_here : (n at v : ℕ) → at ≤ n → Onwards n at (Done at v)
unfolding Onwards
onwards_here n at v h = (omega arith, h)

pub onwards_by : (r : Parsed) (n at b : ℕ) → at ≤ b → Ahead n b r → Onwards n at r
unfolding Onwards Ahead
onwards_by (Done a v) n at b h k = (omega arith, k.1)
onwards_by (Err why) n at b h q = tt

-- ---- the sections

module _ (s : List ℕ) (at : ℕ) where
  pub no_flags : begins_with s (bytes ":requirements") at ≡ got other at → flags_section s at ≡ got 0 at
  unfolding flags_section
  no_flags e = rw e

  pub some_flags : (p e : ℕ) → begins_with s (bytes ":requirements") at ≡ got (opened p) e → flags_section s at ≡ flags_to (length s + 1) s e
  unfolding flags_section
  some_flags p e q = rw q

  pub no_types : begins_with s (bytes ":types") at ≡ got other at → types_section s at ≡ got only_object at
  unfolding types_section
  no_types e = rw e

  pub some_types : (p e : ℕ) → begins_with s (bytes ":types") at ≡ got (opened p) e → types_section s at ≡ types_to s e
  unfolding types_section
  some_types p e q = rw q

  pub no_constants : (ts : Table) → begins_with s (bytes ":constants") at ≡ got other at → constants_section s ts at ≡ got [] at
  unfolding constants_section
  no_constants ts e = rw e

  pub some_constants : (ts : Table) (p e : ℕ) → begins_with s (bytes ":constants") at ≡ got (opened p) e → constants_section s ts at ≡ names_to s ts 64 [] e
  unfolding constants_section
  some_constants ts p e q = rw q

  module _ (w : List ℕ) (ts : Table) (max most : ℕ) where
    pub no_declared : begins_with s w at ≡ got other at → declared_section s w ts max most at ≡ got [] at
    unfolding declared_section
    no_declared e = rw e

    pub some_declared : (p e : ℕ) → begins_with s w at ≡ got (opened p) e → declared_section s w ts max most at ≡ declarations (length s + 1) s ts max most [] e
    unfolding declared_section
    some_declared p e q = rw q
