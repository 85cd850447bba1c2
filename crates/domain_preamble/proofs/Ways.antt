-- The ways through what a domain declares before its actions: one section after the other, until one is refused. Assumes nothing.
use mathlib.Core.Path.{◌≡◌, refl, sym, ap, ◌∙◌}
use mathlib.Core.List.{List}
use mathlib.Core.Bool.{false}
use Prim.Native.Nat.{ℕ, ◌+◌, ◌≤◌}
use native.Mathlib.Omega.{arith}
use lib.ListN.{length}
use Rattle.text_words.specs.Bytes.{bytes}
use Rattle.domain_meaning.specs.Read.{Read, got, refused}
use Rattle.domain_meaning.specs.Tables.{Table}
use Rattle.domain_meaning.specs.Due.{Name}
use Rattle.domain_meaning.specs.Domain.{Vocabulary, heading_of, flags_section, types_section, constants_section, declared_section, vocabulary}
use Rattle.domain_due.specs.Answers.{answer_of, Parsed}
use Rattle.domain_due.specs.Answers as A
use Rattle.domain_due.proofs.Dues.{answer_refused, refused_parts}
use Rattle.domain_sections.specs.Openings.{Titled, titled_of, TitledIn}
use Rattle.domain_sections.specs.Openings as T
use Rattle.domain_sections.proofs.Frames.{heading_parts}
use Rattle.domain_preamble.specs.Onwards.{Onwards}
use Rattle.domain_rows.specs.Held.{Holds}
use Rattle.domain_typed_lists.specs.Outcome.{Outcome}
use Rattle.domain_typed_lists.proofs.Outcomes.{As, outcome_refused}
use Rattle.domain_terms.specs.Scoped.{AllSigned}
use Rattle.domain_terms.proofs.Signing.{section_signed}
use Rattle.domain_meaning.proofs.Given.{given_got}
use Rattle.domain_preamble.specs.Beginning.{Done, Refused, Listed, Declares}

-- ---- the heading, and the flags

-- a name that stands from p to e
pub record Title (p e : ℕ) (n : Name) : Type 0 where
  pub starts : n.place ≡ p
  pub ends : n.place + length n.word ≡ e

pub record Headline (x : Read Name) (a p e : ℕ) : Type 0 where
  pub name : Name
  pub is : x ≡ got name a
  pub title : Title p e name

pub titled : (x : Read Name) (a p e : ℕ) → titled_of x ≡ T.At a p e → Headline x a p e
titled (got n b) a p e h =
    let i = heading_parts b a n.place p (n.place + length n.word) e h in
    record { name = n; is = ap (λ (k : ℕ). got n k) i.0; title = record { starts = i.1; ends = i.2 } }
titled (refused k i) a p e h = absurd (let z : ◌≡◌ {A = ℕ} 0 1 = cc in let y : ⊥ = omega arith in y)

pub titled_in : (n a p e : ℕ) (t : Titled) → t ≡ T.At a p e → TitledIn n t → a ≤ n
unfolding TitledIn
titled_in n a p e t q h = rw q at h

untitled_by : (x : Read Name) (k i : ℕ) → titled_of x ≡ T.Refused k i → x ≡ refused k i
untitled_by (got n b) k i h = absurd (let z : ◌≡◌ {A = ℕ} 0 1 = cc in let y : ⊥ = omega arith in y)
untitled_by (refused j o) k i h = let z = refused_parts j k o i h in rw (z.0, z.1)

pub untitled : (s tables : List ℕ) (t : Titled) (k i : ℕ) → t ≡ titled_of (heading_of s (bytes "domain") 0) → t ≡ T.Refused k i
    → Declares s (Refused k i) tables (vocabulary s 0)
unfolding vocabulary Declares
untitled s tables t k i g q = rw (untitled_by (heading_of s (bytes "domain") 0) k i (sym g ∙ q))

pub flags_refused : (s tables : List ℕ) (t : Titled) (a p e : ℕ) (r : Parsed) (k i : ℕ) → t ≡ titled_of (heading_of s (bytes "domain") 0) → t ≡ T.At a p e
    → r ≡ answer_of (flags_section s a) → r ≡ A.Refused k i → Declares s (Refused k i) tables (vocabulary s 0)
unfolding vocabulary Declares
flags_refused s tables t a p e r k i g h f q =
    let x = titled (heading_of s (bytes "domain") 0) a p e (sym g ∙ h) in
    rw (x.is, answer_refused (flags_section s a) k i (sym f ∙ q)) refl

-- ---- where a section that may be missing ends

pub onwards_done : (n at a v : ℕ) (r : Parsed) → r ≡ A.Done a v → Onwards n at r → (at ≤ a) × (a ≤ n)
unfolding Onwards
onwards_done n at a v r q h = rw q at h

-- ---- predicates and functions are signed

declared_signed : (s w : List ℕ) (ts : Table) (max most : ℕ) → most ≤ 4 → (at : ℕ) (u : Table) (n : ℕ) → declared_section s w ts max most at ≡ got u n
    → AllSigned u
declared_signed s w ts max most few at u n q = given_got (section_signed s w ts max most at few) q

-- ---- the sections after the flags

held : (m : ℕ) (rows : List ℕ) (a n : ℕ) (x : Read Table) (t : As m rows a n x) → Holds m rows (length t.table) t.table
held m rows a n x t = rw t.holds.count at t.holds

module _ (s : List ℕ) (h : Name) (a v from : ℕ) (g : heading_of s (bytes "domain") 0 ≡ got h a) (x1 : flags_section s a ≡ got v from) (p e : ℕ)
    (ts os ps fs : List ℕ) where
  module _ (r : Parsed) (k i : ℕ) (q : r ≡ A.Refused k i) where
    stops : (x : Read Vocabulary) → x ≡ refused k i → Listed (length s) h from p e (Refused k i) ts os ps fs x
    unfolding Listed
    stops x z = rw z refl

    pub types_refused : Outcome 17 r ts (types_section s from) → Listed (length s) h from p e (Refused k i) ts os ps fs (vocabulary s 0)
    unfolding vocabulary
    types_refused z = stops (vocabulary s 0) (rw (g, x1, outcome_refused (types_section s from) 17 r ts k i z q))

    module _ (t : Table) (a2 : ℕ) (x2 : types_section s from ≡ got t a2) where
      pub constants_refused : Outcome 64 r os (constants_section s t a2) → Listed (length s) h from p e (Refused k i) ts os ps fs (vocabulary s 0)
      unfolding vocabulary
      constants_refused z = stops (vocabulary s 0) (rw (g, x1, x2, outcome_refused (constants_section s t a2) 64 r os k i z q))

      module _ (o : Table) (a3 : ℕ) (x3 : constants_section s t a2 ≡ got o a3) where
        pub predicates_refused : Outcome 32 r ps (declared_section s (bytes ":predicates") t 32 3 a3)
            → Listed (length s) h from p e (Refused k i) ts os ps fs (vocabulary s 0)
        unfolding vocabulary
        predicates_refused z = stops (vocabulary s 0) (rw (g, x1, x2, x3, outcome_refused (declared_section s (bytes ":predicates") t 32 3 a3) 32 r ps k i z q))

        pub functions_refused : (f : Table) (a4 : ℕ) → declared_section s (bytes ":predicates") t 32 3 a3 ≡ got f a4
            → Outcome 16 r fs (declared_section s (bytes ":functions") t 16 2 a4) → Listed (length s) h from p e (Refused k i) ts os ps fs (vocabulary s 0)
        unfolding vocabulary
        functions_refused f a4 x4 z = stops (vocabulary s 0)
            (rw (g, x1, x2, x3, x4, outcome_refused (declared_section s (bytes ":functions") t 16 2 a4) 16 r fs k i z q))

  -- every section was read
  pub all_listed : (a2 a3 a4 n tn on pn fn : ℕ) (t : As 17 ts a2 tn (types_section s from)) (o : As 64 os a3 on (constants_section s t.table a2))
      (f : As 32 ps a4 pn (declared_section s (bytes ":predicates") t.table 32 3 a3))
      → As 16 fs n fn (declared_section s (bytes ":functions") t.table 16 2 a4)
      → from ≤ n → n ≤ length s
      → Listed (length s) h from p e (Done n p e (record {
        types = tn;
        objects = on;
        predicates = pn;
        functions = fn;
        variables = 0;
        in_action =
            false;
      })) ts os ps fs (vocabulary s 0)
  unfolding vocabulary Listed
  all_listed a2 a3 a4 n tn on pn fn t o f c lo hi = rw (g, x1, t.is, o.is, f.is, c.is) (record {
    is = rw (t.holds.count, o.holds.count, f.holds.count, c.holds.count);
    name = refl;
    types = held 17 ts a2 tn _ t;
    objects = held 64 os a3 on _ o;
    predicates = held 32 ps a4 pn _ f;
    functions = held 16 fs n fn _ c;
    facts = declared_signed s (bytes ":predicates") t.table 32 3 (omega arith) a3 f.table a4 f.is;
    numbers = declared_signed s (bytes ":functions") t.table 16 2 (omega arith) a4 c.table n c.is;
    onwards = lo;
    within = hi;
  })
