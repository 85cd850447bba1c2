-- The first facts and numbers as they grow, and whether a number is given: it is where it is defined. Assumes nothing.
use mathlib.Core.Path.{◌≡◌, refl, sym, ap, ◌∙◌}
use mathlib.Core.List.{List, [], ◌∷◌, ◌++◌}
use mathlib.Core.Bool.{Bool, true, false, ◌||◌, or-true}
use Prim.Native.Nat.{ℕ, zero, suc, ◌-◌, ◌≤◌, ◌<◌}
use native.Mathlib.Omega.{arith}
use native.Mathlib.Decide.{dec_le}
use lib.Dec.{eqb}
use lib.IntN.{ℤ, pos}
use lib.ListN.{length, get_or, set, replicate, length-set, length-replicate, get_or-replicate, get_or-eq_default}
use lib.Seq.{get_or-set_same, get_or-set_other}
use lib.Signed.{lt_z}
use borrow.Author.Tests.{lt-ltb, eqb-true, eqb-false}
use Rattle.text_tokens.specs.Runs.{part}
use Rattle.text_tokens.specs.Numbers.{signed}
use Rattle.text_tokens.specs.Tokens.{token_at}
use Rattle.text_tokens.specs.declared.tokens.Token.TheVariants as T
use Rattle.text_tokens.proofs.Valued.{number_value, number_reads}
use Rattle.domain_meaning.specs.Problem.{Valued, Init, is_given, with_fact, with_number, nothing}
use Rattle.domain_meaning.specs.First.{undefined, no_facts, no_numbers, facts_from, numbers_from, first_facts, first_numbers}
use Rattle.domain_init.specs.Parts.{Defined, Stands}

-- ---- reads within the numbers and past them

pub default_same : (numbers : List ℤ) (i : ℕ) → i < length numbers → lt_z undefined (get_or numbers i (pos 0)) ≡ lt_z undefined (get_or numbers i undefined)
default_same [] i h = absurd (let z : ⊥ = omega arith in z)
default_same (z ∷ zs) zero h = refl
default_same (z ∷ zs) (suc i) h = default_same zs i (omega arith)

pub past_undefined : (numbers : List ℤ) (i : ℕ) → length numbers ≤ i → false ≡ lt_z undefined (get_or numbers i undefined)
past_undefined numbers i h = rw (get_or-eq_default numbers undefined h)

-- ---- one more

facts_more : (facts is : List ℕ) (i : ℕ) → facts_from facts (is ++ i ∷ []) ≡ set (facts_from facts is) i 1
unfolding facts_from
facts_more facts [] i = refl
facts_more facts (j ∷ is) i = facts_more (set facts j 1) is i

numbers_more : (numbers : List ℤ) (vs : List Valued) (v : Valued) → numbers_from numbers (vs ++ v ∷ []) ≡ set (numbers_from numbers vs) v.index v.value
unfolding numbers_from
numbers_more numbers [] v = refl
numbers_more numbers (w ∷ vs) v = numbers_more (set numbers w.index w.value) vs v

defined_more : (vs : List Valued) (v : Valued) → Defined vs → lt_z undefined v.value ≡ true → Defined (vs ++ v ∷ [])
unfolding Defined
defined_more [] v h k = (k, tt)
defined_more (w ∷ vs) v h k = (h.0, defined_more vs v h.1 k)

pub stands_first : (facts : List ℕ) (numbers : List ℤ) → facts ≡ no_facts → numbers ≡ no_numbers → Stands facts numbers nothing
unfolding first_facts first_numbers facts_from numbers_from Defined
stands_first facts numbers e q = record { facts_are = e; numbers_are = q; defined = tt }

module _ (facts : List ℕ) (numbers : List ℤ) (x : Init) (h : Stands facts numbers x) where
  pub stands_fact : (facts' : List ℕ) (i : ℕ) → facts' ≡ set facts i 1 → Stands facts' numbers (with_fact x i)
  unfolding first_facts first_numbers
  stands_fact facts' i e = record {
    facts_are = e ∙ ap (λ (l : List ℕ). set l i 1) h.facts_are ∙ sym (facts_more no_facts x.facts i);
    numbers_are = h.numbers_are;
    defined = h.defined;
  }

  pub stands_number : (numbers' : List ℤ) (i : ℕ) (z : ℤ) → numbers' ≡ set numbers i z → lt_z undefined z ≡ true → Stands facts numbers' (with_number x i z)
  unfolding first_facts first_numbers
  stands_number numbers' i z e d = record {
    facts_are = h.facts_are;
    numbers_are = e ∙ ap (λ (l : List ℤ). set l i z) h.numbers_are ∙ sym (numbers_more no_numbers x.numbers (record { index = i; value = z }));
    defined = defined_more x.numbers (record { index = i; value = z }) h.defined d;
  }

-- ---- given is defined

given_from : (vs : List Valued) (numbers : List ℤ) (i : ℕ) → Defined vs → i < length numbers
    → lt_z undefined (get_or (numbers_from numbers vs) i undefined) ≡ (lt_z undefined (get_or numbers i undefined) || is_given i vs)
unfolding numbers_from Defined is_given
given_from [] numbers i h k = or_false (lt_z undefined (get_or numbers i undefined))
  where
    or_false : (b : Bool) → b ≡ (b || false)
    or_false true = refl
    or_false false = refl
given_from (v ∷ vs) numbers i h k = given_from vs (set numbers v.index v.value) i h.1 (rw (length-set numbers v.index v.value) k)
    ∙ go (eqb i v.index) refl
  where
    go : (b : Bool) → eqb i v.index ≡ b
        → (lt_z undefined (get_or (set numbers v.index v.value) i undefined) || is_given i vs) ≡
        (lt_z undefined (get_or numbers i undefined) || (b || is_given i vs))
    go true q =
        let e = eqb-true i v.index q in
        let g : get_or (set numbers v.index v.value) i undefined ≡ v.value = rw (← e) (get_or-set_same numbers i v.value undefined k) in
        rw (g, h.0, or-true (lt_z undefined (get_or numbers i undefined)))
    go false q = rw (get_or-set_other numbers v.index i v.value undefined (eqb-false i v.index q))

none_length : length no_numbers ≡ 1024
unfolding no_numbers
none_length = length-replicate 1024 undefined

none_given : (i : ℕ) → lt_z undefined (get_or no_numbers i undefined) ≡ false
unfolding no_numbers
none_given i = elim (dec_le 1024 i) [
  | yes k ↦ rw (get_or-eq_default (replicate 1024 undefined) undefined {n = i} (rw (length-replicate 1024 undefined) k))
  | no k ↦ rw (get_or-replicate 1024 i undefined undefined (omega arith))
]

pub given_is_defined : (facts : List ℕ) (numbers : List ℤ) (x : Init) (i : ℕ) → Stands facts numbers x → i < 1024
    → lt_z undefined (get_or numbers i undefined) ≡ is_given i x.numbers
unfolding first_numbers
given_is_defined facts numbers x i h k =
    ap (λ (l : List ℤ). lt_z undefined (get_or l i undefined)) h.numbers_are
    ∙ given_from x.numbers no_numbers i h.defined (omega (arith, none_length))
    ∙ ap (λ (b : Bool). b || is_given i x.numbers) (none_given i)

-- ---- a number that is read is defined

signed_defined : (minus : Bool) (m : ℕ) → m < 1000000000000 → lt_z undefined (signed minus m) ≡ true
signed_defined true zero h = refl
signed_defined true (suc m) h = let e : suc m - suc 0 ≡ m = omega arith in rw (lt-ltb 0 (suc m) (omega arith), e, lt-ltb m 1000000000000 (omega arith))
signed_defined false m h = refl

pub number_defined : (s : List ℕ) (at : ℕ) (z : ℤ) (p e : ℕ) → token_at s at ≡ T.Number z p e → lt_z undefined z ≡ true
number_defined s at z p e q =
    let r = number_reads (part s p e) z (number_value s at z p e q) in
    rw r.is (signed_defined r.minus r.size r.small)
