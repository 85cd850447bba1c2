-- The base of a reference whose names are declared lies below the sum of its table: its head's indexes begin at its first index, and there are as many as
-- n^arguments. Assumes nothing.
use mathlib.Core.Path.{◌≡◌, refl, sym, ap, ◌∙◌}
use mathlib.Core.List.{List, [], ◌∷◌, ◌++◌}
use Prim.Native.Nat.{ℕ, zero, suc, ◌+◌, ◌^◌, ◌≤◌, ◌<◌}
use native.Mathlib.Nat.{one-mul, zero-mul, suc-mul, pow-zero, pow-succ', mul-le-mul_right}
use native.Mathlib.Omega.{arith}
use native.Mathlib.Decide.{dec_le}
use lib.ListN.{length, get_or, get_or-append}
use lib.Seq.{get_or-take}
use Rattle.domain_meaning.specs.Tables.{Table, entry_at, wanted_of}
use Rattle.domain_meaning.specs.Terms.{Scope, Arg, object, variable, Ref}
use Rattle.domain_meaning.specs.Indexes.{arity, sum_of, bases_of, padded}
use Rattle.domain_rows.proofs.Rows.{length_padded, take_padded}
use Rattle.domain_terms.specs.Scoped.{AllSigned}
use Rattle.domain_indexes.specs.Firsts.{first_of}
use Rattle.domain_indexes.proofs.Sums.{first_next, first_low, length_bases, base_first}
use Rattle.domain_prepared_meaning.specs.Forms.{folded, form_of}
use Rattle.domain_read_laws.proofs.Named.{NamedArg, NamedArgs, NamedRef}

-- ---- the constants that are folded into a base, being objects below n

module _ (c : Scope) (n : ℕ) (more : length c.objects ≤ n) where
  folded_below : (xs : List Arg) → 0 < n → NamedArgs c xs → folded n xs < n ^ length xs
  unfolding folded NamedArgs NamedArg
  folded_below [] h k = rw (pow-zero n) (omega arith)
  folded_below (object i ∷ xs) h k =
      let w = n ^ length xs in
      let l : suc i ≤ n = omega (arith, k.0) in
      rw (pow-succ' n (length xs)) (omega (arith, folded_below xs h k.1, suc-mul i w, mul-le-mul_right w l))
  folded_below (variable i ∷ xs) h k =
      let w = n ^ length xs in
      rw (pow-succ' n (length xs)) (omega (arith, folded_below xs h k.1, one-mul w, mul-le-mul_right w h))

  -- where there are no objects
  folded_none : (xs : List Arg) → n ≤ 0 → NamedArgs c xs → folded n xs ≡ 0
  unfolding folded NamedArgs NamedArg
  folded_none [] h k = refl
  folded_none (object i ∷ xs) h k = absurd (let z : ⊥ = omega (arith, k.0) in z)
  folded_none (variable i ∷ xs) h k = folded_none xs h k.1

-- ---- tables: how many arguments, and the first indexes of their names

signed_arity : (t : Table) (i : ℕ) → AllSigned t → arity (entry_at t i) ≡ length (wanted_of (entry_at t i))
signed_arity [] i h = refl
signed_arity (e ∷ t) zero h = rw h.0.is
signed_arity (e ∷ t) (suc i) h = signed_arity t i h.1

none_power : (k : ℕ) → 0 ^ k ≤ 1
none_power zero = rw (pow-zero 0) (omega arith)
none_power (suc k) = rw (pow-succ' 0 k, zero-mul (0 ^ k)) (omega arith)

none_sum : (t : Table) → sum_of 0 t ≤ length t
unfolding sum_of
none_sum [] = omega arith
none_sum (e ∷ t) = omega (arith, none_power (arity e), none_sum t)

-- numbers of which those up to the table's length are the first indexes of its names
abbrev pub Firsts : ℕ → Table → List ℕ → Type 0
Firsts n t firsts = (i : ℕ) → i < length t → get_or firsts i 0 ≡ first_of n t i

pub padded_first : (n m : ℕ) (t : Table) → length t ≤ m → Firsts n t (padded m (bases_of n t))
padded_first n m t h i k =
    let w = bases_of n t in
    let l : i < length w = omega (arith, length_bases n 0 t) in
    let room : length w ≤ m = omega (arith, length_bases n 0 t) in
    sym (get_or-append (padded m w) [] 0 i (omega (arith, length_padded m w)))
    ∙ sym (get_or-take (length w) (padded m w ++ []) i 0 l)
    ∙ ap (λ (x : List ℕ). get_or x i 0) (take_padded m w [] room)
    ∙ base_first n t i k

-- ---- references

module _ (c : Scope) (n : ℕ) (t : Table) (firsts : List ℕ) (more : length c.objects ≤ n) (signed : AllSigned t) (f : Firsts n t firsts) (r : Ref)
    (h : NamedRef c t r) where
  some_base : 0 < n → (form_of n firsts r).base < sum_of n t
  unfolding form_of
  some_base l =
      let e : n ^ length r.args ≡ n ^ arity (entry_at t r.head) =
      ap (λ (k : ℕ). n ^ k) (h.count ∙ sym (signed_arity t r.head signed)) in
      omega (
        arith,
        f r.head h.head,
        folded_below c n more r.args l h.args,
        e,
        first_next n t r.head h.head,
        first_low n t (r.head + 1) (omega (arith, h.head)),
      )

  none_base : n ≤ 0 → (form_of n firsts r).base ≤ length t
  unfolding form_of
  none_base l =
      let e : n ≡ 0 = omega arith in
      let s : sum_of n t ≤ length t = rw e (none_sum t) in
      omega (arith, f r.head h.head, folded_none c n more r.args l h.args, first_low n t r.head (omega (arith, h.head)))

  pub base_below : (most : ℕ) → sum_of n t ≤ most → length t < most → (form_of n firsts r).base < most
  base_below most s k = elim (dec_le n 0) [
    | yes l ↦ omega (arith, none_base l)
    | no l ↦ omega (arith, some_base (omega arith))
  ]
