-- Objects as digits in base n, and the bound of an index: it is below the sum over its table. Assumes nothing.
use mathlib.Core.Path.{◌≡◌, refl, ap}
use mathlib.Core.List.{List, [], ◌∷◌, map}
use Prim.Native.Nat.{ℕ, zero, suc, ◌+◌, ◌*◌, ◌^◌, ◌≤◌, ◌<◌}
use native.Mathlib.Nat.{pow-suc, pow-succ', pow-zero, mul-one, mul-le-mul, le_refl, lt_of_lt_of_le, pow-le-pow_right}
use native.Mathlib.Numerals.{add-one}
use native.Mathlib.Omega.{arith}
use lib.ListN.{length, get_or, take, drop, length-take, drop_of_length-le}
use lib.Seq.{drop-cons, get_or-take, length-take-le}
use borrow.Author.Tests.{lt-ltb}
use Rattle.base_laws.proofs.Numerals.{digit_below}
use Rattle.domain_meaning.specs.Tables.{Table, entry_at}
use Rattle.domain_meaning.specs.Terms.{Arg, object, variable, Ref}
use Rattle.domain_meaning.specs.Indexes.{arity, sum_of, object_of, digits, index_in, index_of}
use Rattle.domain_indexes.specs.Firsts.{first_of}
use Rattle.domain_indexes.proofs.Sums.{base_first}
use Rattle.domain_rows.specs.Held.{byte_at}
use Rattle.domain_terms.specs.Cells.{arg_cells}

-- ---- the loop over the cells

pub numeral_step : (cells : List ℕ) (k n acc b i : ℕ) → k ≤ length cells → i < k → b ≡ byte_at cells i
    → digits n (acc * n + b) (drop (i + 1) (take k cells)) ≡ digits n acc (drop i (take k cells))
unfolding digits byte_at
numeral_step cells k n acc b i h l e =
    let q : b ≡ get_or (take k cells) i 0 = rw (lt-ltb i (length cells) (omega arith), ← get_or-take k cells i 0 l) at e in
    rw (q, add-one i, drop-cons (take k cells) i 0 (rw (length-take-le k cells h) l))

pub numeral_end : (cells : List ℕ) (k n acc i : ℕ) → k ≤ i → digits n acc (drop i (take k cells)) ≡ acc
unfolding digits
numeral_end cells k n acc i h = rw (drop_of_length-le (take k cells) {i = i} (omega (arith, length-take k cells)))

-- with n at most 64 and cells below 256 the sum of i digits is below 256 to the power i
pub numeral_room : (n acc x i : ℕ) → n ≤ 64 → x < 256 → acc < 256 ^ i → acc * n + x < 256 ^ (i + 1)
numeral_room n acc x i h k l =
    rw (add-one i, pow-suc 256 i) (omega (arith, mul-le-mul {n₁ = acc} {m₁ = n} {n₂ = acc} {m₂ = 64} (le_refl acc) h))

-- so four of them fit
pub numeral_small : (acc i : ℕ) → i ≤ 4 → acc < 256 ^ i → acc < 4294967296
numeral_small acc i h l = lt_of_lt_of_le l (pow-le-pow_right {n = 256} (omega arith) h)

pub product_small : (acc n : ℕ) → acc < 4294967296 → n ≤ 64 → acc * n ≤ 274877906944
product_small acc n h k = mul-le-mul {n₁ = acc} {m₁ = n} {n₂ = 4294967296} {m₂ = 64} (omega arith) k

-- ---- objects only

abbrev pub ObjectBelow : ℕ → Arg → Type 0
ObjectBelow n (object i) = i < n
ObjectBelow n (variable i) = ⊥

-- every argument is one of n objects
unfoldable pub Objects : ℕ → List Arg → Type 0
Objects n [] = Unit {0}
Objects n (a ∷ as') = ObjectBelow n a × Objects n as'

-- then their cells are their numbers
pub objects_cells : (n : ℕ) (as' : List Arg) → Objects n as' → map (object_of []) as' ≡ arg_cells as'
unfolding Objects
objects_cells n [] h = refl
objects_cells n (object i ∷ as') h = ap (λ (xs : List ℕ). i ∷ xs) (objects_cells n as' h.1)
objects_cells n (variable i ∷ as') h = absurd h.0

-- ---- the bound

digits_below : (n acc : ℕ) (as' : List Arg) → Objects n as' → digits n acc (map (object_of []) as') < (acc + 1) * n ^ length as'
unfolding digits Objects
digits_below n acc [] h = rw (pow-zero n, mul-one (acc + 1)) (omega arith)
digits_below n acc (object i ∷ as') h =
    rw (pow-succ' n (length as')) (omega (arith, digits_below n (acc * n + i) as' h.1, digit_below n acc i (n ^ length as') h.0))
digits_below n acc (variable i ∷ as') h = absurd h.0

first_within : (n : ℕ) (t : Table) (i : ℕ) → i < length t → first_of n t i + n ^ arity (entry_at t i) ≤ sum_of n t
unfolding first_of sum_of
first_within n [] i h = absurd (let z : ⊥ = omega arith in z)
first_within n (e ∷ t) zero h = omega arith
first_within n (e ∷ t) (suc i) h = omega (arith, first_within n t i (omega arith))

pub index_below : (n : ℕ) (t : Table) (r : Ref) → r.head < length t → length r.args ≡ arity (entry_at t r.head) → Objects n r.args
    → index_of n t r < sum_of n t
unfolding index_of index_in
index_below n t r h e o =
    let d : digits n 0 (map (object_of []) r.args) < (0 + 1) * n ^ arity (entry_at t r.head) = rw (← e) (digits_below n 0 r.args o) in
    omega (arith, d, base_first n t r.head h, first_within n t r.head h)
