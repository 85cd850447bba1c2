-- A form gives the index that the arguments give as digits; as a reference it gives the same where one object is counted. Assumes nothing.
use mathlib.Core.Path.{◌≡◌, refl, sym, ◌∙◌}
use mathlib.Core.List.{List, [], ◌∷◌, ◌++◌, map}
use Prim.Native.Nat.{ℕ, zero, suc, ◌+◌, ◌*◌, ◌^◌}
use native.Mathlib.Nat.{add-mul, mul_assoc, mul_comm, suc-mul, pow-zero, pow-succ'}
use native.Mathlib.Omega.{arith}
use lib.ListN.{length, get_or, replicate, length-map}
use Rattle.domain_meaning.specs.Terms.{Arg, object, variable, Ref}
use Rattle.domain_meaning.specs.Indexes.{object_of, digits, index_in}
use Rattle.domain_prepared_meaning.specs.Forms.{Share, Form, shares_in, index_by, folded, shares_of, form_of, repeated, ref_by}

-- ---- as a reference: where one object is counted, digits are added up

-- the same digit so many times
times : (os : List ℕ) (p k acc : ℕ) (as' : List Arg)
    → digits 1 acc (map (object_of os) (replicate k (variable p) ++ as')) ≡ digits 1 (acc + k * get_or os p 0) (map (object_of os) as')
unfolding digits
times os p zero acc as' = let e : acc + 0 * get_or os p 0 ≡ acc = omega arith in rw e
times os p (suc k) acc as' =
    let v = get_or os p 0 in
    let q : acc + suc k * v ≡ acc * 1 + v + k * v = omega (arith, suc-mul k v) in
    rw q (times os p k (acc * 1 + v) as')

sums : (os : List ℕ) (acc : ℕ) (ss : List Share) → digits 1 acc (map (object_of os) (repeated ss)) ≡ acc + shares_in os ss
unfolding digits repeated shares_in
sums os acc [] = omega arith
sums os acc (s ∷ ss) =
    rw (times os s.param s.stride acc (repeated ss)) (omega (arith, sums os (acc + s.stride * get_or os s.param 0) ss))

pub summed_index : (os : List ℕ) (f : Form) → index_in [] 1 os (ref_by f) ≡ index_by f os
unfolding index_in ref_by index_by digits
summed_index os f = omega (arith, sums os (0 * 1 + f.base) f.shares)

-- ---- of a reference

-- the digits before the others weigh n to the power of how many others there are
digits_more : (n acc : ℕ) (xs : List ℕ) → digits n acc xs ≡ acc * n ^ length xs + digits n 0 xs
unfolding digits
digits_more n acc [] = rw (pow-zero n) (omega arith)
digits_more n acc (x ∷ xs) =
    let k = n ^ length xs in
    let e : acc * n ^ suc (length xs) ≡ acc * n * k = rw (pow-succ' n (length xs)) (sym (mul_assoc acc n k)) in
    omega (arith, digits_more n (acc * n + x) xs, digits_more n (0 * n + x) xs, add-mul (acc * n) x k, add-mul (0 * n) x k, e)

-- a digit before those of the arguments
digit_more : (n x : ℕ) (os : List ℕ) (as' : List Arg)
    → digits n (0 * n + x) (map (object_of os) as') ≡ x * n ^ length as' + digits n 0 (map (object_of os) as')
digit_more n x os as' =
    let z : 0 * n + x ≡ x = omega arith in
    rw (z, ← length-map as' (object_of os)) (digits_more n x (map (object_of os) as'))

digits_form : (n : ℕ) (os : List ℕ) (as' : List Arg) → folded n as' + shares_in os (shares_of n as') ≡ digits n 0 (map (object_of os) as')
unfolding digits folded shares_of shares_in
digits_form n os [] = refl
digits_form n os (object i ∷ as') = omega (arith, digit_more n i os as', digits_form n os as')
digits_form n os (variable i ∷ as') =
    omega (arith, digit_more n (get_or os i 0) os as', digits_form n os as', mul_comm (get_or os i 0) (n ^ length as'))

pub form_index : (n : ℕ) (firsts os : List ℕ) (r : Ref) → index_by (form_of n firsts r) os ≡ index_in firsts n os r
unfolding index_by form_of index_in
form_index n firsts os r = omega (arith, digits_form n os r.args)

-- a reference by its form, where one object is counted, has the index of the reference
pub prepared_index : (n : ℕ) (firsts os : List ℕ) (r : Ref) → index_in [] 1 os (ref_by (form_of n firsts r)) ≡ index_in firsts n os r
prepared_index n firsts os r = summed_index os (form_of n firsts r) ∙ form_index n firsts os r
