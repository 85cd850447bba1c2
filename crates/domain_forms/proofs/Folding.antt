-- References as forms: the constants of none to three arguments folded into the base, and the bytes of the parameters one after the other.
-- Assumes nothing.
use mathlib.Core.Path.{◌≡◌, refl, ap, ◌∙◌}
use mathlib.Core.List.{List, [], ◌∷◌, ◌++◌}
use Prim.Native.Nat.{ℕ, zero, suc, ◌+◌, ◌-◌, ◌*◌, ◌^◌, ◌/◌, ◌%◌, ◌≤◌, ◌<◌}
use native.Mathlib.Nat.{add-zero, sub-zero, mul-le-mul, pow-zero, pow-suc, add-mul, mul_assoc}
use native.Mathlib.Numerals.{add-one}
use native.Mathlib.Omega.{arith}
use lib.ListN.{length, get_or, set}
use lib.Seq.{sets}
use borrow.Author.Tests.{lt-ltb, le-ltb}
use Rattle.base_laws.proofs.Sets.{sets_append}
use Rattle.domain_meaning.specs.Terms.{Arg, object, variable}
use Rattle.domain_rows.specs.Held.{byte_at}
use Rattle.domain_stored_meaning.specs.Decode.{arg_of, args_at, ref_at}
use Rattle.domain_prepared_meaning.specs.Forms.{folded, form_of}
use Rattle.domain_prepared_meaning.specs.Rows.{two_bytes, share_bytes, form_bytes}
use Rattle.domain_forms.specs.Stored.{Stored, fixed_of, share_of}
use Rattle.domain_forms.proofs.Storing.{sets_before, stored_none, stored_one}

-- ---- arguments, cell by cell

module _ (x : ℕ) where
  pub fixed_object : x < 64 → x ≡ fixed_of (arg_of x)
  unfolding arg_of
  fixed_object h = rw (lt-ltb x 64 h)

  pub fixed_parameter : 64 ≤ x → 0 ≡ fixed_of (arg_of x)
  unfolding arg_of
  fixed_parameter h = rw (le-ltb x 64 h)

  module _ (l : List ℕ) (u m : ℕ) where
    pub share_object : x < 64 → Stored l u (share_of m (arg_of x)) l u
    unfolding arg_of
    share_object h = rw (lt-ltb x 64 h) (stored_none l u)

    pub share_parameter : 64 ≤ x → {l' : List ℕ} → l' ≡ set l u (x - 64 + 4 * m) → Stored l u (share_of m (arg_of x)) l' (u + 1)
    unfolding arg_of
    share_parameter h e = rw (le-ltb x 64 h) (stored_one l u (x - 64 + 4 * m) e)

pub args_length : (code : List ℕ) (at k : ℕ) → length (args_at code at k) ≡ k
unfolding args_at
args_length code at zero = refl
args_length code at (suc k) = ap suc (args_length code (at + 1) k)

-- ---- the base

-- a digit more keeps the index small
pub small : (a n : ℕ) → n < 65536 → a * n ≤ a * 65535
small a n h = mul-le-mul (let z : a ≤ a = omega arith in z) (let z : n ≤ 65535 = omega arith in z)

folded_cons : (n : ℕ) (a : Arg) (as' : List Arg) → folded n (a ∷ as') ≡ fixed_of a * n ^ length as' + folded n as'
unfolding folded
folded_cons n (object i) as' = refl
folded_cons n (variable i) as' = omega arith

module _ (n : ℕ) where
  power_1 : n ^ 1 ≡ n
  power_1 = pow-suc n 0 ∙ rw (pow-zero n) (let z : 1 * n ≡ n = omega arith in z)

  power_2 : n ^ 2 ≡ n * n
  power_2 = pow-suc n 1 ∙ rw power_1

  folded_one : (a : Arg) → folded n (a ∷ []) ≡ fixed_of a
  unfolding folded
  folded_one a =
      let f : fixed_of a * n ^ 0 + 0 ≡ fixed_of a = rw (pow-zero n) (omega arith) in
      folded_cons n a [] ∙ f

  folded_two : (a b : Arg) → folded n (a ∷ b ∷ []) ≡ fixed_of a * n + fixed_of b
  folded_two a b =
      let f : fixed_of a * n ^ 1 + folded n (b ∷ []) ≡ fixed_of a * n + fixed_of b = rw (power_1, folded_one b) in
      folded_cons n a (b ∷ []) ∙ f

  -- Horner's rule
  folded_three : (a b c : Arg) → folded n (a ∷ b ∷ c ∷ []) ≡ (fixed_of a * n + fixed_of b) * n + fixed_of c
  folded_three a b c =
      let f : fixed_of a * n ^ 2 + folded n (b ∷ c ∷ []) ≡ (fixed_of a * n + fixed_of b) * n + fixed_of c =
      rw (power_2, folded_two b c, add-mul (fixed_of a * n) (fixed_of b) n, mul_assoc (fixed_of a) n n) (omega arith) in
      folded_cons n a (b ∷ c ∷ []) ∙ f

module _ (code : List ℕ) (n at k : ℕ) where
  pub folded_0 : k ≡ 0 → 0 ≡ folded n (args_at code at k)
  unfolding folded args_at
  folded_0 e = rw e

  module _ {p a x : ℕ} (ep : p ≡ byte_at code at) (ea : a ≡ fixed_of (arg_of p)) (ex : x ≡ 0 * n + a) where
    pub folded_1 : k ≡ 1 → x ≡ folded n (args_at code at k)
    unfolding args_at
    folded_1 e = rw (e, folded_one n (arg_of (byte_at code at)), ← ep, ← ea) (omega (arith, ex))

    x_is : x ≡ a
    x_is = omega (arith, ex)

    module _ {q b y : ℕ} (eq : q ≡ byte_at code (at + 1)) (eb : b ≡ fixed_of (arg_of q)) (ey : y ≡ x * n + b) where
      pub folded_2 : k ≡ 2 → y ≡ folded n (args_at code at k)
      unfolding args_at
      folded_2 e = rw (e, folded_two n (arg_of (byte_at code at)) (arg_of (byte_at code (at + 1))), ← ep, ← ea, ← eq, ← eb, ← x_is) ey

      module _ {r c z : ℕ} (er : r ≡ byte_at code (at + 2)) (ec : c ≡ fixed_of (arg_of r)) (ez : z ≡ y * n + c) where
        pub folded_3 : k ≡ 3 → z ≡ folded n (args_at code at k)
        unfolding args_at
        folded_3 e =
            let w : at + 1 + 1 ≡ at + 2 = omega arith in
            rw (
              e,
              w,
              folded_three n (arg_of (byte_at code at)) (arg_of (byte_at code (at + 1))) (arg_of (byte_at code (at + 2))),
              ← ep,
              ← ea,
              ← eq,
              ← eb,
              ← er,
              ← ec,
              ← x_is,
              ← ey,
            ) ez

-- ---- the parameters

shares_cons : (a : Arg) (as' : List Arg) → share_bytes (a ∷ as') ≡ share_of (length as') a ++ share_bytes as'
unfolding share_bytes
shares_cons (object i) as' = refl
shares_cons (variable i) as' = refl

-- what is left of the arguments
abbrev pub rest_at : List ℕ → ℕ → ℕ → ℕ → List ℕ
rest_at code at k i = share_bytes (args_at code (at + i) (k - i))

pub shares_start : (code : List ℕ) (at k : ℕ) → share_bytes (args_at code at k) ≡ rest_at code at k 0
shares_start code at k = rw (add-zero at, sub-zero k)

module _ (code : List ℕ) (at k i : ℕ) where
  pub shares_end : k ≤ i → rest_at code at k i ≡ []
  unfolding share_bytes args_at
  shares_end h = let z : k - i ≡ 0 = omega arith in rw z

  pub shares_step : i < k → {x : ℕ} → x ≡ byte_at code (at + i)
      → rest_at code at k i ≡ share_of (k - 1 - i) (arg_of x) ++ rest_at code at k (i + 1)
  unfolding args_at
  shares_step h {x} e =
      let z : k - i ≡ suc (k - (i + 1)) = omega arith in
      let y : at + i + 1 ≡ at + (i + 1) = omega arith in
      let w : k - (i + 1) ≡ k - 1 - i = omega arith in
      rw (z, shares_cons, ← e, y, args_length code (at + (i + 1)) (k - (i + 1)), w)

-- ---- the whole

module _ (l : List ℕ) (at x : ℕ) where
  pub word_stored : {l' l'' : List ℕ} → l' ≡ set l at (x % 256) → l'' ≡ set l' (at + 1) (x / 256 % 256) → l'' ≡ sets l at (two_bytes x)
  word_stored a b = rw (b, a, add-one at)

-- a form: the shares were stored first, then the tag that counts them, then the base
module _ (l : List ℕ) (u tag n : ℕ) (firsts code : List ℕ) (at k : ℕ) where
  pub form_stored : {h f m b e : ℕ} {l₁ l₂ l₃ : List ℕ} → h ≡ byte_at code at → f ≡ get_or firsts h 0 → m ≡ n
      → b ≡ folded m (args_at code (at + 1) k) → Stored l (u + 3) (share_bytes (args_at code (at + 1) k)) l₁ e → l₂ ≡ set l₁ u (tag + (e - (u + 3)))
      → l₃ ≡ sets l₂ (u + 1) (two_bytes (f + b)) → Stored l u (form_bytes n [] [] tag firsts (ref_at code at k)) l₃ e
  unfolding ref_at form_of
  form_stored {h} {f} {m} {b} {e} eh ef em eb s e₂ e₃ =
      let xs : List ℕ = share_bytes (args_at code (at + 1) k) in
      let c : tag + (e - (u + 3)) ≡ tag + length xs = let z = s.free in omega arith in
      let g : f + b ≡ get_or firsts (byte_at code at) 0 + folded n (args_at code (at + 1) k) = cc in
      let hd : List ℕ = (tag + length xs) ∷ two_bytes (f + b) in
      record {
        are = e₃ ∙ rw (e₂, c, s.are, add-one u) (sets_before l u (u + 3) hd xs (omega arith) ∙ sets_append l u hd xs ∙ rw g);
        free = let z = s.free in omega arith;
      }
