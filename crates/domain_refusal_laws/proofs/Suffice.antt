-- Steps that are more than the text's bytes suffice, since what is read in one step goes on at a later token. Assumes nothing.
use mathlib.Core.Path.{◌≡◌, refl}
use mathlib.Core.List.{List}
use mathlib.Core.Bool.{Bool, true, false, cond, ◌&&◌}
use Prim.Native.Nat.{ℕ, suc, ◌+◌, ◌-◌, ◌≤◌, ◌<◌, max}
use native.Mathlib.Nat.{le_refl}
use native.Mathlib.Omega.{arith}
use native.Mathlib.Decide.{dec_le}
use lib.Dec.{eqb}
use lib.ListN.{length, get_or, get_or-eq_default}
use Rattle.text_words.specs.Bytes.{bytes, kind_of}
use Rattle.text_tokens.specs.Tokens.{token_at}
use Rattle.text_tokens.specs.declared.tokens.Word.{Word}
use Rattle.text_tokens.specs.declared.tokens.Token.{Token}
use Rattle.text_tokens.specs.declared.tokens.Token.TheVariants as T
use Rattle.domain_meaning.specs.Read.{◌>>=◌, and_then, Read, Reader, got, refused, give, refuse}
use Rattle.domain_meaning.specs.Due.{after_of, on_close, opening}
use Rattle.domain_refusal_laws.specs.Lowest.{seen, next_of, reach, closed, reach_in_problem}
use Rattle.domain_refusal_laws.proofs.Sight.{seen_low, seen_later}
use Rattle.domain_refusal_laws.proofs.Nearness.{Fits, token_fits, next_strict}
use Rattle.domain_refusal_laws.proofs.Local.{Edge, next, agrees_self, Over, Far, beyond, Plain, Held, stays, stops}

-- ---- a refusal reaches as far as the relation asks

pub reach_above : (s : List ℕ) (k p : ℕ) → seen s p ≤ reach s k p
unfolding reach
reach_above s k p = go (eqb k 3 && eqb (get_or s p 0) 40)
  where
    go : (b : Bool) → seen s p ≤ cond b (max (seen s p) (seen s (next_of s (p + 1)))) (seen s p)
    go true = omega arith
    go false = le_refl (seen s p)

pub reach_bracket : (s : List ℕ) (p : ℕ) → get_or s p 0 ≡ 40 → seen s (next_of s (p + 1)) ≤ reach s 3 p
unfolding reach
reach_bracket s p h = rw (h, reach) (omega arith)

pub in_problem_above : (s : List ℕ) (k p : ℕ) → seen s p ≤ reach_in_problem s k p
unfolding reach_in_problem
in_problem_above s k p = go (eqb k 7)
  where
    go : (b : Bool) → seen s p ≤ cond b (max (reach s k p) (closed (length s + 1) s (seen s p - 1))) (reach s k p)
    go true = omega (arith, reach_above s k p)
    go false = reach_above s k p

pub waits : (s : List ℕ) (p : ℕ) → closed (length s + 1) s (seen s p - 1) ≤ reach_in_problem s 7 p
unfolding reach_in_problem
waits s p = omega arith

pub in_problem_bracket : (s : List ℕ) (p : ℕ) → get_or s p 0 ≡ 40 → seen s (next_of s (p + 1)) ≤ reach_in_problem s 3 p
unfolding reach_in_problem
in_problem_bracket s p h = reach_bracket s p h

-- any place of a text as its edge
abbrev pub edge_of : List ℕ → ℕ → Edge
edge_of s q = record { text = s; edge = q; reaches = reach_in_problem s; above = in_problem_above s; bracket = in_problem_bracket s }

-- ---- what is read goes on at a later token

pub off : {A B : Type 0} {k p n : ℕ} {a : A} → ◌≡◌ {A = Read A} (refused k p) (got a n) → B
off e = let z : ◌≡◌ {A = ℕ} 0 1 = cc in absurd (let y : ⊥ = omega arith in y)

pub held_at : {A : Type 0} {p m n : ℕ} {a : A} (x : Read A) → Held p n x → x ≡ got a m → m ≡ n
held_at x (stays b e) h = cc
held_at x (stops k e) h = off (rw e at h)

-- a reader goes on no earlier than it begins: with an edge right before the first token, what it gives is read on after that edge
pub forward : {A : Type 0} {m : List ℕ → Reader A} → ((s : List ℕ) (q : ℕ) → Plain (edge_of s q) m) → (s : List ℕ) (at n : ℕ) (a : A)
    → m s at ≡ got a n → seen s (next_of s at) ≤ seen s (next_of s n)
unfolding Far
forward {m = m} h s at n a e = omega (arith, z.past, seen_low s (next_of s at))
  where
    E : Edge
    E = edge_of s (seen s (next_of s at) - 1)

    z : Over E (next E) n
    z = rw e at (beyond {f = next_of s at} (m s at) (m s at) (omega (arith, seen_low s (next_of s at)))
        ((h s (seen s (next_of s at) - 1)).good s (agrees_self E) at))

-- a reader that begins within the text and goes on at a later token
pub record Strict {A : Type 0} (m : List ℕ → Reader A) : Type 0 where
  pub strict : (s : List ℕ) (at n : ℕ) (a : A) → m s at ≡ got a n → (next_of s at < length s) × (next_of s at < next_of s n)

pub word_strict : (s : List ℕ) (at : ℕ) (k : Word) (p e : ℕ) → token_at s at ≡ T.Word k p e → (next_of s at < length s) × (next_of s at < next_of s e)
unfolding Fits
word_strict s at k p e h =
    let f : (seen s p ≡ e + 1) × (e ≤ length s) × (p < e) = rw h at (token_fits s at) in
    let i : next_of s at < after_of (token_at s at) = rw h f.2 in
    let j : p < next_of s e = rw h at (next_strict s at i) in
    rw h (omega arith)

module _ (s : List ℕ) (at p e : ℕ) (h : token_at s at ≡ T.Open p e) where
  pub bracket_facts : (e ≡ p + 1) × (get_or s p 0 ≡ 40)
  unfolding Fits
  bracket_facts = rw h at (token_fits s at)

  bracket_in : p < length s
  bracket_in = go (dec_le (length s) p)
    where
      go : Dec (length s ≤ p) → p < length s
      go (yes i) = let z : ◌≡◌ {A = ℕ} 0 40 = rw (get_or-eq_default s 0 i) at bracket_facts.1 in absurd (let y : ⊥ = omega arith in y)
      go (no i) = omega arith

  bracket_seen : seen s p ≡ p + 1
  unfolding seen kind_of bytes
  bracket_seen = rw (bracket_facts.1, seen)

  pub bracket_next : p < next_of s e
  bracket_next =
      let i : next_of s at < after_of (token_at s at) = rw h (omega (arith, bracket_facts.0)) in
      rw h at (next_strict s at i)

  -- after a bracket, and after what does not go back
  pub bracket_strict : (m n : ℕ) → p < next_of s m → seen s (next_of s m) ≤ seen s (next_of s n) → (next_of s at < length s) × (next_of s at < next_of s n)
  bracket_strict m n i j = rw h (bracket_in, go (dec_le (suc p) (next_of s n)))
    where
      go : Dec (suc p ≤ next_of s n) → p < next_of s n
      go (yes k) = k
      go (no k) = absurd (let y : ⊥ = omega (arith, bracket_seen, seen_low s (next_of s m), seen_later s (next_of s n) p (omega arith)) in y)

opened_at : (s : List ℕ) (d at p e : ℕ) → opening s d at ≡ got p e → token_at s at ≡ T.Open p e
unfolding opening
opened_at s d at p e h = go (token_at s at) refl
  where
    deep : (b : Bool) (q n : ℕ) → cond b (refuse 12 q) (give q) n ≡ got p e → T.Open q n ≡ T.Open p e
    deep true q n k = off k
    deep false q n k = cc

    go : (t : Token) → token_at s at ≡ t → token_at s at ≡ T.Open p e
    go (T.Word k q n) i = off (rw i at h)
    go (T.Number z q n) i = off (rw i at h)
    go (T.Open q n) i = rw i (deep (eqb d 0) q n (rw i at h))
    go (T.Close q n) i = off (rw i at h)
    go (T.Mark m q n) i = off (rw i at h)
    go (T.Refusal k q) i = off (rw i at h)
    go (T.End q) i = off (rw i at h)

pub opens_strict : {A : Type 0} (d : ℕ) (g : List ℕ → ℕ → Reader A) → ((s : List ℕ) (q p : ℕ) → Plain (edge_of s q) (λ v. g v p))
    → Strict (λ v. ◌>>=◌ (opening v d) (g v))
opens_strict {A} d g h = record { strict = λ s at n a e. go s at n a (opening s d at) refl e }
  where
    go : (s : List ℕ) (at n : ℕ) (a : A) (x : Read ℕ) → opening s d at ≡ x → and_then x (g s) ≡ got a n → (next_of s at < length s) × (next_of s at < next_of s n)
    go s at n a (got p e) i j =
        let o : token_at s at ≡ T.Open p e = opened_at s d at p e i in
        bracket_strict s at p e o e n (bracket_next s at p e o) (forward (λ s q. h s q p) s e n a j)
    go s at n a (refused k p) i j = off j

-- ---- steps

pub record Enough (s : List ℕ) (k at : ℕ) : Type 0 where
  pub one : 0 < k
  pub room : length s < k + next_of s at

pub enough : (s : List ℕ) (k at : ℕ) → length s < k → Enough s k at
enough s k at h = record { one = omega arith; room = omega arith }

pub fewer : {s : List ℕ} {k at n : ℕ} → Enough s (suc k) at → (next_of s at < length s) × (next_of s at < next_of s n) → Enough s k n
fewer e h = record { one = omega arith; room = omega arith }

pub and_same : {A B : Type 0} (x : Read A) {g h : A → Reader B} → ((a : A) (n : ℕ) → x ≡ got a n → g a n ≡ h a n) → and_then x g ≡ and_then x h
and_same (got a n) f = f a n refl
and_same (refused k p) f = refl

pub close_same : {A : Type 0} (t : Token) (f : ℕ → Reader A) (a b : Reader A) (n : ℕ) → a n ≡ b n → on_close t f a n ≡ on_close t f b n
close_same (T.Word k p e) f a b n h = h
close_same (T.Number z p e) f a b n h = h
close_same (T.Open p e) f a b n h = h
close_same (T.Close p e) f a b n h = refl
close_same (T.Mark m p e) f a b n h = h
close_same (T.Refusal k p) f a b n h = h
close_same (T.End p) f a b n h = h

-- a reader with a number of its own, of which both is known
abbrev pub Known : {A : Type 0} → (List ℕ → ℕ → Reader A) → Type 0
Known f = ((E : Edge) (n : ℕ) → Plain E (λ v. f v n)) × ((n : ℕ) → Strict (λ v. f v n))
