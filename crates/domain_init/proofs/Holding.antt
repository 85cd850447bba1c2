-- The loop over what init holds: what the definition says of the rest, from what has been read, it says of the whole. Assumes nothing.
use mathlib.Core.Path.{◌≡◌, refl, sym, ap, ◌∙◌}
use mathlib.Core.List.{List, [], ◌∷◌}
use Prim.Native.Nat.{ℕ, zero, suc, ◌-◌, ◌≤◌, ◌<◌}
use native.Mathlib.Omega.{arith}
use types.Run.{OneOf}
use denote.Enum.Declared.{tag_of}
use lib.IntN.{ℤ}
use lib.ListN.{length}
use Rattle.domain_meaning.proofs.Readings.{then_then}
use Rattle.text_tokens.specs.Tokens.{token_at}
use Rattle.text_tokens.specs.declared.tokens.Token.{Token}
use Rattle.text_tokens.specs.declared.tokens.Token.TheVariants as T
use Rattle.text_tokens.specs.contracts.tokens.Token as token-type
use Rattle.domain_meaning.specs.Read.{Read, got, refused, and_then}
use Rattle.domain_meaning.specs.Due.{opening, closing}
use Rattle.domain_meaning.specs.Terms.{Scope}
use Rattle.domain_meaning.specs.Problem.{Init, nothing, init_to}
use Rattle.domain_due.specs.Answers.{Parsed}
use Rattle.domain_due.specs.Answers.{Done, Refused}
use Rattle.domain_due.proofs.Dues.{done_parts, refused_parts, not_close}
use Rattle.domain_init.specs.State.{Begins}
use Rattle.domain_meaning.specs.First.{no_facts, no_numbers}
use Rattle.domain_init.specs.Parts.{entry_of, Stands, Took}
use Rattle.domain_init.proofs.States.{stands_first}

-- ---- one more was read

record Taken (facts : List ℕ) (numbers : List ℤ) (a : ℕ) (x : Read Init) : Type 0 where
  now : Init
  is : x ≡ got now a
  stands : Stands facts numbers now

module _ (r : Parsed) (facts : List ℕ) (numbers : List ℤ) where
  took_done : (x : Read Init) (a v : ℕ) → Took r facts numbers x → r ≡ Done a v → Taken facts numbers a x
  unfolding Took
  took_done (got y n) a v h e =
      let q : Done n 0 ≡ Done a v = sym h.0 ∙ e in
      let i : n ≡ a = (done_parts n a 0 v q).0 in
      record { now = y; is = ap (λ (j : ℕ). got y j) i; stands = h.1 }
  took_done (refused k p) a v h e = absurd (let z : ◌≡◌ {A = ℕ} 0 1 = cc in let y : ⊥ = omega arith in y)

  took_not : (x : Read Init) (k p : ℕ) → Took r facts numbers x → r ≡ Refused k p → x ≡ refused k p
  unfolding Took
  took_not (got y n) k p h e = absurd (let q = h.0 in let z : ◌≡◌ {A = ℕ} 0 1 = cc q in let w : ⊥ = omega arith in w)
  took_not (refused j q) k p h e =
      let o : Refused j q ≡ Refused k p = sym h ∙ e in
      let i = refused_parts j k q p o in
      rw (i.0, i.1)

begins_refused : (r : Parsed) (facts : List ℕ) (numbers : List ℤ) (x : Read Init) (k p : ℕ) → x ≡ refused k p → r ≡ Refused k p → Begins r facts numbers x
unfolding Begins
begins_refused r facts numbers x k p e h = rw e h

begins_got : (facts : List ℕ) (numbers : List ℤ) (x : Read Init) (y : Init) (n : ℕ) → x ≡ got y n → Stands facts numbers y → Begins (Done n 0) facts numbers x
unfolding Begins
begins_got facts numbers x y n e h = rw e (refl, h.facts_are, h.numbers_are)

-- ---- the ways

module _ (k : ℕ) (s : List ℕ) (c : Scope) (x : Init) (at : ℕ) where
  init_close : (p n : ℕ) → token_at s at ≡ T.Close p n → init_to (suc k) s c x at ≡ got x n
  unfolding init_to closing
  init_close p n e = simp e

  init_entry : (t : Token) → t ≡ token_at s at → OneOf (0 ∷ 1 ∷ 2 ∷ 4 ∷ 5 ∷ 6 ∷ []) (tag_of token-type.the_type t)
      → init_to (suc k) s c x at ≡ and_then (entry_of s c x at) (λ y. init_to k s c y)
  unfolding init_to entry_of
  init_entry t e o = rw (← e, not_close t _ _ o) (sym (then_then (opening s 14 at) _ _))

-- ---- the loop

pub record Holding (s : List ℕ) (c : Scope) (from : ℕ) (facts : List ℕ) (numbers : List ℤ) (at : ℕ) : Type 0 where
  pub init : Init
  pub stands : Stands facts numbers init
  pub on : (k : ℕ) → length s - from < k → (j : ℕ) × (length s - at < j) × (init_to k s c nothing from ≡ init_to j s c init at)

pub holding_start : (s : List ℕ) (c : Scope) (from : ℕ) (facts : List ℕ) (numbers : List ℤ) → facts ≡ no_facts → numbers ≡ no_numbers
    → Holding s c from facts numbers from
holding_start s c from facts numbers e q = record { init = nothing; stands = stands_first facts numbers e q; on = λ k h. (k, h, refl) }

module _ (s : List ℕ) (c : Scope) (from : ℕ) (facts : List ℕ) (numbers : List ℤ) (at : ℕ) (o : Holding s c from facts numbers at) where
  whole : (x : Read Init) → ((j : ℕ) → init_to (suc j) s c o.init at ≡ x) → (k : ℕ) → length s - from < k → init_to k s c nothing from ≡ x
  whole x f k h = go (o.on k h).0 (o.on k h).1 (o.on k h).2
    where
      go : (j : ℕ) → length s - at < j → init_to k s c nothing from ≡ init_to j s c o.init at → init_to k s c nothing from ≡ x
      go zero q e = absurd (let z : ⊥ = omega arith in z)
      go (suc j) q e = e ∙ f j

  pub holding_close : (p n : ℕ) → token_at s at ≡ T.Close p n → (k : ℕ) → length s - from < k → Begins (Done n 0) facts numbers (init_to k s c nothing from)
  holding_close p n q k h = begins_got facts numbers _ o.init n (whole (got o.init n) (λ j. init_close j s c o.init at p n q) k h) o.stands

  module _ (t : Token) (e : t ≡ token_at s at) (w : OneOf (0 ∷ 1 ∷ 2 ∷ 4 ∷ 5 ∷ 6 ∷ []) (tag_of token-type.the_type t))
      (r : Parsed) (facts' : List ℕ) (numbers' : List ℤ) (out : Took r facts' numbers' (entry_of s c o.init at)) where
    pub holding_refused : (i p : ℕ) → r ≡ Refused i p → (k : ℕ) → length s - from < k → Begins r facts' numbers' (init_to k s c nothing from)
    holding_refused i p q k h =
        begins_refused r facts' numbers' _ i p
        (whole (refused i p) (λ j. init_entry j s c o.init at t e w ∙ simp (took_not r facts' numbers' _ i p out q)) k h) q

    pub holding_more : (a v : ℕ) → r ≡ Done a v → at < a → a ≤ length s → Holding s c from facts' numbers' a
    holding_more a v q lo hi = record { init = g.now; stands = g.stands; on = λ k h. go k (o.on k h).0 (o.on k h).1 (o.on k h).2 }
      where
        g : Taken facts' numbers' a (entry_of s c o.init at)
        g = took_done r facts' numbers' _ a v out q

        go : (k j : ℕ) → length s - at < j → init_to k s c nothing from ≡ init_to j s c o.init at
            → (i : ℕ) × (length s - a < i) × (init_to k s c nothing from ≡ init_to i s c g.now a)
        go k zero h z = absurd (let y : ⊥ = omega arith in y)
        go k (suc j) h z = (j, omega arith, z ∙ init_entry j s c o.init at t e w ∙ ap (λ (y : Read Init). and_then y (λ z. init_to j s c z)) g.is)
