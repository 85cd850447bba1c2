-- The ways through a declaration and the declarations, and the invariant of their loop. Assumes nothing.
use mathlib.Core.Path.{◌≡◌, refl, sym, ap, ◌∙◌}
use mathlib.Core.List.{List, [], ◌∷◌, ◌++◌, map}
use mathlib.Core.Bool.{Bool, true, false, cond}
use Prim.Native.Nat.{ℕ, zero, suc, ◌+◌, ◌-◌, ◌*◌, ◌≤◌, ◌<◌}
use native.Mathlib.Omega.{arith}
use types.Run.{OneOf}
use denote.Enum.Declared.{tag_of}
use lib.ListN.{length, take, length-map}
use lib.Seq.{sets, length-sets}
use Rattle.base_laws.proofs.Sets.{sets_front}
use Rattle.text_words.specs.Fixed.{is_reserved}
use Rattle.text_tokens.specs.Runs.{part}
use Rattle.text_tokens.specs.Tokens.{token_at}
use Rattle.text_tokens.specs.declared.tokens.Token.{Token}
use Rattle.text_tokens.specs.declared.tokens.Token.TheVariants as T
use Rattle.text_tokens.specs.declared.tokens.Word.TheVariants as W
use Rattle.text_tokens.proofs.Within.{part_length}
use Rattle.text_tokens.specs.contracts.tokens.Token as token-type
use Rattle.domain_meaning.specs.Read.{Read, got, refused, and_then, give, refuse}
use Rattle.domain_meaning.specs.Due.{after_of, wrong, on_word, opening, closing, is_name_word, Name, any_name, new_name}
use Rattle.domain_meaning.specs.Tables.{Table, type_of, fresh}
use Rattle.domain_meaning.specs.Lists.{variables_to, signature, declaration, declarations}
use Rattle.domain_due.specs.Answers.{answer_of, name_of, Parsed, Done, Refused}
use Rattle.domain_due.proofs.Dues.{not_close, word_in, name_in_lem, Named, any_named, done_parts, refused_parts, answer_done, answer_refused}
use Rattle.domain_rows.specs.Held.{rows_of, Holds}
use Rattle.domain_meaning.specs.Indexes.{padded}
use Rattle.domain_typed_lists.specs.Outcome.{Outcome, Signed}
use Rattle.domain_typed_lists.proofs.Outcomes.{As, outcome_done, outcome_refused, refuses, reads}
use Rattle.domain_typed_lists.proofs.Going.{fresh_stays}

-- ---- the name

same_name : (x : Read Name) (v a : ℕ) → name_of (and_then x (λ n. cond (is_reserved n.word) (refuse 3 n.place) (give n))) ≡ Done a v
    → and_then x (λ n. cond (is_reserved n.word) (refuse 3 n.place) (give n)) ≡ x
same_name (got n b) v a h = go (is_reserved n.word) h
  where
    go : (c : Bool) → name_of (cond c (refuse 3 n.place) (give n) b) ≡ Done a v → cond c (refuse 3 n.place) (give n) b ≡ got n b
    go true e = absurd (let z : ◌≡◌ {A = ℕ} 0 1 = cc in let y : ⊥ = omega arith in y)
    go false e = refl
same_name (refused k p) v a h = refl

new_any : (s : List ℕ) (d at v a : ℕ) → name_of (new_name s d at) ≡ Done a v → new_name s d at ≡ any_name s d at
unfolding new_name
new_any s d at v a h = same_name (any_name s d at) v a h

name_token : (s : List ℕ) (d : ℕ) (t : Token) (v a : ℕ)
    → name_of (on_word t (λ k p e. cond (is_name_word k) (give (record { place = p; word = part s p e })) (refuse 3 p)) (wrong d t) (after_of t)) ≡ Done a v
    → t ≡ T.Word W.Name v a
name_token s d (T.Word W.Name p e) v a h = let q = done_parts e a p v h in rw (q.0, q.1)
name_token s d (T.Word W.Variable p e) v a h = absurd (let z : ◌≡◌ {A = ℕ} 0 1 = cc in let y : ⊥ = omega arith in y)
name_token s d (T.Word W.Keyword p e) v a h = absurd (let z : ◌≡◌ {A = ℕ} 0 1 = cc in let y : ⊥ = omega arith in y)
name_token s d (T.Word W.Operator p e) v a h = absurd (let z : ◌≡◌ {A = ℕ} 0 1 = cc in let y : ⊥ = omega arith in y)
name_token s d (T.Number z p e) v a h = absurd (let x : ◌≡◌ {A = ℕ} 0 1 = cc in let y : ⊥ = omega arith in y)
name_token s d (T.Open p n) v a h = absurd (let z : ◌≡◌ {A = ℕ} 0 1 = cc in let y : ⊥ = omega arith in y)
name_token s d (T.Close p n) v a h = absurd (let z : ◌≡◌ {A = ℕ} 0 1 = cc in let y : ⊥ = omega arith in y)
name_token s d (T.Mark m p n) v a h = absurd (let z : ◌≡◌ {A = ℕ} 0 1 = cc in let y : ⊥ = omega arith in y)
name_token s d (T.Refusal k p) v a h = absurd (let z : ◌≡◌ {A = ℕ} 0 1 = cc in let y : ⊥ = omega arith in y)
name_token s d (T.End p) v a h = absurd (let z : ◌≡◌ {A = ℕ} 0 1 = cc in let y : ⊥ = omega arith in y)

any_token : (s : List ℕ) (d at v a : ℕ) → name_of (any_name s d at) ≡ Done a v → token_at s at ≡ T.Word W.Name v a
unfolding any_name
any_token s d at v a h = name_token s d (token_at s at) v a h

-- a new name that was read: it is the part of the text between its places, of at most 32 bytes
module _ (s : List ℕ) (d at v a : ℕ) (h : name_of (new_name s d at) ≡ Done a v) where
  any : name_of (any_name s d at) ≡ Done a v
  any = ap name_of (sym (new_any s d at v a h)) ∙ h

  pub named : Named s v a (new_name s d at)
  named = record { is = new_any s d at v a h ∙ (any_named s d at v a any).is }

  pub name_short : at ≤ length s → length (part s v a) ≤ 32
  name_short l =
      let t = any_token s d at v a any in
      let w = word_in s at l W.Name v a t in
      let z : length (part s v a) ≤ 32 = omega (arith, name_in_lem s at l v a t, part_length s v a w.2) in z

-- ---- the numbers that are kept

-- the front of the rows for 3 variables, with none in them
pub no_variables : (m : ℕ) → m ≤ 3 → take (38 * m) (rows_of 3 []) ≡ rows_of m []
unfolding rows_of padded
no_variables zero h = refl
no_variables (suc zero) h = refl
no_variables (suc (suc zero)) h = refl
no_variables (suc (suc (suc zero))) h = refl
no_variables (suc (suc (suc (suc m)))) h = absurd (let z : ⊥ = omega arith in z)

-- v variables were read, to a
pub record Signs (m : ℕ) (now : List ℕ) (a v : ℕ) (x : Read Table) : Type 0 where
  pub table : Table
  pub is : x ≡ got table a
  pub fits : v ≤ m
  pub room : v + 1 ≤ length now
  pub numbers : take (v + 1) now ≡ length table ∷ map type_of table
  pub long : length (take (v + 1) now) ≡ v + 1

pub signed_done : (x : Read Table) (m : ℕ) (r : Parsed) (was now : List ℕ) (a v : ℕ) → Signed m r was now x → r ≡ Done a v → m < length was → Signs m now a v x
unfolding Signed
signed_done (got t n) m r was now a v h e l =
    let q = done_parts n a (length t) v (sym h.0 ∙ e) in
    let n≡ : n ≡ a = q.0 in
    let v≡ : length t ≡ v = q.1 in
    let long : length (length t ∷ map type_of t) ≡ v + 1 = omega (arith, length-map t type_of) in
    let b : v + 1 ≤ length was = omega (arith, h.1) in
    let is : take (v + 1) now ≡ length t ∷ map type_of t = ap (λ (y : List ℕ). take (v + 1) y) h.2
    ∙ sets_front was (length t ∷ map type_of t) (v + 1) long b in
    record {
      table = t;
      is = ap (λ (j : ℕ). got t j) n≡;
      fits = rw v≡ at h.1;
      room = let z : length now ≡ length was = ap length h.2 ∙ length-sets was 0 (length t ∷ map type_of t) in omega arith;
      numbers = is;
      long = ap length is ∙ long;
    }
signed_done (refused k p) m r was now a v h e l = absurd (let z : ◌≡◌ {A = ℕ} 0 1 = cc in let y : ⊥ = omega arith in y)

pub signed_refused : (x : Read Table) (m : ℕ) (r : Parsed) (was now : List ℕ) (k p : ℕ) → Signed m r was now x → r ≡ Refused k p → x ≡ refused k p
unfolding Signed
signed_refused (got t n) m r was now k p h e = absurd (let q = h.0 in let z : ◌≡◌ {A = ℕ} 0 1 = cc q in let y : ⊥ = omega arith in y)
signed_refused (refused j q) m r was now k p h e = let z = refused_parts j k q p (sym h ∙ e) in rw (z.0, z.1)

pub signs_refused : (m : ℕ) (r : Parsed) (was now : List ℕ) (k p : ℕ) (x : Read Table) → x ≡ refused k p → r ≡ Refused k p → Signed m r was now x
unfolding Signed
signs_refused m r was now k p x e h = rw e h

pub signs_done : (m : ℕ) (rows was now : List ℕ) (a v : ℕ) (x : Read Table) (y : As m rows a v x) → now ≡ sets was 0 (v ∷ map type_of y.table)
    → Signed m (Done a v) was now x
unfolding Signed
signs_done m rows was now a v x y e =
    let c = y.holds.count in
    rw y.is (ap (λ (j : ℕ). Done a j) c, rw c at y.holds.fits, e ∙ ap (λ (j : ℕ). sets was 0 (j ∷ map type_of y.table)) c)

-- ---- one declaration

module _ (s : List ℕ) (ts : Table) (max most : ℕ) (t : Table) (at : ℕ) where
  pub declaration_none : (k p : ℕ) → new_name s 13 at ≡ refused k p → declaration s ts max most t at ≡ refused k p
  unfolding declaration
  declaration_none k p e = simp e

  module _ (v a : ℕ) (q : Named s v a (new_name s 13 at)) where
    pub declaration_known : (k c : ℕ) → fresh max t v (part s v a) a ≡ refused k c → declaration s ts max most t at ≡ refused k c
    unfolding declaration
    declaration_known k c f = simp (q.is, f)

    module _ (u b : ℕ) (f : fresh max t v (part s v a) a ≡ got u b) where
      new : fresh max t v (part s v a) a ≡ got u a
      new = f ∙ ap (λ (j : ℕ). got u j) (fresh_stays max t v (part s v a) a u b f)

      pub declaration_refused : (k c : ℕ) → variables_to s ts most a ≡ refused k c → declaration s ts max most t at ≡ refused k c
      unfolding declaration
      declaration_refused k c e = simp (q.is, new, e)

      pub declaration_done : (vs : Table) (e : ℕ) → variables_to s ts most a ≡ got vs e
          → declaration s ts max most t at ≡ got (t ++ signature (part s v a) vs ∷ []) e
      unfolding declaration
      declaration_done vs e g = simp (q.is, new, g)

-- ---- the ways through the declarations

module _ (k : ℕ) (s : List ℕ) (ts : Table) (max most : ℕ) (t : Table) (at : ℕ) where
  pub declarations_close : (p n : ℕ) → token_at s at ≡ T.Close p n → declarations (suc k) s ts max most t at ≡ got t n
  unfolding declarations closing
  declarations_close p n e = simp e

  pub declarations_open : (c : Token) → c ≡ token_at s at → OneOf (0 ∷ 1 ∷ 2 ∷ 4 ∷ 5 ∷ 6 ∷ []) (tag_of token-type.the_type c)
      → declarations (suc k) s ts max most t at ≡ and_then (opening s 14 at)
      (λ _ a. and_then (declaration s ts max most t a) (λ u b. declarations k s ts max most u b))
  unfolding declarations
  declarations_open c e o = rw (← e, not_close c _ _ o)

-- ---- the loop: what the definition says of the rest, from the table as it is, it says of the whole

pub record Declaring (s : List ℕ) (ts : Table) (max most : ℕ) (t₀ : Table) (from : ℕ) (rows : List ℕ) (n at : ℕ) : Type 0 where
  pub table : Table
  pub holds : Holds max rows n table
  pub on : (k : ℕ) → length s - from < k → (j : ℕ) × (length s - at < j) × (declarations k s ts max most t₀ from ≡ declarations j s ts max most table at)

module _ (s : List ℕ) (ts : Table) (max most : ℕ) (t₀ : Table) (from : ℕ) (rows : List ℕ) (n at : ℕ) (o : Declaring s ts max most t₀ from rows n at) where
  whole : (x : Read Table) → ((j : ℕ) → declarations (suc j) s ts max most o.table at ≡ x)
      → (k : ℕ) → length s - from < k → declarations k s ts max most t₀ from ≡ x
  whole x f k h = go (o.on k h).0 (o.on k h).1 (o.on k h).2
    where
      go : (j : ℕ) → length s - at < j → declarations k s ts max most t₀ from ≡ declarations j s ts max most o.table at
          → declarations k s ts max most t₀ from ≡ x
      go zero q e = absurd (let z : ⊥ = omega arith in z)
      go (suc j) q e = e ∙ f j

  further : (u : Table) (rows' : List ℕ) (n' at' : ℕ) → Holds max rows' n' u → at < at' → at' ≤ length s
      → ((j : ℕ) → declarations (suc j) s ts max most o.table at ≡ declarations j s ts max most u at')
      → Declaring s ts max most t₀ from rows' n' at'
  further u rows' n' at' h lo hi f = record { table = u; holds = h; on = λ k q. go k (o.on k q).0 (o.on k q).1 (o.on k q).2 }
    where
      go : (k j : ℕ) → length s - at < j → declarations k s ts max most t₀ from ≡ declarations j s ts max most o.table at
          → (i : ℕ) × (length s - at' < i) × (declarations k s ts max most t₀ from ≡ declarations i s ts max most u at')
      go k zero q e = absurd (let z : ⊥ = omega arith in z)
      go k (suc j) q e = (j, omega arith, e ∙ f j)

  pub declaring_close : (p e : ℕ) → token_at s at ≡ T.Close p e → (k : ℕ) → length s - from < k
      → Outcome max (Done e n) rows (declarations k s ts max most t₀ from)
  declaring_close p e q k h = reads max rows n e o.table _
      (whole (got o.table e) (λ j. declarations_close j s ts max most o.table at p e q) k h) o.holds

  module _ (c : Token) (z : c ≡ token_at s at) (w : OneOf (0 ∷ 1 ∷ 2 ∷ 4 ∷ 5 ∷ 6 ∷ []) (tag_of token-type.the_type c)) (d : Parsed)
      (y : d ≡ answer_of (opening s 14 at)) where
    pub declaring_no_open : (r : List ℕ) (i p : ℕ) → d ≡ Refused i p → (k : ℕ) → length s - from < k → Outcome max (Refused i p) r (declarations k s ts max most t₀ from)
    declaring_no_open r i p e k h =
        refuses max (Refused i p) r i p _ (whole (refused i p) (λ j. declarations_open j s ts max most o.table at c z w
        ∙ simp (answer_refused (opening s 14 at) i p (sym y ∙ e))) k h) refl

    module _ (b p : ℕ) (q : d ≡ Done b p) (r : Parsed) (rows' : List ℕ) (out : Outcome max r rows' (declaration s ts max most o.table b)) where
      way : (j : ℕ) → declarations (suc j) s ts max most o.table at ≡ and_then (declaration s ts max most o.table b)
          (λ u a. declarations j s ts max most u a)
      way j = declarations_open j s ts max most o.table at c z w ∙ simp (answer_done (opening s 14 at) b p (sym y ∙ q))

      pub declaring_more : (a m : ℕ) → r ≡ Done a m → at < a → a ≤ length s → Declaring s ts max most t₀ from rows' m a
      declaring_more a m e lo hi =
          let x = outcome_done _ max r rows' a m out e in
          further x.table rows' m a x.holds lo hi (λ j. way j ∙ simp x.is)

      pub declaring_refused : (i l : ℕ) → r ≡ Refused i l → (k : ℕ) → length s - from < k → Outcome max (Refused i l) rows' (declarations k s ts max most t₀ from)
      declaring_refused i l e k h = refuses max (Refused i l) rows' i l _ (whole (refused i l) (λ j. way j ∙ simp (outcome_refused _ max r rows' i l out e)) k h) refl
