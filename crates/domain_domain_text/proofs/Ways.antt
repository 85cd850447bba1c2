-- The ways through a domain's text. Assumes nothing.
use mathlib.Core.Path.{◌≡◌, refl, sym, ap, ◌∙◌}
use mathlib.Core.List.{List, []}
use Prim.Native.Nat.{ℕ, ◌+◌, ◌≤◌}
use native.Mathlib.Omega.{arith}
use lib.ListN.{length}
use Rattle.domain_meaning.specs.Read.{Read, got, refused}
use Rattle.domain_meaning.specs.Actions.{Action}
use Rattle.domain_meaning.specs.Domain.{Vocabulary, vocabulary, scope_in, actions_to, ending, domain_text, read_domain}
use Rattle.domain_sections.proofs.Short.{ending_short}
use Rattle.domain_due.specs.Answers.{answer_of, Parsed}
use Rattle.domain_due.specs.Answers as A
use Rattle.domain_due.proofs.Dues.{never_done, done_parts, refused_parts, answer_done, answer_refused}
use Rattle.domain_terms.specs.declared.scope.Counts.{Counts}
use Rattle.domain_preamble.specs.Beginning.{Preamble, counts_of, Declares}
use Rattle.domain_preamble.specs.Beginning as B
use Rattle.domain_actions.specs.Acted.{Stored, Stores}
use Rattle.domain_domain_text.specs.Knowing.{Done, Refused, Preceded, Knows}

-- ---- what stands before the actions, by its answer

pub preceded : (x : Read Vocabulary) (s tables : List ℕ) (r : Preamble) (n p e : ℕ) (c : Counts) → x ≡ vocabulary s 0 → Declares s r tables x
    → r ≡ B.Done n p e c
    → (v : Vocabulary) × Preceded s n p e c tables v × (6 ≤ n) × (n ≤ length s)
unfolding Declares
preceded (got v m) s tables r n p e c i h q =
    let g = sym h.is ∙ q in
    let z : ◌≡◌ {A = ℕ × ℕ × ℕ × Counts} (m, h.from, h.to, counts_of v) (n, p, e, c) = cc in
    let en = ap (λ (x : ℕ × ℕ × ℕ × Counts). x.0) z in
    let ep = ap (λ (x : ℕ × ℕ × ℕ × Counts). x.1) z in
    let ee = ap (λ (x : ℕ × ℕ × ℕ × Counts). x.2) z in
    let ec = ap (λ (x : ℕ × ℕ × ℕ × Counts). x.3) z in (
      v,
      record {
        is = sym i ∙ ap (λ (k : ℕ). got v k) en;
        counted = sym ec;
        name = rw (← ep, ← ee) h.name;
        named = rw (← ee) h.named;
        scope = rw (← ec) h.scope;
        long = h.long;
      },
      omega (arith, h.past, en),
      omega (arith, h.within, en),
    )
preceded (refused k j) s tables r n p e c i h q = absurd (let z : ◌≡◌ {A = ℕ} 0 1 = cc in let y : ⊥ = omega arith in y)

undeclared : (x : Read Vocabulary) (s tables : List ℕ) (r : Preamble) (k p : ℕ) → Declares s r tables x → r ≡ B.Refused k p → x ≡ refused k p
unfolding Declares
undeclared (got v m) s tables r k p h q = absurd (let g = h.is in let z : ◌≡◌ {A = ℕ} 0 1 = cc in let y : ⊥ = omega arith in y)
undeclared (refused j i) s tables r k p h q =
    let z = refused_parts j k i p (sym h ∙ q) in
    rw (z.0, z.1)

knows_refused : (s code starts : List ℕ) (tables rows code' starts' : List ℕ) (k p : ℕ) → read_domain s ≡ refused k p
    → Knows s code starts (Refused k p) tables rows code' starts' (read_domain s)
unfolding Knows
knows_refused s code starts tables rows code' starts' k p e = rw e refl

pub no_preamble : (s code starts tables rows code' starts' : List ℕ) (r : Preamble) (k p : ℕ) → Declares s r tables (vocabulary s 0) → r ≡ B.Refused k p
    → Knows s code starts (Refused k p) tables rows code' starts' (read_domain s)
unfolding read_domain domain_text
no_preamble s code starts tables rows code' starts' r k p h e =
    knows_refused s code starts tables rows code' starts' k p (rw (undeclared (vocabulary s 0) s tables r k p h e) refl)

-- ---- the actions and the end

stores_got : (n : ℕ) (code starts : List ℕ) (r : Parsed) (rows code' starts' : List ℕ) (x : Read (List Action)) (a v : ℕ)
    → Stores n code starts r rows code' starts' x → r ≡ A.Done a v
    → (bs : List Action) × (x ≡ got bs a) × Stored n code starts r rows code' starts' bs a × (v ≡ length bs)
unfolding Stores
stores_got n code starts r rows code' starts' (got bs m) a v w e =
    let q = done_parts m a (length bs) v (sym w.answer ∙ e) in
    (bs, rw q.0 refl, rw q.0 at w, sym q.1)
stores_got n code starts r rows code' starts' (refused k p) a v w e = never_done k p a v (sym w ∙ e)

stores_not : (n : ℕ) (code starts : List ℕ) (r : Parsed) (rows code' starts' : List ℕ) (x : Read (List Action)) (k p : ℕ)
    → Stores n code starts r rows code' starts' x → r ≡ A.Refused k p → x ≡ refused k p
unfolding Stores
stores_not n code starts r rows code' starts' (got bs m) k p w e = never_done k p m (length bs) (sym e ∙ w.answer)
stores_not n code starts r rows code' starts' (refused j q) k p w e =
    let o = refused_parts j k q p (sym w ∙ e) in
    rw (o.0, o.1)

module _ (s code starts : List ℕ) (at p e : ℕ) (counts : Counts) (tables : List ℕ) (v : Vocabulary) (b : Preceded s at p e counts tables v)
    (r : Parsed) (rows code' starts' : List ℕ)
    (w : Stores (length s) code starts r rows code' starts' (actions_to (length s + 1) s (scope_in v) [] at)) where
  pub no_actions : (k q : ℕ) → r ≡ A.Refused k q → Knows s code starts (Refused k q) tables rows code' starts' (read_domain s)
  unfolding read_domain domain_text
  no_actions k q i =
      knows_refused s code starts tables rows code' starts' k q (rw (b.is, stores_not (length s) code starts r rows code' starts' _ k q w i) refl)

  module _ (a n : ℕ) (i : r ≡ A.Done a n) (z : Parsed) (o : z ≡ answer_of (ending s a)) where
    pub no_end : (k q : ℕ) → z ≡ A.Refused k q → Knows s code starts (Refused k q) tables rows code' starts' (read_domain s)
    unfolding read_domain domain_text
    no_end k q j =
        let g = stores_got (length s) code starts r rows code' starts' (actions_to (length s + 1) s (scope_in v) [] at) a n w i in
        knows_refused s code starts tables rows code' starts' k q (rw (b.is, g.1, answer_refused (ending s a) k q (sym o ∙ j)) refl)

    pub known : (x y : ℕ) → z ≡ A.Done x y → Knows s code starts (Done p e counts n) tables rows code' starts' (read_domain s)
    unfolding read_domain domain_text Knows
    known x y j =
        let g = stores_got (length s) code starts r rows code' starts' (actions_to (length s + 1) s (scope_in v) [] at) a n w i in
        let t = answer_done (ending s a) x y (sym o ∙ j) in
        rw (b.is, g.1, t)
        (record {
          from = p;
          to = e;
          is = ap (λ (c : Counts). Done p e c n) b.counted ∙ ap (λ (k : ℕ). Done p e (counts_of v) k) g.3;
          name = b.name;
          named = b.named;
          scope = rw b.counted at b.scope;
          long = b.long;
          rows = g.2.rows;
          cells = g.2.cells;
          places = g.2.places;
          few = g.2.few;
          short = ending_short s a y x t;
        })
