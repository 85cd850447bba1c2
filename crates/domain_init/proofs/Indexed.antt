-- The index of a ground fact or number, by the cells of its arguments. Assumes nothing.
use Rattle.std.specs.Prelude.{None, Option, Some}
use mathlib.Core.Path.{◌≡◌, refl, sym, ap, ◌∙◌}
use mathlib.Core.List.{List}
use mathlib.Core.Bool.{false}
use Prim.Native.Nat.{ℕ, ◌+◌, ◌≤◌, ◌<◌}
use native.Mathlib.Omega.{arith}
use lib.ListN.{length, take, length-map}
use lib.Seq.{length-sets}
use Rattle.base_laws.proofs.Sets.{sets_front}
use Rattle.text_tokens.specs.Runs.{part}
use Rattle.domain_meaning.specs.Read.{Read, got, refused, and_then, give, refuse}
use Rattle.domain_meaning.specs.Tables.{Table, entry_at, wanted_of, lookup, on_found, declared}
use Rattle.domain_meaning.specs.Terms.{Scope, Arg, arguments, reference}
use Rattle.domain_indexes.specs.Firsts.{first_of}
use Rattle.domain_indexes.proofs.Sums.{base_first}
use Rattle.domain_meaning.specs.Indexes.{sum_of, digits, index_in, index_of}
use Rattle.domain_due.specs.Answers.{answer_of}
use Rattle.domain_due.specs.Answers.{Parsed}
use Rattle.domain_due.specs.Answers.{Done, Refused}
use Rattle.domain_due.proofs.Dues.{done_parts, refused_parts}
use Rattle.domain_terms.specs.Scoped.{AllSigned}
use Rattle.domain_terms.specs.Cells.{cell_of, arg_cells, Wrote}
use Rattle.domain_terms.proofs.Kept.{found_below}
use Rattle.domain_terms.proofs.Wanted.{wanted_count}
use Rattle.domain_init.specs.Parts.{ground_behind, ground_of}
use Rattle.domain_init.proofs.Digits.{Objects, objects_cells, index_below}
use Rattle.domain_init.proofs.Objects.{Every, objects_only, Many, many}

-- ---- what was stored of arguments

-- the arguments that were read, and their cells at the front
pub record Stored (code m : List ℕ) (a v : ℕ) (x : Read (List Arg)) : Type 0 where
  pub args : List Arg
  pub is : x ≡ got args a
  pub count : v ≡ length args
  pub cells : v ≤ length code → take v m ≡ arg_cells args
  pub long : length m ≡ length code

module _ (code : List ℕ) (r : Parsed) (m : List ℕ) where
  stored_done : (x : Read (List Arg)) (a v : ℕ) → Wrote arg_cells code 0 r m x → r ≡ Done a v → Stored code m a v x
  unfolding Wrote
  stored_done (got as' n) a v h e =
      let q : Done n (0 + length (arg_cells as')) ≡ Done a v = sym h.0 ∙ e in
      let n≡ : n ≡ a = (done_parts n a _ v q).0 in
      let v≡ : 0 + length (arg_cells as') ≡ v = (done_parts n a _ v q).1 in
      let long : length (arg_cells as') ≡ v = omega arith in
      record {
        args = as';
        is = ap (λ (j : ℕ). got as' j) n≡;
        count = omega (arith, length-map as' cell_of);
        cells = λ b. ap (λ (y : List ℕ). take v y) h.1 ∙ sets_front code (arg_cells as') v long b;
        long = ap length h.1 ∙ length-sets code 0 (arg_cells as');
      }
  stored_done (refused k p) a v h e = absurd (let z : ◌≡◌ {A = ℕ} 0 1 = cc in let y : ⊥ = omega arith in y)

  pub stored_refused : (x : Read (List Arg)) (k p : ℕ) → Wrote arg_cells code 0 r m x → r ≡ Refused k p → x ≡ refused k p
  unfolding Wrote
  stored_refused (got as' n) k p h e = absurd (let q = h.0 in let z : ◌≡◌ {A = ℕ} 0 1 = cc q in let y : ⊥ = omega arith in y)
  stored_refused (refused j q) k p h e =
      let o : Refused j q ≡ Refused k p = sym h ∙ e in
      let i = refused_parts j k q p o in
      rw (i.0, i.1)

-- ---- after the name

every_at : {A : Type 0} (P : A → Type 0) (x : Read A) (a : A) (n : ℕ) → x ≡ got a n → Every P x → P a
unfolding Every
every_at P x a n e h = rw e at h

module _ (s : List ℕ) (d : ℕ) (c : Scope) (t : Table) (i at : ℕ) where
  abbrev wanted : List ℕ
  wanted = wanted_of (entry_at t i)

  pub behind_refused : (k p : ℕ) → arguments s d c wanted at ≡ refused k p → ground_behind s d c t i at ≡ refused k p
  unfolding ground_behind reference
  behind_refused k p e = simp e

  behind_got : (as' : List Arg) (a : ℕ) → arguments s d c wanted at ≡ got as' a
      → ground_behind s d c t i at ≡ got (index_of (length c.objects) t (record { head = i; args = as' })) a
  unfolding ground_behind reference
  behind_got as' a e = simp e

  read_many : (as' : List Arg) (a : ℕ) → arguments s d c wanted at ≡ got as' a → length as' ≡ length wanted
  read_many as' a e = every_at (Many (length wanted)) _ as' a e (many s d c wanted at)

  cells_many : (code : List ℕ) (r : Parsed) (m : List ℕ) (a v : ℕ) → Wrote arg_cells code 0 r m (arguments s d c wanted at) → r ≡ Done a v → v ≡ length wanted
  cells_many code r m a v w e = let g = stored_done code r m _ a v w e in g.count ∙ read_many g.args a g.is

  -- four cells are enough
  pub cells_room : (code : List ℕ) (r : Parsed) (m : List ℕ) (a v : ℕ) → length code ≡ 4 → length wanted ≤ 4
      → Wrote arg_cells code 0 r m (arguments s d c wanted at) → r ≡ Done a v
      → (v ≤ length m) × (v ≤ 4)
  cells_room code r m a v four few w e =
      let g = stored_done code r m _ a v w e in
      (omega (arith, g.long, cells_many code r m a v w e), omega (arith, cells_many code r m a v w e))

  module _ (out : c.in_action ≡ false) where
    read_objects : (as' : List Arg) (a : ℕ) → arguments s d c wanted at ≡ got as' a → Objects (length c.objects) as'
    read_objects as' a e = every_at (Objects (length c.objects)) _ as' a e (objects_only s d c out wanted at)

    pub behind_done : (code : List ℕ) (r : Parsed) (m : List ℕ) (a v n first low : ℕ) → length code ≡ 4 → length wanted ≤ 4 → i < length t
        → Wrote arg_cells code 0 r m (arguments s d c wanted at) → r ≡ Done a v → n ≡ length c.objects → first ≡ first_of n t i → low ≡ digits n 0 (take v m)
        → Done a (first + low) ≡ answer_of (ground_behind s d c t i at)
    unfolding index_of index_in
    behind_done code r m a v n first low four few h w e o f l =
        let g = stored_done code r m _ a v w e in
        let b : v ≤ length code = omega (arith, cells_many code r m a v w e) in
        rw (
          behind_got g.args a g.is,
          f,
          l,
          o,
          g.cells b,
          base_first (length c.objects) t i h,
          objects_cells (length c.objects) g.args (read_objects g.args a g.is),
        )

    -- the index is below the sum over the table
    behind_below : (v a : ℕ) → AllSigned t → i < length t → ground_behind s d c t i at ≡ got v a → v < sum_of (length c.objects) t
    behind_below v a g h e = go (arguments s d c wanted at) refl
      where
        go : (x : Read (List Arg)) → arguments s d c wanted at ≡ x → v < sum_of (length c.objects) t
        go (got as' n) q =
            let j : index_of (length c.objects) t (record { head = i; args = as' }) ≡ v = let z = sym (behind_got as' n q) ∙ e in cc z in
            rw (← j) (index_below (length c.objects) t (record { head = i; args = as' }) h (read_many as' n q ∙ sym (wanted_count t i g h))
            (read_objects as' n q))
        go (refused k p) q = absurd (let w = sym (behind_refused k p q) ∙ e in let z : ◌≡◌ {A = ℕ} 0 1 = cc w in let y : ⊥ = omega arith in y)

-- ---- with the name

module _ (s : List ℕ) (d : ℕ) (c : Scope) (t : Table) (p e : ℕ) where
  pub ground_missing : lookup t (part s p e) ≡ None → Refused 8 p ≡ answer_of (ground_of s d c t p e e)
  unfolding ground_of declared
  ground_missing q = rw q

  -- an index that was read is below the sum over the table
  pub ground_below : c.in_action ≡ false → AllSigned t → (v a : ℕ) → ground_of s d c t p e e ≡ got v a → v < sum_of (length c.objects) t
  unfolding ground_of declared
  ground_below out g v a h = go (lookup t (part s p e)) refl h
    where
      go : (f : Option ℕ) → lookup t (part s p e) ≡ f → and_then (on_found f (λ i. give i) (refuse 8 p) e) (λ i. ground_behind s d c t i) ≡ got v a
          → v < sum_of (length c.objects) t
      go (Some i) q k = behind_below s d c t i e out v a g (found_below t (part s p e) i q) k
      go None q k = absurd (let z : ◌≡◌ {A = ℕ} 0 1 = cc k in let y : ⊥ = omega arith in y)

  pub ground_found : (i : ℕ) → lookup t (part s p e) ≡ Some i → ground_of s d c t p e e ≡ ground_behind s d c t i e
  unfolding ground_of declared
  ground_found i q = rw q
