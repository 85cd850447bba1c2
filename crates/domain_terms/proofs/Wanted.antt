-- The loop over arguments: its ways, and what the rest says of the whole. Assumes nothing.
use Rattle.std.specs.Prelude.{None, Option, Some}
use mathlib.Core.Path.{◌≡◌, refl, sym, ◌∙◌}
use mathlib.Core.List.{List, [], ◌∷◌}
use mathlib.Core.Bool.{Bool, true, false, cond}
use Prim.Native.Nat.{ℕ, zero, suc, ◌+◌, ◌-◌, ◌≤◌, ◌<◌}
use native.Mathlib.Nat.{add-zero}
use native.Mathlib.Numerals.{add-one}
use native.Mathlib.Omega.{arith}
use lib.ListN.{length, get_or, drop, set, length-drop}
use lib.Seq.{drop-drop, get_or-drop}
use types.Run.{OneOf}
use denote.Enum.Declared.{tag_of}
use borrow.Author.Tests.{lt-ltb, le-ltb}
use Rattle.text_tokens.specs.Runs.{part}
use Rattle.text_tokens.specs.Tokens.{token_at}
use Rattle.text_tokens.specs.declared.tokens.Token.{Token}
use Rattle.text_tokens.specs.declared.tokens.Token.TheVariants as T
use Rattle.text_tokens.specs.declared.tokens.Word.{Word}
use Rattle.text_tokens.specs.declared.tokens.Word.TheVariants as W
use Rattle.text_tokens.specs.contracts.tokens.Token as token-type
use Rattle.domain_meaning.specs.Read.{Read, got, refused, and_then, give, refuse}
use Rattle.domain_meaning.specs.Tables.{info_of, Table, entry_at, wanted_of, lookup, on_found, declared, is_below}
use Rattle.domain_meaning.specs.Due.{after_of, place_of, wrong, on_word, closing}
use Rattle.domain_meaning.specs.Terms.{Scope, Arg, Given, object_at, variable_at, given_by, argument, fits, arguments}
use Rattle.domain_due.specs.Answers.{Parsed, Done, Refused}
use Rattle.domain_due.proofs.Dues.{not_close, done_parts, refused_parts, never_done}
use Rattle.domain_terms.specs.Scoped.{Signed, AllSigned}
use Rattle.domain_terms.specs.Cells.{cell_of, cell_answer, type_of_cell, arg_cells, Wrote, Room}
use Rattle.domain_terms.proofs.Kept.{found_below}

-- ---- what is wanted

pub signed_at : (t : Table) (i : ℕ) → AllSigned t → i < length t → Signed (entry_at t i)
signed_at [] i h k = absurd (let z : ⊥ = omega arith in z)
signed_at (e ∷ t) zero h k = h.0
signed_at (e ∷ t) (suc i) h k = signed_at t i h.1 (omega arith)

module _ (t : Table) (i : ℕ) (h : AllSigned t) (k : i < length t) where
  pub wanted_count : get_or (info_of (entry_at t i)) 0 0 ≡ length (wanted_of (entry_at t i))
  wanted_count = let g = signed_at t i h k in rw g.is

  pub wanted_few : length (wanted_of (entry_at t i)) ≤ 4
  wanted_few = let g = signed_at t i h k in rw g.is g.few

  pub wanted_at : (j : ℕ) → get_or (info_of (entry_at t i)) (j + 1) 0 ≡ get_or (wanted_of (entry_at t i)) j 0
  wanted_at j = let g = signed_at t i h k in rw (g.is, add-one j)

-- ---- an argument that was read

pub record Arrived (s : List ℕ) (d at : ℕ) (c : Scope) (a v : ℕ) : Type 0 where
  pub given : Given
  pub is : argument s d c at ≡ got given a
  pub cell : cell_of given.arg ≡ v
  pub place : given.place ≡ place_of (token_at s at)
  pub type : given.type ≡ type_of_cell c v

-- the same, of a token
record FoundBy (c : Scope) (t : Token) (x : Read Given) (a v : ℕ) : Type 0 where
  given : Given
  is : x ≡ got given a
  cell : cell_of given.arg ≡ v
  place : given.place ≡ place_of t
  type : given.type ≡ type_of_cell c v

module _ (s : List ℕ) (c : Scope) (few : length c.objects ≤ 64) where
  by_name_lem : (p e a v : ℕ) (f : Option ℕ) → lookup c.objects (part s p e) ≡ f
      → cell_answer (and_then (on_found f (λ i. give i) (refuse 8 p) e) (λ i. give (object_at c p i))) ≡ Done a v
      → FoundBy c (T.Word W.Name p e) (and_then (on_found f (λ i. give i) (refuse 8 p) e) (λ i. give (object_at c p i))) a v
  unfolding type_of_cell
  by_name_lem p e a v (Some i) q h =
      let r = done_parts e a i v h in
      let b : i < 64 = omega (arith, found_below c.objects (part s p e) i q) in
      record { given = object_at c p i; is = rw r.0; cell = r.1; place = refl; type = rw (← r.1, lt-ltb i 64 b) }
  by_name_lem p e a v None q h = never_done 8 p a v h

  by_variable_lem : (p e a v : ℕ) (f : Option ℕ)
      → cell_answer (and_then (on_found f (λ i. give i) (refuse 8 p) e) (λ i. give (variable_at c p i))) ≡ Done a v
      → FoundBy c (T.Word W.Variable p e) (and_then (on_found f (λ i. give i) (refuse 8 p) e) (λ i. give (variable_at c p i))) a v
  unfolding type_of_cell
  by_variable_lem p e a v (Some i) h =
      let r = done_parts e a (64 + i) v h in
      let b : 64 + i - 64 ≡ i = omega arith in
      record { given = variable_at c p i; is = rw r.0; cell = r.1; place = refl; type = rw (← r.1, le-ltb (64 + i) 64 (omega arith), b) }
  by_variable_lem p e a v None h = never_done 8 p a v h

  by_action : (t : Bool) (p e a v : ℕ)
      → cell_answer (cond t (λ b. and_then (declared c.variables p (part s (p + 1) e) b) (λ i. give (variable_at c p i))) (refuse 3 p) e) ≡ Done a v
      → FoundBy c (T.Word W.Variable p e) (cond t (λ b. and_then (declared c.variables p (part s (p + 1) e) b) (λ i. give (variable_at c p i)))
      (refuse 3 p) e) a v
  unfolding declared
  by_action true p e a v h = by_variable_lem p e a v (lookup c.variables (part s (p + 1) e)) h
  by_action false p e a v h = never_done 3 p a v h

  by_word : (k : Word) (p e a v : ℕ) → cell_answer (given_by s c k p e e) ≡ Done a v → FoundBy c (T.Word k p e) (given_by s c k p e e) a v
  unfolding declared
  by_word W.Name p e a v h = by_name_lem p e a v (lookup c.objects (part s p e)) refl h
  by_word W.Variable p e a v h = by_action c.in_action p e a v h
  by_word W.Keyword p e a v h = never_done 3 p a v h
  by_word W.Operator p e a v h = never_done 3 p a v h

  by_token : (d : ℕ) (t : Token) (a v : ℕ) → cell_answer (on_word t (given_by s c) (wrong d t) (after_of t)) ≡ Done a v
      → FoundBy c t (on_word t (given_by s c) (wrong d t) (after_of t)) a v
  by_token d (T.Word k p e) a v h = by_word k p e a v h
  by_token d (T.Number z p e) a v h = never_done _ _ a v h
  by_token d (T.Open p n) a v h = never_done _ _ a v h
  by_token d (T.Close p n) a v h = never_done _ _ a v h
  by_token d (T.Mark m p n) a v h = never_done _ _ a v h
  by_token d (T.Refusal k p) a v h = never_done _ _ a v h
  by_token d (T.End p) a v h = never_done _ _ a v h

  pub arrived : (d at a v : ℕ) → cell_answer (argument s d c at) ≡ Done a v → Arrived s d at c a v
  unfolding argument
  arrived d at a v h =
      let f = by_token d (token_at s at) a v h in
      record { given = f.given; is = f.is; cell = f.cell; place = f.place; type = f.type }

pub given_refused : (x : Read Given) (k p : ℕ) → cell_answer x ≡ Refused k p → x ≡ refused k p
given_refused (got g n) k p e = absurd (let z : ◌≡◌ {A = ℕ} 0 1 = cc in let y : ⊥ = omega arith in y)
given_refused (refused j q) k p e = let h = refused_parts j k q p e in rw (h.0, h.1)

-- ---- what was written

pub wrote_refused : {A : Type 0} (cells : A → List ℕ) (code : List ℕ) (u : ℕ) (r : Parsed) (m : List ℕ) (x : Read A) (k p : ℕ) → x ≡ refused k p
    → r ≡ Refused k p → Wrote cells code u r m x
unfolding Wrote
wrote_refused cells code u r m x k p e q = rw e q

pub wrote_none : (code : List ℕ) (u n : ℕ) (x : Read (List Arg)) → x ≡ got [] n → Wrote arg_cells code u (Done n u) code x
unfolding Wrote
wrote_none code u n x e = rw (e, add-zero u) (refl, refl)

wrote_cons : (code : List ℕ) (u : ℕ) (r : Parsed) (m : List ℕ) (a : Arg) (x : Read (List Arg))
    → Wrote arg_cells (set code u (cell_of a)) (u + 1) r m x → Wrote arg_cells code u r m (and_then x (λ as' n. got (a ∷ as') n))
unfolding Wrote
wrote_cons code u r m a (got as' n) h =
    let e : u + 1 + length (arg_cells as') ≡ u + suc (length (arg_cells as')) = omega arith in
    (rw e at h.0, rw (add-one u) at h.1)
wrote_cons code u r m a (refused k p) h = h

-- ---- the ways through a list of arguments

module _ (s : List ℕ) (d at : ℕ) (c : Scope) where
  pub wanted_done : (ws : List ℕ) (p n : ℕ) → token_at s at ≡ T.Close p n → length ws ≡ 0 → arguments s d c ws at ≡ got [] n
  unfolding arguments closing
  wanted_done [] p n e h = simp e
  wanted_done (w ∷ ws) p n e h = absurd (let z : ⊥ = omega arith in z)

  pub wanted_early : (ws : List ℕ) (p n : ℕ) → token_at s at ≡ T.Close p n → 0 < length ws → arguments s d c ws at ≡ refused 9 p
  unfolding arguments
  wanted_early [] p n e h = absurd (let z : ⊥ = omega arith in z)
  wanted_early (w ∷ ws) p n e h = rw e

  module _ (o : OneOf (0 ∷ 1 ∷ 2 ∷ 4 ∷ 5 ∷ 6 ∷ []) (tag_of token-type.the_type (token_at s at))) where
    pub wanted_refused : (ws : List ℕ) (k p : ℕ) → argument s d c at ≡ refused k p → arguments s d c ws at ≡ refused k p
    unfolding arguments
    wanted_refused [] k p e = rw (not_close (token_at s at) _ _ o, e)
    wanted_refused (w ∷ ws) k p e = rw (not_close (token_at s at) _ _ o, e)

    pub wanted_extra : (ws : List ℕ) (g : Given) (n : ℕ) → argument s d c at ≡ got g n → length ws ≡ 0 → arguments s d c ws at ≡ refused 9 g.place
    unfolding arguments
    wanted_extra [] g n e h = rw (not_close (token_at s at) _ _ o, e)
    wanted_extra (w ∷ ws) g n e h = absurd (let z : ⊥ = omega arith in z)

    pub wanted_unfit : (ws : List ℕ) (g : Given) (n : ℕ) → argument s d c at ≡ got g n → 0 < length ws
        → is_below (length c.types) c.types g.type (get_or ws 0 0) ≡ false → arguments s d c ws at ≡ refused 10 g.place
    unfolding arguments fits
    wanted_unfit [] g n e h b = absurd (let z : ⊥ = omega arith in z)
    wanted_unfit (w ∷ ws) g n e h b = rw (not_close (token_at s at) _ _ o, e, b)

    pub wanted_more : (ws : List ℕ) (g : Given) (n : ℕ) → argument s d c at ≡ got g n → 0 < length ws
        → is_below (length c.types) c.types g.type (get_or ws 0 0) ≡ true
        → arguments s d c ws at ≡ and_then (arguments s d c (drop 1 ws) n) (λ as' m. got (g.arg ∷ as') m)
    unfolding arguments fits
    wanted_more [] g n e h b = absurd (let z : ⊥ = omega arith in z)
    wanted_more (w ∷ ws) g n e h b = rw (not_close (token_at s at) _ _ o, e, b)

-- ---- the loop: what the definition says of the rest, it says of the whole

pub record Onward (s : List ℕ) (d from : ℕ) (c : Scope) (ws code₀ : List ℕ) (used : ℕ) (code : List ℕ) (j at u : ℕ) : Type 0 where
  pub on : (r : Parsed) (m : List ℕ) → Wrote arg_cells code u r m (arguments s d c (drop j ws) at) → Wrote arg_cells code₀ used r m (arguments s d c ws from)

pub onward_start : (s : List ℕ) (d from : ℕ) (c : Scope) (ws code : List ℕ) (used : ℕ) → Onward s d from c ws code used code 0 from used
onward_start s d from c ws code used = record { on = λ r m h. h }

module _ (s : List ℕ) (d from : ℕ) (c : Scope) (ws code₀ : List ℕ) (used : ℕ) (code : List ℕ) (j at u : ℕ)
    (o : Onward s d from c ws code₀ used code j at u) where
  left : length (drop j ws) ≡ length ws - j
  left = length-drop j ws

  pub onward_done : (p n : ℕ) → token_at s at ≡ T.Close p n → length ws ≤ j → Wrote arg_cells code₀ used (Done n u) code (arguments s d c ws from)
  onward_done p n e h = o.on (Done n u) code (wrote_none code u n _ (wanted_done s d at c (drop j ws) p n e (omega (arith, left))))

  pub onward_early : (p n : ℕ) (m : List ℕ) → token_at s at ≡ T.Close p n → j < length ws → Wrote arg_cells code₀ used (Refused 9 p) m (arguments s d c ws from)
  onward_early p n m e h = o.on (Refused 9 p) m (wrote_refused arg_cells code u _ m _ 9 p (wanted_early s d at c (drop j ws) p n e (omega (arith, left))) refl)

  module _ (no : OneOf (0 ∷ 1 ∷ 2 ∷ 4 ∷ 5 ∷ 6 ∷ []) (tag_of token-type.the_type (token_at s at))) where
    pub onward_refused : (r : Parsed) (k p : ℕ) (m : List ℕ) → r ≡ cell_answer (argument s d c at) → r ≡ Refused k p
        → Wrote arg_cells code₀ used (Refused k p) m (arguments s d c ws from)
    onward_refused r k p m q e = o.on (Refused k p) m (wrote_refused arg_cells code u _ m _ k p
        (wanted_refused s d at c no (drop j ws) k p (given_refused _ k p (sym q ∙ e))) refl)

    module _ (few : length c.objects ≤ 64) (a v : ℕ) (q : cell_answer (argument s d c at) ≡ Done a v) where
      got_here : Arrived s d at c a v
      got_here = arrived s c few d at a v q

      pub onward_extra : (p : ℕ) (m : List ℕ) → p ≡ place_of (token_at s at) → length ws ≤ j → Wrote arg_cells code₀ used (Refused 9 p) m (arguments s d c ws from)
      onward_extra p m e h =
          let g = got_here in
          o.on (Refused 9 p) m (wrote_refused arg_cells code u _ m _ 9 g.given.place
          (wanted_extra s d at c no (drop j ws) g.given a g.is (omega (arith, left))) (rw (e, g.place)))

      module _ (want : ℕ) (h : j < length ws) (w : want ≡ get_or ws j 0) where
        test : is_below (length c.types) c.types got_here.given.type (get_or (drop j ws) 0 0) ≡ is_below (length c.types) c.types
            (type_of_cell c v) want
        test = rw (got_here.type, get_or-drop j ws 0 0, add-zero j, w)

        pub onward_unfit : (p : ℕ) (m : List ℕ) → p ≡ place_of (token_at s at) → is_below (length c.types) c.types (type_of_cell c v) want ≡ false
            → Wrote arg_cells code₀ used (Refused 10 p) m (arguments s d c ws from)
        onward_unfit p m e b =
            let g = got_here in
            o.on (Refused 10 p) m (wrote_refused arg_cells code u _ m _ 10 g.given.place
            (wanted_unfit s d at c no (drop j ws) g.given a g.is (omega (arith, left)) (test ∙ b)) (rw (e, g.place)))

        pub onward_more : is_below (length c.types) c.types (type_of_cell c v) want ≡ true → Onward s d from c ws code₀ used (set code u v) (j + 1) a (u + 1)
        onward_more b = record {
          on = λ r m k.
              let g = got_here in
              let e : drop 1 (drop j ws) ≡ drop (j + 1) ws = drop-drop 1 j ws in
              o.on r m (rw (wanted_more s d at c no (drop j ws) g.given a g.is (omega (arith, left)) (test ∙ b), e)
              (wrote_cons code u r m g.given.arg (arguments s d c (drop (j + 1) ws) a) (rw g.cell k)));
        }

pub room_done : (used from a v : ℕ) → used ≤ v → v + from ≤ used + a → Room used from (Done a v)
unfolding Room
room_done used from a v h k = (h, k)

pub room_refused : (used from k p : ℕ) (r : Parsed) → r ≡ Refused k p → Room used from r
unfolding Room
room_refused used from k p r e = rw e tt
