-- Names that were found, and the loop over a step's objects: its ways, and what the rest says of the whole. Assumes nothing.
use Rattle.std.specs.Prelude.{None, Option, Some}
use mathlib.Core.Path.{◌≡◌, refl, ap, ◌∙◌}
use mathlib.Core.List.{List, [], ◌∷◌, append-nil}
use mathlib.Core.Bool.{true, false}
use Prim.Native.Nat.{ℕ, suc, ◌+◌, ◌-◌, ◌≤◌, ◌<◌}
use native.Mathlib.Nat.{add-zero, zero-add}
use native.Mathlib.Numerals.{add-one}
use native.Mathlib.Omega.{arith}
use lib.ListN.{length, get_or, drop, set, length-drop}
use lib.Seq.{sets, drop-drop, get_or-drop}
use types.Run.{OneOf}
use denote.Enum.Declared.{tag_of}
use Rattle.text_tokens.specs.Runs.{part}
use Rattle.text_tokens.specs.Tokens.{plan_token_at}
use Rattle.text_tokens.specs.declared.tokens.Token.{Token}
use Rattle.text_tokens.specs.declared.tokens.Token.TheVariants as T
use Rattle.text_tokens.specs.contracts.tokens.Token as token-type
use Rattle.domain_meaning.specs.Read.{Read, Reader, got, refused, and_then, give, refuse}
use Rattle.domain_meaning.specs.Tables.{Table, entry_at, type_of, lookup, on_found, declared, is_below}
use Rattle.domain_meaning.specs.Due.{Name, after_of, place_of}
use Rattle.domain_due.specs.Answers.{answer_of, Parsed, Done, Refused}
use Rattle.domain_due.proofs.Dues.{not_close, done_parts, never_done, answer_refused}
use Rattle.domain_meaning.specs.Indexes.{padded}
use Rattle.domain_rows.proofs.Rows.{sets_padded}
use Rattle.domain_meaning.proofs.Given.{Gives, reads, refuses, behind, given_then, close_ahead}
use Rattle.domain_terms.specs.Cells.{Wrote}
use Rattle.domain_terms.proofs.Kept.{found_below}
use Rattle.domain_terms.proofs.Wanted.{wrote_refused}
use Rattle.domain_stored_meaning.specs.Entries.{signed_in}
use Rattle.plan_meaning.specs.Lines.{Known, declarations, Given, name, argument, fits, objects_to}
use Rattle.domain_terms.specs.declared.scope.Counts.{Counts}
use Rattle.plan_lines.specs.Knowing.{types_in, objects_in, known_in}
use Rattle.plan_lines.specs.Reading.{name_from, named_action, named_by, Listed}
use Rattle.plan_lines.proofs.Names.{typed_length, signed_length, declarations_read}
use Rattle.plan_lines.proofs.Marks.{named_at}
use Rattle.domain_rows.specs.Layout.{objects_at, predicates_at}

-- ---- a name that was found

record Named (x : Read Name) (t : Table) (place a v : ℕ) : Type 0 where
  pub read : Name
  pub is : x ≡ got read a
  pub at_place : read.place ≡ place
  pub found : lookup t read.word ≡ Some v

word_named : (s : List ℕ) (t : Table) (p e a v : ℕ) (f : Option ℕ) → lookup t (part s p e) ≡ f → answer_of (on_found f (λ i. give i) (refuse 8 p) e) ≡ Done a v
    → Named (got (record { place = p; word = part s p e }) e) t p a v
word_named s t p e a v (Some i) q h =
    let h = done_parts e a i v h in
    record { read = record { place = p; word = part s p e }; is = rw h.0; at_place = refl; found = rw h.1 at q }
word_named s t p e a v None q h = never_done 8 p a v h

token_named : (s : List ℕ) (names : Table) (t : Token) (a v : ℕ) → answer_of (named_by s names t (after_of t)) ≡ Done a v
    → Named (name_from s t (after_of t)) names (place_of t) a v
unfolding named_by declared
token_named s names (T.Word k p e) a v h = word_named s names p e a v (lookup names (part s p e)) refl h
token_named s names (T.Number z p e) a v h = never_done _ _ a v h
token_named s names (T.Open p n) a v h = never_done _ _ a v h
token_named s names (T.Close p n) a v h = never_done _ _ a v h
token_named s names (T.Mark m p n) a v h = never_done _ _ a v h
token_named s names (T.Refusal k p) a v h = never_done _ _ a v h
token_named s names (T.End p) a v h = never_done _ _ a v h

named_read : (s : List ℕ) (names : Table) (at a v : ℕ) → answer_of (named_action s names at) ≡ Done a v → Named (name s at) names (place_of (plan_token_at s at)) a v
unfolding name
named_read s names at a v h = token_named s names (plan_token_at s at) a v (rw (named_at s names (plan_token_at s at) at refl) h)

-- a name that was found is one of the table
pub named_below : (s : List ℕ) (names : Table) (t : Token) (a v : ℕ) → answer_of (named_by s names t (after_of t)) ≡ Done a v → v < length names
named_below s names t a v h = let w = token_named s names t a v h in found_below names w.read.word v w.found

-- a name is read, looked for, and what comes after it is read
pub named_then : {A : Type 0} (s : List ℕ) (names : Table) (f : ℕ → Reader A) (at : ℕ)
    → and_then (name s at) (λ w n. and_then (declared names w.place w.word n) f) ≡ and_then (named_action s names at) f
unfolding named_action
named_then s names f at = go (name s at)
  where
    go : (x : Read Name) → and_then x (λ w n. and_then (declared names w.place w.word n) f) ≡ and_then
        (and_then x (λ w. declared names w.place w.word)) f
    go (got w n) = refl
    go (refused k p) = refl

-- ---- an object that was read

module _ (s : List ℕ) (k : Known) (at : ℕ) where
  argument_read : (a v : ℕ) → answer_of (named_action s k.objects at) ≡ Done a v
      → argument s k at ≡ got (record { place = place_of (plan_token_at s at); object = v }) a
  unfolding argument declared
  argument_read a v h =
      let w = named_read s k.objects at a v h in
      rw (w.is, w.found, w.at_place)

  argument_refused : (c p : ℕ) → answer_of (named_action s k.objects at) ≡ Refused c p → argument s k at ≡ refused c p
  unfolding argument named_action
  argument_refused c p h = go (name s at) (answer_refused _ c p h)
    where
      go : (x : Read Name) → and_then x (λ w. declared k.objects w.place w.word) ≡ refused c p
          → and_then {B = Given} x (λ w n. and_then {B = Given} (declared k.objects w.place w.word n)
          (λ i. give (record { place = w.place; object = i }))) ≡ refused c p
      go (got w n) q = rw q
      go (refused j b) q = let y : j ≡ c = cc in let z : b ≡ p = cc in cc

-- ---- what was stored

abbrev object_cells : List ℕ → List ℕ
object_cells os = os

wrote_none : (out : List ℕ) (u n : ℕ) (x : Read (List ℕ)) → x ≡ got [] n → Wrote object_cells out u (Done n u) out x
unfolding Wrote
wrote_none out u n x e = rw (e, add-zero u) (refl, refl)

wrote_cons : (out : List ℕ) (u : ℕ) (r : Parsed) (m : List ℕ) (i : ℕ) (x : Read (List ℕ))
    → Wrote object_cells (set out u i) (u + 1) r m x → Wrote object_cells out u r m (and_then x (λ is n. got (i ∷ is) n))
unfolding Wrote
wrote_cons out u r m i (got is n) h =
    let e : u + 1 + length is ≡ u + suc (length is) = omega arith in
    (rw e at h.0, rw (add-one u) at h.1)
wrote_cons out u r m i (refused k p) h = h

wrote_listed : (r : Parsed) (out m : List ℕ) (x : Read (List ℕ)) → Wrote object_cells out 0 r m x → Listed r out m x
unfolding Wrote Listed
wrote_listed r out m (got os n) h = (rw (zero-add (length os)) at h.0, h.1)
wrote_listed r out m (refused k p) h = h

-- ---- the ways through a list of objects

module _ (s : List ℕ) (k : Known) (at : ℕ) where
  objects_done : (ws : List ℕ) (p n : ℕ) → plan_token_at s at ≡ T.Close p n → length ws ≡ 0 → objects_to s k ws at ≡ got [] n
  unfolding objects_to
  objects_done [] p n e h = simp e
  objects_done (w ∷ ws) p n e h = absurd (let z : ⊥ = omega arith in z)

  objects_early : (ws : List ℕ) (p n : ℕ) → plan_token_at s at ≡ T.Close p n → 0 < length ws → objects_to s k ws at ≡ refused 9 p
  unfolding objects_to
  objects_early [] p n e h = absurd (let z : ⊥ = omega arith in z)
  objects_early (w ∷ ws) p n e h = rw e

  module _ (o : OneOf (0 ∷ 1 ∷ 2 ∷ 4 ∷ 5 ∷ 6 ∷ []) (tag_of token-type.the_type (plan_token_at s at))) where
    objects_refused : (ws : List ℕ) (c p : ℕ) → argument s k at ≡ refused c p → objects_to s k ws at ≡ refused c p
    unfolding objects_to
    objects_refused [] c p e = rw (not_close (plan_token_at s at) _ _ o, e)
    objects_refused (w ∷ ws) c p e = rw (not_close (plan_token_at s at) _ _ o, e)

    objects_extra : (ws : List ℕ) (g : Given) (n : ℕ) → argument s k at ≡ got g n → length ws ≡ 0 → objects_to s k ws at ≡ refused 9 g.place
    unfolding objects_to
    objects_extra [] g n e h = rw (not_close (plan_token_at s at) _ _ o, e)
    objects_extra (w ∷ ws) g n e h = absurd (let z : ⊥ = omega arith in z)

    objects_unfit : (ws : List ℕ) (g : Given) (n : ℕ) → argument s k at ≡ got g n → 0 < length ws
        → is_below (length k.types) k.types (type_of (entry_at k.objects g.object)) (get_or ws 0 0) ≡ false → objects_to s k ws at ≡ refused 10 g.place
    unfolding objects_to fits
    objects_unfit [] g n e h b = absurd (let z : ⊥ = omega arith in z)
    objects_unfit (w ∷ ws) g n e h b = rw (not_close (plan_token_at s at) _ _ o, e, b)

    objects_more : (ws : List ℕ) (g : Given) (n : ℕ) → argument s k at ≡ got g n → 0 < length ws
        → is_below (length k.types) k.types (type_of (entry_at k.objects g.object)) (get_or ws 0 0) ≡ true
        → objects_to s k ws at ≡ and_then (objects_to s k (drop 1 ws) n) (λ is m. got (g.object ∷ is) m)
    unfolding objects_to fits
    objects_more [] g n e h b = absurd (let z : ⊥ = omega arith in z)
    objects_more (w ∷ ws) g n e h b = rw (not_close (plan_token_at s at) _ _ o, e, b)

-- as many objects as are wanted
pub objects_count : (s : List ℕ) (k : Known) (ws : List ℕ) (at : ℕ) → Gives (λ os. length os ≡ length ws) (objects_to s k ws at)
unfolding objects_to
objects_count s k [] at = close_ahead (plan_token_at s at) _ _ at (λ p. reads refl) (behind (argument s k at) _ (λ g n. refuses tt))
objects_count s k (w ∷ ws) at =
    close_ahead (plan_token_at s at) _ _ at (λ p. refuses tt)
    (behind (argument s k at) _ (λ g n. behind (fits k w g n) _ (λ i m. given_then _ (objects_count s k ws m) (λ is e h. reads (ap suc h)))))

-- ---- the loop: what the definition says of the rest, it says of the whole

pub record Onward (s : List ℕ) (k : Known) (ws : List ℕ) (from : ℕ) (out₀ out : List ℕ) (j at : ℕ) : Type 0 where
  pub on : (r : Parsed) (m : List ℕ) → Wrote object_cells out j r m (objects_to s k (drop j ws) at) → Listed r out₀ m (objects_to s k ws from)

pub onward_start : (s : List ℕ) (k : Known) (ws : List ℕ) (from : ℕ) (out : List ℕ) → Onward s k ws from out out 0 from
onward_start s k ws from out = record { on = λ r m h. wrote_listed r out m (objects_to s k ws from) h }

module _ (s : List ℕ) (k : Known) (ws : List ℕ) (from : ℕ) (out₀ out : List ℕ) (j at : ℕ) (o : Onward s k ws from out₀ out j at) where
  left : length (drop j ws) ≡ length ws - j
  left = length-drop j ws

  stops : (r : Parsed) (c p : ℕ) (m : List ℕ) → objects_to s k (drop j ws) at ≡ refused c p → r ≡ Refused c p → Listed r out₀ m (objects_to s k ws from)
  stops r c p m e q = o.on r m (wrote_refused object_cells out j r m _ c p e q)

  pub onward_done : (p n : ℕ) → plan_token_at s at ≡ T.Close p n → length ws ≤ j → Listed (Done n j) out₀ out (objects_to s k ws from)
  onward_done p n e h = o.on (Done n j) out (wrote_none out j n _ (objects_done s k at (drop j ws) p n e (omega (arith, left))))

  pub onward_early : (p n : ℕ) (m : List ℕ) → plan_token_at s at ≡ T.Close p n → j < length ws → Listed (Refused 9 p) out₀ m (objects_to s k ws from)
  onward_early p n m e h = stops (Refused 9 p) 9 p m (objects_early s k at (drop j ws) p n e (omega (arith, left))) refl

  module _ (no : OneOf (0 ∷ 1 ∷ 2 ∷ 4 ∷ 5 ∷ 6 ∷ []) (tag_of token-type.the_type (plan_token_at s at))) where
    pub onward_refused : (c p : ℕ) (m : List ℕ) → answer_of (named_action s k.objects at) ≡ Refused c p → Listed (Refused c p) out₀ m (objects_to s k ws from)
    onward_refused c p m q = stops (Refused c p) c p m (objects_refused s k at no (drop j ws) c p (argument_refused s k at c p q)) refl

    module _ (a v : ℕ) (q : answer_of (named_action s k.objects at) ≡ Done a v) where
      pub onward_extra : (p : ℕ) (m : List ℕ) → p ≡ place_of (plan_token_at s at) → length ws ≤ j → Listed (Refused 9 p) out₀ m (objects_to s k ws from)
      onward_extra p m e h = stops (Refused 9 p) 9 _ m (objects_extra s k at no (drop j ws) _ a (argument_read s k at a v q) (omega (arith, left)))
          (ap (Refused 9) e)

      module _ (want : ℕ) (h : j < length ws) (w : want ≡ get_or ws j 0) where
        test : is_below (length k.types) k.types (type_of (entry_at k.objects v)) (get_or (drop j ws) 0 0) ≡ is_below (length k.types)
            k.types (type_of (entry_at k.objects v)) want
        test = rw (get_or-drop j ws 0 0, add-zero j, w)

        pub onward_unfit : (p : ℕ) (m : List ℕ) → p ≡ place_of (plan_token_at s at)
            → is_below (length k.types) k.types (type_of (entry_at k.objects v)) want ≡ false
            → Listed (Refused 10 p) out₀ m (objects_to s k ws from)
        onward_unfit p m e b =
            stops (Refused 10 p) 10 _ m (objects_unfit s k at no (drop j ws) _ a (argument_read s k at a v q) (omega (arith, left)) (test ∙ b))
            (ap (Refused 10) e)

        pub onward_more : is_below (length k.types) k.types (type_of (entry_at k.objects v)) want ≡ true → Onward s k ws from out₀ (set out j v) (j + 1) a
        onward_more b = record {
          on = λ r m n.
              let e : drop 1 (drop j ws) ≡ drop (j + 1) ws = drop-drop 1 j ws in
              o.on r m (rw (objects_more s k at no (drop j ws) _ a (argument_read s k at a v q) (omega (arith, left)) (test ∙ b), e)
              (wrote_cons out j r m v (objects_to s k (drop (j + 1) ws) a) n));
        }

-- ---- of what the model's numbers say

module _ (tables : List ℕ) (c : Counts) where
  pub given_below : (s : List ℕ) (t : Token) (a v : ℕ) → answer_of (named_by s (objects_in tables c) t (after_of t)) ≡ Done a v → v < c.objects
  given_below s t a v h = let e = typed_length (part tables objects_at predicates_at) c.objects in rw e at (named_below s (objects_in tables c) t a v h)

  module _ (heads : List ℕ) (acting : ℕ) (rows : List ℕ) where
    -- the action's name is looked for among those of the heads
    pub known_named : declarations (known_in tables c heads acting rows).actions ≡ signed_in heads acting
    unfolding known_in
    known_named = declarations_read rows 0 (signed_in heads acting)

    pub known_given : (s : List ℕ) (t : Token) (at : ℕ) → t ≡ plan_token_at s at
        → named_by s (objects_in tables c) t (after_of t) ≡ named_action s (known_in tables c heads acting rows).objects at
    unfolding known_in
    known_given s t at e = named_at s (objects_in tables c) t at e

    pub known_fits : (k : Known) (i want : ℕ) → k ≡ known_in tables c heads acting rows
        → is_below (length (types_in tables c)) (types_in tables c) (type_of (entry_at (objects_in tables c) i)) want ≡ is_below (length k.types)
        k.types (type_of (entry_at k.objects i)) want
    unfolding known_in
    known_fits k i want e = rw e

pub action_below : (s heads : List ℕ) (acting at a v : ℕ) → answer_of (named_action s (signed_in heads acting) at) ≡ Done a v → v < acting
action_below s heads acting at a v h =
    let e = signed_length heads acting in
    rw e at (named_below s (signed_in heads acting) (plan_token_at s at) a v (rw (named_at s (signed_in heads acting) (plan_token_at s at) at refl) h))

-- at most four objects, stored over zeros
pub four_padded : (os : List ℕ) → length os ≤ 4 → sets (0 ∷ 0 ∷ 0 ∷ 0 ∷ []) 0 os ≡ padded 4 os
unfolding padded
four_padded os h = sets_padded 4 os [] h ∙ append-nil (padded 4 os)
