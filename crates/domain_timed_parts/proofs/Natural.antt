-- Parts whose bodies are read as cells are the parts read as trees, each then as its cells: what was written of a field is what its trees are.
-- Assumes nothing.
use mathlib.Core.Path.{◌≡◌, refl, sym, ap, ◌∙◌}
use mathlib.Core.List.{List, [], ◌∷◌, ◌++◌, map, map-append, append_assoc}
use mathlib.Core.Bool.{Bool, true, false, cond}
use Prim.Native.Nat.{ℕ, zero, suc, ◌+◌, ◌-◌}
use lib.ListN.{length}
use Rattle.text_words.specs.Bytes.{bytes}
use Rattle.text_words.specs.Spelling.{same_word}
use Rattle.text_tokens.specs.Runs.{part}
use Rattle.text_tokens.specs.Tokens.{token_at}
use Rattle.text_tokens.specs.declared.tokens.Word.{Word}
use Rattle.text_tokens.specs.declared.tokens.Token.{Token}
use Rattle.text_tokens.specs.declared.tokens.Token.TheVariants as T
use Rattle.domain_meaning.specs.Read.{Read, Reader, got, refused, and_then, give}
use Rattle.domain_meaning.specs.Due.{wrong, after_of, on_word, on_close, opening, closing}
use Rattle.domain_meaning.specs.Terms.{Scope, Counted, counts}
use Rattle.domain_meaning.specs.Conditions.{condition}
use Rattle.domain_meaning.specs.Effects.{effect}
use Rattle.domain_meaning.specs.Actions.{Timed, time_of, part_behind, part_at, parts_to, parts, field_of, when_field, tree_of, at_start, one_condition, one_instant}
use Rattle.domain_due.specs.Answers.{Parsed}
use Rattle.domain_terms.specs.Cells.{Wrote}
use Rattle.domain_stored_meaning.specs.Cells.{cond_cells, list_cells, when_cell, parts_cells}
use Rattle.domain_timed_parts.specs.Bodies.{mapped, body_of, timed_cells}
use Rattle.domain_timed_parts.specs.Fields.{parts_of, field_parts, ended_cells}

-- ---- readings of which one is the other, g being taken of what was read

abbrev pub image : {A B : Type 0} → (A → B) → Read A → Read B
image g x = and_then x (λ a n. got (g a) n)

module _ {B C : Type 0} (k : B → C) where
  then_image : {A D : Type 0} (h : A → D) (x : Read A) (y : Read D) (f : A → Reader B) (g : D → Reader C) → y ≡ image h x
      → ((a : A) (n : ℕ) → g (h a) n ≡ image k (f a n)) → and_then y g ≡ image k (and_then x f)
  then_image h (got a n) y f g q e = rw q (e a n)
  then_image h (refused j p) y f g q e = rw q refl

  same_image : {A : Type 0} (x : Read A) (f : A → Reader B) (g : A → Reader C) → ((a : A) (n : ℕ) → g a n ≡ image k (f a n))
      → and_then x g ≡ image k (and_then x f)
  same_image (got a n) f g e = e a n
  same_image (refused j p) f g e = refl

  cond_image : (b : Bool) (x z : Reader B) (y w : Reader C) (at : ℕ) → y at ≡ image k (x at) → w at ≡ image k (z at) → cond b y w at ≡ image k (cond b x z at)
  cond_image true x z y w at e i = e
  cond_image false x z y w at e i = i

  word_image : (t : Token) (d : ℕ) (f : Word → ℕ → ℕ → Reader B) (g : Word → ℕ → ℕ → Reader C) (at : ℕ)
      → ((j : Word) (p e : ℕ) → g j p e at ≡ image k (f j p e at))
      → on_word t g (wrong d t) at ≡ image k (on_word t f (wrong d t) at)
  word_image (T.Word j p e) d f g at h = h j p e
  word_image (T.Number z p e) d f g at h = refl
  word_image (T.Open p n) d f g at h = refl
  word_image (T.Close p n) d f g at h = refl
  word_image (T.Mark b p n) d f g at h = refl
  word_image (T.Refusal j p) d f g at h = refl
  word_image (T.End p) d f g at h = refl

  close_image : (t : Token) (f : ℕ → Reader B) (g : ℕ → Reader C) (x : Reader B) (y : Reader C) (at : ℕ) → ((p : ℕ) → g p at ≡ image k (f p at))
      → y at ≡ image k (x at)
      → on_close t g y at ≡ image k (on_close t f x at)
  close_image (T.Word j p e) f g x y at h i = i
  close_image (T.Number z p e) f g x y at h i = i
  close_image (T.Open p n) f g x y at h i = i
  close_image (T.Close p n) f g x y at h i = h p
  close_image (T.Mark b p n) f g x y at h i = i
  close_image (T.Refusal j p) f g x y at h i = i
  close_image (T.End p) f g x y at h i = i

-- ---- parts

-- g of what stands in each part
abbrev pub each : {A B : Type 0} → (A → B) → List (Timed A) → List (Timed B)
each g xs = map (λ x. record { when = x.when; what = g x.what }) xs

abbrev on_tree : {A B : Type 0} → (A → B) → Counted A → Counted B
on_tree g x = counts (g x.tree) x.left

module _ {A B : Type 0} (g : A → B) (s : List ℕ) (over : Bool) (f : ℕ → ℕ → Reader (Counted A)) (h : ℕ → ℕ → Reader (Counted B))
    (e : (d n at : ℕ) → h d n at ≡ mapped g (f d n) at) where
  behind_each : (d n p q at : ℕ) → part_behind s over h d n p q at ≡ mapped (each g) (part_behind s over f d n p q) at
  unfolding part_behind
  behind_each d n p q at =
      same_image (on_tree (each g)) (time_of s d over p q at) _ _
      (λ w a. then_image (on_tree (each g)) (on_tree g) (f d n a) (h d n a) _ _ (e d n a) (λ x b. same_image (on_tree (each g)) (closing s d b) _ _ (λ o c. refl)))

  part_each : (d n at : ℕ) → part_at s over h d n at ≡ mapped (each g) (part_at s over f d n) at
  unfolding part_at
  part_each d n at =
      same_image (on_tree (each g)) (opening s d at) _ _
      (λ o a. word_image (on_tree (each g)) (token_at s a) (d - 1) _ _ (after_of (token_at s a)) (λ j p q. behind_each (d - 1) n p q (after_of (token_at s a))))

  parts_to_each : (k d n at : ℕ) → parts_to s over h k d n at ≡ mapped (each g) (parts_to s over f k d n) at
  unfolding parts_to
  parts_to_each zero d n at = refl
  parts_to_each (suc k) d n at =
      close_image (on_tree (each g)) (token_at s at) _ _ _ _ at
      (λ p. same_image (on_tree (each g)) (closing s d at) _ _ (λ o c. refl))
      (then_image (on_tree (each g)) (on_tree (each g)) (part_at s over f d n at) (part_at s over h d n at) _ _ (part_each d n at)
      (λ x b. then_image (on_tree (each g)) (on_tree (each g)) (parts_to s over f k d x.left b) (parts_to s over h k d x.left b) _ _
      (parts_to_each k d x.left b)
      (λ xs c. ap (λ (l : List (Timed B)). got (counts l xs.left) c)
      (sym (map-append (λ (y : Timed A). record { when = y.when; what = g y.what }) x.tree xs.tree)))))

  pub parts_each : (d n at : ℕ) → parts s over h d n at ≡ mapped (each g) (parts s over f d n) at
  unfolding parts
  parts_each d n at =
      same_image (on_tree (each g)) (opening s d at) _ _
      (λ o a. word_image (on_tree (each g)) (token_at s a) (d - 1) _ _ (after_of (token_at s a))
      (λ j p q. cond_image (on_tree (each g)) (same_word (part s p q) (bytes "and")) _ _ _ _ (after_of (token_at s a))
      (parts_to_each (length s + 1) (d - 1) n (after_of (token_at s a))) (behind_each (d - 1) n p q (after_of (token_at s a)))))

-- ---- fields

pub each_cells : {A : Type 0} (g : A → List ℕ) (xs : List (Timed A)) → timed_cells (each g xs) ++ 0 ∷ [] ≡ parts_cells g xs
unfolding timed_cells parts_cells
each_cells g [] = refl
each_cells g (x ∷ xs) =
    ap (λ (t : List ℕ). when_cell x.when ∷ t) (append_assoc (g x.what) (timed_cells (each g xs)) (0 ∷ [])
    ∙ ap (λ (t : List ℕ). g x.what ++ t) (each_cells g xs))

wrote_each : {A : Type 0} (g : A → List ℕ) (code : List ℕ) (u : ℕ) (r : Parsed) (m : List ℕ) (x : Read (List (Timed A)))
    → Wrote ended_cells code u r m (image (each g) x)
    → Wrote (parts_cells g) code u r m x
unfolding Wrote
wrote_each g code u r m (got xs n) h = rw (each_cells g xs) at h
wrote_each g code u r m (refused k p) h = h

-- the one instant of a simple action
instant_each : {A B : Type 0} (g : A → B) (x : Read (Counted A))
    → and_then (and_then (image (on_tree g) x) (λ y n. got (counts (at_start y.tree ∷ []) y.left) n)) (λ y n. got y.tree n)
    ≡ image (each g) (and_then x (λ y n. got (at_start y.tree ∷ []) n))
instant_each g (got y n) = refl
instant_each g (refused k p) = refl

-- the field w, after which the trees x are read, or their cells y
field_each : {A : Type 0} (g : A → List ℕ) (s w : List ℕ) (x : Reader (List (Timed A))) (y : Reader (List (Timed (List ℕ))))
    → ((at : ℕ) → y at ≡ image (each g) (x at))
    → (code : List ℕ) (u : ℕ) (r : Parsed) (m : List ℕ) (at : ℕ) → Wrote ended_cells code u r m (and_then (field_of s w at) (λ b. cond b y (give [])))
    → Wrote (parts_cells g) code u r m (and_then (field_of s w at) (λ b. cond b x (give [])))
field_each g s w x y e code u r m at h =
    let q = same_image (each g) (field_of s w at) (λ b. cond b x (give [])) (λ b. cond b y (give []))
    (λ b n. cond_image (each g) b x (give []) y (give []) n (e n) refl) in
    wrote_each g code u r m _ (rw q at h)

module _ (s : List ℕ) (c : Scope) (code : List ℕ) (u : ℕ) (r : Parsed) (m : List ℕ) (at : ℕ) where
  pub simple_condition : Wrote ended_cells code u r m (field_parts false true s c (bytes ":precondition") 32 at)
      → Wrote (parts_cells cond_cells) code u r m (when_field s ":precondition" (one_condition s c) at)
  unfolding field_parts parts_of body_of
  simple_condition h =
      field_each cond_cells s (bytes ":precondition") (one_condition s c) (tree_of (parts_of false true s c 32))
      (λ a. instant_each cond_cells (condition 14 s c 32 a)) code u r m at h

  pub simple_effect : Wrote ended_cells code u r m (field_parts false false s c (bytes ":effect") 16 at)
      → Wrote (parts_cells list_cells) code u r m (when_field s ":effect" (one_instant s c) at)
  unfolding field_parts parts_of body_of
  simple_effect h =
      field_each list_cells s (bytes ":effect") (one_instant s c) (tree_of (parts_of false false s c 16))
      (λ a. instant_each list_cells (effect 14 s c 16 a)) code u r m at h

  pub durative_condition : Wrote ended_cells code u r m (field_parts true true s c (bytes ":condition") 32 at)
      → Wrote (parts_cells cond_cells) code u r m (when_field s ":condition" (tree_of (parts s true (λ d n. condition d s c n) 14 32)) at)
  unfolding field_parts parts_of body_of
  durative_condition h =
      field_each cond_cells s (bytes ":condition") (tree_of (parts s true (λ d n. condition d s c n) 14 32)) (tree_of (parts_of true true s c 32))
      (λ a. then_image (each cond_cells) (on_tree (each cond_cells)) (parts s true (λ d n. condition d s c n) 14 32 a) (parts s true (body_of true s c) 14 32 a) _ _
      (parts_each cond_cells s true (λ d n. condition d s c n) (body_of true s c) (λ d n b. refl) 14 32 a) (λ y n. refl))
      code u r m at h

  pub durative_effect : Wrote ended_cells code u r m (field_parts true false s c (bytes ":effect") 16 at)
      → Wrote (parts_cells list_cells) code u r m (when_field s ":effect" (tree_of (parts s false (λ d n. effect d s c n) 14 16)) at)
  unfolding field_parts parts_of body_of
  durative_effect h =
      field_each list_cells s (bytes ":effect") (tree_of (parts s false (λ d n. effect d s c n) 14 16)) (tree_of (parts_of true false s c 16))
      (λ a. then_image (each list_cells) (on_tree (each list_cells)) (parts s false (λ d n. effect d s c n) 14 16 a) (parts s false (body_of false s c) 14 16 a) _ _
      (parts_each list_cells s false (λ d n. effect d s c n) (body_of false s c) (λ d n b. refl) 14 16 a) (λ y n. refl))
      code u r m at h
