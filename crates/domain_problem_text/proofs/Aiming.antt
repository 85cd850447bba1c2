-- The ways through the goal. Assumes nothing.
use mathlib.Core.Path.{◌≡◌, refl, sym, ◌∙◌}
use mathlib.Core.List.{List}
use mathlib.Core.Bool.{Bool, true, false, true≢false}
use Prim.Native.Nat.{ℕ, ◌≤◌, ◌<◌}
use native.Mathlib.Omega.{arith}
use lib.ListN.{length}
use lib.Seq.{sets}
use Rattle.text_words.specs.Bytes.{bytes}
use Rattle.domain_meaning.specs.Read.{Read, got, refused}
use Rattle.domain_meaning.specs.Due.{closing}
use Rattle.domain_meaning.specs.Terms.{Scope}
use Rattle.domain_meaning.specs.Conditions.{Cond, condition}
use Rattle.domain_meaning.specs.Problem.{goal_to, sums_fit, sums_at, section_due_of}
use Rattle.domain_due.specs.Answers.{answer_of}
use Rattle.domain_due.specs.Answers.{Parsed}
use Rattle.domain_due.specs.Answers.{Done, Refused}
use Rattle.domain_due.proofs.Dues.{done_parts, refused_parts, answer_done, answer_refused, never_done}
use Rattle.domain_expressions.specs.Codes.{Written, Spent}
use Rattle.domain_expressions.specs.Codes.{Progress}
use Rattle.domain_expressions.specs.Codes as P
use Rattle.domain_expressions.proofs.Operands.{written_got, written_not}
use Rattle.domain_stored_meaning.specs.Cells.{cond_cells}
use Rattle.domain_problem_text.specs.Parts.{goal_from, Reached, Aimed}

pub spent_at : (n at : ℕ) (r : Progress) (a v l : ℕ) → r ≡ P.Done a v l → Spent 0 n 0 at r → (at < a) × (a ≤ n) × (v ≤ n)
unfolding Spent
spent_at n at r a v l e h = let w = rw e at h in (w.0, w.1, omega (arith, w.1, w.3))

-- ---- the condition and the closing bracket

module _ (s : List ℕ) (c : Scope) (at : ℕ) (goal : List ℕ) (r₁ : Progress) (m : List ℕ) (w : Written cond_cells goal 0 r₁ m (condition 14 s c 64 at)) where
  pub reached_not : (k p : ℕ) → r₁ ≡ P.Refused k p → Reached (length s) (Refused k p) goal m (goal_to s c at)
  unfolding Reached
  reached_not k p e = rw (written_not cond_cells goal 0 r₁ m (condition 14 s c 64 at) k p w e)

  module _ (a v l : ℕ) (e : r₁ ≡ P.Done a v l) (r : Parsed) (q : r ≡ answer_of (closing s 14 a)) where
    pub reached_open : (k p : ℕ) → r ≡ Refused k p → Reached (length s) r goal m (goal_to s c at)
    unfolding Reached
    reached_open k p f =
        let g = written_got cond_cells goal 0 r₁ m (condition 14 s c 64 at) a v l w e in
        rw (g.is, answer_refused (closing s 14 a) k p (sym q ∙ f)) f

    pub reached : (b i : ℕ) → r ≡ Done b i → v ≤ length s → Reached (length s) (Done b 0) goal m (goal_to s c at)
    unfolding Reached
    reached b i f few =
        let g = written_got cond_cells goal 0 r₁ m (condition 14 s c 64 at) a v l w e in
        rw (g.is, answer_done (closing s 14 a) b i (sym q ∙ f)) (refl, g.stored, omega (arith, g.free))

-- ---- the section

module _ (n : ℕ) (c : Scope) (r : Parsed) (goal goal' : List ℕ) where
  aimed_by : (judged : Bool) (x : Read Cond) → Reached n r goal goal' x → (judged ≡ false → sums_fit c ≡ true) → Aimed n c judged r goal goal' x
  unfolding Reached Aimed
  aimed_by judged (got g a) h f = (h.0, h.1, h.2, f)
  aimed_by judged (refused k p) h f = h

module _ (s : List ℕ) (c : Scope) (at : ℕ) (judged : Bool) (r : Parsed) (goal goal' : List ℕ) where
  pub aimed_undue : (k p : ℕ) → section_due_of s (bytes ":goal") at ≡ refused k p → r ≡ Refused k p
      → Aimed (length s) c judged r goal goal' (goal_from s c judged at)
  unfolding goal_from Aimed
  aimed_undue k p e q = rw e q

  module _ (v a : ℕ) (q : section_due_of s (bytes ":goal") at ≡ got v a) where
    pub aimed_judged : judged ≡ true → Reached (length s) r goal goal' (goal_to s c a) → Aimed (length s) c judged r goal goal' (goal_from s c judged at)
    unfolding goal_from
    aimed_judged j h = rw (q, j) (aimed_by (length s) c r goal goal' true (goal_to s c a) h (λ z. absurd (true≢false z)))

    pub aimed_unfit : (k p : ℕ) → judged ≡ false → r ≡ answer_of (sums_at c v a) → r ≡ Refused k p
        → Aimed (length s) c judged r goal goal' (goal_from s c judged at)
    unfolding goal_from Aimed
    aimed_unfit k p j h e = rw (q, j, answer_refused (sums_at c v a) k p (sym h ∙ e)) e

    pub aimed_fits : judged ≡ false → sums_fit c ≡ true → Reached (length s) r goal goal' (goal_to s c a)
        → Aimed (length s) c judged r goal goal' (goal_from s c judged at)
    unfolding goal_from
    aimed_fits j f h = rw (q, j, f) (aimed_by (length s) c r goal goal' false (goal_to s c a) h (λ _. f))

-- ---- what was read, by the answer

pub record Goal (n : ℕ) (c : Scope) (judged : Bool) (was goal' : List ℕ) (a : ℕ) (x : Read Cond) : Type 0 where
  pub tree : Cond
  pub is : x ≡ got tree a
  pub stored : goal' ≡ sets was 0 (cond_cells tree)
  pub few : length (cond_cells tree) ≤ n
  pub fits : judged ≡ false → sums_fit c ≡ true

module _ (n : ℕ) (c : Scope) (judged : Bool) (r : Parsed) (was goal' : List ℕ) where
  pub aimed_got : (x : Read Cond) (a v : ℕ) → Aimed n c judged r was goal' x → r ≡ Done a v → Goal n c judged was goal' a x
  unfolding Aimed
  aimed_got (got g i) a v h e =
      let q : Done i 0 ≡ Done a v = sym h.0 ∙ e in
      let z : i ≡ a = (done_parts i a 0 v q).0 in
      record { tree = g; is = rw z; stored = h.1; few = h.2; fits = h.3 }
  aimed_got (refused k p) a v h e = never_done k p a v (sym h ∙ e)

  pub aimed_not : (x : Read Cond) (k p : ℕ) → Aimed n c judged r was goal' x → r ≡ Refused k p → x ≡ refused k p
  unfolding Aimed
  aimed_not (got g i) k p h e = never_done k p i 0 (sym e ∙ h.0)
  aimed_not (refused j q) k p h e = let i = refused_parts j k q p (sym h ∙ e) in rw (i.0, i.1)
