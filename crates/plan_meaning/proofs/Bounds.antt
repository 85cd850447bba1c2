-- How large the numbers are that a plan's text can give, whatever the text: those of its steps and of its points' times; its first refusal stands in
-- the table. Assumes nothing.
use Prim.Native.Nat.{ℕ, suc, ◌+◌, ◌≤◌, ◌<◌}
use mathlib.Core.Bool.{Bool, true, false}
use mathlib.Core.List.{List, [], ◌∷◌, ◌++◌, map}
use mathlib.Core.Option.{Option, some, none}
use mathlib.Core.Path.{◌≡◌, refl, subst, ◌∙◌}
use native.Mathlib.Omega.{arith}
use borrow.Author.Tests.{ltb-true, ltb-false}
use lib.Dec.{ltb}
use lib.ListN.{length, take, length-take}
use Rattle.text_tokens.proofs.PlanTokens.{plan_empty}
use Rattle.plan_meaning.specs.Plan.{Span, moment, lasting, Step, time, ending, points, Answer, blank, step, refusal, steps, too_many, first_refusal}
use Rattle.plan_meaning.specs.Text.{lines, start_after, says, answer, answers}
use Rattle.plan_meaning.specs.Promised.{Act, duration_of}
use Rattle.plan_meaning.specs.Lines.{Known, Refused, refused_at, line_at, reader, limits}
use Rattle.plan_meaning.proofs.Lists.{All}
use Rattle.plan_meaning.proofs.Steps.{reads_steps}
use Rattle.plan_meaning.specs.Listed.{listed_in_plan}
use Rattle.plan_meaning.proofs.Listed.{row_of_lem, line_of, listed_of, beyond_listed}
use Rattle.plan_meaning.proofs.Places.{ReadRefusal, reads_places, long_places}

-- ---- what one line says

-- "Plan lines: 256 bytes without LF, 1,000,000 lines"; a number has at most nine digits before its point
pub record SmallStep (x : Step Act) : Type 0 where
  pub first : 1 ≤ x.line
  pub line : x.line ≤ 1000000
  pub start : x.start < 1000000000000
  pub duration : duration_of x.span < 1000000000000
  pub width : x.act.width ≤ 256

-- a refusal that stands in the table
abbrev pub TextRefusal : Refused → Type 0
TextRefusal e = listed_in_plan e.number e.line e.column ≡ true

pub crowded_listed : (x : Step Act) → SmallStep x → TextRefusal (limits.crowded x)
crowded_listed x h =
    let w = h.width in
    listed_of 18 x.line (x.act.width + 1) (line_of x.line h.first h.line) (omega arith) (omega (arith, w)) (row_of_lem 18 (x.act.width + 1) refl)

-- past the millionth line, a byte
pub past_listed : (n : ℕ) → 1000000 < n → n ≤ 1000001 → TextRefusal (refused_at 15 n 0)
past_listed n lo hi = let e : n ≡ 1000001 = omega arith in rw e beyond_listed

-- a line that may be there
module _ (k : Known) (n before : ℕ) (lo : 1 ≤ n) (hi : n ≤ 1000000) (l : List ℕ) where
  pub read_small : length l ≤ 256 → (x : Step Act) → (reader k).line n before l ≡ step x → SmallStep x
  read_small s x e =
      let r = reads_steps k n before l x e in
      let i = r.line in
      let w = r.width in
      record { first = omega (arith, i); line = omega (arith, i); start = r.start; duration = r.duration; width = omega (arith, w) }

  of_read : (e : Refused) → ReadRefusal n l e → TextRefusal e
  of_read e r =
      let i = r.0 in
      let c = r.2 in
      listed_of e.number e.line e.column (rw i (line_of n lo hi)) r.1 (omega (arith, c)) r.3

  pub read_listed : (e : Refused) → (reader k).line n before l ≡ refusal e → TextRefusal e
  read_listed e q = of_read e (reads_places k n before l e q)

  pub long_listed : 256 < length l → TextRefusal ((reader k).long n before l)
  long_listed h = of_read ((reader k).long n before l) (long_places k n before l h)

-- what line n says: of a refusal, if it is the first past the millionth or before it
abbrev Says : ℕ → Answer Act Refused → Type 0
Says n blank = Unit
Says n (step x) = SmallStep x
Says n (refusal e) = n ≤ 1000001 → TextRefusal e

module _ (k : Known) where
  -- no step is read from a line of no bytes
  pub empty_line_lem : (n before : ℕ) → (reader k).line n before [] ≡ blank
  unfolding line_at
  empty_line_lem n before = rw plan_empty

  module _ (n before : ℕ) (lo : 1 ≤ n) where
    short_says : n ≤ 1000000 → (l : List ℕ) → length l ≤ 256 → (a : Answer Act Refused) → (reader k).line n before l ≡ a → Says n a
    short_says h l s blank e = tt
    short_says h l s (step x) e = read_small k n before lo h l s x e
    short_says h l s (refusal x) e = λ _. read_listed k n before lo h l x e

    line_says : n ≤ 1000000 → (l : List ℕ) → Says n (says (reader k) n before l)
    line_says h l = go (ltb 256 (length l)) refl
      where
        go : (b : Bool) → ltb 256 (length l) ≡ b → Says n (says (reader k) n before l)
        go true e =
            let s : 256 < length l = ltb-true 256 (length l) e in
            let i : length (take 257 l) ≡ 257 = length-take 257 l ∙ omega arith in
            rw e (λ _. long_listed k n before lo h (take 257 l) (omega (arith, i)))
        go false e = rw e (short_says h l (ltb-false 256 (length l) e) ((reader k).line n before l) refl)

    -- any line: past the millionth, a byte is refused
    answer_says : (l : List ℕ) (ls : List (List ℕ)) → Says n (answer (reader k) n before l ls)
    answer_says l ls = go (ltb 1000000 n) refl l ls
      where
        go : (b : Bool) → ltb 1000000 n ≡ b → (l : List ℕ) (ls : List (List ℕ)) → Says n (answer (reader k) n before l ls)
        go false e l ls = rw e (line_says (ltb-false 1000000 n e) l)
        go true e [] [] = rw (e, empty_line_lem n before) tt
        go true e [] (m ∷ ls) = rw e (past_listed n (ltb-true 1000000 n e))
        go true e (c ∷ l) ls = rw e (past_listed n (ltb-true 1000000 n e))

  -- ---- the steps of a text's lines from number n on

  steps_small : (ls : List (List ℕ)) (n before : ℕ) → 1 ≤ n → All SmallStep (steps (answers (reader k) n before ls))
  steps_small [] n before lo = tt
  steps_small (l ∷ ls) n before lo = go (answer (reader k) n before l ls) (answer_says n before lo l ls) (λ u. steps_small ls (suc n) u (omega arith))
    where
      go : (a : Answer Act Refused) → Says n a → ((u : ℕ) → All SmallStep (steps (answers (reader k) (suc n) u ls)))
          → All SmallStep (steps (a ∷ answers (reader k) (suc n) (start_after before a) ls))
      go blank s ih = ih before
      go (step x) s ih = (s, ih x.start)
      go (refusal e) s ih = ih before

  pub text_steps : (text : List ℕ) → All SmallStep (steps (answers (reader k) 1 0 (lines text)))
  text_steps text = steps_small (lines text) 1 0 (omega arith)

-- ---- the first refusal of a text: at most that of the first line past the millionth

something : {A B : Type 0} {x : A} → ◌≡◌ {A = Option A} none (some x) → B
something e = absurd (let z : ◌≡◌ {A = ℕ} 0 1 = cc in let y : ⊥ = omega arith in y)

the_same : {A : Type 0} {x y : A} → some x ≡ some y → x ≡ y
the_same e = cc

-- the answer of line n, and those of the lines after it
behind_line : (n : ℕ) (a : Answer Act Refused) (before : List (Step Act)) (rest : List (Answer Act Refused)) (e : Refused) → n ≤ 1000001 → Says n a
    → ((xs : List (Step Act)) → first_refusal limits xs rest ≡ some e → TextRefusal e) → first_refusal limits before (a ∷ rest) ≡ some e → TextRefusal e
unfolding first_refusal
behind_line n blank before rest e h s ih q = ih before q
behind_line n (refusal x) before rest e h s ih q = subst TextRefusal (the_same q) (s h)
behind_line n (step x) before rest e h s ih q = go (too_many limits before x) refl
  where
    go : (b : Bool) → too_many limits before x ≡ b → TextRefusal e
    go true t = subst TextRefusal (the_same (rw t at q)) (crowded_listed x s)
    go false t = ih (before ++ x ∷ []) (rw t at q)

module _ (k : Known) where
  -- past the millionth line there is nothing, or a byte that is refused
  past_most : (n start : ℕ) → ltb 1000000 n ≡ true → n ≤ 1000001 → (l : List ℕ) (ls : List (List ℕ)) (before : List (Step Act)) (e : Refused)
      → first_refusal limits before (answers (reader k) n start (l ∷ ls)) ≡ some e → TextRefusal e
  unfolding first_refusal
  past_most n start t h [] [] before e q = something (rw (t, empty_line_lem k n start) at q)
  past_most n start t h [] (m ∷ ls) before e q = subst TextRefusal (the_same (rw t at q)) (past_listed n (ltb-true 1000000 n t) h)
  past_most n start t h (c ∷ l) ls before e q = subst TextRefusal (the_same (rw t at q)) (past_listed n (ltb-true 1000000 n t) h)

  refusal_small : (ls : List (List ℕ)) (n start : ℕ) → 1 ≤ n → n ≤ 1000001 → (before : List (Step Act)) (e : Refused)
      → first_refusal limits before (answers (reader k) n start ls) ≡ some e → TextRefusal e
  unfolding first_refusal
  refusal_small [] n start lo h before e q = something q
  refusal_small (l ∷ ls) n start lo h before e q = go (ltb 1000000 n) refl (λ u. refusal_small ls (suc n) u (omega arith))
    where
      go : (b : Bool) → ltb 1000000 n ≡ b
          → ((u : ℕ) → suc n ≤ 1000001 → (xs : List (Step Act)) (x : Refused) → first_refusal limits xs (answers (reader k) (suc n) u ls) ≡ some x
          → TextRefusal x)
          → TextRefusal e
      go true t ih = past_most n start t h l ls before e q
      go false t ih =
          let m : n ≤ 1000000 = ltb-false 1000000 n t in
          behind_line n (answer (reader k) n start l ls) before (answers (reader k) (suc n) (start_after start (answer (reader k) n start l ls)) ls) e h
          (answer_says k n start lo l ls) (λ xs. ih (start_after start (answer (reader k) n start l ls)) (omega arith) xs e) q

  pub text_refusal : (text : List ℕ) (e : Refused) → first_refusal limits [] (answers (reader k) 1 0 (lines text)) ≡ some e → TextRefusal e
  text_refusal text e q = refusal_small (lines text) 1 0 (omega arith) (omega arith) [] e q

-- ---- the times of a plan's points: a start, or a start and a duration

pub times_small : (plan : List (Step Act)) → All SmallStep plan → All (λ t. t < 2000000000000) (map time (points plan))
times_small [] a = tt
times_small (x ∷ xs) a = (omega (arith, starts), go x.span a.0.duration (times_small xs a.1))
  where
    starts : x.start < 1000000000000
    starts = a.0.start

    go : (d : Span) → duration_of d < 1000000000000 → All (λ t. t < 2000000000000) (map time (points xs))
        → All (λ t. t < 2000000000000) (map time (ending x d ++ points xs))
    go moment h ih = ih
    go (lasting d) h ih = (omega (arith, starts), ih)
