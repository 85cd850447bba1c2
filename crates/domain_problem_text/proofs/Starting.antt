-- The ways through init. Assumes nothing.
use mathlib.Core.Path.{◌≡◌, refl, sym, ◌∙◌}
use mathlib.Core.List.{List}
use mathlib.Core.Bool.{Bool, true, false, cond, false≢true}
use Prim.Native.Nat.{ℕ, ◌+◌}
use lib.IntN.{ℤ}
use lib.ListN.{length}
use lib.Dec.{eqb}
use Rattle.text_words.specs.Bytes.{bytes}
use Rattle.domain_meaning.specs.Read.{Read, got, refused, and_then, give, refuse}
use Rattle.domain_meaning.specs.Terms.{Scope}
use Rattle.domain_meaning.specs.Domain.{opened, other, begins_with}
use Rattle.domain_meaning.specs.Problem.{Init, nothing, init_to, sums_fit, sums_at}
use Rattle.domain_due.specs.Answers.{answer_of}
use Rattle.domain_due.specs.Answers.{Parsed}
use Rattle.domain_due.specs.Answers.{Done, Refused}
use Rattle.domain_due.proofs.Dues.{done_parts, refused_parts, answer_refused, never_done}
use Rattle.domain_init.specs.State.{Begins}
use Rattle.domain_meaning.specs.First.{no_facts, no_numbers, facts_from, numbers_from, first_facts, first_numbers}
use Rattle.domain_problem_text.specs.Parts.{Start, starting, start_at, Started}

-- where reading goes on after the sums, they fit
pub sums_fit_lem : (c : Scope) (p at : ℕ) (r : Parsed) (a v : ℕ) → r ≡ answer_of (sums_at c p at) → r ≡ Done a v → sums_fit c ≡ true
sums_fit_lem c p at r a v q e = go (sums_fit c) (sym q ∙ e)
  where
    go : (t : Bool) → answer_of (cond t (give p) (refuse 12 p) at) ≡ Done a v → t ≡ true
    go true h = refl
    go false h = never_done 12 p a v h

start_begins : (c : Scope) (r : Parsed) (facts : List ℕ) (numbers : List ℤ) (x : Read Init) (a v : ℕ) → Begins r facts numbers x → r ≡ Done a v
    → sums_fit c ≡ true
    → Started c (Done a 1) facts numbers (and_then x (λ i. give (starting true i)))
unfolding Begins Started
start_begins c r facts numbers (got i n) a v h e f = let q : Done n 0 ≡ Done a v = sym h.0 ∙ e in let z : n ≡ a = (done_parts n a 0 v q).0 in (rw z, h.1, h.2, λ _. f)
start_begins c r facts numbers (refused k p) a v h e f = never_done k p a v (sym h ∙ e)

start_ends : (c : Scope) (r : Parsed) (facts : List ℕ) (numbers : List ℤ) (x : Read Init) (k p : ℕ) → Begins r facts numbers x → r ≡ Refused k p
    → Started c r facts numbers (and_then x (λ i. give (starting true i)))
unfolding Begins Started
start_ends c r facts numbers (got i n) k p h e = never_done k p n 0 (sym e ∙ h.0)
start_ends c r facts numbers (refused j q) k p h e = h

module _ (s : List ℕ) (c : Scope) (at : ℕ) where
  pub start_none : (facts : List ℕ) (numbers : List ℤ) → begins_with s (bytes ":init") at ≡ got other at → facts ≡ no_facts → numbers ≡ no_numbers
      → Started c (Done at 0) facts numbers (start_at s c at)
  unfolding start_at Started first_facts first_numbers facts_from numbers_from
  start_none facts numbers q f n = rw q (refl, f, n, λ h. absurd (false≢true h))

  module _ (p e : ℕ) (q : begins_with s (bytes ":init") at ≡ got (opened p) e) (r : Parsed) (facts : List ℕ) (numbers : List ℤ) where
    pub start_unfit : (k i : ℕ) → r ≡ answer_of (sums_at c p e) → r ≡ Refused k i → Started c r facts numbers (start_at s c at)
    unfolding start_at Started
    start_unfit k i h g = rw (q, answer_refused (sums_at c p e) k i (sym h ∙ g)) g

    module _ (f : sums_fit c ≡ true) (h : Begins r facts numbers (init_to (length s + 1) s c nothing e)) where
      pub start_refused : (k i : ℕ) → r ≡ Refused k i → Started c r facts numbers (start_at s c at)
      unfolding start_at
      start_refused k i g = rw (q, f) (start_ends c r facts numbers (init_to (length s + 1) s c nothing e) k i h g)

      pub start_done : (a v : ℕ) → r ≡ Done a v → Started c (Done a 1) facts numbers (start_at s c at)
      unfolding start_at
      start_done a v g = rw (q, f) (start_begins c r facts numbers (init_to (length s + 1) s c nothing e) a v h g f)

-- ---- what was read, by the answer

pub record Begun (c : Scope) (facts : List ℕ) (numbers : List ℤ) (a v : ℕ) (x : Read Start) : Type 0 where
  pub start : Start
  pub is : x ≡ got start a
  pub flag : eqb v 1 ≡ start.judged
  pub facts_are : facts ≡ first_facts start.init
  pub numbers_are : numbers ≡ first_numbers start.init
  pub fits : start.judged ≡ true → sums_fit c ≡ true

flag_is : (j : Bool) (v : ℕ) → cond j 1 0 ≡ v → eqb v 1 ≡ j
flag_is true v e = rw (← e)
flag_is false v e = rw (← e)

module _ (c : Scope) (r : Parsed) (facts : List ℕ) (numbers : List ℤ) where
  pub started_got : (x : Read Start) (a v : ℕ) → Started c r facts numbers x → r ≡ Done a v → Begun c facts numbers a v x
  unfolding Started
  started_got (got i n) a v h e =
      let q : Done n (cond i.judged 1 0) ≡ Done a v = sym h.0 ∙ e in
      let z : n ≡ a = (done_parts n a _ v q).0 in
      let w : cond i.judged 1 0 ≡ v = (done_parts n a _ v q).1 in
      record { start = i; is = rw z; flag = flag_is i.judged v w; facts_are = h.1; numbers_are = h.2; fits = h.3 }
  started_got (refused k p) a v h e = never_done k p a v (sym h ∙ e)

  pub started_not : (x : Read Start) (k p : ℕ) → Started c r facts numbers x → r ≡ Refused k p → x ≡ refused k p
  unfolding Started
  started_not (got i n) k p h e = never_done k p n _ (sym e ∙ h.0)
  started_not (refused j q) k p h e = let i = refused_parts j k q p (sym h ∙ e) in rw (i.0, i.1)
