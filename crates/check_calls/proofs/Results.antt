-- What each way through result, facts and numbers gives is what the contracts say. Assumes nothing.
use mathlib.Core.Path.{◌≡◌, sym, ◌∙◌}
use mathlib.Core.List.{List, map}
use mathlib.Core.Bool.{true, false}
use Prim.Native.Nat.{ℕ, ◌≤◌, ◌<◌}
use native.Mathlib.Omega.{arith}
use lib.IntN.{ℤ}
use lib.ListN.{length, take}
use lib.Seq.{sets}
use borrow.Author.Tests.{lt-ltb, le-ltb}
use Rattle.base_laws.proofs.Lists.{taken_length}
use Rattle.check_meaning.specs.Answer.{bit, shown}
use Rattle.check_calls.specs.declared.Check.{Check}
use Rattle.check_calls.specs.declared.Reply.{Reply}
use Rattle.check_calls.specs.declared.Answer.TheVariants as A
use Rattle.check_calls.specs.Calls.{well_formed, fed, when_done, unless_refused, writing, facts_of, numbers_of}
use Rattle.check_calls.proofs.Formed.{Formed, formed_parts}

-- what is answered, beside the lent output
pub beside : {X : Type 0} {r s : Reply} → r ≡ s → (out : X) → ◌≡◌ {A = Reply × X} (r, out) (s, out)
beside e out = λ i. (e i, out)

module _ {X : Type 0} (c : Check) (out : X) (next : Reply × X) where
  pub unformed : well_formed c ≡ false → (fed c A.Unformed, out) ≡ when_done c out next
  unformed h = rw (h)

  pub early : well_formed c ≡ true → c.finished ≡ false → (fed c A.Early, out) ≡ when_done c out next
  early h k = rw (h, k)

  pub done : well_formed c ≡ true → c.finished ≡ true → next ≡ when_done c out next
  done h k = rw (h, k)

  pub stateless : c.progress.refused ≡ true → (fed c A.Stateless, out) ≡ unless_refused c out next
  stateless h = rw (h)

  pub stated : c.progress.refused ≡ false → next ≡ unless_refused c out next
  stated h = rw (h)

module _ {X : Type 0} (c : Check) (out : List X) (least : ℕ) (w : List X) where
  pub short : length out < least → (fed c A.Short, out) ≡ writing c out least w
  short h = rw (lt-ltb (length out) least h)

  pub written : least ≤ length out → (n : ℕ) (after : List X) → n ≡ length w → after ≡ sets out 0 w → (fed c (A.Done n), after) ≡ writing c out least w
  written h n after e f = rw (le-ltb (length out) least h, e, f)

-- ---- the facts and the numbers

module _ (c : Check) (good : well_formed c ≡ true) where
  parts : Formed c.progress c.model.counts c.model.acting c.model.sizes.facts c.model.sizes.numbers c.queue
  parts = formed_parts c.progress c.model.counts c.model.acting c.model.sizes.facts c.model.sizes.numbers c.queue good

  pub few_facts : length c.facts ≡ 16384 → c.model.sizes.facts ≤ length c.facts
  few_facts h = omega (arith, h, parts.sizes.few_facts)

  pub few_numbers : length c.numbers ≡ 1024 → c.model.sizes.numbers ≤ length c.numbers
  few_numbers h = omega (arith, h, parts.sizes.few_numbers)

module _ {X : Type 0} (c : Check) (out : List X) (least : ℕ) (w : List X) (good : well_formed c ≡ true) (f : c.finished ≡ true)
    (r : c.progress.refused ≡ false) where
  kept_short : length out < least → (fed c A.Short, out) ≡ when_done c out (unless_refused c out (writing c out least w))
  kept_short h = short c out least w h ∙ stated c out _ r ∙ done c out _ good f

  kept_written : least ≤ length out → (after : List X) → least ≡ length w → after ≡ sets out 0 w
      → (fed c (A.Done least), after) ≡ when_done c out (unless_refused c out (writing c out least w))
  kept_written h after l e = written c out least w h least after l e ∙ stated c out _ r ∙ done c out _ good f

module _ (c : Check) (out : List ℕ) (good : well_formed c ≡ true) (f : c.finished ≡ true) (r : c.progress.refused ≡ false) where
  pub facts_short : length out < c.model.sizes.facts → (fed c A.Short, out) ≡ facts_of c out
  unfolding facts_of
  facts_short h = kept_short c out c.model.sizes.facts (map bit (take c.model.sizes.facts c.facts)) good f r h

  pub facts_written : length c.facts ≡ 16384 → c.model.sizes.facts ≤ length out → (after : List ℕ)
      → after ≡ sets out 0 (map bit (take c.model.sizes.facts c.facts)) → (fed c (A.Done c.model.sizes.facts), after) ≡ facts_of c out
  unfolding facts_of
  facts_written long h after e =
      kept_written c out c.model.sizes.facts (map bit (take c.model.sizes.facts c.facts)) good f r h after
      (sym (taken_length bit c.model.sizes.facts c.facts (few_facts c good long))) e

module _ (c : Check) (out : List ℤ) (good : well_formed c ≡ true) (f : c.finished ≡ true) (r : c.progress.refused ≡ false) where
  pub numbers_short : length out < c.model.sizes.numbers → (fed c A.Short, out) ≡ numbers_of c out
  unfolding numbers_of
  numbers_short h = kept_short c out c.model.sizes.numbers (map shown (take c.model.sizes.numbers c.numbers)) good f r h

  pub numbers_written : length c.numbers ≡ 1024 → c.model.sizes.numbers ≤ length out → (after : List ℤ)
      → after ≡ sets out 0 (map shown (take c.model.sizes.numbers c.numbers)) → (fed c (A.Done c.model.sizes.numbers), after) ≡ numbers_of c out
  unfolding numbers_of
  numbers_written long h after e =
      kept_written c out c.model.sizes.numbers (map shown (take c.model.sizes.numbers c.numbers)) good f r h after
      (sym (taken_length shown c.model.sizes.numbers c.numbers (few_numbers c good long))) e
