-- Any two answers that a public call's contract admits are equal, the check and the lent output included. Each statement has its contract's own words.
-- Assumes nothing.
use Prim.Native.Nat.{ℕ}
use mathlib.Core.List.{List}
use mathlib.Core.Path.{◌≡◌, sym, ap, ◌∙◌}
use lib.IntN.{ℤ}
use Rattle.domain_load.specs.declared.LoadAnswer.{LoadAnswer}
use Rattle.check_calls.specs.Calls.{open_of, feed_of, finish_of, result_of, facts_of, numbers_of, line_of}
use Rattle.check_calls.specs.declared.Check.{Check}
use Rattle.check_calls.specs.declared.LoadReply.{LoadReply}
use Rattle.check_calls.specs.declared.Reply.{Reply}
use Rattle.check_calls.specs.declared.Answer.{Answer}

module _ {X Y : Type 0} {z : X × Y} (r q : X) (now' other : Y) where
  both_once : (r, now') ≡ z → (q, other) ≡ z → (r ≡ q) × (now' ≡ other)
  both_once e f = (ap (λ (x : X × Y). x.0) (e ∙ sym f), ap (λ (x : X × Y). x.1) (e ∙ sym f))

pub one_load : (domain problem : List ℕ) (r q : LoadReply) → r ≡ open_of domain problem → q ≡ open_of domain problem → r ≡ q
one_load domain problem r q e f = e ∙ sym f

pub one_feed : (c : Check) (part : List ℕ) (r q : Reply) → r ≡ feed_of c part → q ≡ feed_of c part → r ≡ q
one_feed c part r q e f = e ∙ sym f

pub one_finish : (c : Check) (r q : Reply) → r ≡ finish_of c → q ≡ finish_of c → r ≡ q
one_finish c r q e f = e ∙ sym f

pub one_result : (c : Check) (line : List ℕ) (r q : Reply) (now' other : List ℕ) → (r, now') ≡ result_of c line → (q, other) ≡ result_of c line
    → (r ≡ q) × (now' ≡ other)
one_result c line r q now' other e f = both_once r q now' other e f

pub one_facts : (c : Check) (out : List ℕ) (r q : Reply) (now' other : List ℕ) → (r, now') ≡ facts_of c out → (q, other) ≡ facts_of c out
    → (r ≡ q) × (now' ≡ other)
one_facts c out r q now' other e f = both_once r q now' other e f

pub one_numbers : (c : Check) (out : List ℤ) (r q : Reply) (now' other : List ℤ) → (r, now') ≡ numbers_of c out → (q, other) ≡ numbers_of c out
    → (r ≡ q) × (now' ≡ other)
one_numbers c out r q now' other e f = both_once r q now' other e f

pub one_line : (v : LoadAnswer) (line : List ℕ) (r q : Answer) (now' other : List ℕ) → (r, now') ≡ line_of v line → (q, other) ≡ line_of v line
    → (r ≡ q) × (now' ≡ other)
one_line v line r q now' other e f = both_once r q now' other e f
