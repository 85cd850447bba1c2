-- What the code keeps of a plan after a line that ends, and after what is left of a part. Assumes nothing.
use Prim.Native.Nat.{ℕ, suc, ◌+◌, ◌≤◌, ◌<◌}
use mathlib.Core.Bool.{true, false}
use mathlib.Core.List.{List, ◌++◌, append-nil}
use mathlib.Core.Path.{◌≡◌, refl, sym, ap, ◌∙◌}
use native.Mathlib.Numerals.{add-one}
use native.Mathlib.Omega.{arith}
use lib.ListN.{length, take, drop, length-append, drop_of_length-le}
use lib.Seq.{sets, sets-eq, take_at, take-append-add, take-take, length-take-le}
use Rattle.happening_meaning.specs.State.{State}
use Rattle.happening_meaning.specs.declared.Outcome.{Outcome}
use Rattle.plan_meaning.specs.Plan.{Rules}
use Rattle.plan_meaning.specs.Machine as M
use Rattle.plan_meaning.specs.Feed.{feed}
use Rattle.plan_meaning.specs.Promised.{Act}
use Rattle.plan_meaning.specs.Lines.{Known, reader, limits}
use Rattle.plan_waiting.specs.declared.Queue.{Queue}
use Rattle.plan_feeding.specs.declared.PlanProgress.{PlanProgress}
use Rattle.plan_feeding.specs.Feeding.{refused_in, check_in, held_in, refusing, counted}
use Rattle.plan_feeding.proofs.Keeping.{check_going, check_halted, check_counted}
use Rattle.plan_bytes.specs.Ends.{line_end}
use Rattle.plan_bytes.proofs.Machine.{feed_halted, feed_none, feed_beyond, feed_more, feed_long, feed_line}

-- ---- bytes after those of the line so far

module _ (line : List ℕ) (used : ℕ) (bs : List ℕ) where
  pub longer : used + length bs ≤ length line → take (used + length bs) (sets line used bs) ≡ take used line ++ bs
  longer room =
      rw (sets-eq bs line used room)
      (take_at (take used line ++ bs) (drop (used + length bs) line) (used + length bs)
      (length-append (take used line) bs ∙ ap (λ (n : ℕ). n + length bs) (length-take-le used line (omega arith))))

  pub filled : used + length bs ≡ length line → sets line used bs ≡ take used line ++ bs
  filled full = sets-eq bs line used (omega arith) ∙ rw (drop_of_length-le line {i = used + length bs} (omega arith), append-nil)

first_of_lem : (xs ys : List ℕ) (n j : ℕ) → length xs + j ≡ n → take n (xs ++ take (suc j) ys) ≡ xs ++ take j ys
first_of_lem xs ys n j e = rw (← e, take-append-add xs (take (suc j) ys) j, take-take j (suc j) ys (omega arith))

-- ---- what is left of a part, by its kind

module _ (R : Rules State Act Outcome) (k : Known) (s : State) (line : List ℕ) (q : Queue) (p : PlanProgress) (rest : List ℕ) where
  pub held_refused : p.refused ≡ true → held_in s line q p ≡ feed R limits (reader k) (held_in s line q p) rest
  held_refused h =
      rw (check_halted s q p h) (sym (feed_halted R limits (reader k) (refused_in p) p.number (take p.used line) rest))

  pub held_none : length rest ≡ 0 → held_in s line q p ≡ feed R limits (reader k) (held_in s line q p) rest
  held_none h = sym (feed_none R limits (reader k) (held_in s line q p) rest h)

  module _ (goes : p.refused ≡ false) where
    pub held_beyond : 1000000 < p.number → (length rest ≡ 0 → ⊥)
        → held_in s line q (refusing p 15 1) ≡ feed R limits (reader k) (held_in s line q p) rest
    held_beyond h some =
        rw (check_going s q p goes, check_halted s q (refusing p 15 1) refl)
        (sym (feed_beyond R limits (reader k) _ _ _ p.number (take p.used line) rest h some))

    module _ (low : p.number ≤ 1000000) (few : p.used ≤ 256) (long : length line ≡ 257) where
      so_far : length (take p.used line) ≡ p.used
      so_far = length-take-le p.used line (omega arith)

      pub held_more : length rest ≤ line_end rest → p.used + length rest ≤ 256
          → held_in s (sets line p.used rest) q (counted p p.number (p.used + length rest))
          ≡ feed R limits (reader k) (held_in s line q p) rest
      held_more none room =
          rw (check_counted s q p p.number (p.used + length rest), check_going s q p goes, longer line p.used rest (omega arith))
          (sym (feed_more R limits (reader k) _ _ _ p.number low rest (take p.used line) none (omega (arith, so_far))))

      -- j bytes have room, and one more is refused
      pub held_long : (j : ℕ) → p.used + j ≡ 256 → j < line_end rest → length (take (j + 1) rest) ≡ j + 1
          → (line' : List ℕ) (p' r : PlanProgress) → line' ≡ sets line p.used (take (j + 1) rest) → p' ≡ counted p p.number 256
          → refused_in r ≡ (reader k).long p'.number p'.start line' → r ≡ refusing p' r.refusal r.column
          → held_in s line' q r ≡ feed R limits (reader k) (held_in s line q p) rest
      held_long j full more size line' p' r stored made refused same =
          let whole : line' ≡ take p.used line ++ take (suc j) rest
          = stored ∙ filled line p.used (take (j + 1) rest) (omega arith) ∙ rw (add-one j) in
          rw (
            check_halted s q r (ap (λ (x : PlanProgress). x.refused) same),
            refused,
            ap (λ (x : PlanProgress). x.number) same,
            ap (λ (x : PlanProgress). x.used) same,
            made,
            check_going s q p goes,
            whole,
            first_of_lem (take p.used line) rest 256 j (omega (arith, so_far)),
          )
          (sym (feed_long R limits (reader k) _ _ _ p.number low j rest (take p.used line) more (omega (arith, so_far))))

      -- a line that ends was taken: what is left after its LF leads where all that was left led
      pub held_line : (end : ℕ) → end ≡ line_end rest → end < length rest → p.used + end ≤ 256
          → (s' : State) (line' : List ℕ) (q' : Queue) (p' : PlanProgress)
          → check_in s' q' p' ≡ M.take R limits (check_in s q p) ((reader k).line p.number p.start (take p.used line ++ take end rest))
          → p'.number ≡ p.number
          → feed R limits (reader k) (held_in s' line' q' (counted p' (p'.number + 1) 0)) (drop (end + 1) rest)
          ≡ feed R limits (reader k) (held_in s line q p) rest
      held_line end is within room s' line' q' p' taken number =
          rw (check_counted s' q' p' (p'.number + 1) 0, taken, number, add-one p.number, add-one end, is, check_going s q p goes)
          (sym (feed_line R limits (reader k) _ _ _ p.number low rest (take p.used line) (omega arith) (omega (arith, so_far))))
