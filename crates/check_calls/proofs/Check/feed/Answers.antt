use mathlib.Core.Bool.{true, false}
use mathlib.Core.Path.{◌≡◌, sym, ◌∙◌}
use mathlib.Core.List.{List}
use Prim.Native.Nat.{ℕ}
use Rattle.plan_feeding.specs.Feeding.{counted}
use Rattle.check_calls.specs.declared.Check.{Check}
use Rattle.check_calls.specs.Adding.{Adds}
use Rattle.check_calls.specs.Calls.{well_formed, state_of, fed}
use Rattle.check_calls.proofs.Formed.{Formed, formed_parts}
use Rattle.check_calls.proofs.Calling.{rules_by, known_by, plain_parts, feed_goes}
use Rattle.check_calls.proofs.Check.feed.Goals as goal
use Rattle.check_calls.proofs.Check.feed.Goals.{then-is_plain, else-is_plain}

-- the check can be fed, and the part makes the line longer
record Plain (c : Check) (part line : List ℕ) (used : ℕ) : Type 0 where
  pub good : well_formed c ≡ true
  pub going : c.finished ≡ false
  pub adds : Adds c.progress c.line part line used

parts : (c : Check) → well_formed c ≡ true → Formed c.progress c.model.counts c.model.acting c.model.sizes.facts c.model.sizes.numbers c.queue
parts c h = formed_parts c.progress c.model.counts c.model.acting c.model.sizes.facts c.model.sizes.numbers c.queue h

pub tidy-self-requires : goal.tidy-self-requires
tidy-self-requires c =
    let k = plain_parts _ _ _ (sym c.is_plain.ensures ∙ c.if-is_plain.true) in
    (parts c.args.self (sym c.is_formed-formed.ensures ∙ k.0)).few

pub tidy_line-longer-requires : goal.tidy_line-longer-requires
tidy_line-longer-requires c =
    let k = plain_parts _ _ _ (sym c.is_plain.ensures ∙ c.if-is_plain.true) in
    let h : Plain c.args.self c.args.part.now c.add_part-added.new.line c.add_part-added.result.used =
    record { good = sym c.is_formed-formed.ensures ∙ k.0; going = k.1; adds = c.add_part-added.ensures.1 k.2 } in
    (h.adds.short (parts c.args.self h.good).counters.short, c.add_part-added.ensures.0)

pub returns : goal.returns
returns c = elim c.if-is_plain.branch [
  | then-is_plain w ↦
      let k = plain_parts _ _ _ (sym c.is_plain.ensures ∙ w.if-is_plain.true) in
      let h : Plain c.args.self c.args.part.now c.add_part-added.new.line c.add_part-added.result.used =
      record { good = sym c.is_formed-formed.ensures ∙ k.0; going = k.1; adds = c.add_part-added.ensures.1 k.2 } in
      c.answered.ensures ∙ (λ i. fed (w.self-is i) (w.answer-is i))
      ∙ feed_goes c.args.self h.good h.going h.adds.goes c.args.part.now (state_of c.args.self) c.add_part-added.new.line c.args.self.queue
      (counted c.args.self.progress c.args.self.progress.number c.add_part-added.result.used)
      (h.adds.feeds (rules_by c.args.self) (known_by c.args.self) (state_of c.args.self) c.args.self.queue)
      h.adds.goes (h.adds.short (parts c.args.self h.good).counters.short) c.add_part-added.ensures.0 _ _ _
      w.tidy-self.ensures w.tidy_line-longer.ensures w.lengthen-self.ensures
  | else-is_plain w ↦ c.answered.ensures ∙ (λ i. fed (w.self-is i) (w.answer-is i)) ∙ w.feed_lines-fed.ensures
]
