use Rattle.std.proofs.Common.{◌≡◌, ℕ, ◌+◌, ◌-◌, Bool, eqb, ap, sym, ◌∙◌, Iter, tests, rules, arith, drop, length-drop, length-take-le}
use Rattle.std.proofs.lemmas.Iterator.{YieldsList-from_slice}
use Rattle.std.proofs.lemmas.Iterator.Consumers.{count_from_yields_List}
use Rattle.std.proofs.lemmas.Iterator.Search.{YieldsList-from_take_while}
use Rattle.std.proofs.lemmas.List.Folds.{length-prefix_len}
use Rattle.std.proofs.lemmas.List.Sums.{prefix_len-le-length}
use Rattle.plan_ordering.specs.Keys.{time_of, keys_in}
use Rattle.plan_ordering.proofs.Ways.{front_prefix}
use Rattle.plan_ordering.proofs.front_of.Goals as goal

pub returns : goal.returns
returns c = let a = c.args in
    let all : a.begin + a.n - a.begin ≡ a.n = omega arith in
    let keys = keys_in a.words.now a.begin a.n in
    let same : ℕ → Bool = λ x. eqb (time_of x) a.t in
    let n = count_from_yields_List c.take_while.result _ c.count.ensures.ran (YieldsList-from_take_while _ same (YieldsList-from_slice keys (rw all at (ap (λ (s : Iter ℕ). s.rest.now) c.take_while.ensures.source ∙ c.iter.ensures.rest))) c.take_while.ensures.closure c.take_while.ensures.done (λ x b q k. search (rules, tests))) ∙ length-prefix_len same keys in
    (n ∙ sym (front_prefix time_of a.t keys), omega (arith, n, prefix_len-le-length same keys, length-take-le a.n (drop a.begin a.words.now) (simp length-drop (omega (arith, c.requires.sized, c.requires.within)))))
