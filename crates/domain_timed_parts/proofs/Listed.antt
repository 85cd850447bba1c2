-- Parts, one after the other: what is read of the rest, from here, is read of the whole. Assumes nothing.
use mathlib.Core.Path.{◌≡◌, refl, sym, ap, ◌∙◌}
use mathlib.Core.List.{List, [], ◌∷◌, ◌++◌, append_assoc}
use mathlib.Core.Bool.{Bool}
use Prim.Native.Nat.{ℕ, suc, ◌+◌, ◌-◌, ◌≤◌, ◌<◌}
use native.Mathlib.Omega.{arith}
use native.Mathlib.Nat.{add-zero}
use lib.ListN.{length, length-append}
use lib.Seq.{sets}
use types.Run.{OneOf}
use denote.Enum.Declared.{tag_of}
use Rattle.base_laws.proofs.Sets.{sets_append}
use Rattle.text_tokens.specs.Tokens.{token_at}
use Rattle.text_tokens.specs.declared.tokens.Token.{Token}
use Rattle.text_tokens.specs.declared.tokens.Token.TheVariants as T
use Rattle.text_tokens.specs.contracts.tokens.Token as token-type
use Rattle.domain_meaning.specs.Read.{Read, Reader, got, refused, and_then}
use Rattle.domain_meaning.specs.Due.{closing}
use Rattle.domain_meaning.specs.Terms.{Counted, counts}
use Rattle.domain_meaning.specs.Actions.{Timed, part_at, parts_to}
use Rattle.domain_due.proofs.Dues.{not_close}
use Rattle.domain_expressions.specs.Codes.{Written}
use Rattle.domain_expressions.specs.Codes.{Progress}
use Rattle.domain_expressions.specs.Codes.{Done, Refused}
use Rattle.domain_expressions.proofs.Ends.{written_refused}
use Rattle.domain_expressions.proofs.Operands.{written_got, written_not}
use Rattle.domain_stored_meaning.specs.Cells.{when_cell}
use Rattle.domain_timed_parts.specs.Bodies.{timed_cells}

timed_append : (xs ys : List (Timed (List ℕ))) → timed_cells (xs ++ ys) ≡ timed_cells xs ++ timed_cells ys
unfolding timed_cells
timed_append [] ys = refl
timed_append (x ∷ xs) ys =
    ap (λ (t : List ℕ). when_cell x.when ∷ (x.what ++ t)) (timed_append xs ys)
    ∙ ap (λ (t : List ℕ). when_cell x.when ∷ t) (sym (append_assoc x.what (timed_cells xs) (timed_cells ys)))

-- one part's cells and those of the rest
joined : (code : List ℕ) (u : ℕ) (x : Counted (List (Timed (List ℕ)))) (v : ℕ) (m₁ : List ℕ) (r : Progress) (m : List ℕ)
    (y : Read (Counted (List (Timed (List ℕ)))))
    → v ≡ u + length (timed_cells x.tree) → m₁ ≡ sets code u (timed_cells x.tree) → Written timed_cells m₁ v r m y
    → Written timed_cells code u r m (and_then y (λ xs n. got (counts (x.tree ++ xs.tree) xs.left) n))
unfolding Written
joined code u x v m₁ r m (got xs n) free stored h =
    let cells = timed_cells x.tree in
    let rest = timed_cells xs.tree in
    let long : v + length rest ≡ u + length (cells ++ rest) = omega (arith, free, length-append cells rest) in
    rw (timed_append x.tree xs.tree) (
      h.0 ∙ rw long refl,
      h.1 ∙ ap (λ (l : List ℕ). sets l v rest) stored
          ∙ ap (λ (k : ℕ). sets (sets code u cells) k rest) free ∙ sets_append code u cells rest,
    )
joined code u x v m₁ r m (refused k p) free stored h = h

-- a closing bracket: no part more
last : (s : List ℕ) (over : Bool) (f : ℕ → ℕ → Reader (Counted (List ℕ))) (d n at : ℕ) (code : List ℕ) (u p next : ℕ) → token_at s at ≡ T.Close p next → (j : ℕ)
    → Written timed_cells code u (Done next u n) code (parts_to s over f (suc j) d n at)
unfolding parts_to Written closing timed_cells
last s over f d n at code u p next q j = rw (q, q) (rw (add-zero u) refl, refl)

module _ (s : List ℕ) (over : Bool) (f : ℕ → ℕ → Reader (Counted (List ℕ))) (d : ℕ) (k n₀ from : ℕ) (code₀ : List ℕ) (u₀ : ℕ) where
  -- the rest, from `at` on
  pub record Onward (n at : ℕ) (code : List ℕ) (u : ℕ) : Type 0 where
    pub fuel : ℕ
    pub enough : length s - at < fuel
    pub on : (r : Progress) (m : List ℕ) → Written timed_cells code u r m (parts_to s over f fuel d n at)
        → Written timed_cells code₀ u₀ r m (parts_to s over f k d n₀ from)

  pub onward_start : length s - from < k → Onward n₀ from code₀ u₀
  onward_start h = record { fuel = k; enough = h; on = λ r m w. w }

  module _ (n at : ℕ) (code : List ℕ) (u : ℕ) (o : Onward n at code u) where
    more : o.fuel ≡ suc (o.fuel - 1)
    more = omega (arith, o.enough)

    pub onward_close : (p next : ℕ) → token_at s at ≡ T.Close p next → Written timed_cells code₀ u₀ (Done next u n) code (parts_to s over f k d n₀ from)
    onward_close p next q = o.on (Done next u n) code (rw more (last s over f d n at code u p next q (o.fuel - 1)))

    module _ (t : Token) (e : t ≡ token_at s at) (h : OneOf (0 ∷ 1 ∷ 2 ∷ 4 ∷ 5 ∷ 6 ∷ []) (tag_of token-type.the_type t)) (r : Progress) (m : List ℕ)
        (w : Written timed_cells code u r m (part_at s over f d n at)) where
      step : (j : ℕ) → parts_to s over f (suc j) d n at
          ≡ and_then (part_at s over f d n at) (λ x b. and_then (parts_to s over f j d x.left b) (λ xs a. got (counts (x.tree ++ xs.tree) xs.left) a))
      unfolding parts_to
      step j = rw (← e) (ap (λ (g : Reader (Counted (List (Timed (List ℕ))))). g at) (not_close t _ _ h))

      pub onward_refused : (j p : ℕ) → r ≡ Refused j p → Written timed_cells code₀ u₀ r m (parts_to s over f k d n₀ from)
      onward_refused j p i =
          o.on r m (rw more (rw (step (o.fuel - 1), written_not timed_cells code u r m (part_at s over f d n at) j p w i)
          (written_refused timed_cells code u r m _ j p refl i)))

      pub onward_more : (a v l : ℕ) → r ≡ Done a v l → at < a → a ≤ length s → Onward l a m v
      onward_more a v l i lo hi =
          let g = written_got timed_cells code u r m (part_at s over f d n at) a v l w i in
          record {
            fuel = o.fuel - 1;
            enough = omega (arith, o.enough);
            on = λ r₂ m₂ w₂.
                o.on r₂ m₂
                (rw more
                (rw (step (o.fuel - 1), g.is)
                (joined code u g.tree v m r₂ m₂ (parts_to s over f (o.fuel - 1) d g.tree.left a) g.free g.stored (rw g.left at w₂))));
          }
