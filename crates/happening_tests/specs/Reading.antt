-- What conditions read: the bits of all their facts and numbers; and, of one that was taken apart, the same and whether it reads a fact or number.
use Rattle.std.specs.Prelude.{ℕ, List, [], ◌∷◌, Bool, false, cond, ◌||◌, eqb}
use Rattle.std.specs.Int.Bits.{bit_or}
use Rattle.domain_meaning.specs.Conditions.{Cond, Conds, all, atom, same, compare, none, cons}
use Rattle.domain_prepared_meaning.specs.Decode.{expression_at}
use Rattle.happening_meaning.specs.State.{Grounds, fact_of}
use Rattle.happening_meaning.specs.Writes.{expr_reads}
use Rattle.happening_forms.specs.Summed.{summed}
use Rattle.happening_state.specs.Masks.{fact_bit}
use Rattle.happening_expressions.specs.Evaluated.{expr_mask}
use Rattle.happening_forms.specs.declared.Taken.{Taken}
use Rattle.happening_tests.specs.Taken.{second_side}
use Rattle.happening_tests.specs.declared.taken.Row.{Row}
use Rattle.happening_tests.specs.declared.taken.Row.TheVariants.{Fact, Same, Compare}

module _ (g : Grounds) (os : List ℕ) where
  unfoldable mutual
    pub cond_mask : Cond → ℕ
    cond_mask (all cs) = conds_mask cs
    cond_mask (atom yes' r) = fact_bit (fact_of g os r)
    cond_mask (same yes' a b) = 0
    cond_mask (compare yes' op a b) = bit_or (expr_mask g os a) (expr_mask g os b)

    pub conds_mask : Conds → ℕ
    conds_mask none = 0
    conds_mask (cons c cs) = bit_or (cond_mask c) (conds_mask cs)

  -- the bits of a list, after those of m
  unfoldable pub mask_from : ℕ → List Cond → ℕ
  mask_from m [] = m
  mask_from m (c ∷ cs) = mask_from (bit_or m (cond_mask c)) cs

  abbrev pub mask_of : List Cond → ℕ
  mask_of cs = mask_from 0 cs

-- ---- of a condition that was taken apart

abbrev pub masked : ℕ → ℕ → Taken ℕ
masked m n = record { what = m; next = n }

unfoldable pub row_masked : List ℕ → List ℕ → Row → Taken ℕ
row_masked rows os (Fact w i n) = masked (fact_bit i) n
row_masked rows os (Same h n) = masked 0 n
row_masked rows os (Compare w op e) =
    masked (bit_or (expr_mask summed os (expression_at rows e).tree) (expr_mask summed os (second_side rows e).tree))
    (second_side rows e).next

abbrev pub found : Bool → ℕ → Taken Bool
found b n = record { what = b; next = n }

-- number x if `numeric`, else fact x
abbrev pub fact_found : Bool → ℕ → ℕ → ℕ → Taken Bool
fact_found numeric x i n = found (cond numeric false (eqb i x)) n

abbrev pub sides_found : List ℕ → List ℕ → Bool → ℕ → ℕ → Taken Bool
sides_found rows os numeric x e =
    found (cond numeric (expr_reads summed os x (expression_at rows e).tree || expr_reads summed os x (second_side rows e).tree) false)
    (second_side rows e).next

unfoldable pub row_found : List ℕ → List ℕ → Bool → ℕ → Row → Taken Bool
row_found rows os numeric x (Fact w i n) = fact_found numeric x i n
row_found rows os numeric x (Same h n) = found false n
row_found rows os numeric x (Compare w op e) = sides_found rows os numeric x e
