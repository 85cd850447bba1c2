-- First indexes laid one after the other over zeros: 32, 16, and the number of objects; and told apart again. Assumes nothing.
use mathlib.Core.Path.{◌≡◌, refl, sym, ap, ◌∙◌}
use mathlib.Core.List.{List, [], ◌∷◌, ◌++◌, append_assoc}
use mathlib.Core.Bool.{true}
use Prim.Native.Nat.{ℕ, zero, suc, ◌+◌, ◌≤◌, ◌<◌}
use native.Mathlib.Omega.{arith}
use lib.ListN.{length, set, get_or, take, drop, length-append}
use lib.Seq.{sets, length-sets, take_at, drop_at, set_at, get_or_at}
use Rattle.base_laws.proofs.Sets.{sets_behind}
use Rattle.domain_meaning.specs.Tables.{Table}
use Rattle.domain_meaning.specs.Terms.{Scope}
use Rattle.domain_meaning.specs.Problem.{sums_fit}
use Rattle.domain_meaning.specs.Indexes.{sum_of, bases_of, padded}
use Rattle.domain_rows.proofs.Rows.{length_padded}
use Rattle.domain_terms.specs.Scoped.{Scoped, Signatures}
use Rattle.domain_terms.specs.declared.scope.Counts.{Counts}
use Rattle.domain_indexes.specs.Firsts.{firsts_of}
use Rattle.domain_indexes.proofs.Sums.{length_bases}
use Rattle.domain_read_laws.proofs.Sums.{sums_fit_lem}
use Rattle.domain_load.specs.Load.{zeros, predicate_firsts, function_firsts}
use Rattle.domain_rows.specs.Layout.{predicates_at, functions_at, variables_at}

-- zeros are left where nothing was stored
filled : (m : ℕ) (q w : List ℕ) → length w ≤ m → w ++ drop (length w) (zeros m ++ q) ≡ padded m w ++ q
unfolding padded
filled zero q [] h = refl
filled (suc m) q [] h = ap (λ (l : List ℕ). 0 ∷ l) (filled m q [] (omega arith))
filled zero q (b ∷ bs) h = absurd (let z : ⊥ = omega arith in z)
filled (suc m) q (b ∷ bs) h = ap (λ (l : List ℕ). b ∷ l) (filled m q bs (omega arith))

pub firsts_laid : (n : ℕ) (ps fs : Table) → length ps ≤ 32 → length fs ≤ 16
    → set (sets (sets (zeros 49) 0 (bases_of n ps)) 32 (bases_of n fs)) 48 n ≡ firsts_of n ps fs
firsts_laid n ps fs h k =
    let bs = bases_of n ps in
    let cs = bases_of n fs in
    let hb : length bs ≤ 32 = rw (length_bases n 0 ps) h in
    let hc : length cs ≤ 16 = rw (length_bases n 0 fs) k in
    let lp : length (padded 32 bs) ≡ 32 = length_padded 32 bs in
    let lq : length (padded 16 cs) ≡ 16 = length_padded 16 cs in
    ap (λ (l : List ℕ). set (sets l 32 cs) 48 n) (sets_behind [] (zeros 49) bs 0 refl (omega arith) ∙ filled 32 (zeros 17) bs hb)
    ∙ ap (λ (l : List ℕ). set l 48 n) (sets_behind (padded 32 bs) (zeros 17) cs 32 lp (omega arith)
    ∙ ap (λ (l : List ℕ). padded 32 bs ++ l) (filled 16 (zeros 1) cs hc) ∙ sym (append_assoc (padded 32 bs) (padded 16 cs) (zeros 1)))
    ∙ set_at (padded 32 bs ++ padded 16 cs) 0 [] n 48 (let z : length (padded 32 bs ++ padded 16 cs) ≡ 48 =
    omega (arith, length-append (padded 32 bs) (padded 16 cs)) in z)
    ∙ append_assoc (padded 32 bs) (padded 16 cs) (n ∷ [])

-- ---- and told apart again

module _ (n : ℕ) (ps fs : Table) where
  pub predicates_in_lem : take 32 (firsts_of n ps fs) ≡ predicate_firsts n ps
  predicates_in_lem = take_at (predicate_firsts n ps) (function_firsts n fs ++ n ∷ []) 32 (length_padded 32 (bases_of n ps))

  pub functions_in_lem : take 16 (drop 32 (firsts_of n ps fs)) ≡ function_firsts n fs
  functions_in_lem =
      ap (λ (l : List ℕ). take 16 l) (drop_at (predicate_firsts n ps) (function_firsts n fs ++ n ∷ []) 32 (length_padded 32 (bases_of n ps)))
      ∙ take_at (function_firsts n fs) (n ∷ []) 16 (length_padded 16 (bases_of n fs))

  pub count_in_lem : get_or (firsts_of n ps fs) 48 0 ≡ n
  count_in_lem =
      let long : length (predicate_firsts n ps ++ function_firsts n fs) ≡ 48 = omega (
        arith,
        length-append (predicate_firsts n ps) (function_firsts n fs),
        length_padded 32 (bases_of n ps),
        length_padded 16 (bases_of n fs),
      ) in
      ap (λ (l : List ℕ). get_or l 48 0) (sym (append_assoc (predicate_firsts n ps) (function_firsts n fs) (n ∷ [])))
      ∙ get_or_at (predicate_firsts n ps ++ function_firsts n fs) n [] 0 48 long

-- there is room for those of the functions
pub room : (n : ℕ) (ps : Table) (count : ℕ) → count ≤ 16 → 32 + count ≤ length (sets (zeros 49) 0 (bases_of n ps))
room n ps count h = let e : length (sets (zeros 49) 0 (bases_of n ps)) ≡ 49 = length-sets (zeros 49) 0 (bases_of n ps) in omega arith

-- ---- the tables of a scope whose sums are within their limits: no first index needs more than 16 bits

module _ (tables : List ℕ) (n : Counts) (c : Scope) (h : Scoped tables n c) (fit : sums_fit c ≡ true) where
  pub facts_low : (s : Signatures tables predicates_at n.predicates) × (sum_of n.objects s.table < 65536)
  facts_low = (
    record {
      rows = 32;
      to = functions_at;
      table = c.predicates;
      holds = h.predicates;
      signed = h.facts;
      few = omega (arith, h.predicates.fits);
      near =
          omega arith;
    },
    rw h.objects.count (omega (arith, (sums_fit_lem c fit).0)),
  )

  pub numbers_low : (s : Signatures tables functions_at n.functions) × (sum_of n.objects s.table < 65536)
  numbers_low = (
    record {
      rows = 16;
      to = variables_at;
      table = c.functions;
      holds = h.functions;
      signed = h.numbers;
      few = omega (arith, h.functions.fits);
      near =
          omega arith;
    },
    rw h.objects.count (omega (arith, (sums_fit_lem c fit).1)),
  )
