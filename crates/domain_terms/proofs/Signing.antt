-- What declarations give keeps how many arguments there are, and their types: so a scope's tables are signed. Assumes nothing.
use mathlib.Core.Path.{sym, ap}
use mathlib.Core.List.{List, [], ◌∷◌, ◌++◌, map}
use Prim.Native.Nat.{ℕ, ◌≤◌}
use native.Mathlib.Omega.{arith}
use lib.ListN.{length, length-map}
use Rattle.domain_meaning.specs.Tables.{Entry, Table, type_of}
use Rattle.domain_meaning.specs.Lists.{signature}
use Rattle.domain_meaning.specs.Domain.{declared_section}
use Rattle.domain_meaning.proofs.Given.{Gives}
use Rattle.domain_meaning.proofs.Tables.{section_keeps}
use Rattle.domain_terms.specs.Scoped.{Signed, AllSigned}

pub signed_signature : (w : List ℕ) (vs : Table) → length vs ≤ 4 → Signed (signature w vs)
signed_signature w vs h = record {
  wanted = map type_of vs;
  is = ap (λ (k : ℕ). k ∷ map type_of vs) (sym (length-map vs type_of));
  few = omega (arith, h, length-map vs type_of);
}

pub signed_more : (t : Table) (e : Entry) → AllSigned t → Signed e → AllSigned (t ++ e ∷ [])
signed_more [] e h k = (k, tt)
signed_more (x ∷ t) e h k = (h.0, signed_more t e h.1 k)

pub section_signed : (s w : List ℕ) (ts : Table) (max most at : ℕ) → most ≤ 4 → Gives AllSigned (declared_section s w ts max most at)
section_signed s w ts max most at few =
    section_keeps AllSigned s ts max most (λ t v vs r b l h. signed_more t (signature v vs) h (signed_signature v vs (omega arith))) w at tt
