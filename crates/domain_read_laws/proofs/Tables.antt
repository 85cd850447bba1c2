-- A table that is read fits its rows: no more names than there is room for, each of at most 32 bytes, with the numbers that its rows give back.
-- Assumes nothing.
use mathlib.Core.Path.{refl}
use mathlib.Core.List.{List, [], ◌∷◌, ◌++◌, map}
use mathlib.Core.Bool.{true, false}
use Prim.Native.Nat.{ℕ, zero, suc, ◌+◌, ◌≤◌, ◌<◌}
use native.Mathlib.Omega.{arith}
use lib.ListN.{length, length-append, length-map}
use Rattle.text_words.specs.Bytes.{bytes}
use Rattle.domain_meaning.specs.Tables.{Entry, entry, name_of, Table, type_of, wanted_of, with_type, retype}
use Rattle.domain_meaning.specs.Lists.{names_to, types_to, signature}
use Rattle.domain_meaning.specs.Domain.{only_object, begins_with, types_section, constants_section, declared_section}
use Rattle.domain_meaning.proofs.Given.{Gives, reads, behind, given_also, opened_gives}
use Rattle.domain_meaning.proofs.Tables.{typed_keeps, names_keep, retype_length, section_keeps}
use Rattle.domain_rows.specs.Held.{Short}
use Rattle.domain_terms.specs.Scoped.{AllSigned}
use Rattle.domain_terms.proofs.Signing.{signed_signature, signed_more}
use Rattle.domain_stored_meaning.specs.Entries.{Typed, AllTyped}
use Rattle.domain_stored_meaning.specs.Good.{AllFew}

-- K of the numbers that are kept with the names
pub record Fit (K : Table → Type 0) (most : ℕ) (t : Table) : Type 0 where
  pub few : length t ≤ most
  pub short : Short t
  pub kept : K t

-- ---- one name more

short_join : (t : Table) (e : Entry) → Short t → length (name_of e) ≤ 32 → Short (t ++ e ∷ [])
short_join [] e h k = (k, tt)
short_join (x ∷ t) e h k = (h.0, short_join t e h.1 k)

pub fit_more : (K : Table → Type 0) (most : ℕ) (t : Table) (e : Entry) → length t < most → length (name_of e) ≤ 32 → K (t ++ e ∷ []) → Fit K most t
    → Fit K most (t ++ e ∷ [])
fit_more K most t e h k g f = record { few = omega (arith, length-append t (e ∷ [])); short = short_join t e f.short k; kept = g }

typed_join : (t : Table) (e : Entry) → AllTyped t → Typed e → AllTyped (t ++ e ∷ [])
unfolding AllTyped
typed_join [] e h k = (k, tt)
typed_join (x ∷ t) e h k = (h.0, typed_join t e h.1 k)

few_join : (most : ℕ) (t : Table) (e : Entry) → AllFew most t → length (wanted_of e) ≤ most → AllFew most (t ++ e ∷ [])
unfolding AllFew
few_join most [] e h k = (k, tt)
few_join most (x ∷ t) e h k = (h.0, few_join most t e h.1 k)

-- ---- a group that is typed

short_all : (k : ℕ) (t : Table) → Short t → Short (map (with_type k) t)
short_all k [] h = tt
short_all k (e ∷ t) h = (h.0, short_all k t h.1)

typed_all : (k : ℕ) (t : Table) → AllTyped t → AllTyped (map (with_type k) t)
unfolding AllTyped
typed_all k [] h = tt
typed_all k (e ∷ t) h = (record { type = k; is = rw h.0.is }, typed_all k t h.1)

retype_short : (g k : ℕ) (t : Table) → Short t → Short (retype g k t)
unfolding retype
retype_short zero k t h = short_all k t h
retype_short (suc g) k [] h = tt
retype_short (suc g) k (e ∷ t) h = (h.0, retype_short g k t h.1)

retype_typed : (g k : ℕ) (t : Table) → AllTyped t → AllTyped (retype g k t)
unfolding retype AllTyped
retype_typed zero k t h = typed_all k t h
retype_typed (suc g) k [] h = tt
retype_typed (suc g) k (e ∷ t) h = (h.0, retype_typed g k t h.1)

module _ (most : ℕ) where
  again : (g k : ℕ) (t : Table) → Fit AllTyped most t → Fit AllTyped most (retype g k t)
  again g k t f = record { few = rw (retype_length g k t) f.few; short = retype_short g k t f.short; kept = retype_typed g k t f.kept }

  more : (t : Table) (w : List ℕ) → length t < most → length w ≤ 32 → Fit AllTyped most t → Fit AllTyped most (t ++ entry w (0 ∷ []) ∷ [])
  more t w h k f = fit_more AllTyped most t (entry w (0 ∷ [])) h k (typed_join t (entry w (0 ∷ [])) f.kept (record { type = 0; is = refl })) f

-- ---- types and constants, with one number each

none_typed : {most : ℕ} → Fit AllTyped most []
unfolding AllTyped
none_typed = record { few = omega arith; short = tt; kept = tt }

object_typed : Fit AllTyped 17 only_object
unfolding AllTyped bytes
object_typed =
    record { few = let z : 1 ≤ 17 = omega arith in z; short = (let z : 6 ≤ 32 = omega arith in z, tt); kept = (record { type = 0; is = refl }, tt) }

module _ (s : List ℕ) where
  -- after those of a table, none of which goes
  pub names_fit : (ts t : Table) (at : ℕ) → Fit AllTyped 64 t → Gives (λ u. Fit AllTyped 64 u × (length t ≤ length u)) (names_to s ts 64 t at)
  names_fit ts t at h =
      names_keep (λ u. Fit AllTyped 64 u × (length t ≤ length u)) 64 (λ g k u v. (again 64 g k u v.0, rw (retype_length g k u) v.1))
      (λ u w r l v. (more 64 u w r l v.0, omega (arith, v.1, length-append u (entry w (0 ∷ []) ∷ [])))) s ts t at (h, omega arith)

  types_fit : (at : ℕ) → Gives (Fit AllTyped 17) (types_to s at)
  unfolding types_to
  types_fit at =
      given_also (typed_keeps (Fit AllTyped 17) 17 (again 17) (more 17) s false true [] (length s + 1) only_object 1 at at (omega arith) object_typed)
      (λ t n k. k.good)

  pub types_section_fits : (at : ℕ) → Gives (Fit AllTyped 17) (types_section s at)
  unfolding types_section
  types_section_fits at = behind (begins_with s (bytes ":types") at) _ (λ o n. opened_gives o _ _ n (λ p. types_fit n) (reads object_typed))

  pub constants_fit : (ts : Table) (at : ℕ) → Gives (Fit AllTyped 64) (constants_section s ts at)
  unfolding constants_section
  constants_fit ts at =
      behind (begins_with s (bytes ":constants") at) _
      (λ o n. opened_gives o _ _ n (λ p. given_also (names_fit ts [] n none_typed) (λ u m k. k.0)) (reads none_typed))

-- ---- predicates and functions, with how many arguments, at most so many, and their types

pub record Declared (args : ℕ) (t : Table) : Type 0 where
  pub signed : AllSigned t
  pub few : AllFew args t

-- a section of them
module _ (s w : List ℕ) (ts : Table) (max args : ℕ) (four : args ≤ 4) where
  signature_more : (t : Table) (v : List ℕ) (vs : Table) → length t < max → length v ≤ 32 → length vs ≤ args → Fit (Declared args) max t
      → Fit (Declared args) max (t ++ signature v vs ∷ [])
  signature_more t v vs h k l f =
      fit_more (Declared args) max t (signature v vs) h k
      (record {
        signed = signed_more t (signature v vs) f.kept.signed (signed_signature v vs (omega arith));
        few = few_join args t (signature v vs) f.kept.few (omega (arith, length-map vs type_of));
      }) f

  pub declared_section_fits : (at : ℕ) → Gives (Fit (Declared args) max) (declared_section s w ts max args at)
  unfolding AllFew
  declared_section_fits at =
      section_keeps (Fit (Declared args) max) s ts max args signature_more w at
      (record { few = omega arith; short = tt; kept = record { signed = tt; few = tt } })
