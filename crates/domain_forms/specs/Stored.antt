-- What the writers of forms and numbers promise: bytes stored one after the other. A store past the end of the rows stores nothing, so none asks for
-- room in them.
use Rattle.std.specs.Prelude.{◌≡◌, ℕ, ◌+◌, ◌*◌, List, [], ◌∷◌, Bool, cond, length, get_or, take, drop}
use Rattle.std.proofs.lemmas.List.Edits.{sets}
use Rattle.domain_meaning.specs.Terms.{Arg, object, variable, Ref}
use Rattle.domain_prepared_meaning.specs.Rows.{form_bytes}

-- bytes were stored from `used` on, and u is the first place after them
pub record Stored (rows : List ℕ) (used : ℕ) (bytes rows' : List ℕ) (u : ℕ) : Type 0 where
  pub are : rows' ≡ sets rows used bytes
  pub free : u ≡ used + length bytes

-- ---- the numbers by which references become forms: 32 first indexes of predicates, 16 of functions, the number of objects

abbrev pub count_in : List ℕ → ℕ
count_in firsts = get_or firsts 48 0

abbrev pub predicates_in : List ℕ → List ℕ
predicates_in firsts = take 32 firsts

abbrev pub functions_in : List ℕ → List ℕ
functions_in firsts = take 16 (drop 32 firsts)

abbrev pub firsts_in : Bool → List ℕ → List ℕ
firsts_in numeric firsts = cond numeric (functions_in firsts) (predicates_in firsts)

abbrev pub form_in : List ℕ → ℕ → Bool → Ref → List ℕ
form_in firsts tag numeric r = form_bytes (count_in firsts) (predicates_in firsts) (functions_in firsts) tag (firsts_in numeric firsts) r

-- ---- an argument of a reference: what it adds to the base, and its byte if it is a parameter, with m arguments after it

abbrev pub fixed_of : Arg → ℕ
fixed_of (object i) = i
fixed_of (variable i) = 0

abbrev pub share_of : ℕ → Arg → List ℕ
share_of m (object i) = []
share_of m (variable i) = (i + 4 * m) ∷ []
