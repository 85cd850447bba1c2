-- The ways through an action's name and its parameters. Assumes nothing.
use mathlib.Core.Path.{◌≡◌, ap, ◌∙◌}
use mathlib.Core.List.{List, [], ◌∷◌, ◌++◌}
use Prim.Native.Nat.{ℕ, ◌+◌, ◌≤◌, ◌<◌}
use native.Mathlib.Omega.{arith}
use lib.ListN.{length, take, length-map}
use Rattle.text_words.specs.Bytes.{bytes}
use Rattle.text_tokens.specs.Runs.{part}
use Rattle.domain_meaning.specs.Read.{Read, got, refused, and_then, give}
use Rattle.domain_meaning.specs.Due.{opening, word_due, new_name}
use Rattle.domain_meaning.specs.Tables.{Table, entry, type_of, fresh}
use Rattle.domain_meaning.specs.Lists.{variables_to}
use Rattle.domain_meaning.specs.Terms.{Scope}
use Rattle.domain_due.specs.Answers.{Parsed}
use Rattle.domain_due.specs.Answers.{Done, Refused}
use Rattle.domain_due.proofs.Dues.{Named}
use Rattle.domain_rows.specs.Held.{Holds}
use Rattle.domain_typed_lists.proofs.Going.{fresh_stays}
use Rattle.domain_typed_lists.proofs.Declaring.{Signs}
use Rattle.domain_terms.specs.declared.scope.Counts.{Counts}
use Rattle.domain_actions.specs.Titles.{Title, title_of, Owned, Titled, Beyond}

-- all is read but the parameters, which begin at i: the name is that from v to a
pub record Opened (s : List ℕ) (c : Scope) (t : Table) (at v a i : ℕ) : Type 0 where
  pub is : title_of s c t at ≡ and_then (variables_to s c.types 4 i) (λ vs. give (record { word = part s v a; variables = vs }))

module _ (s : List ℕ) (c : Scope) (t : Table) (at : ℕ) where
  pub title_none : (k p : ℕ) → new_name s 14 at ≡ refused k p → title_of s c t at ≡ refused k p
  unfolding title_of
  title_none k p e = simp e

  module _ (v a : ℕ) (q : Named s v a (new_name s 14 at)) where
    pub title_known : (k p : ℕ) → fresh 32 t v (part s v a) a ≡ refused k p → title_of s c t at ≡ refused k p
    unfolding title_of
    title_known k p f = simp (q.is, f)

    module _ (u b : ℕ) (f : fresh 32 t v (part s v a) a ≡ got u b) where
      new : fresh 32 t v (part s v a) a ≡ got u a
      new = f ∙ ap (λ (j : ℕ). got u j) (fresh_stays 32 t v (part s v a) a u b f)

      pub title_no_word : (k p : ℕ) → word_due s 14 (bytes ":parameters") a ≡ refused k p → title_of s c t at ≡ refused k p
      unfolding title_of
      title_no_word k p e = simp (q.is, new, e)

      module _ (w e : ℕ) (g : word_due s 14 (bytes ":parameters") a ≡ got w e) where
        pub title_no_bracket : (k p : ℕ) → opening s 14 e ≡ refused k p → title_of s c t at ≡ refused k p
        unfolding title_of
        title_no_bracket k p h = simp (q.is, new, g, h)

        pub title_opened : (o i : ℕ) → opening s 14 e ≡ got o i → Opened s c t at v a i
        unfolding title_of
        title_opened o i h = record { is = simp (q.is, new, g, h) }

-- ---- what is answered

pub titled_refused : (c : Scope) (counts : Counts) (n : ℕ) (t : Table) (r : Parsed) (rows own : List ℕ) (k p : ℕ) (x : Read Title)
    → x ≡ refused k p → r ≡ Refused k p → Titled c counts n t r rows own x
unfolding Titled
titled_refused c counts n t r rows own k p x e h = rw e h

pub opened_refused : (s : List ℕ) (c : Scope) (t : Table) (at v a i : ℕ) → Opened s c t at v a i → (k p : ℕ) → variables_to s c.types 4 i ≡ refused k p
    → title_of s c t at ≡ refused k p
opened_refused s c t at v a i o k p e = o.is ∙ simp e

pub titled_done : (s : List ℕ) (c : Scope) (t : Table) (at v a i : ℕ) → Opened s c t at v a i
    → (counts : Counts) (n m k : ℕ) (info rows own : List ℕ) → Signs 4 info m k (variables_to s c.types 4 i)
    → Owned c counts own (variables_to s c.types 4 i)
    → n < 32 → Holds 32 rows (n + 1) (t ++ entry (part s v a) (take (k + 1) info) ∷ []) → Titled c counts n t (Done m k) rows own (title_of s c t at)
unfolding Titled Owned
titled_done s c t at v a i o counts n m k info rows own y w l h =
    let many : k ≡ length y.table = omega (arith, ap length y.numbers, y.long, length-map y.table type_of) in
    rw (o.is, y.is)
    (record { answer = ap (λ (j : ℕ). Done m j) many; room = l; rows = rw y.numbers at h; own = rw y.is at w })

pub beyond_refused : (n at k p : ℕ) (r : Parsed) → r ≡ Refused k p → Beyond n at r
unfolding Beyond
beyond_refused n at k p r e = rw e tt

pub beyond_done : (n at a v : ℕ) → at + 4 ≤ a → a ≤ n → Beyond n at (Done a v)
unfolding Beyond
beyond_done n at a v lo hi = (lo, hi)
