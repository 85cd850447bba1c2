-- How a condition begins, by what the definition says is read there: the same heads for a condition and for what stands under `not`.
use Rattle.std.specs.Prelude.{◌≡◌, ℕ, zero, suc, ◌+◌, ◌-◌, ◌≤◌, ◌<◌, List, Bool, true, false, Result, Ok, Err}
use Rattle.text_words.specs.Fixed.{head_of}
use Rattle.text_tokens.specs.Runs.{part}
use Rattle.text_tokens.specs.declared.tokens.Token.{Token}
use Rattle.text_tokens.specs.declared.tokens.Word.{Word}
use Rattle.text_tokens.specs.declared.tokens.Word.TheVariants as W
use Rattle.domain_meaning.specs.Read.{◌>>=◌, Read, Reader, refused, refuse}
use Rattle.domain_meaning.specs.Due.{token, wrong, on_word, opening}
use Rattle.domain_meaning.specs.Terms.{Scope, Counted, on_name}
use Rattle.domain_meaning.specs.Conditions.{Comparison, equal, less, at_most, more, at_least, Cond, atom_at, comparison, equality, operated}
use Rattle.domain_due.specs.declared.Refusal.{Refusal}
use Rattle.domain_conditions.specs.declared.heads.ConditionHead.{ConditionHead}
use Rattle.domain_conditions.specs.declared.heads.ConditionHead.TheVariants as H

-- a comparison by its number
abbrev pub comparison_of : ℕ → Comparison
comparison_of zero = equal
comparison_of (suc zero) = less
comparison_of (suc (suc zero)) = at_most
comparison_of (suc (suc (suc zero))) = more
comparison_of (suc (suc (suc (suc k)))) = at_least

-- whether objects are compared: after `=`, which is 0, stands a word
abbrev pub objects_due : ℕ → Token → Bool
objects_due zero t = on_word t (λ j p e. true) false
objects_due (suc k) t = false

-- after a comparison's word; of `=` the first token decides
abbrev pub compared : List ℕ → ℕ → Scope → Bool → Comparison → ℕ → Reader (Counted Cond)
compared s d c yes' equal m = equality s d c yes' m
compared s d c yes' less m = comparison s d c yes' less m
compared s d c yes' at_most m = comparison s d c yes' at_most m
compared s d c yes' more m = comparison s d c yes' more m
compared s d c yes' at_least m = comparison s d c yes' at_least m

-- the rest by a head word from p to e, where f and g read after `and` and `not`
abbrev pub headed_by : List ℕ → ℕ → Scope → Bool → ℕ → (ℕ → ℕ → Reader (Counted Cond)) → (ℕ → ℕ → Reader (Counted Cond)) → Word → ℕ → ℕ → Reader (Counted Cond)
headed_by s d c yes' n f g W.Name p e = on_name (head_of (part s p e)) (f p e) (g p e) (atom_at s d c yes' n p e)
headed_by s d c yes' n f g W.Variable p e = refuse 3 p
headed_by s d c yes' n f g W.Keyword p e = refuse 3 p
headed_by s d c yes' n f g W.Operator p e = operated s d c yes' n (head_of (part s p e)) p

abbrev pub in_head : List ℕ → ℕ → Scope → Bool → ℕ → (ℕ → ℕ → Reader (Counted Cond)) → (ℕ → ℕ → Reader (Counted Cond)) → Reader (Counted Cond)
in_head s d c yes' n f g = do
  h ← token s
  on_word h (headed_by s d c yes' n f g) (wrong d h)

-- with its bracket, where d levels are left
abbrev pub in_bracket : List ℕ → ℕ → Scope → Bool → ℕ → (ℕ → ℕ → Reader (Counted Cond)) → (ℕ → ℕ → Reader (Counted Cond)) → Reader (Counted Cond)
in_bracket s d c yes' n f g = do
  _ ← opening s d
  in_head s (d - 1) c yes' n f g

-- what the reader of a beginning answers
abbrev pub Begun : Type 0
Begun = Result ConditionHead Refusal

-- what is read, by the head
unfoldable pub Begins : List ℕ → ℕ → Scope → Bool → ℕ → (ℕ → ℕ → Reader (Counted Cond)) → (ℕ → ℕ → Reader (Counted Cond))
    → Begun → Read (Counted Cond) → Type 0
Begins s d c yes' n f g (Ok (H.And p e)) x = x ≡ f p e e
Begins s d c yes' n f g (Ok (H.Not p e)) x = x ≡ g p e e
Begins s d c yes' n f g (Ok (H.Atom p e)) x = x ≡ atom_at s d c yes' n p e e
Begins s d c yes' n f g (Ok (H.Compared k e m)) x = x ≡ compared s d c yes' (comparison_of k) m e
Begins s d c yes' n f g (Err why) x = x ≡ refused why.0 why.1

-- a head word ends past `at`, and not past `most`; there are five comparisons
unfoldable pub Inside : ℕ → ℕ → Begun → Type 0
Inside at most (Ok (H.And p e)) = (at < e) × (e ≤ most)
Inside at most (Ok (H.Not p e)) = (at < e) × (e ≤ most)
Inside at most (Ok (H.Atom p e)) = (at < e) × (e ≤ most)
Inside at most (Ok (H.Compared k e m)) = (at < e) × (e ≤ most) × (k ≤ 4)
Inside at most (Err why) = Unit {0}

-- a bracket and its head word are two bytes at least, and take a level
unfoldable pub Placed : ℕ → ℕ → ℕ → Begun → Type 0
Placed at most d (Ok (H.And p e)) = (at + 2 ≤ e) × (e ≤ most) × (0 < d)
Placed at most d (Ok (H.Not p e)) = (at + 2 ≤ e) × (e ≤ most) × (0 < d)
Placed at most d (Ok (H.Atom p e)) = (at + 2 ≤ e) × (e ≤ most) × (0 < d)
Placed at most d (Ok (H.Compared k e m)) = (at + 2 ≤ e) × (e ≤ most) × (0 < d) × (k ≤ 4)
Placed at most d (Err why) = Unit {0}
