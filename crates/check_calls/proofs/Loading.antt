-- The ways through load: what each gives is what the contract says. Assumes nothing.
use mathlib.Core.Path.{◌≡◌, refl, sym, ap, ◌∙◌}
use mathlib.Core.List.{List, [], ◌∷◌}
use Prim.Native.Nat.{ℕ}
use types.Run.{OneOf, miss}
use denote.Enum.Declared.{tag_of}
use Rattle.domain_load.specs.Load.{load_of}
use Rattle.domain_load.specs.declared.Loaded.{Loaded}
use Rattle.domain_load.specs.declared.LoadAnswer.{LoadAnswer}
use Rattle.domain_load.specs.declared.LoadAnswer.TheVariants as Is
use Rattle.domain_load.specs.contracts.LoadAnswer as answer-type
use Rattle.check_calls.specs.declared.Check.{Check}
use Rattle.check_calls.specs.Calls.{check_for, opened_by, open_of}

abbrev pub Refusing : LoadAnswer → Type 0
Refusing v = OneOf (1 ∷ 2 ∷ []) (tag_of answer-type.the_type v)

unloaded : (l : Loaded) (a : LoadAnswer) → Refusing a → (x : Check) → x ≡ check_for l 0 → record { check = x; answer = a } ≡ opened_by a l
unloaded l Is.Loaded h x e = absurd (miss (1 ∷ 2 ∷ []) 0 tt h)
unloaded l (Is.Domain k p) h x e = ap (λ (y : Check). record { check = y; answer = Is.Domain k p }) e
unloaded l (Is.Problem k p) h x e = ap (λ (y : Check). record { check = y; answer = Is.Problem k p }) e

module _ (s t : List ℕ) where
  opened_by_lem : (l : Loaded) → l ≡ load_of s t → (a : LoadAnswer) → l.answer ≡ a → (x : Check) → record { check = x; answer = a } ≡ opened_by a l
      → record { check = x; answer = l.answer } ≡ open_of s t
  unfolding open_of
  opened_by_lem l e a h x g =
      ap (λ (v : LoadAnswer). record { check = x; answer = v }) h ∙ g ∙ sym (ap (λ (v : LoadAnswer). opened_by v l) h)
      ∙ ap (λ (k : Loaded). opened_by k.answer k) e

  pub opened_loaded : (l : Loaded) → l ≡ load_of s t → l.answer ≡ Is.Loaded → (x : Check) → x ≡ check_for l 1
      → record { check = x; answer = l.answer } ≡ open_of s t
  opened_loaded l e h x j = opened_by_lem l e Is.Loaded h x (ap (λ (y : Check). record { check = y; answer = Is.Loaded }) j)

  pub opened_refused : (l : Loaded) → l ≡ load_of s t → Refusing l.answer → (x : Check) → x ≡ check_for l 0
      → record { check = x; answer = l.answer } ≡ open_of s t
  opened_refused l e h x j = opened_by_lem l e l.answer refl x (unloaded l l.answer h x j)
