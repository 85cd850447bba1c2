-- The line of a load, by its answer. Assumes nothing.
use Prim.Native.Nat.{ℕ}
use mathlib.Core.List.{List}
use mathlib.Core.Path.{◌≡◌, sym, ap, ◌∙◌}
use Rattle.text_words.specs.Bytes.{bytes}
use Rattle.domain_load.specs.declared.LoadAnswer.{LoadAnswer}
use Rattle.domain_load.specs.declared.LoadAnswer.TheVariants as Is
use Rattle.check_wording.specs.Wording.{refusal_line}
use Rattle.check_calls.specs.declared.Answer.{Answer}
use Rattle.check_calls.specs.declared.Answer.TheVariants as A
use Rattle.check_calls.specs.Calls.{writing_line, line_of}

module _ (a : LoadAnswer) (out : List ℕ) where
  pub line_loaded : a ≡ Is.Loaded → (A.Early, out) ≡ line_of a out
  unfolding line_of
  line_loaded e = ap (λ (v : LoadAnswer). line_of v out) (sym e)

  module _ (k p : ℕ) (x : Answer × List ℕ) where
    pub line_domain : a ≡ Is.Domain k p → x ≡ writing_line (refusal_line (bytes "domain") k p 0) out → x ≡ line_of a out
    unfolding line_of
    line_domain e h = h ∙ ap (λ (v : LoadAnswer). line_of v out) (sym e)

    pub line_problem : a ≡ Is.Problem k p → x ≡ writing_line (refusal_line (bytes "problem") k p 0) out → x ≡ line_of a out
    unfolding line_of
    line_problem e h = h ∙ ap (λ (v : LoadAnswer). line_of v out) (sym e)
