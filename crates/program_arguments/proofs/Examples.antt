-- What arguments are, and sizes of parts.
use mathlib.Core.Path.{◌≡◌, refl}
use mathlib.Core.List.{[], ◌∷◌}
use Rattle.std.specs.Prelude.{Some, None}
use Rattle.text_words.specs.Bytes.{bytes, lower_of}
use Rattle.text_words.specs.Spelling.{same_word}
use Rattle.program_arguments.specs.Arguments.{option_of, argument_of, size_from, size_in}
use Rattle.program_arguments.specs.declared.arguments.Argument.TheVariants.{State, Names, Quiet, Part, AnswerOn3, End, File, Unknown}

arguments : argument_of (bytes "--state") ∷ argument_of (bytes "--names") ∷ argument_of (bytes "--quiet") ∷ argument_of (bytes "--part")
    ∷ argument_of (bytes "--answer-on-3") ∷ argument_of (bytes "--") ∷ argument_of (bytes "a.plan") ∷ argument_of (bytes "-") ∷ argument_of [] ∷ argument_of (bytes "--stat")
    ∷ argument_of (bytes "-q") ∷ argument_of (bytes "---") ∷ []
    ≡ State ∷ Names ∷ Quiet ∷ Part ∷ AnswerOn3 ∷ End ∷ File ∷ File ∷ File ∷ Unknown ∷ Unknown ∷ Unknown ∷ []
unfolding bytes lower_of same_word option_of argument_of
arguments = refl

sizes : size_from 0 (bytes "1") ∷ size_from 0 (bytes "64") ∷ size_from 0 (bytes "65536") ∷ size_from 0 (bytes "65537")
    ∷ size_from 0 (bytes "0") ∷ size_from 0 (bytes "12x") ∷ size_from 0 (bytes "-1") ∷ size_from 0 [] ∷ []
    ≡ 1 ∷ 64 ∷ 65536 ∷ 0 ∷ 0 ∷ 0 ∷ 0 ∷ 0 ∷ []
unfolding bytes size_from
sizes = refl

given : size_in (bytes "64") ∷ size_in (bytes "0") ∷ size_in (bytes "65537") ∷ size_in (bytes "12x") ∷ [] ≡ Some 64 ∷ None ∷ None ∷ None ∷ []
unfolding bytes size_from size_in
given = refl
