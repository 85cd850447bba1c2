-- What an argument is, the size of parts that one gives, and what all arguments ask for.
use Rattle.std.specs.Prelude.{ℕ, ◌+◌, ◌-◌, ◌*◌, List, [], ◌∷◌, cond, ◌||◌, length, eqb, ltb, Option, Some, None}
use Rattle.std.specs.Option.{is_some, option_and_then}
use Prim.Native.Char.{code}
use Rattle.text_words.specs.Bytes.{bytes}
use Rattle.text_words.specs.Spelling.{same_word}
use Rattle.text_tokens.specs.Classes.{begun_by}
use Rattle.program_arguments.specs.declared.arguments.Argument.{Argument}
use Rattle.program_arguments.specs.declared.arguments.Argument.TheVariants as A
use Rattle.program_arguments.specs.declared.arguments.Given.{Given}
use Rattle.program_arguments.specs.declared.arguments.Options.{Options}

-- letters compare without case, as in the texts
unfoldable pub option_of : List ℕ → Argument
option_of w =
    cond (same_word (bytes "--state") w) A.State
    (cond (same_word (bytes "--names") w) A.Names
    (cond (same_word (bytes "--quiet") w) A.Quiet
    (cond (same_word (bytes "--part") w) A.Part
    (cond (same_word (bytes "--answer-on-3") w) A.AnswerOn3
    (cond (same_word (bytes "--") w) A.End
    A.Unknown)))))

-- what begins with a minus is an option, but for the minus alone
unfoldable pub argument_of : List ℕ → Argument
argument_of w = cond (begun_by (code "-") w) (cond (eqb (length w) 1) A.File (option_of w)) A.File

-- the number that digits write, n of it so far; 0 if a byte is no digit, or if the number passes 65,536
unfoldable pub size_from : ℕ → List ℕ → ℕ
size_from n [] = n
size_from n (b ∷ w) =
    cond (ltb b (code "0")) 0
    (cond (ltb (code "9") b) 0
    (cond (ltb 65536 (n * 10 + (b - 48))) 0
    (size_from (n * 10 + (b - 48)) w)))

-- the size of parts that an argument gives, if it gives one
unfoldable pub size_in : List ℕ → Option ℕ
size_in w = cond (eqb (size_from 0 w) 0) None (Some (size_from 0 w))

-- what is asked for: nothing, if an option is unknown, a file is too many, a size is missing or wrong, or fewer than three files are given
unfoldable pub right : Given → Option Options
right g =
    cond (is_some g.unknown || (is_some g.extra || g.expects)) None
    (option_and_then
    (λ size. option_and_then
    (λ d. option_and_then
    (λ p. option_and_then
    (λ n. Some (record {
      state = g.state;
      names = g.names;
      quiet = g.quiet;
      answer_on_3 = g.answer_on_3;
      part = size;
      domain = d;
      problem = p;
      plan = n;
    }))
    g.plan) g.problem) g.domain) g.part)
