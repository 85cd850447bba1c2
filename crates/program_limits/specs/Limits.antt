-- Which limit is passed at a token that is refused by 12, where the last keyword before it, whether it stands in an expression and whether there are too
-- many ground numbers are known.
use Rattle.std.specs.Prelude.{Bool, cond, Option, Some, None}
use Rattle.text_tokens.specs.declared.tokens.Token.{Token}
use Rattle.text_tokens.specs.declared.tokens.Token.TheVariants as T
use Rattle.text_tokens.specs.declared.tokens.Word.{Word}
use Rattle.text_tokens.specs.declared.tokens.Word.TheVariants as W
use Rattle.program_limits.specs.declared.Limit.{Limit}
use Rattle.program_limits.specs.declared.Limit.TheVariants as L
use Rattle.program_limits.specs.declared.seen.Field.{Field}
use Rattle.program_limits.specs.declared.seen.Field.TheVariants as F

abbrev pub by_name : Field → Option Limit
by_name F.Types = Some L.Types
by_name F.Objects = Some L.Objects
by_name F.Predicates = Some L.Predicates
by_name F.Functions = Some L.Functions
by_name F.Action = Some L.Actions
by_name F.Condition = Some L.Conditions
by_name F.Effect = Some L.Effects
by_name F.Goal = Some L.GoalConditions
by_name F.Parameters = None
by_name F.Other = None

abbrev pub by_variable : Field → Option Limit
by_variable F.Predicates = Some L.PredicateArguments
by_variable F.Functions = Some L.FunctionArguments
by_variable F.Parameters = Some L.Parameters
by_variable F.Types = None
by_variable F.Objects = None
by_variable F.Action = None
by_variable F.Condition = None
by_variable F.Effect = None
by_variable F.Goal = None
by_variable F.Other = None

-- within an expression or not
abbrev pub by_head : Field → Bool → Option Limit
by_head f x = cond x (Some L.Expression) (by_name f)

abbrev pub by_sum : Bool → Limit
by_sum m = cond m L.Numbers L.Facts

abbrev pub by_word : Word → Field → Bool → Bool → Option Limit
by_word W.Keyword f x m = Some (by_sum m)
by_word W.Variable f x m = by_variable f
by_word W.Name f x m = by_head f x
by_word W.Operator f x m = by_head f x

-- 12 stands at a bracket only if too many are open, at a number only in an expression, at a keyword only for the two sums
abbrev pub limit_at : Token → Field → Bool → Bool → Option Limit
limit_at (T.Open p e) f x m = Some L.Brackets
limit_at (T.Number z p e) f x m = Some L.Expression
limit_at (T.Word w p e) f x m = by_word w f x m
limit_at (T.Close p e) f x m = None
limit_at (T.Mark b p e) f x m = None
limit_at (T.Refusal k p) f x m = None
limit_at (T.End p) f x m = None
