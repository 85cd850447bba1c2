-- What a function answers of the next thing of a list, by what the definition says is read.
use Rattle.std.specs.Prelude.{◌+◌, Bool, cond, Result, Ok, Err}
use Rattle.domain_meaning.specs.Read.{Read, got, refused}
use Rattle.domain_meaning.specs.Lists as G
use Rattle.domain_due.specs.declared.Refusal.{Refusal}
use Rattle.domain_due.specs.Answers.{at}
use Rattle.domain_typed_lists.specs.declared.items.Item.{Item}
use Rattle.domain_typed_lists.specs.declared.items.Item.TheVariants.{Close, Dash, Name}

-- a name begins where it stands, that of a variable (`var`) after its mark
abbrev pub item_for : Bool → Read G.Item → Result Item Refusal
item_for var (got G.closes n) = Ok (Close n)
item_for var (got (G.dash p) n) = Ok (Dash p n)
item_for var (got (G.names p w) n) = Ok (Name p (cond var (p + 1) p) n)
item_for var (refused k p) = Err (at k p)
