-- The index of a fact or number as a linear form: a base in which the constants are folded, and a stride for each argument that is a parameter.
use Rattle.std.specs.Prelude.{ℕ, ◌+◌, ◌*◌, ◌^◌, List, [], ◌∷◌, ◌++◌, length, get_or, replicate}
use Rattle.domain_meaning.specs.Terms.{Arg, object, variable, Ref}

-- a parameter, and what one more of its object adds to the index
pub record Share : Type 0 where
  pub param : ℕ
  pub stride : ℕ

abbrev pub share : ℕ → ℕ → Share
share i m = record { param = i; stride = m }

pub record Form : Type 0 where
  pub base : ℕ
  pub shares : List Share

abbrev pub form : ℕ → List Share → Form
form b ss = record { base = b; shares = ss }

-- os being the objects of the step
unfoldable pub shares_in : List ℕ → List Share → ℕ
shares_in os [] = 0
shares_in os (s ∷ ss) = s.stride * get_or os s.param 0 + shares_in os ss

unfoldable pub index_by : Form → List ℕ → ℕ
index_by f os = f.base + shares_in os f.shares

-- ---- the form of a reference, with n objects: the weight of an argument is n to the power of how many come after it

unfoldable pub folded : ℕ → List Arg → ℕ
folded n [] = 0
folded n (object i ∷ as') = i * n ^ length as' + folded n as'
folded n (variable i ∷ as') = folded n as'

unfoldable pub shares_of : ℕ → List Arg → List Share
shares_of n [] = []
shares_of n (object i ∷ as') = shares_of n as'
shares_of n (variable i ∷ as') = share i (n ^ length as') ∷ shares_of n as'

-- firsts are the first indexes of predicates, or of functions
unfoldable pub form_of : ℕ → List ℕ → Ref → Form
form_of n firsts r = form (get_or firsts r.head 0 + folded n r.args) (shares_of n r.args)

-- ---- a form as a reference: where one object is counted, the digits of a reference are added up

unfoldable pub repeated : List Share → List Arg
repeated [] = []
repeated (s ∷ ss) = replicate s.stride (variable s.param) ++ repeated ss

unfoldable pub ref_by : Form → Ref
ref_by f = record { head = 0; args = object f.base ∷ repeated f.shares }
