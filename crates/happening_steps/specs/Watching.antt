-- What step 5 looks at: the bits of all that the `over all` conditions of a step read.
use Rattle.std.specs.Prelude.{ℕ}
use Rattle.domain_meaning.specs.Actions.{whole}
use Rattle.happening_meaning.specs.State.{Grounds}
use Rattle.happening_meaning.specs.Happening.{Step, parts_for}
use Rattle.happening_tests.specs.Reading.{mask_of}

unfoldable pub watching : Grounds → Step → ℕ
watching g x = mask_of g x.objects (parts_for whole x.conditions)
