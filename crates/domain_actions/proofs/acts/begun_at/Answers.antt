use Prim.Native.Nat.{◌-◌}
use Rattle.text_words.specs.Bytes.{bytes}
use Rattle.domain_preamble.proofs.Missing.{is_missing, is_there}
use Rattle.domain_preamble.proofs.Missing as missing
use Rattle.domain_actions.proofs.Titling.{begins_simple, begins_durative, begins_neither, further_by, further_not, further_at}
use Rattle.domain_actions.proofs.acts.begun_at.Goals as goal

pub returns-in-Some : goal.returns-in-Some
unfolding bytes
returns-in-Some c = let w = missing.further_at _ _ _ _ _ c.in-Some.is c.begins_at-simple.ensures.1 in (λ k x as'. begins_simple _ x as' k _ _ _ (is_there _ (bytes ":action") _ _ c.begins_at-simple.ensures.0 _ _ c.in-Some.is), further_by _ _ _ _ w.0 w.1)

pub returns-in-Some-durative : goal.returns-in-Some-durative
unfolding bytes
returns-in-Some-durative c = let w = missing.further_at _ _ _ _ _ c.in-Some-durative.is c.begins_at-durative.ensures.1 in (λ k x as'. begins_durative _ x as' k _ _ _ (is_missing _ (bytes ":action") _ _ c.begins_at-simple.ensures.0 c.in_default.is) (is_there _ (bytes ":durative-action") _ _ c.begins_at-durative.ensures.0 _ _ c.in-Some-durative.is), further_by _ _ _ _ w.0 w.1)

pub returns : goal.returns
unfolding bytes
returns c = (λ k x as'. begins_neither _ x as' k _ (is_missing _ (bytes ":action") _ _ c.begins_at-simple.ensures.0 c.in_default.is) (is_missing _ (bytes ":durative-action") _ _ c.begins_at-durative.ensures.0 c.in_default-durative.is), further_not _ _)
