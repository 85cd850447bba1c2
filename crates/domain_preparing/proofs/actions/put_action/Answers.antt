use mathlib.Core.List.{[]}
use Rattle.domain_meaning.specs.Tables.{entry}
use Rattle.domain_preparing.proofs.Acting.{action_stored, acted_length}
use Rattle.domain_forms.proofs.Storing.{stored_length}
use native.Mathlib.Omega.{arith}
use Rattle.domain_preparing.proofs.actions.put_action.Goals as goal

pub put_effects-e-requires : goal.put_effects-e-requires
put_effects-e-requires c = (c.requires.0, omega (arith, c.requires.1, stored_length _ _ c.put_lasts-a.ensures.0, stored_length _ _ c.put_tests-b.ensures.0, stored_length _ _ c.put_tests-c.ensures.0, stored_length _ _ c.put_tests-d.ensures.0), omega (arith, c.requires.4, c.put_lasts-a.ensures.1, c.put_tests-b.ensures.1, c.put_tests-c.ensures.1, c.put_tests-d.ensures.1))

pub put_effects-f-requires : goal.put_effects-f-requires
put_effects-f-requires c = (c.requires.0, omega (arith, c.requires.1, stored_length _ _ c.put_lasts-a.ensures.0, stored_length _ _ c.put_tests-b.ensures.0, stored_length _ _ c.put_tests-c.ensures.0, stored_length _ _ c.put_tests-d.ensures.0, stored_length _ _ c.put_effects-e.ensures.0), omega (arith, c.requires.4, c.put_lasts-a.ensures.1, c.put_tests-b.ensures.1, c.put_tests-c.ensures.1, c.put_tests-d.ensures.1, c.put_effects-e.ensures.1))

pub overflow_mul-j-4 : goal.overflow_mul-j-4
overflow_mul-j-4 c = omega (arith, c.requires.2)

pub overflow_add-j-3 : goal.overflow_add-j-3
overflow_add-j-3 c = omega (arith, c.requires.2)

pub put_places-requires : goal.put_places-requires
put_places-requires c = omega (arith, c.requires.2)

pub shape_of-rows : goal.shape_of-rows
shape_of-rows c = acted_length _ _ _ (action_stored _ _ _ c.args.code.now c.args.starts.now _ c.place-p.ensures c.place-q.ensures c.place-r.ensures c.args.rows.now _ c.put_lasts-a.ensures.0 c.put_tests-b.ensures.0 c.put_tests-c.ensures.0 c.put_tests-d.ensures.0 c.put_effects-e.ensures.0 c.put_effects-f.ensures.0 c.put_places.ensures (omega (arith, c.requires.2, c.requires.3)) (entry [] []))

pub returns : goal.returns
returns c = (action_stored _ _ _ c.args.code.now c.args.starts.now _ c.place-p.ensures c.place-q.ensures c.place-r.ensures c.args.rows.now _ c.put_lasts-a.ensures.0 c.put_tests-b.ensures.0 c.put_tests-c.ensures.0 c.put_tests-d.ensures.0 c.put_effects-e.ensures.0 c.put_effects-f.ensures.0 c.put_places.ensures (omega (arith, c.requires.2, c.requires.3)), omega (arith, c.put_lasts-a.ensures.1, c.put_tests-b.ensures.1, c.put_tests-c.ensures.1, c.put_tests-d.ensures.1, c.put_effects-e.ensures.1, c.put_effects-f.ensures.1))
