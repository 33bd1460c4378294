use Rattle.std.proofs.Common.{ap, map, subst}
use Rattle.std.proofs.lemmas.Result.{IfOk-weaker}
use Rattle.type_tree.specs.declared.definition.Def.{Def}
use Rattle.type_tree.specs.declared.tree.Ty.{Ty}
use Rattle.type_pool.proofs.JobLemmas.{at_all-grown, below-grown}
use Rattle.interface_maps.specs.Choices.{Answered, answered}
use Rattle.interface_maps.specs.Found.{AreFound}
use Rattle.interface_maps.specs.Maps.{above_of, own_of}
use Rattle.interface_maps.proofs.walk.answer_list.Goals as goal

pub answer_all-requires-clause-list : goal.answer_all-requires-clause-list
answer_all-requires-clause-list c = below-grown c.args.pool.now c.known_of.new.pool c.in_ok-known.ensures.grows c.args.list.now c.requires.list

pub returns-clause-found : goal.returns-clause-found
returns-clause-found c =
    let w = c.args.world.now in
    let d : Def = c.args.def.now in
    let f : Ty → Answered = answered w c.args.id.0 d (own_of w d) (above_of w d) in
    let same = at_all-grown c.args.pool.now c.known_of.new.pool c.in_ok-known.ensures.grows c.args.list.now c.requires.list in
    IfOk-weaker c.answer_all.result _ _ (λ fs found. subst (AreFound c.answer_all.new.pool fs) (ap (map f) same) found) c.answer_all.ensures.found
