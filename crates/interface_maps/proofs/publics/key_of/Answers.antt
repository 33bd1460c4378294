use Rattle.std.proofs.Common.{ap₂, ◌∙◌}
use Rattle.std.proofs.lemmas.Result.{IfOk-weaker}
use Rattle.type_pool.proofs.JobLemmas.{at_all-grown, below-grown}
use Rattle.method_slots.specs.Opens.{put_open}
use Rattle.interface_maps.proofs.publics.key_of.Goals as goal

pub put_in-requires-clause-types_in : goal.put_in-requires-clause-types_in
put_in-requires-clause-types_in c = below-grown c.args.pool.now c.open_method.new.pool c.in_ok-signature.ensures.grows c.args.types.now c.requires

pub returns-clause-named : goal.returns-clause-named
returns-clause-named c =
    let types = at_all-grown c.args.pool.now c.open_method.new.pool c.in_ok-signature.ensures.grows c.args.types.now c.requires in
    let is = ap₂ put_open types c.in_ok-signature.ensures.spells.are in
    let s = c.in_ok-put.ensures.spells in
    IfOk-weaker c.intern.result _ _ (λ key here. record { node = c.in_ok-put.put; here = here; spells = record { within = s.within; are = s.are ∙ is } }) c.intern.ensures.named
