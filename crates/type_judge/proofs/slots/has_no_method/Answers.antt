use Rattle.std.proofs.Common.{◌≡◌, Some, ap, ◌∙◌, sym}
use Rattle.clr_base.specs.declared.ids.DefId.{DefId}
use Rattle.type_pool.specs.Trees.{at}
use Rattle.key_faults.specs.Definitions.{def_in}
use Rattle.key_faults.proofs.Telling.{exists_in, of_some}
use Rattle.type_judge.specs.Table.{slot_fault, is_no_method}
use Rattle.type_judge.proofs.slots.has_no_method.Goals as goal

pub slot_fault-requires-clause-def : goal.slot_fault-requires-clause-def
slot_fault-requires-clause-def c = exists_in c.args.world.now (at c.args.pool.now c.args.id) c.in-Some.def (sym c.def_in.ensures ∙ c.in-Some.is)

pub returns-in_ok-slot_fault-in-Some-clause-is : goal.returns-in_ok-slot_fault-in-Some-clause-is
returns-in_ok-slot_fault-in-Some-clause-is c =
    let w = c.args.world.now in let t = at c.args.pool.now c.args.id in let d = c.in-Some.def in
    let is : def_in w t ≡ Some d = sym c.def_in.ensures ∙ c.in-Some.is in
    c.is_no_method.ensures ∙ (ap is_no_method c.in_ok-slot_fault-in-Some.ensures.fault ∙ of_some w (λ (e : DefId). is_no_method (slot_fault w e)) t d is)
