use Rattle.type_tree.specs.declared.definition.Def.{Def}
use Rattle.type_pool.proofs.JobLemmas.{grows_trans, spell_all-grown}
use Rattle.method_slots.proofs.VirtualLemmas.{opens_refl}
use Rattle.interface_maps.specs.Choices.{publics}
use Rattle.interface_maps.proofs.KnownLemmas.{publics-grown}
use Rattle.interface_maps.proofs.MapLemmas.{rows-grown, slots-grown}
use Rattle.interface_maps.proofs.knowing.known_of.Goals as goal

pub rows_of-requires-clause-slots : goal.rows_of-requires-clause-slots
rows_of-requires-clause-slots c = slots-grown c.args.pool.now c.publics_of.new.pool c.in_ok-publics.ensures.grows c.args.world.now c.args.slots.now c.requires.base.notes

pub returns-clause-known : goal.returns-clause-known
returns-clause-known c =
    let w = c.args.world.now in
    let n = c.args.id.0 in
    let d : Def = c.args.def.now in
    let p0 = c.args.pool.now in
    let p1 = c.publics_of.new.pool in
    let p2 = c.rows_of.new.pool in
    let p3 = c.own_places.new.pool in
    let os = c.publics_of.new.set in
    let g1 = c.in_ok-publics.ensures.grows in
    let g2 = c.in_ok-rows.ensures.grows in
    let g3 = c.in_ok-own.ensures.grows in
    let own = c.in_ok-own.ensures.places in
    let above = c.requires.above in
    record {
      publics = publics-grown p1 p3 os os (grows_trans p1 p2 p3 g2 g3) (opens_refl os) c.in_ok-publics.publics (publics w n) c.in_ok-publics.ensures.publics;
      rows = rows-grown p2 p3 g3 w n c.in_ok-rows.rows d.impls c.in_ok-rows.ensures.rows;
      trees = c.args.trees.now;
      places = c.in_ok-places.ensures;
      parents = record { interfaces = spell_all-grown p0 p3 (grows_trans p0 p1 p3 g1 (grows_trans p1 p2 p3 g2 g3)) c.args.trees.now _ above.interfaces; choices = above.choices };
      declared = own.ids;
      owned = own.firsts;
      spelled = own.spelled;
    }
