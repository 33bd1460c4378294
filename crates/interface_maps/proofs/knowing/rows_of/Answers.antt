use Rattle.std.proofs.Common.{[], subst}
use Rattle.slot_chains.proofs.NoteLemmas.{numbers-noted}
use Rattle.interface_maps.specs.Rows.{AreRows}
use Rattle.interface_maps.proofs.MapLemmas.{no-rows}
use Rattle.interface_maps.proofs.knowing.rows_of.Goals as goal

pub add_rows-requires-clause-noted : goal.add_rows-requires-clause-noted
add_rows-requires-clause-noted c = numbers-noted c.args.world.now c.args.pool.now c.args.slots.now c.requires.slots

pub returns-clause-rows : goal.returns-clause-rows
returns-clause-rows c =
    let w = c.args.world.now in
    let n = c.args.id.0 in
    let us = c.add_rows.new.pool in
    let none = no-rows w n c.args.pool.now c.new-numbers.result c.new-numbers.ensures.empty in
    subst (AreRows w n us c.add_rows.new.numbers) c.as_slice-rows.ensures (c.in_ok-add_rows.ensures.gains [] none)
