use Rattle.interface_maps.proofs.PublicLemmas.{ok_then}
use Rattle.interface_maps.proofs.RowLemmas.{rows-one}
use Rattle.interface_maps.proofs.rows.add_row.Goals as goal

pub returns-clause-gains : goal.returns-clause-gains
returns-clause-gains c =
    ok_then c.note_row.result (λ adds. λ rows are. rows-one c.args.world.now c.args.def.0 c.args.pool.now c.from_tree.new.pool c.in_ok-owner.ensures.grows c.args.numbers.now c.note_row.new.numbers
    rows c.in_ok-owner.owner c.args.row.now c.in_ok-owner.ensures.spells adds are) c.note_row.ensures
