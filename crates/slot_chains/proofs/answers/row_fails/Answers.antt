use Rattle.std.proofs.Common.{◌&&◌, ap, ◌∙◌}
use Rattle.std.specs.Prelude.{not}
use Rattle.type_pool.proofs.JobLemmas.{at_all-grown, below-grown}
use Rattle.method_slots.specs.Chains as chains
use Rattle.slot_chains.proofs.answers.row_fails.Goals as goal

pub row_fits-requires-clause-within : goal.row_fits-requires-clause-within
row_fits-requires-clause-within c = below-grown c.args.pool.now c.from_tree.new.pool c.in_ok-owner.ensures.grows c.args.types.now c.requires.types

pub returns-clause-fails : goal.returns-clause-fails
returns-clause-fails c =
    let w = c.args.world.now in
    let row = c.args.row.now in
    let same = at_all-grown c.args.pool.now c.from_tree.new.pool c.in_ok-owner.ensures.grows c.args.types.now c.requires.types in
    ap not (c.row_fits.ensures ∙ ap (λ l. chains.owns w c.args.id.0 row.body && chains.is_declared w l row) same)
