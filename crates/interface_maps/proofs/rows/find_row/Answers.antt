use Rattle.std.proofs.Common.{nat_eq, ap, ◌∙◌}
use Rattle.std.specs.HashMap.{get}
use Rattle.method_slots.specs.Chains.{flat}
use Rattle.interface_maps.proofs.RowLemmas.{finds-row}
use Rattle.interface_maps.proofs.rows.find_row.Goals as goal

pub returns : goal.returns
returns c = finds-row c.args.pool.now c.each_once.ensures c.args.numbers.now c.args.tree c.args.method c.noted.result c.requires c.pair_of.ensures.small
    (c.noted.ensures ∙ ap (λ k. flat (get nat_eq c.args.numbers.now k)) c.pair_of.ensures.is)
