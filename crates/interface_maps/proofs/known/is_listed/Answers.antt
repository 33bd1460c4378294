use Rattle.interface_maps.proofs.KnownLemmas.{finds-tree}
use Rattle.interface_maps.proofs.known.is_listed.Goals as goal

pub returns : goal.returns
returns c = finds-tree c.args.pool.now c.each_once.ensures c.args.tree c.requires c.args.places.now c.has_place.result c.has_place.ensures
