use Rattle.interface_maps.proofs.MapLemmas.{maps-grown, slots-grown}
use Rattle.interface_maps.proofs.verdicts.places_of.Goals as goal

pub map_of-requires-clause-noted : goal.map_of-requires-clause-noted
map_of-requires-clause-noted c = record { place = c.in_ok-at.at; here = c.in_ok-at.ensures.found }

pub map_of-requires-clause-maps : goal.map_of-requires-clause-maps
map_of-requires-clause-maps c = maps-grown c.args.pool.now c.level_of.new.pool c.in_ok-at.ensures.grows c.args.world.now c.args.maps.now c.requires.maps

pub returns-clause-slots : goal.returns-clause-slots
returns-clause-slots c = slots-grown c.level_of.new.pool c.map_of.new.pool c.in_ok-place.ensures.grows c.args.world.now c.level_of.new.notes c.in_ok-at.ensures.notes
