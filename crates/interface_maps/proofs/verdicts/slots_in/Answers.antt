use Rattle.std.proofs.Common.{length, ap, arith}
use Rattle.std.proofs.lemmas.Option.{slice_get_within}
use Rattle.type_pool.proofs.JobLemmas.{on_ok}
use Rattle.interface_maps.proofs.MapLemmas.{map-read, maps-grown, slots-grown}
use Rattle.interface_maps.proofs.verdicts.slots_in.Goals as goal

pub bounds-as_slice-place : goal.bounds-as_slice-place
bounds-as_slice-place c =
    let made = c.in_ok-at.ensures in
    let found = made.maps c.args.id.0 c.in_ok-at.place made.found.map in
    let inside = slice_get_within c.places_of.new.maps.levels c.in_ok-at.place found.level found.here in
    let same = ap length c.as_slice.ensures in
    omega (arith, inside, same)

pub slots_with-requires-clause-map : goal.slots_with-requires-clause-map
slots_with-requires-clause-map c =
    let made = c.in_ok-at.ensures in
    map-read c.args.world.now c.places_of.new.pool c.places_of.new.maps.levels c.args.id.0 c.in_ok-at.place (made.maps c.args.id.0 c.in_ok-at.place made.found.map) c.as_slice.result.now c.as_slice.ensures
    c.index-as_slice-place.result c.index-as_slice-place.is

pub returns-clause-slots : goal.returns-clause-slots
returns-clause-slots c =
    on_ok c.slots_with.result (slots-grown c.places_of.new.pool c.slots_with.new.pool c.slots_with.ensures.grows c.args.world.now c.places_of.new.slots c.in_ok-at.ensures.slots)

pub returns-clause-maps : goal.returns-clause-maps
returns-clause-maps c =
    on_ok c.slots_with.result (maps-grown c.places_of.new.pool c.slots_with.new.pool c.slots_with.ensures.grows c.args.world.now c.places_of.new.maps c.in_ok-at.ensures.maps)
