use Rattle.interface_maps.proofs.walk.+map_of.Given as goal

abbrev pub decreases-map_of : goal.decreases-map_of
decreases-map_of l = l.room
