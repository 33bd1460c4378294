use Rattle.interface_lists.proofs.lists.+list_within.Given as goal

abbrev pub decreases-list_within : goal.decreases-list_within
decreases-list_within l = l.room
