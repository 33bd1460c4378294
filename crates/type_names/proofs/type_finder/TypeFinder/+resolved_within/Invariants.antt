use Rattle.type_names.proofs.type_finder.TypeFinder.+resolved_within.Given as goal

abbrev pub decreases-resolved_within : goal.decreases-resolved_within
decreases-resolved_within l = l.most
