use Rattle.std.proofs.Common.{◌≡◌, ◌<◌, ◌^◌}
use Rattle.image_write.specs.Drafts.{mask_below}
use Rattle.image_write.proofs.rows.valid_mask.Given as goal

abbrev pub invariant-loop-t : goal.invariant-loop-t
invariant-loop-t l = record { so_far : l.mask ≡ mask_below l.draft l.t; small : l.mask < 2 ^ l.t }
