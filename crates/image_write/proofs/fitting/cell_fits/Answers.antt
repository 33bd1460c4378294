use Rattle.std.proofs.Common.{arith}
use Rattle.image_write.proofs.Powers.{pow_of_width}
use Rattle.image_write.proofs.fitting.cell_fits.Goals as goal

pub pow-requires : goal.pow-requires
pow-requires c = let small = pow_of_width c.from-else-is_rva.result (omega arith) in omega arith
