use Rattle.image_rows.proofs.Bits.{noted_too}
use Rattle.image_rows.proofs.bit_notes.set_bit.Goals as goal

pub returns : goal.returns
returns c = λ other. noted_too c.args.noted.now c.args.number other c.requires
