use Rattle.std.proofs.Common.{◌<◌, length, arith}
use Rattle.cli_tables.specs.Schema.{columns}
use Rattle.type_members.proofs.signature_trees.spec_type.Goals as goal

has_signature : 0 < length (columns 0x1B)
unfolding columns
has_signature = omega arith

pub spec_sig-requires : goal.spec_sig-requires
spec_sig-requires c = record { first = omega arith; last = omega arith; column = has_signature }
