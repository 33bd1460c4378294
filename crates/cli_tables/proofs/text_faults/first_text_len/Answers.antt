use Rattle.std.proofs.Common.{sym, ◌∙◌, arith}
use Rattle.cli_tables.proofs.Characters.{no_front, one_byte}
use Rattle.cli_tables.proofs.text_faults.first_text_len.Goals as goal

pub returns-then-bytes-lt128 : goal.returns-then-bytes-lt128
returns-then-bytes-lt128 c = (omega arith, omega arith, one_byte c.args.bytes.now c.requires c.if-bytes-lt128.true)

pub returns-in-0 : goal.returns-in-0
returns-in-0 c = no_front c.args.bytes.now _ _ c.requires c.min-len.ensures (sym c.valid_up_to.ensures ∙ c.in-0.is) c.in-Err.ensures.cases.1
