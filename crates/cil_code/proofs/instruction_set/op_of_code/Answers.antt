use Rattle.std.proofs.Common.{◌∙◌, sym}
use Rattle.cil_code.proofs.Table.{row_of_one, row_between, row_of_two}
use Rattle.cil_code.proofs.instruction_set.op_of_code.Goals as goal

pub returns-then-code-lt256 : goal.returns-then-code-lt256
returns-then-code-lt256 c = c.op_at.ensures ∙ sym (row_of_one c.args.code c.if-code-lt256.true)

pub returns-then-code-lt65024 : goal.returns-then-code-lt65024
returns-then-code-lt65024 c = sym (row_between c.args.code c.if-code-lt256.false c.if-code-lt65024.true)

pub returns-else-code-lt65024 : goal.returns-else-code-lt65024
returns-else-code-lt65024 c = c.op_at-else-code-lt65024.ensures ∙ sym (row_of_two c.args.code c.if-code-lt65024.false)
