use Rattle.std.proofs.Common.{rules, FitsSigned}
use Rattle.cil_ops.specs.Number.{width_of, integer_of}
use Rattle.cil_ops.proofs.Causes.{overflow_where}
use Rattle.cil_ops.proofs.computing.binary.Goals as goal

pub returns-in-I4-I4-clause-overflow : goal.returns-in-I4-I4-clause-overflow
returns-in-I4-I4-clause-overflow c =
    let range : FitsSigned (width_of c.args.a) (integer_of c.args.a) = search rules in
    overflow_where c.args.op c.args.a c.args.b c.map.result range (search rules)

pub returns-in-I8-I8-clause-overflow : goal.returns-in-I8-I8-clause-overflow
returns-in-I8-I8-clause-overflow c =
    let range : FitsSigned (width_of c.args.a) (integer_of c.args.a) = search rules in
    overflow_where c.args.op c.args.a c.args.b c.map-in-I8-I8.result range (search rules)
