use Rattle.std.proofs.Common.{◌+◌, ◌-◌, ◌≤◌, None, ◌∙◌, drop, arith}
use Rattle.std.proofs.lemmas.List.{length-take}
use Rattle.cli_tables.proofs.Faults.{as_behind, bad_here}
use Rattle.cli_tables.proofs.text_faults.fault_before.Goals as goal

pub returns-in-None : goal.returns-in-None
returns-in-None c = bad_here c.args.heap.now c.args.at c.args.zero c.requires.zero c.in-None.ensures

pub returns-in-Some : goal.returns-in-Some
returns-in-Some c =
    let (some, fits, text) = c.in-Some.ensures in
    let short : c.in-Some.len ≤ c.args.zero - c.args.at = omega (arith, fits, length-take (c.args.zero - c.args.at) (drop c.args.at c.args.heap.now)) in
    c.requires.known (c.args.at + c.in-Some.len) None (omega (arith, some)) (omega (arith, short, c.requires.before, c.requires.within))
    ∙ as_behind c.args.heap.now c.args.at c.in-Some.len c.args.zero c.requires.zero short fits (omega arith) text
