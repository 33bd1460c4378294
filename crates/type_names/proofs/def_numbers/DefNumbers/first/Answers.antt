use Rattle.std.proofs.Common.{ℕ, ◌+◌, ◌<◌, ◌≤◌, List, get_or, length, ap, ◌∙◌, subst, arith}
use Rattle.cli_tables.specs.Metadata.{Metadata}
use Rattle.type_names.specs.Resolution.{first_def}
use Rattle.type_names.proofs.Firsts.{first_inside, first_read}
use Rattle.type_names.proofs.def_numbers.DefNumbers.first.Goals as goal

pub bounds-firsts-file : goal.bounds-firsts-file
bounds-firsts-file c =
    let within : c.args.file ≤ length c.self.inside.files.now = omega (arith, ap length c.self.view_is) in
    let inside = first_inside c.self.inside.files.now c.self.inside.firsts c.self.invariant c.args.file within in
    omega (arith, inside, ap length c.as_slice-firsts.ensures)

pub returns-clause-exact : goal.returns-clause-exact
returns-clause-exact c =
    let within : c.args.file ≤ length c.self.inside.files.now = omega (arith, ap length c.self.view_is) in
    ap (λ (xs : List ℕ). get_or xs c.args.file 0) c.as_slice-firsts.ensures
    ∙ first_read c.self.inside.files.now c.self.inside.firsts c.self.invariant c.args.file 0 within
    ∙ ap (λ (files : List Metadata). first_def files c.args.file) c.self.view_is

pub returns-clause-next_fits : goal.returns-clause-next_fits
returns-clause-next_fits c =
    let within : c.args.file + 1 < length c.self.inside.files.now + 1 = omega (arith, ap length c.self.view_is) in
    subst (λ (files : List Metadata). first_def files (c.args.file + 1) < 4294967296) c.self.view_is (c.self.invariant.small (c.args.file + 1) within)
