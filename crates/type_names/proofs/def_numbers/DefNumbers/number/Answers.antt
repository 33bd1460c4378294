use Rattle.std.proofs.Common.{arith}
use Rattle.type_names.proofs.Firsts.{place_inside, place_small, place_number}
use Rattle.type_names.proofs.def_numbers.DefNumbers.number.Goals as goal

pub first-requires : goal.first-requires
first-requires c = place_inside c.args.self.now c.args.place c.in-InFile.file c.in-InFile.row 0 c.in-InFile.is c.requires

pub overflow_add-result : goal.overflow_add-result
overflow_add-result c =
    let small =
    place_small c.args.self.now c.args.place c.in-InFile.file c.in-InFile.row c.first.result c.in-InFile.is c.requires c.first.ensures.next_fits c.first.ensures.exact in
    omega arith

pub returns-in-InFile : goal.returns-in-InFile
returns-in-InFile c = place_number c.args.self.now c.args.place c.in-InFile.file c.in-InFile.row c.first.result c.in-InFile.is c.requires c.first.ensures.exact
