use Rattle.std.proofs.lemmas.Option.{slice_get_within}
use Rattle.type_names.proofs.FileRows.{file_names_after, file_settled}
use Rattle.type_names.proofs.world_names.file_names.Goals as goal

pub first-requires : goal.first-requires
first-requires c = slice_get_within c.args.defs.now c.args.file c.args.tables.now c.requires.file

pub returns-clause-names : goal.returns-clause-names
returns-clause-names c =
    file_names_after c.args.defs.now c.args.file c.args.tables.now c.args.names.now c.number_defs.new.names c.targets.new.names c.number_column.new.names
    c.number_column-2.new.names c.in_ok-def_names.ensures.names c.in_ok-refs.ensures.names c.in_ok-fields.ensures.names c.in_ok-methods.ensures.names

pub returns-clause-rows : goal.returns-clause-rows
returns-clause-rows c =
    file_settled c.args.defs.now c.args.file c.args.tables.now c.number_defs.new.names c.targets.new.names c.number_column.new.names
    c.number_column-2.new.names c.in_ok-refs.ensures.names c.in_ok-fields.ensures.names c.in_ok-methods.ensures.names
    _ _ _ _ _ _ c.first.ensures.exact c.row_count.ensures.exact
    c.in_ok-def_names.ensures.numbers c.in_ok-refs.ensures.targets c.in_ok-fields.ensures.numbers c.in_ok-methods.ensures.numbers
