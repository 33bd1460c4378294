use Rattle.type_names.specs.Numbering.{column_texts}
use Rattle.type_names.proofs.TextNumbers.{extends_by, extends_on, named_on, numbers_new, numbers_on}
use Rattle.type_names.proofs.type_texts.file_texts.Goals as goal

pub returns-clause-extends : goal.returns-clause-extends
returns-clause-extends c =
    let m = c.args.tables.now in
    extends_on c.args.names.now c.number_column.new.names c.number_column-2.new.names
    (extends_on c.args.names.now c.name_columns-2.new.names c.number_column.new.names
    (extends_on c.args.names.now c.name_columns.new.names c.name_columns-2.new.names c.in_ok-defs.ensures.extends c.in_ok-refs.ensures.extends)
    (extends_by c.name_columns-2.new.names c.number_column.new.names (column_texts m 0x23 6) c.in_ok-assembly_refs.ensures.names))
    (extends_by c.number_column.new.names c.number_column-2.new.names (column_texts m 0x20 7) c.in_ok-assemblies.ensures.names)

pub returns-clause-texts : goal.returns-clause-texts
returns-clause-texts c =
    let m = c.args.tables.now in
    let third = extends_by c.name_columns-2.new.names c.number_column.new.names (column_texts m 0x23 6) c.in_ok-assembly_refs.ensures.names in
    let last = extends_by c.number_column.new.names c.number_column-2.new.names (column_texts m 0x20 7) c.in_ok-assemblies.ensures.names in
    let both = extends_on c.name_columns-2.new.names c.number_column.new.names c.number_column-2.new.names third last in
    let all = extends_on c.name_columns.new.names c.name_columns-2.new.names c.number_column-2.new.names c.in_ok-refs.ensures.extends both in
    record {
      defs = named_on c.name_columns.new.names c.number_column-2.new.names (column_texts m 0x02 2) (column_texts m 0x02 1) _ all c.in_ok-defs.ensures.named;
      refs = named_on c.name_columns-2.new.names c.number_column-2.new.names (column_texts m 0x01 2) (column_texts m 0x01 1) _ both c.in_ok-refs.ensures.named;
      assembly_refs =
          numbers_on c.number_column.new.names c.number_column-2.new.names (column_texts m 0x23 6) _ last
          (numbers_new c.name_columns-2.new.names c.number_column.new.names (column_texts m 0x23 6) _ c.in_ok-assembly_refs.ensures.names
          c.in_ok-assembly_refs.ensures.numbers);
      assemblies =
          numbers_new c.number_column.new.names c.number_column-2.new.names (column_texts m 0x20 7) _ c.in_ok-assemblies.ensures.names
          c.in_ok-assemblies.ensures.numbers;
    }
