use Rattle.type_names.specs.Numbering.{column_texts}
use Rattle.type_names.proofs.TextNumbers.{extends_by, extends_on, numbers_new, numbers_on}
use Rattle.type_names.proofs.type_texts.name_columns.Goals as goal

pub returns-clause-extends : goal.returns-clause-extends
returns-clause-extends c =
    let texts = column_texts c.args.tables.now c.args.table in
    extends_on c.args.names.now c.number_column.new.names c.number_column-2.new.names
    (extends_by c.args.names.now c.number_column.new.names (texts 2) c.in_ok-namespaces.ensures.names)
    (extends_by c.number_column.new.names c.number_column-2.new.names (texts 1) c.in_ok-own_names.ensures.names)

pub returns-clause-named : goal.returns-clause-named
returns-clause-named c =
    let texts = column_texts c.args.tables.now c.args.table in
    record {
      namespaces =
          numbers_on c.number_column.new.names c.number_column-2.new.names (texts 2) _
          (extends_by c.number_column.new.names c.number_column-2.new.names (texts 1) c.in_ok-own_names.ensures.names)
          (numbers_new c.args.names.now c.number_column.new.names (texts 2) _ c.in_ok-namespaces.ensures.names c.in_ok-namespaces.ensures.numbers);
      names =
          numbers_new c.number_column.new.names c.number_column-2.new.names (texts 1) _ c.in_ok-own_names.ensures.names c.in_ok-own_names.ensures.numbers;
    }
