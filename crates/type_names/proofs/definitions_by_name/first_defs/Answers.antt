use Rattle.std.proofs.Common.{◌+◌, ap, ◌∙◌, arith, length, get_or}
use Rattle.type_names.proofs.KeyLists.{finds_ok, keys_count, outer_count, outer_keys}
use Rattle.type_names.proofs.definitions_by_name.first_defs.Goals as goal

pub keys-requires-clause-around : goal.keys-requires-clause-around
keys-requires-clause-around c =
    let count = ap length c.as_slice.ensures ∙ outer_count c.args.tables.now c.in_ok-enclosing.enclosing c.in_ok-enclosing.ensures in
    omega (arith, count, c.row_count-count.ensures.exact)

pub new-requires : goal.new-requires
new-requires c =
    let count = ap length (c.as_slice-2.ensures ∙ c.in_ok-keys.ensures) ∙ keys_count (λ i. get_or c.as_slice.result.now (i + 1) 0) c.args.columns.now c.row_count-count.result in
    omega (arith, count, c.row_count-count.ensures.few)

pub returns : goal.returns
returns c =
    finds_ok c.as_slice-2.result.now _ c.new.result
    (c.as_slice-2.ensures ∙ c.in_ok-keys.ensures
    ∙ outer_keys c.args.tables.now c.args.columns.now c.as_slice.result.now c.row_count-count.result (c.as_slice.ensures ∙ c.in_ok-enclosing.ensures)
    c.row_count-count.ensures.exact)
    c.new.ensures
