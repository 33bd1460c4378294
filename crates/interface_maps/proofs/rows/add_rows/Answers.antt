use Rattle.std.proofs.Common.{◌≡◌, ◌<◌, ◌+◌, ◌++◌, ◌∷◌, [], List, length, take, ap, ◌∙◌, sym, arith}
use Rattle.std.proofs.lemmas.List.{take_more}
use Rattle.type_tree.specs.declared.definition.Impl.{Impl}
use Rattle.type_pool.proofs.JobLemmas.{grows_trans}
use Rattle.interface_maps.proofs.RowLemmas.{rows-more}
use Rattle.interface_maps.proofs.rows.add_rows.Goals as goal

pub loop-row-preserved : goal.loop-row-preserved
loop-row-preserved c =
    let k = c.loop-row in
    let i = k.row-index in
    let rows : List Impl = c.args.rows.now in
    let row : Impl = c.row-item.result in
    let inside : i < length rows = omega arith in
    let made = c.in_ok-add_row.ensures in
    let all : take (i + 1) rows ≡ take i rows ++ row ∷ [] = take_more rows i row inside ∙ ap (λ r. take i rows ++ r ∷ []) (sym c.row-item.is) in
    record {
      grows = grows_trans c.args.pool.now k.pool c.add_row.new.pool k.invariant.grows made.grows;
      gains = rows-more c.args.world.now c.args.def.0 c.args.pool.now k.pool c.add_row.new.pool c.args.numbers.now k.numbers c.add_row.new.numbers (take i rows) (row ∷ []) _ k.invariant.gains made.gains all;
    }
