use Rattle.std.proofs.Common.{◌≡◌, ◌<◌, ◌∷◌, List, Option, length, map, drop, drop-cons, suc, ap, ◌∙◌, sym, subst, add-one, arith}
use Rattle.type_tree.specs.declared.definition.Impl.{Impl}
use Rattle.type_pool.specs.Trees.{at_all}
use Rattle.type_pool.proofs.JobLemmas.{at_all-grown, below-grown, grows_trans}
use Rattle.method_slots.specs.Chains.{Take, row_take}
use Rattle.slot_chains.specs.Levels.{OwnersNoted}
use Rattle.slot_chains.specs.Puts.{replace, replace_all}
use Rattle.slot_chains.proofs.rows.put_rows.Goals as goal

pub put_row-requires-clause-parents : goal.put_row-requires-clause-parents
put_row-requires-clause-parents c = below-grown c.args.pool.now c.loop-row.pool c.loop-row.invariant.grows c.args.parents.now c.requires.parents

pub put_row-requires-clause-owners : goal.put_row-requires-clause-owners
put_row-requires-clause-owners c =
    let same = at_all-grown c.args.pool.now c.loop-row.pool c.loop-row.invariant.grows c.args.parents.now c.requires.parents in
    subst (OwnersNoted c.args.notes.now.places) (sym same) c.requires.owners

pub loop-row-preserved : goal.loop-row-preserved
loop-row-preserved c =
    let k = c.loop-row in
    let i = k.row-index in
    let w = c.args.world.now in
    let n = c.args.def.0 in
    let rows : List Impl = c.args.rows.now in
    let row : Impl = c.row-item.result in
    let inside : i < length rows = omega arith in
    let same = at_all-grown c.args.pool.now k.pool k.invariant.grows c.args.parents.now c.requires.parents in
    let f : Impl → Option Take = row_take w n (at_all c.args.pool.now c.args.parents.now) in
    let head : drop i rows ≡ row ∷ drop (suc i) rows = drop-cons rows i row inside ∙ ap (λ r. r ∷ drop (suc i) rows) (sym c.row-item.is) in
    let put : c.put_row.new.entries ≡ replace k.entries (f row) = c.in_ok-put_row.ensures.put ∙ ap (λ ts. replace k.entries (row_take w n ts row)) same in
    record {
      grows = grows_trans c.args.pool.now k.pool c.put_row.new.pool k.invariant.grows c.in_ok-put_row.ensures.grows;
      left = rw add-one (ap (λ es. replace_all es (map f (drop (suc i) rows))) put ∙ sym (ap (λ l. replace_all k.entries (map f l)) head) ∙ k.invariant.left);
    }
