use Rattle.std.proofs.Common.{◌≡◌, ◌<◌, Bool, true, false, ◌&&◌, ◌||◌, ◌∷◌, List, length, drop, drop-cons, suc, ap, ◌∙◌, sym, add-one, arith}
use Rattle.std.specs.Prelude.{not}
use Rattle.std.specs.List.{list_any}
use Rattle.type_tree.specs.declared.definition.Impl.{Impl}
use Rattle.type_pool.specs.Trees.{at_all}
use Rattle.type_pool.proofs.JobLemmas.{at_all-grown, below-grown, grows_trans}
use Rattle.method_slots.specs.Chains as chains
use Rattle.slot_chains.proofs.answers.rows_fail.Goals as goal

pub row_fails-requires : goal.row_fails-requires
row_fails-requires c = record { types = below-grown c.args.pool.now c.loop-row.pool c.loop-row.invariant.grows c.args.types.now c.requires.types }

pub returns-then-branch-clause-fails : goal.returns-then-branch-clause-fails
returns-then-branch-clause-fails c =
    let k = c.loop-row in
    let i = k.row-index in
    let w = c.args.world.now in
    let rows : List Impl = c.args.rows.now in
    let row : Impl = c.row-item.result in
    let p : Impl → Bool = λ row. not (chains.owns w c.args.id.0 row.body && chains.is_declared w (at_all c.args.pool.now c.args.types.now) row) in
    let inside : i < length rows = omega arith in
    let head : drop i rows ≡ row ∷ drop (suc i) rows = drop-cons rows i row inside ∙ ap (λ r. r ∷ drop (suc i) rows) (sym c.row-item.is) in
    let same = at_all-grown c.args.pool.now k.pool k.invariant.grows c.args.types.now c.requires.types in
    let fails : p row ≡ true = sym (c.in_ok-row_fails.ensures.fails ∙ ap (λ l. not (chains.owns w c.args.id.0 row.body && chains.is_declared w l row)) same) ∙ c.if-branch.true in
    sym (ap (λ b. b || list_any p (drop (suc i) rows)) fails) ∙ sym (ap (list_any p) head) ∙ k.invariant.left

pub loop-row-preserved : goal.loop-row-preserved
loop-row-preserved c =
    let k = c.loop-row in
    let i = k.row-index in
    let w = c.args.world.now in
    let rows : List Impl = c.args.rows.now in
    let row : Impl = c.row-item.result in
    let p : Impl → Bool = λ row. not (chains.owns w c.args.id.0 row.body && chains.is_declared w (at_all c.args.pool.now c.args.types.now) row) in
    let inside : i < length rows = omega arith in
    let head : drop i rows ≡ row ∷ drop (suc i) rows = drop-cons rows i row inside ∙ ap (λ r. r ∷ drop (suc i) rows) (sym c.row-item.is) in
    let same = at_all-grown c.args.pool.now k.pool k.invariant.grows c.args.types.now c.requires.types in
    let fits : p row ≡ false = sym (c.in_ok-row_fails.ensures.fails ∙ ap (λ l. not (chains.owns w c.args.id.0 row.body && chains.is_declared w l row)) same) ∙ c.if-branch.false in
    record {
      grows = grows_trans c.args.pool.now k.pool c.row_fails.new.pool k.invariant.grows c.in_ok-row_fails.ensures.grows;
      left = rw add-one (sym (ap (λ b. b || list_any p (drop (suc i) rows)) fits) ∙ sym (ap (list_any p) head) ∙ k.invariant.left);
    }
