use Rattle.std.proofs.Common.{◌≡◌, ◌∙◌, ap, sym, length, true, arith, subst}
use Rattle.std.proofs.lemmas.Result.{IfOk-weaker}
use Rattle.type_tree.specs.declared.tree.Ty.TheOpen.{Ty-F}
use Rattle.type_tree.specs.declared.tree.Ty.TheVariants as ty
use Rattle.type_tree.specs.declared.tree.Ty.TheViews.{out-Ty}
use Rattle.type_pool.specs.Trees.{at, at_all, tree_of, parts_below, ids_below}
use Rattle.type_pool.proofs.Levels.{ids_below-more}
use Rattle.field_layout.specs.declared.notes.Note.{Note}
use Rattle.field_layout.specs.Notes.{IsNote}
use Rattle.field_layout.proofs.Levels as level
use Rattle.field_layout.proofs.level.level_at.Goals as goal

pub returns-in-Inst : goal.returns-in-Inst
returns-in-Inst c =
    let w = c.args.world.now in
    let ts = c.args.pool.now in
    let t = at ts c.args.id in
    let def = c.in-Inst.def in
    let slice = c.as_slice.ensures in
    let out : out-Ty t ≡ Ty-F.Inst def (at_all ts c.as_slice.result.now) =
    ap out-Ty (sym c.node.ensures.level ∙ ap (tree_of ts) c.in-Inst.is) ∙ ty.outs-Inst def (at_all ts c.in-Inst.args) ∙ ap (λ l. Ty-F.Inst def (at_all ts l)) (sym slice) in
    let low : ids_below c.args.id.0 c.as_slice.result.now ≡ true = ap (ids_below c.args.id.0) slice ∙ sym (ap (parts_below c.args.id.0) c.in-Inst.is) ∙ c.node.ensures.below in
    let below : ids_below (length ts) c.as_slice.result.now ≡ true = ids_below-more c.args.id.0 (length ts) c.as_slice.result.now (omega arith) low in
    IfOk-weaker c.inst_level.result _ _ (λ l h. level.level_inst w ts t def c.as_slice.result.now out below l h) c.inst_level.ensures

pub returns-in-Array : goal.returns-in-Array
returns-in-Array c =
    let t = at c.args.pool.now c.args.id in
    subst (λ (n : Note). IsNote c.args.world.now t n) (sym c.reference.ensures)
    (level.level_array c.args.world.now c.args.pool.now t c.in-Array.field-0 (sym (ap (tree_of c.args.pool.now) c.in-Array.is) ∙ c.node.ensures.level))

pub returns-in-ByRef : goal.returns-in-ByRef
returns-in-ByRef c =
    let t = at c.args.pool.now c.args.id in
    subst (λ (n : Note). IsNote c.args.world.now t n) (sym c.plain.ensures)
    (level.level_by_ref c.args.world.now c.args.pool.now t c.in-ByRef.field-0 (sym (ap (tree_of c.args.pool.now) c.in-ByRef.is) ∙ c.node.ensures.level))

pub returns-in-Ptr : goal.returns-in-Ptr
returns-in-Ptr c =
    let t = at c.args.pool.now c.args.id in
    subst (λ (n : Note). IsNote c.args.world.now t n) (sym c.plain-in-Ptr.ensures)
    (level.level_ptr c.args.world.now c.args.pool.now t c.in-Ptr.field-0 (sym (ap (tree_of c.args.pool.now) c.in-Ptr.is) ∙ c.node.ensures.level))

pub returns-in-Var : goal.returns-in-Var
returns-in-Var c =
    let t = at c.args.pool.now c.args.id in
    subst (λ (n : Note). IsNote c.args.world.now t n) (sym c.plain-in-Var.ensures)
    (level.level_var c.args.world.now c.args.pool.now t c.in-Var.field-0 (sym (ap (tree_of c.args.pool.now) c.in-Var.is) ∙ c.node.ensures.level))

pub returns-in-MVar : goal.returns-in-MVar
returns-in-MVar c =
    let t = at c.args.pool.now c.args.id in
    subst (λ (n : Note). IsNote c.args.world.now t n) (sym c.plain-in-MVar.ensures)
    (level.level_mvar c.args.world.now c.args.pool.now t c.in-MVar.field-0 (sym (ap (tree_of c.args.pool.now) c.in-MVar.is) ∙ c.node.ensures.level))

pub returns-in-Odd : goal.returns-in-Odd
returns-in-Odd c =
    let t = at c.args.pool.now c.args.id in
    subst (λ (n : Note). IsNote c.args.world.now t n) (sym c.plain-in-Odd.ensures)
    (level.level_odd c.args.world.now c.args.pool.now t c.in-Odd.field-0 (sym (ap (tree_of c.args.pool.now) c.in-Odd.is) ∙ c.node.ensures.level))

pub returns-in-Missing : goal.returns-in-Missing
returns-in-Missing c =
    level.level_missing_any c.args.world.now c.args.pool.now (at c.args.pool.now c.args.id) c.in-Missing.field-0 c.in-Missing.value c.missing.result
    (sym (ap (tree_of c.args.pool.now) c.in-Missing.is) ∙ c.node.ensures.level) c.missing.ensures
