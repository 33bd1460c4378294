use Rattle.std.proofs.Common.{◌≡◌, ◌<◌, true, length, map, get_or, false, arith, ap, ap₂, ◌∙◌, sym, subst}
use Rattle.std.proofs.lemmas.Result.{IfOk-weaker}
use Rattle.type_tree.specs.declared.tree.Ty.{Ty}
use Rattle.type_tree.specs.declared.tree.Ty.TheVariants as ty
use Rattle.type_tree.specs.Canon.{canon_ty, canon_type, shared_form}
use Rattle.type_tree.specs.Kinds.{is_reference}
use Rattle.type_tree.proofs.CanonLemmas.{canon-Inst, canon-Array, canon-ByRef, canon-Ptr, canon-Var, canon-MVar, canon-Missing, canon-Odd}
use Rattle.type_pool.specs.declared.nodes.Id.{Id}
use Rattle.type_pool.specs.Trees.{at, at_all, tree_of, Spells}
use Rattle.type_pool.proofs.JobLemmas.{noted-grown, noted_more, on_ok, below_at, below_next, all_step, at-grown, grown_length, below-grown, below-one, grows_trans}
use Rattle.type_pool.proofs.CanLemmas.{is_reference-tree, shared-reference, shared-other}
use Rattle.type_pool.proofs.canonical.+canon.Goals as goal

pub canon_in-returns-in-Some-clause-spells : goal.canon_in-returns-in-Some-clause-spells
canon_in-returns-in-Some-clause-spells t c = (c.requires.job c.args.id.0 c.in-Some.became.0 (sym c.in-Some.ensures)).became

pub canon_in-returns-clause-job : goal.canon_in-returns-clause-job
canon_in-returns-clause-job t c =
    let f = canon_ty c.args.world.now in
    let done = c.in_ok-became.ensures in
    let longer = grown_length c.args.pool.now c.canon_in_level.new.pool done.grows in
    let same = at-grown c.args.pool.now c.canon_in_level.new.pool done.grows c.args.id c.requires.within in
    let spells : Spells c.canon_in_level.new.pool c.in_ok-became.became (f (at c.canon_in_level.new.pool c.args.id)) = rw same done.spells in
    noted_more f c.canon_in_level.new.pool c.canon_in_level.new.memo c.note.new.memo c.args.id c.in_ok-became.became done.job
    (omega (arith, c.requires.within)) spells c.in_ok-note.ensures

pub shared_all-shared_in-requires : goal.shared_all-shared_in-requires
shared_all-shared_in-requires t c =
    let k = c.loop-id in
    let d : Id = record { 0 = 0 } in
    let inside : k.id-index < length c.args.ids.now = omega arith in
    let low = below_at c.args.above c.args.ids.now k.id-index d inside k.invariant.below in
    let longer = grown_length c.args.pool.now k.pool k.invariant.grows in
    (omega (arith, low), (omega (arith, low, longer, c.requires.within), k.invariant.job))

pub shared_all-loop-id-preserved : goal.shared_all-loop-id-preserved
shared_all-loop-id-preserved t c =
    let k = c.loop-id in
    let d : Id = record { 0 = 0 } in
    let f = shared_form c.args.world.now in
    let ids = c.args.ids.now in
    let one = get_or ids k.id-index d in
    let was = k.invariant in
    let made = c.in_ok-shared_in.ensures in
    let pool = c.shared_in.new.pool in
    let inside : k.id-index < length ids = omega arith in
    let low = below_at c.args.above ids k.id-index d inside was.below in
    let within : one.0 < length c.args.pool.now = omega (arith, low, c.requires.within) in
    let same = at-grown c.args.pool.now k.pool was.grows one within in
    let spells : Spells pool c.in_ok-shared_in.field-0 (f (at c.args.pool.now one)) = subst (λ (z : Ty). Spells pool c.in_ok-shared_in.field-0 (f z)) same made.spells in
    record {
      below = below_next c.args.above ids k.id-index d inside was.below;
      grows = grows_trans c.args.pool.now k.pool pool was.grows made.grows;
      job = made.job;
      within = rw c.in_ok-push.ensures.ok (below-one (length pool) k.done c.in_ok-shared_in.field-0 (below-grown k.pool pool made.grows k.done was.within) spells.within);
      are = rw c.in_ok-push.ensures.ok (all_step f c.args.pool.now k.pool pool k.done ids k.id-index d c.in_ok-shared_in.field-0 _ inside was.are made.grows was.within spells.is);
    }

pub canon_in_level-returns-in_ok-parts-in-Inst-clause-job : goal.canon_in_level-returns-in_ok-parts-in-Inst-clause-job
canon_in_level-returns-in_ok-parts-in-Inst-clause-job t c = on_ok c.intern.result (noted-grown _ _ c.intern.ensures.grows _ c.shared_all.new.memo c.in_ok-parts-in-Inst.ensures.job)

pub canon_in_level-returns-in_ok-part-in-Array-clause-job : goal.canon_in_level-returns-in_ok-part-in-Array-clause-job
canon_in_level-returns-in_ok-part-in-Array-clause-job t c = on_ok c.intern-in-Array.result (noted-grown _ _ c.intern-in-Array.ensures.grows _ c.shared_in.new.memo c.in_ok-part-in-Array.ensures.job)

pub canon_in_level-returns-in_ok-parts-in-Inst-clause-spells : goal.canon_in_level-returns-in_ok-parts-in-Inst-clause-spells
canon_in_level-returns-in_ok-parts-in-Inst-clause-spells t c =
    let ts = c.args.pool.now in
    let w = c.args.world.now in
    let parts = c.in_ok-parts-in-Inst.ensures.spells in
    let d = c.in-Inst.def in
    let args = c.in-Inst.args in
    let was : ty.Inst d (at_all ts args) ≡ at ts c.args.id = ap (tree_of ts) (sym c.in-Inst.is) ∙ c.requires.level in
    let is : ty.Inst d (at_all c.shared_all.new.pool c.in_ok-parts-in-Inst.parts) ≡ canon_ty w (at ts c.args.id) =
    ap (ty.Inst d) (parts.are ∙ ap (λ l. map (shared_form w) (at_all ts l)) c.as_slice.ensures) ∙ sym (canon-Inst w d (at_all ts args)) ∙ ap (canon_ty w) was in
    IfOk-weaker c.intern.result _ _ (λ r s. record { within = s.within; is = s.is ∙ is }) c.intern.ensures.spells

pub canon_in_level-returns-in_ok-part-in-Array-clause-spells : goal.canon_in_level-returns-in_ok-part-in-Array-clause-spells
canon_in_level-returns-in_ok-part-in-Array-clause-spells t c =
    let ts = c.args.pool.now in
    let w = c.args.world.now in
    let e = at ts c.in-Array.e in
    let was : ty.Array e ≡ at ts c.args.id = ap (tree_of ts) (sym c.in-Array.is) ∙ c.requires.level in
    let is : ty.Array (at c.shared_in.new.pool c.in_ok-part-in-Array.part) ≡ canon_ty w (at ts c.args.id) =
    ap ty.Array c.in_ok-part-in-Array.ensures.spells.is ∙ sym (canon-Array w e) ∙ ap (canon_ty w) was in
    IfOk-weaker c.intern-in-Array.result _ _ (λ r s. record { within = s.within; is = s.is ∙ is }) c.intern-in-Array.ensures.spells

pub canon_in_level-returns-in-ByRef-clause-spells : goal.canon_in_level-returns-in-ByRef-clause-spells
canon_in_level-returns-in-ByRef-clause-spells t c = let w = c.args.world.now in let ts = c.args.pool.now in
    let was : ty.ByRef (at ts c.in-ByRef.field-0) ≡ at ts c.args.id = ap (tree_of ts) (sym c.in-ByRef.is) ∙ c.requires.level in
    record { within = c.requires.within; is = sym was ∙ sym (canon-ByRef w _) ∙ ap (canon_ty w) was }

pub canon_in_level-returns-in-Ptr-clause-spells : goal.canon_in_level-returns-in-Ptr-clause-spells
canon_in_level-returns-in-Ptr-clause-spells t c = let w = c.args.world.now in let ts = c.args.pool.now in
    let was : ty.Ptr (at ts c.in-Ptr.field-0) ≡ at ts c.args.id = ap (tree_of ts) (sym c.in-Ptr.is) ∙ c.requires.level in
    record { within = c.requires.within; is = sym was ∙ sym (canon-Ptr w _) ∙ ap (canon_ty w) was }

pub canon_in_level-returns-in-Var-clause-spells : goal.canon_in_level-returns-in-Var-clause-spells
canon_in_level-returns-in-Var-clause-spells t c = let w = c.args.world.now in
    let was : ty.Var c.in-Var.field-0 ≡ at c.args.pool.now c.args.id = ap (tree_of c.args.pool.now) (sym c.in-Var.is) ∙ c.requires.level in
    record { within = c.requires.within; is = sym was ∙ sym (canon-Var w _) ∙ ap (canon_ty w) was }

pub canon_in_level-returns-in-MVar-clause-spells : goal.canon_in_level-returns-in-MVar-clause-spells
canon_in_level-returns-in-MVar-clause-spells t c = let w = c.args.world.now in
    let was : ty.MVar c.in-MVar.field-0 ≡ at c.args.pool.now c.args.id = ap (tree_of c.args.pool.now) (sym c.in-MVar.is) ∙ c.requires.level in
    record { within = c.requires.within; is = sym was ∙ sym (canon-MVar w _) ∙ ap (canon_ty w) was }

pub canon_in_level-returns-in-Missing-clause-spells : goal.canon_in_level-returns-in-Missing-clause-spells
canon_in_level-returns-in-Missing-clause-spells t c = let w = c.args.world.now in
    let was : ty.Missing c.in-Missing.field-0 c.in-Missing.field-1 ≡ at c.args.pool.now c.args.id = ap (tree_of c.args.pool.now) (sym c.in-Missing.is) ∙ c.requires.level in
    record { within = c.requires.within; is = sym was ∙ sym (canon-Missing w _ _) ∙ ap (canon_ty w) was }

pub canon_in_level-returns-in-Odd-clause-spells : goal.canon_in_level-returns-in-Odd-clause-spells
canon_in_level-returns-in-Odd-clause-spells t c = let w = c.args.world.now in
    let was : ty.Odd c.in-Odd.field-0 ≡ at c.args.pool.now c.args.id = ap (tree_of c.args.pool.now) (sym c.in-Odd.is) ∙ c.requires.level in
    record { within = c.requires.within; is = sym was ∙ sym (canon-Odd w _) ∙ ap (canon_ty w) was }

pub shared_in-returns-then-is_reference-clause-job : goal.shared_in-returns-then-is_reference-clause-job
shared_in-returns-then-is_reference-clause-job t c = on_ok c.intern.result (noted-grown _ _ c.intern.ensures.grows _ c.args.memo.now c.requires.job)

pub shared_in-returns-then-is_reference-clause-spells : goal.shared_in-returns-then-is_reference-clause-spells
shared_in-returns-then-is_reference-clause-spells t c =
    let ts = c.args.pool.now in
    let w = c.args.world.now in
    let kind : is_reference w (at ts c.args.id) ≡ true =
    ap (is_reference w) (sym c.node.ensures.level) ∙ is_reference-tree w ts c.node.result.now ∙ sym c.is_reference.ensures ∙ c.if-is_reference.true in
    let tree : ty.Inst c.canon.result (at_all ts c.new.result) ≡ canon_type w = ap₂ ty.Inst c.canon.ensures.value (ap (at_all ts) c.new.ensures) in
    let is : ty.Inst c.canon.result (at_all ts c.new.result) ≡ shared_form w (at ts c.args.id) = tree ∙ sym (shared-reference w (at ts c.args.id) kind) in
    IfOk-weaker c.intern.result _ _ (λ r s. record { within = s.within; is = s.is ∙ is }) c.intern.ensures.spells

pub shared_in-returns-else-is_reference-clause-spells : goal.shared_in-returns-else-is_reference-clause-spells
shared_in-returns-else-is_reference-clause-spells t c =
    let ts = c.args.pool.now in
    let w = c.args.world.now in
    let kind : is_reference w (at ts c.args.id) ≡ false =
    ap (is_reference w) (sym c.node.ensures.level) ∙ is_reference-tree w ts c.node.result.now ∙ sym c.is_reference.ensures ∙ c.if-is_reference.false in
    IfOk-weaker c.canon_in.result _ _ (λ r s. record { within = s.within; is = s.is ∙ sym (shared-other w (at ts c.args.id) kind) }) c.canon_in.ensures.spells
