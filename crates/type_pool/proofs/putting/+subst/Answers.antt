use Rattle.std.proofs.Common.{◌≡◌, ◌<◌, length, map, get_or, arith, ap, ◌∙◌, sym, subst}
use Rattle.std.proofs.lemmas.Result.{IfOk-weaker}
use Rattle.type_tree.specs.declared.tree.Ty.{Ty}
use Rattle.type_tree.specs.declared.tree.Ty.TheVariants as ty
use Rattle.type_pool.specs.declared.nodes.Id.{Id}
use Rattle.type_pool.specs.Trees.{at, at_all, tree_of, Spells}
use Rattle.type_pool.specs.Jobs.{subst_by, IsPutting}
use Rattle.type_pool.proofs.JobLemmas.{putting-grown, putting_note, putting_here, on_ok, below_at, below_next, all_step, at-grown, grown_length, below-grown, below-one, grows_trans}
use Rattle.type_pool.proofs.PutLemmas.{subst-Inst, subst-Array, subst-ByRef, subst-Ptr, subst-Var, subst-MVar, subst-Missing, subst-Odd, entry_spells}
use Rattle.type_pool.proofs.putting.+subst.Goals as goal

pub put_in-returns-in-Some-clause-spells : goal.put_in-returns-in-Some-clause-spells
put_in-returns-in-Some-clause-spells t c = (c.requires.job.noted c.args.id.0 c.in-Some.became.0 (sym c.in-Some.ensures)).became

pub put_in-returns-clause-job : goal.put_in-returns-clause-job
put_in-returns-clause-job t c =
    let f = subst_by c.args.pool.now c.args.types.now c.args.methods.now in
    let done = c.in_ok-became.ensures in
    let longer = grown_length c.args.pool.now c.put_in_level.new.pool done.grows in
    let same = at-grown c.args.pool.now c.put_in_level.new.pool done.grows c.args.id c.requires.within in
    let spells : Spells c.put_in_level.new.pool c.in_ok-became.became (f (at c.put_in_level.new.pool c.args.id)) = rw same done.spells in
    putting_note f c.args.types.now c.args.methods.now c.put_in_level.new.pool c.put_in_level.new.memo done.job c.note.new.memo c.args.id c.in_ok-became.became
    (omega (arith, c.requires.within)) spells c.in_ok-note.ensures

pub put_in_all-put_in-requires : goal.put_in_all-put_in-requires
put_in_all-put_in-requires t c =
    let k = c.loop-id in
    let d : Id = record { 0 = 0 } in
    let inside : k.id-index < length c.args.ids.now = omega arith in
    let low = below_at c.args.above c.args.ids.now k.id-index d inside k.invariant.below in
    let longer = grown_length c.args.pool.now k.pool k.invariant.grows in
    (omega (arith, low), (omega (arith, low, longer, c.requires.within), putting_here _ _ _ _ _ k.invariant.job))

pub put_in_all-loop-id-preserved : goal.put_in_all-loop-id-preserved
put_in_all-loop-id-preserved t c =
    let k = c.loop-id in
    let d : Id = record { 0 = 0 } in
    let f = subst_by c.args.pool.now c.args.types.now c.args.methods.now in
    let ids = c.args.ids.now in
    let one = get_or ids k.id-index d in
    let was = k.invariant in
    let made = c.in_ok-put_in.ensures in
    let pool = c.put_in.new.pool in
    let inside : k.id-index < length ids = omega arith in
    let low = below_at c.args.above ids k.id-index d inside was.below in
    let within : one.0 < length c.args.pool.now = omega (arith, low, c.requires.within) in
    let same = at-grown c.args.pool.now k.pool was.grows one within in
    let spells : Spells pool c.in_ok-put_in.field-0 (f (at c.args.pool.now one)) =
    subst (λ (g : Ty → Ty). Spells pool c.in_ok-put_in.field-0 (g (at c.args.pool.now one))) (sym was.job.puts) (rw same at made.spells) in
    record {
      below = below_next c.args.above ids k.id-index d inside was.below;
      grows = grows_trans c.args.pool.now k.pool pool was.grows made.grows;
      job = subst (λ (g : Ty → Ty). IsPutting g c.args.types.now c.args.methods.now pool c.put_in.new.memo) (sym was.job.puts) made.job;
      within = rw c.in_ok-push.ensures.ok (below-one (length pool) k.done c.in_ok-put_in.field-0 (below-grown k.pool pool made.grows k.done was.within) spells.within);
      are = rw c.in_ok-push.ensures.ok (all_step f c.args.pool.now k.pool pool k.done ids k.id-index d c.in_ok-put_in.field-0 _ inside was.are made.grows was.within spells.is);
    }

pub put_in_level-returns-in_ok-parts-in-Inst-clause-job : goal.put_in_level-returns-in_ok-parts-in-Inst-clause-job
put_in_level-returns-in_ok-parts-in-Inst-clause-job t c = on_ok c.intern.result (putting-grown _ _ c.intern.ensures.grows _ _ _ _ c.in_ok-parts-in-Inst.ensures.job)

pub put_in_level-returns-in_ok-part-in-Array-clause-job : goal.put_in_level-returns-in_ok-part-in-Array-clause-job
put_in_level-returns-in_ok-part-in-Array-clause-job t c = on_ok c.intern-in-Array.result (putting-grown _ _ c.intern-in-Array.ensures.grows _ _ _ _ c.in_ok-part-in-Array.ensures.job)

pub put_in_level-returns-in_ok-part-in-ByRef-clause-job : goal.put_in_level-returns-in_ok-part-in-ByRef-clause-job
put_in_level-returns-in_ok-part-in-ByRef-clause-job t c = on_ok c.intern-in-ByRef.result (putting-grown _ _ c.intern-in-ByRef.ensures.grows _ _ _ _ c.in_ok-part-in-ByRef.ensures.job)

pub put_in_level-returns-in_ok-part-in-Ptr-clause-job : goal.put_in_level-returns-in_ok-part-in-Ptr-clause-job
put_in_level-returns-in_ok-part-in-Ptr-clause-job t c = on_ok c.intern-in-Ptr.result (putting-grown _ _ c.intern-in-Ptr.ensures.grows _ _ _ _ c.in_ok-part-in-Ptr.ensures.job)

pub put_in_level-returns-in_ok-parts-in-Inst-clause-spells : goal.put_in_level-returns-in_ok-parts-in-Inst-clause-spells
put_in_level-returns-in_ok-parts-in-Inst-clause-spells t c =
    let ts = c.args.pool.now in
    let f = subst_by ts c.args.types.now c.args.methods.now in
    let parts = c.in_ok-parts-in-Inst.ensures.spells in
    let d = c.in-Inst.def in
    let args = c.in-Inst.args in
    let was : ty.Inst d (at_all ts args) ≡ at ts c.args.id = ap (tree_of ts) (sym c.in-Inst.is) ∙ c.requires.level in
    let is : ty.Inst d (at_all c.put_in_all.new.pool c.in_ok-parts-in-Inst.parts) ≡ f (at ts c.args.id) =
    ap (ty.Inst d) (parts.are ∙ ap (λ l. map f (at_all ts l)) c.as_slice.ensures) ∙ sym (subst-Inst _ _ d (at_all ts args)) ∙ ap f was in
    IfOk-weaker c.intern.result _ _ (λ r s. record { within = s.within; is = s.is ∙ is }) c.intern.ensures.spells

pub put_in_level-returns-in_ok-part-in-Array-clause-spells : goal.put_in_level-returns-in_ok-part-in-Array-clause-spells
put_in_level-returns-in_ok-part-in-Array-clause-spells t c =
    let ts = c.args.pool.now in
    let f = subst_by ts c.args.types.now c.args.methods.now in
    let e = at ts c.in-Array.e in
    let was : ty.Array e ≡ at ts c.args.id = ap (tree_of ts) (sym c.in-Array.is) ∙ c.requires.level in
    let is : ty.Array (at c.put_in.new.pool c.in_ok-part-in-Array.part) ≡ f (at ts c.args.id) =
    ap ty.Array c.in_ok-part-in-Array.ensures.spells.is ∙ sym (subst-Array _ _ e) ∙ ap f was in
    IfOk-weaker c.intern-in-Array.result _ _ (λ r s. record { within = s.within; is = s.is ∙ is }) c.intern-in-Array.ensures.spells

pub put_in_level-returns-in_ok-part-in-ByRef-clause-spells : goal.put_in_level-returns-in_ok-part-in-ByRef-clause-spells
put_in_level-returns-in_ok-part-in-ByRef-clause-spells t c =
    let ts = c.args.pool.now in
    let f = subst_by ts c.args.types.now c.args.methods.now in
    let e = at ts c.in-ByRef.e in
    let was : ty.ByRef e ≡ at ts c.args.id = ap (tree_of ts) (sym c.in-ByRef.is) ∙ c.requires.level in
    let is : ty.ByRef (at c.put_in-in-ByRef.new.pool c.in_ok-part-in-ByRef.part) ≡ f (at ts c.args.id) =
    ap ty.ByRef c.in_ok-part-in-ByRef.ensures.spells.is ∙ sym (subst-ByRef _ _ e) ∙ ap f was in
    IfOk-weaker c.intern-in-ByRef.result _ _ (λ r s. record { within = s.within; is = s.is ∙ is }) c.intern-in-ByRef.ensures.spells

pub put_in_level-returns-in_ok-part-in-Ptr-clause-spells : goal.put_in_level-returns-in_ok-part-in-Ptr-clause-spells
put_in_level-returns-in_ok-part-in-Ptr-clause-spells t c =
    let ts = c.args.pool.now in
    let f = subst_by ts c.args.types.now c.args.methods.now in
    let e = at ts c.in-Ptr.e in
    let was : ty.Ptr e ≡ at ts c.args.id = ap (tree_of ts) (sym c.in-Ptr.is) ∙ c.requires.level in
    let is : ty.Ptr (at c.put_in-in-Ptr.new.pool c.in_ok-part-in-Ptr.part) ≡ f (at ts c.args.id) =
    ap ty.Ptr c.in_ok-part-in-Ptr.ensures.spells.is ∙ sym (subst-Ptr _ _ e) ∙ ap f was in
    IfOk-weaker c.intern-in-Ptr.result _ _ (λ r s. record { within = s.within; is = s.is ∙ is }) c.intern-in-Ptr.ensures.spells

pub put_in_level-returns-in-Var-clause-spells : goal.put_in_level-returns-in-Var-clause-spells
put_in_level-returns-in-Var-clause-spells t c =
    let ts = c.args.pool.now in
    let f = subst_by ts c.args.types.now c.args.methods.now in
    let n = c.in-Var.n in
    let was : ty.Var n ≡ at ts c.args.id = ap (tree_of ts) (sym c.in-Var.is) ∙ c.requires.level in
    let s = entry_spells ts c.args.types.now n c.args.id (ty.Var n) c.requires.job.types_in (record { within = c.requires.within; is = sym was }) in
    rw c.entry.ensures (record { within = s.within; is = s.is ∙ sym (subst-Var _ (at_all ts c.args.methods.now) n) ∙ ap f was })

pub put_in_level-returns-in-MVar-clause-spells : goal.put_in_level-returns-in-MVar-clause-spells
put_in_level-returns-in-MVar-clause-spells t c =
    let ts = c.args.pool.now in
    let f = subst_by ts c.args.types.now c.args.methods.now in
    let n = c.in-MVar.n in
    let was : ty.MVar n ≡ at ts c.args.id = ap (tree_of ts) (sym c.in-MVar.is) ∙ c.requires.level in
    let s = entry_spells ts c.args.methods.now n c.args.id (ty.MVar n) c.requires.job.methods_in (record { within = c.requires.within; is = sym was }) in
    rw c.entry-in-MVar.ensures (record { within = s.within; is = s.is ∙ sym (subst-MVar (at_all ts c.args.types.now) _ n) ∙ ap f was })

pub put_in_level-returns-in-Missing-clause-spells : goal.put_in_level-returns-in-Missing-clause-spells
put_in_level-returns-in-Missing-clause-spells t c =
    let ts = c.args.pool.now in
    let f = subst_by ts c.args.types.now c.args.methods.now in
    let was : ty.Missing c.in-Missing.field-0 c.in-Missing.field-1 ≡ at ts c.args.id = ap (tree_of ts) (sym c.in-Missing.is) ∙ c.requires.level in
    record { within = c.requires.within; is = sym was ∙ sym (subst-Missing (at_all ts c.args.types.now) (at_all ts c.args.methods.now) _ _) ∙ ap f was }

pub put_in_level-returns-in-Odd-clause-spells : goal.put_in_level-returns-in-Odd-clause-spells
put_in_level-returns-in-Odd-clause-spells t c =
    let ts = c.args.pool.now in
    let f = subst_by ts c.args.types.now c.args.methods.now in
    let was : ty.Odd c.in-Odd.field-0 ≡ at ts c.args.id = ap (tree_of ts) (sym c.in-Odd.is) ∙ c.requires.level in
    record { within = c.requires.within; is = sym was ∙ sym (subst-Odd (at_all ts c.args.types.now) (at_all ts c.args.methods.now) _) ∙ ap f was }
