use Rattle.std.proofs.Common.{◌≡◌, ◌∙◌, slice_get, inl, inr, sym, ap, subst, arith, length-append}
use Rattle.def_faults.specs.Faults.{IsFaults}
use Rattle.def_faults.proofs.Lists.{pushed_at}
use Rattle.def_faults.proofs.faults.def_faults.Goals as goal

pub loop-number-preserved : goal.loop-number-preserved
loop-number-preserved c =
    let w = c.args.world.now in
    let k = c.loop-number in
    let found = c.in_ok-note.ensures in
    let made = c.faults_at in
    let more = c.in_ok-push.ensures.ok in
    record {
      marked = found.marked;
      empty = found.empty;
      as_many = rw (more, length-append) (omega (arith, k.invariant.as_many));
      each = λ n f e. elim (pushed_at k.faults made.result n f (ap (λ l. slice_get l n) (sym more) ∙ e)) [
        | inl before ↦ k.invariant.each n f before
        | inr last ↦
            let number : k.number ≡ n = sym k.invariant.as_many ∙ sym last.0 in
            subst (λ m. IsFaults w (record { 0 = m }) f) number (subst (IsFaults w (record { 0 = k.number })) last.1 made.ensures)
      ];
    }
