use Rattle.std.proofs.Common.{◌≡◌, Result, Ok, Err, OnOk, Bool, false, ◌||◌, ap, ◌∙◌, sym}
use Rattle.std.proofs.lemmas.Result.{IfOk-weaker}
use Rattle.type_pool.proofs.JobLemmas.{on_ok}
use Rattle.def_faults.specs.BadInterface.{is_bad_interface}
use Rattle.def_faults.specs.declared.faults.DefFaults.{DefFaults}
use Rattle.field_layout.proofs.EndNotes.{known-grown}
use Rattle.key_faults.specs.Told.{passes_bounds}
use Rattle.key_faults.proofs.Telling.{told_faults}
use Rattle.key_faults.proofs.definitions.bad_interface_of.Goals as goal

on_ok_then : {T E P Q : Type 0} (r : Result T E) → (P → Q) → OnOk r P → OnOk r Q
on_ok_then (Ok x) f p = f p
on_ok_then (Err e) f p = tt

pub returns-clause-notes : goal.returns-clause-notes
returns-clause-notes c =
    let w = c.args.world.now in let ts = c.args.pool.now in let us = c.passes_bounds.new.pool in
    let layouts = known-grown w ts us c.passes_bounds.ensures.grows c.args.notes.now.layouts c.requires.notes.layouts in
    on_ok_then c.passes_bounds.result (λ lists. record { lists = lists; layouts = layouts }) c.passes_bounds.ensures.lists

pub returns-clause-is : goal.returns-clause-is
returns-clause-is c =
    let w = c.args.world.now in let d = c.args.def in
    let bad : is_bad_interface w d ≡ false =
    sym (told_faults w c.args.told.now d c.requires.told c.requires.def).bad_interface ∙ sym (ap (λ (f : DefFaults). f.bad_interface) c.faults_of.ensures) ∙ c.if-faults_of.false in
    IfOk-weaker c.passes_bounds.result _ _ (λ found e. e ∙ sym (ap (λ (b : Bool). b || passes_bounds w d) bad)) c.passes_bounds.ensures.passes
