use Rattle.type_pool.proofs.JobLemmas.{on_ok}
use Rattle.field_layout.specs.Ends.{Known}
use Rattle.field_layout.proofs.EndNotes.{known-grown}
use Rattle.field_layout.proofs.top.inst.Goals as goal

pub returns-then-is_value_def-clause-known : goal.returns-then-is_value_def-clause-known
returns-then-is_value_def-clause-known c =
    let w = c.args.world.now in
    let found = c.in_ok-found.ensures in
    let known : Known w c.fields_in.new.pool (record { shapes = c.fields_in.new.notes; ends = c.args.notes.now.ends }) = record {
      shapes = found.noted;
      ends = (known-grown w c.args.pool.now c.fields_in.new.pool found.grows c.args.notes.now c.requires.known).ends;
    } in
    on_ok c.laid_from.result known

pub returns-then-is_interface-clause-known : goal.returns-then-is_interface-clause-known
returns-then-is_interface-clause-known c =
    let found = c.in_ok-found-2.ensures in
    record {
      shapes = found.noted;
      ends = (known-grown c.args.world.now c.args.pool.now c.fields_in-then-is_interface.new.pool found.grows c.args.notes.now c.requires.known).ends;
    }
