use Rattle.std.proofs.Common.{sym, subst}
use Rattle.cli_tables.specs.TextFaults.{faults_of, AreTextFaults}
use Rattle.cli_tables.proofs.AsciiHeap.{all_ascii}
use Rattle.cli_tables.proofs.text_faults.TextFaults.read.Goals as goal
use Rattle.cli_tables.proofs.text_faults.TextFaults.read.Goals.{then-is_ascii, else-is_ascii+in_ok-fault_at_each}

pub returns : goal.returns
returns c =
    let heap = c.args.heap.now in
    elim c.if-is_ascii.branch [
      | then-is_ascii w ↦ subst (λ f. AreTextFaults heap (faults_of f)) (sym w.found-is) (all_ascii heap w.len_to_last_zero.result w.if-is_ascii.ensures.cases w.len_to_last_zero.ensures)
      | else-is_ascii+in_ok-fault_at_each w ↦ subst (λ f. AreTextFaults heap (faults_of f)) (sym w.found-is) w.in_ok-fault_at_each.ensures
    ]
