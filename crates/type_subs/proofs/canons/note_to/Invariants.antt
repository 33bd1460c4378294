use Rattle.std.proofs.Common.{◌≡◌, length}
use Rattle.type_subs.specs.Notes.{IsNoted}
use Rattle.type_subs.proofs.canons.note_to.Given as goal

abbrev pub invariant-loop-next : goal.invariant-loop-next
invariant-loop-next l = record {
  noted : IsNoted l.world l.pool l.flags;
  many : length l.flags ≡ l.next;
}
