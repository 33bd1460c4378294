use Rattle.std.proofs.Common.{rules}
use Rattle.method_table.proofs.notes.TableNotes.new.Goals as goal

pub returns : goal.returns
returns c w ts = record { canonical = search rules; layouts = c.new-2.ensures w ts; slots = search rules; maps = search rules }
