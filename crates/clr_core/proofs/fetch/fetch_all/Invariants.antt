use Rattle.std.proofs.Common.{◌≡◌, ◌≤◌, length, take}
use Rattle.std.specs.Prelude.{vec_len, vec_capacity}
use Rattle.clr_base.specs.Causes.{counted_times}
use Rattle.clr_core.specs.Command.{texts_of}
use Rattle.clr_core.specs.Fetched.{AreFiles}
use Rattle.image_files.specs.Images.{bytes_of_each}
use Rattle.clr_core.proofs.fetch.fetch_all.Given as goal

abbrev pub invariant-loop-k : goal.invariant-loop-k
invariant-loop-k g l = record {
  bytes : AreFiles (g.F.Shelf.files l.fn.shelf) (take l.k (texts_of l.names)) (bytes_of_each l.files.items);
  len : vec_len l.files ≡ l.k;
  room : length l.names ≤ vec_capacity l.files;
  kept : g.F.Shelf.files l.shelf ≡ g.F.Shelf.files l.fn.shelf;
  asked : g.F.Shelf.calls l.shelf ≡ counted_times l.k (g.F.Shelf.calls l.fn.shelf);
  gave : g.F.Shelf.given l.shelf ≡ counted_times l.k (g.F.Shelf.given l.fn.shelf);
  calm : g.F.Shelf.faults l.shelf ≡ g.F.Shelf.faults l.fn.shelf;
}
