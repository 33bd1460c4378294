use Rattle.std.proofs.Common.{◌≡◌, ◌≤◌, length, Ok}
use Rattle.clr_base.specs.Checks.{first_fault, each}
use Rattle.cli_tables.specs.Streams.{header_checks, place, found, AreInside}
use Rattle.cli_tables.proofs.streams.read_streams.Given as goal

abbrev pub invariant-loop : goal.invariant-loop
invariant-loop l = record {
  passed : first_fault (each l.counter (header_checks l.meta l.first)) ≡ Ok (tt {0});
  at : l.at ≡ place l.meta l.first l.counter;
  streams : l.streams ≡ found l.meta l.first l.counter;
  inside : AreInside l.meta l.streams;
  within : l.at ≤ length l.meta;
}
