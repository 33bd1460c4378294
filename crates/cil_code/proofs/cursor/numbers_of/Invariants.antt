use Rattle.std.proofs.Common.{◌≡◌, ◌-◌, ◌*◌, ◌++◌, drop}
use Rattle.cil_code.specs.Reading.{numbers}
use Rattle.cil_code.proofs.cursor.numbers_of.Given as goal

-- the numbers so far and those that follow are all
abbrev pub invariant-loop-i : goal.invariant-loop-i
invariant-loop-i l = l.ns ++ numbers (l.count - l.i) (drop (4 * l.i) l.bytes) ≡ numbers l.count l.bytes
