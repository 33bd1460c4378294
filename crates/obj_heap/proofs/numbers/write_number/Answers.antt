use Rattle.std.proofs.Common.{◌%◌, sym, refl, arith}
use Rattle.std.proofs.lemmas.Grind.{common_steps}
use Rattle.std.proofs.lemmas.Bool.Decides.{nat_tests}
use Rattle.std.proofs.Math.Nat.{mod-eq_of_lt}
use Rattle.obj_heap.proofs.Puts.{put_number}
use Rattle.obj_heap.proofs.numbers.write_number.Goals as goal

pub returns-in-2 : goal.returns-in-2
returns-in-2 c = put_number c.args.at c.args.width 2 c.args.value (c.args.value % 0x10000) _ c.args.bytes.now _ c.in-2.is refl refl c.write_u16.ensures

pub returns-in-4 : goal.returns-in-4
returns-in-4 c = put_number c.args.at c.args.width 4 c.args.value (c.args.value % 0x100000000) _ c.args.bytes.now _ c.in-4.is refl refl c.write_u32.ensures

pub returns-in_default : goal.returns-in_default
returns-in_default c = put_number c.args.at c.args.width 8 c.args.value c.args.value _ c.args.bytes.now _ (grind (arith, nat_tests, common_steps, c.requires.width)) (sym (mod-eq_of_lt (omega (arith, c.ranges.value)))) refl c.write_u64.ensures
