use Rattle.std.proofs.Common.{◌≡◌, ◌≤◌, ◌+◌, ◌*◌, ◌%◌, ◌^◌, length, ap, arith}
use Rattle.std.proofs.lemmas.List.{with_items_is}
use Rattle.byteorder.specs.Endian.{little_bytes}
use Rattle.byteorder.specs.Numbers.{length-bytes_low_first}
use Rattle.obj_heap.proofs.Puts.{length-put}
use Rattle.obj_heap.proofs.Found.{seen_is_made, seen_inside, seen_put}
use Rattle.obj_heap.proofs.heap.Heap.write_at.Goals as goal

pub unwrap-made-requires : goal.unwrap-made-requires
unwrap-made-requires g c = seen_is_made c.deref.result.now c.self.inside.made.items c.self.inside.bytes.items c.self.inside.refs.items c.args.self.now c.deref.ensures.value c.self.view_is c.self.invariant c.args.place.object.0 c.noted.result c.noted.ensures c.args.place.offset c.args.width c.requires.inside

pub write_number-requires-clause-inside : goal.write_number-requires-clause-inside
write_number-requires-clause-inside g c =
    let i = seen_inside c.deref.result.now c.self.inside.made.items c.self.inside.bytes.items c.self.inside.refs.items c.args.self.now c.deref.ensures.value c.self.view_is c.self.invariant c.args.place.object.0 c.noted.result c.noted.ensures c.args.place.offset c.args.width c.requires.inside _ c.unwrap-made.ensures in
    rw c.as_mut_slice.ensures.value (omega (arith, i.0, i.1))

pub returns : goal.returns
returns g c =
    let i = seen_inside c.deref.result.now c.self.inside.made.items c.self.inside.bytes.items c.self.inside.refs.items c.args.self.now c.deref.ensures.value c.self.view_is c.self.invariant c.args.place.object.0 c.noted.result c.noted.ensures c.args.place.offset c.args.width c.requires.inside _ c.unwrap-made.ensures in
    let ys = little_bytes c.args.width (c.args.value % 256 ^ c.args.width) in
    let n = length-bytes_low_first 0 c.args.width (c.args.value % 256 ^ c.args.width) in
    let at = 8 * c.unwrap-made.result.first + c.args.place.offset in
    let room : at + length ys ≤ length c.as_mut_slice.result.now = rw (n, c.as_mut_slice.ensures.value) (omega (arith, i.0, i.1)) in
    let same : length c.write_number.new.bytes ≡ c.self.inside.bytes.len = omega (arith, ap length c.write_number.ensures, length-put at ys c.as_mut_slice.result.now room, c.as_mut_slice.ensures.len) in
    rw (with_items_is c.self.inside.bytes c.write_number.new.bytes same, c.write_number.ensures, c.as_mut_slice.ensures.value)
    (seen_put c.deref.result.now c.self.inside.made.items c.self.inside.bytes.items c.self.inside.refs.items c.args.self.now c.deref.ensures.value c.self.view_is c.self.invariant c.args.place.object.0 c.noted.result c.noted.ensures _ c.unwrap-made.ensures c.args.place.offset ys (rw n i.0))
