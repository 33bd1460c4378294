-- Strings that are too long for any heap.
use Rattle.std.proofs.Common.{◌≡◌, ℕ, ◌+◌, ◌-◌, ◌*◌, ◌<◌, ◌≤◌, true, List, ◌++◌, length, replicate, Err, nat_lt, refl, arith, length-append}
use Rattle.std.specs.List.{flat_map}
use Rattle.std.proofs.lemmas.Bool.{lt-ltb}
use Rattle.byteorder.specs.Endian.{little_bytes}
use Rattle.obj_heap.specs.declared.fault.HeapFault.TheVariants as fault
use Rattle.obj_heap.specs.declared.room.TheConstants.{HEAP_LIMIT}
use Rattle.obj_heap.specs.Objects.{Object, words, string_size, string_bytes, string_object}
use Rattle.obj_heap.specs.Calls.{total, new_string}
use Rattle.obj_heap.proofs.Repeats.{length_units}

pub too_long : {H : Type 0} (h : H) (units : List ℕ) (s : List (Object H)) → HEAP_LIMIT < length units → new_string h units s ≡ Err fault.HeapFull
unfolding new_string string_object
too_long h units s long =
    let rest = replicate (8 * words (string_size units) - string_size units) 0 in
    let size : 2 * length units ≤ length (string_bytes units ++ rest) =
    omega (arith, length-append (string_bytes units) rest, length-append (replicate 16 0) (flat_map (little_bytes 2) units), length_units units) in
    let past : nat_lt HEAP_LIMIT (total s + length (string_bytes units ++ rest)) ≡ true = lt-ltb _ _ (omega (arith, size, long)) in
    rw past refl
