-- What the calls of a heap answer and leave, over the list of its objects in the order of making.
use Rattle.std.specs.Prelude.{◌≡◌, ℕ, zero, suc, ◌+◌, ◌*◌, ◌%◌, ◌^◌, ◌==◌, nat_lt, nat_le, Bool, false, ◌||◌, if◌then◌else◌, List, [], ◌∷◌, ◌++◌, length, drop, slice_get, slice_set, Option, None, is_some, Result, Ok, Err}
use Rattle.std.specs.Option.{option_map, option_map_or}
use Rattle.byteorder.specs.Endian.{little_bytes, little_number}
use Rattle.obj_heap.specs.declared.address.ObjRef.{ObjRef}
use Rattle.obj_heap.specs.declared.address.Address.{Address}
use Rattle.obj_heap.specs.declared.address.PlaceKind.{PlaceKind}
use Rattle.obj_heap.specs.declared.address.PlaceKind.TheVariants.{Outside}
use Rattle.obj_heap.specs.declared.fault.HeapFault.{HeapFault}
use Rattle.obj_heap.specs.declared.fault.HeapFault.TheVariants as fault
use Rattle.obj_heap.specs.declared.room.TheConstants.{HEAP_LIMIT}
use Rattle.obj_heap.specs.Objects.{Object, kind_in, put, blank, array_size, array_refs, string_object}

-- the number of a width that an access may have
abbrev pub is_width : ℕ → Bool
is_width n = (n == 1) || (n == 2) || (n == 4) || (n == 8)

-- whether references that are said of an element say all of it, or nothing
abbrev pub are_whole : ℕ → List Bool → Bool
are_whole size refs = (length refs == 0) || (8 * length refs == size)

module _ {H : Type 0} where
  -- how many bytes all objects take
  unfoldable pub total : List (Object H) → ℕ
  total [] = 0
  total (o ∷ s) = length o.bytes + total s

  -- the object that a reference names; none at null
  abbrev pub object_at : List (Object H) → ℕ → Option (Object H)
  object_at s zero = None
  object_at s (suc n) = slice_get s n

  -- ---- making

  -- the objects with one more, and the reference to it
  abbrev pub added : Object H → List (Object H) → Result (ObjRef × List (Object H)) HeapFault
  added o s = if nat_lt HEAP_LIMIT (total s + length o.bytes) then Err fault.HeapFull else Ok (record { 0 = length s + 1 }, s ++ o ∷ [])

  unfoldable pub new_object : H → ℕ → List Bool → List (Object H) → Result (ObjRef × List (Object H)) HeapFault
  new_object h size refs s = added (blank h 0 size refs) s

  unfoldable pub new_array : H → ℕ → ℕ → List Bool → List (Object H) → Result (ObjRef × List (Object H)) HeapFault
  new_array h element n refs s = added (blank h n (array_size element n) (array_refs refs n)) s

  unfoldable pub new_string : H → List ℕ → List (Object H) → Result (ObjRef × List (Object H)) HeapFault
  new_string h units s = added (string_object h units) s

  -- ---- looking

  abbrev pub is_made : List (Object H) → ObjRef → Bool
  is_made s r = is_some (object_at s r.0)

  -- the reference that is spelled by a number
  abbrev pub find : List (Object H) → ℕ → Option ObjRef
  find s n = option_map (λ o. record { 0 = n }) (object_at s n)

  abbrev pub handle_of : List (Object H) → ObjRef → Option H
  handle_of s r = option_map (λ o. o.of) (object_at s r.0)

  abbrev pub length_of : List (Object H) → ObjRef → ℕ
  length_of s r = option_map_or (λ o. o.count) (object_at s r.0) 0

  -- whether so many bytes from a place on are inside its object
  abbrev pub is_inside : List (Object H) → Address → ℕ → Bool
  is_inside s p width = option_map_or (λ o. nat_le (p.offset + width) (length o.bytes)) (object_at s p.object.0) false

  -- what so many bytes of an object are
  abbrev pub kind_of : Object H → ℕ → ℕ → PlaceKind
  kind_of o offset width = if nat_lt (length o.bytes) (offset + width) then Outside else kind_in o.refs offset width

  abbrev pub kind_at : List (Object H) → Address → ℕ → PlaceKind
  kind_at s p width = option_map_or (λ o. kind_of o p.offset width) (object_at s p.object.0) Outside

  -- the number in so many bytes, the lowest first
  abbrev pub read_at : List (Object H) → Address → ℕ → ℕ
  read_at s p width = option_map_or (λ o. little_number width (drop p.offset o.bytes)) (object_at s p.object.0) 0

  -- ---- writing

  -- the lowest bytes of the number stand at the place
  abbrev pub written : Object H → ℕ → ℕ → ℕ → Object H
  written o offset width value = record { of = o.of; count = o.count; bytes = put offset (little_bytes width (value % 256 ^ width)) o.bytes; refs = o.refs }

  -- the objects with another one at a number
  abbrev pub object_set : List (Object H) → ℕ → Object H → List (Object H)
  object_set s zero o = s
  object_set s (suc n) o = slice_set s n o

  abbrev pub write_at : List (Object H) → Address → ℕ → ℕ → List (Object H)
  write_at s p width value = option_map_or (λ o. object_set s p.object.0 (written o p.offset width value)) (object_at s p.object.0) s

-- a call that makes an object gave this result, and left these objects; want of memory is free
abbrev pub Makes : {S : Type 0} → Result ObjRef HeapFault → S → Result (ObjRef × S) HeapFault → Type 0
Makes (Ok r) new expected = expected ≡ Ok (r, new)
Makes (Err fault.HeapFull) new expected = expected ≡ Err fault.HeapFull
Makes (Err fault.Memory) new expected = Unit {0}
