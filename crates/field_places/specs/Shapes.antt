-- What a field takes, and in which order fields are placed.
use Rattle.std.specs.Prelude.{ℕ, Bool, true, false, ◌&&◌, ◌||◌, ◌==◌, nat_le, if◌then◌else◌, List, min, map}
use Rattle.std.specs.List.{list_all, list_any}
use Rattle.field_places.specs.declared.shape.Content.{Content}
use Rattle.field_places.specs.declared.shape.Content.TheVariants.{Plain, Reference}
use Rattle.field_places.specs.declared.shape.Shape.{Shape}
use Rattle.field_places.specs.declared.shape.Arrangement.{Arrangement}
use Rattle.field_places.specs.declared.shape.Arrangement.TheVariants.{Auto, Sequential}

-- no end and no size passes this many bytes
abbrev pub limit : ℕ
limit = 1048576

abbrev pub is_reference : Content → Bool
is_reference Reference = true
is_reference _ = false

abbrev pub is_plain : Content → Bool
is_plain Plain = true
is_plain _ = false

-- is a reference, or holds one
abbrev pub has_refs : Shape → Bool
has_refs s = if is_plain s.content then false else true

-- a field takes some bytes, and is aligned to 8 at most; to 8 where it is or holds a reference
abbrev pub is_shape : Shape → Bool
is_shape s =
    nat_le 1 s.size && nat_le s.size limit && nat_le 1 s.align && nat_le s.align 8 && (is_plain s.content || s.align == 8)

abbrev pub are_shapes : List Shape → Bool
are_shapes ss = list_all is_shape ss

abbrev pub any_refs : List Shape → Bool
any_refs ss = list_any has_refs ss

-- where a field is or holds a reference, sequential fields are placed as by auto
abbrev pub arrangement : Bool → Arrangement → Arrangement
arrangement refs Sequential = if refs then Auto else Sequential
arrangement refs a = a

-- an alignment is at most the packing, where that isn't 0
abbrev pub limited : ℕ → Shape → Shape
limited packing s = if packing == 0 then s else record { size = s.size; align = min s.align packing; content = s.content }

-- the packing counts for sequential fields alone
abbrev pub packed : Arrangement → ℕ → List Shape → List Shape
packed Sequential packing ss = map (limited packing) ss
packed _ packing ss = ss

-- references first, then by falling alignment
abbrev pub falling : Shape → ℕ
falling s = if is_reference s.content then 9 else s.align

-- Fields of higher rank are placed first, and those of one rank in declared order; sequential fields
-- have one rank.
abbrev pub rank : Arrangement → Shape → ℕ
rank Sequential s = 1
rank _ s = falling s
