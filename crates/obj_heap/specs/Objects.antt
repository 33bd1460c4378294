-- Objects, as a machine sees them: each is a list of bytes.
use Rattle.std.specs.Prelude.{ℕ, zero, suc, ◌+◌, ◌-◌, ◌*◌, ◌/◌, ◌%◌, ◌==◌, Bool, false, ◌&&◌, ◌||◌, if◌then◌else◌, List, [], ◌∷◌, ◌++◌, length, map, take, drop, replicate, slice_index_or}
use Rattle.std.specs.List.{flat_map, repeat}
use Rattle.byteorder.specs.Endian.{little_bytes}
use Rattle.obj_heap.specs.declared.address.PlaceKind.{PlaceKind}
use Rattle.obj_heap.specs.declared.address.PlaceKind.TheVariants.{Numbers, Reference, Mixed}

-- An object of an exact type, which H names. It keeps what it was made with: the name, how many elements or units it has, how many bytes, and which of them are a reference's.
pub record Object (H : Type 0) : Type 0 where
  pub of : H
  pub count : ℕ
  pub bytes : List ℕ
  -- for each eight bytes, from the first on, whether they are a reference's
  pub refs : List Bool

-- how many times eight bytes a size takes, rounded up
abbrev pub words : ℕ → ℕ
words size = (size + 7) / 8

-- whether a byte is a reference's
abbrev pub is_ref : List Bool → ℕ → Bool
is_ref refs k = slice_index_or refs (k / 8) false

-- whether one of so many bytes from a place on is a reference's
abbrev pub any_ref : List Bool → ℕ → ℕ → Bool
any_ref refs at zero = false
any_ref refs at (suc n) = is_ref refs at || any_ref refs (suc at) n

-- What so many bytes from a place on are. A reference has eight bytes, of one word.
unfoldable pub kind_in : List Bool → ℕ → ℕ → PlaceKind
kind_in refs at width = if any_ref refs at width then (if (width == 8) && (at % 8 == 0) then Reference else Mixed) else Numbers

-- a list with others in the place of some of its elements
abbrev pub put : ℕ → List ℕ → List ℕ → List ℕ
put at ys xs = take at xs ++ (ys ++ drop (length ys) (drop at xs))

-- the first words' references, and no others, in so many words
abbrev pub filled : ℕ → List Bool → List Bool
filled n refs = refs ++ replicate (n - length refs) false

-- an object whose bytes are 0
unfoldable pub blank : {H : Type 0} → H → ℕ → ℕ → List Bool → Object H
blank h count size refs = record { of = h; count = count; bytes = replicate (8 * words size) 0; refs = filled (words size) refs }

-- An array begins with 16 bytes, and its elements follow. Each is as the others.
abbrev pub array_size : ℕ → ℕ → ℕ
array_size element n = 16 + element * n

abbrev pub array_refs : List Bool → ℕ → List Bool
array_refs element n = false ∷ false ∷ repeat n element

-- A string begins with 16 bytes, and its units follow, two bytes each, the lowest first.
abbrev pub string_size : List ℕ → ℕ
string_size units = 16 + 2 * length units

abbrev pub string_bytes : List ℕ → List ℕ
string_bytes units = replicate 16 0 ++ flat_map (little_bytes 2) units

unfoldable pub string_object : {H : Type 0} → H → List ℕ → Object H
string_object h units = record {
  of = h;
  count = length units;
  bytes = string_bytes units ++ replicate (8 * words (string_size units) - string_size units) 0;
  refs = filled (words (string_size units)) [];
}

-- the object with another name
abbrev pub map_object : {A B : Type 0} → (A → B) → Object A → Object B
map_object f o = record { of = f o.of; count = o.count; bytes = o.bytes; refs = o.refs }

abbrev pub map_objects : {A B : Type 0} → (A → B) → List (Object A) → List (Object B)
map_objects f s = map (map_object f) s
