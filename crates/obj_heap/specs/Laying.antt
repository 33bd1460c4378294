-- How a heap keeps its objects: the bytes of all stand in one list, one object behind the other, and beside it stands what each eight bytes are.
use Rattle.std.specs.Prelude.{◌≡◌, ℕ, zero, suc, ◌+◌, ◌*◌, ◌≤◌, ◌==◌, nat_lt, Bool, ◌&&◌, List, [], ◌∷◌, length, take, drop, Option, None, slice_get, IsTrue}
use Rattle.obj_heap.specs.declared.made.Made.{Made}
use Rattle.obj_heap.specs.declared.room.TheConstants.{HEAP_LIMIT}
use Rattle.obj_heap.specs.Objects.{Object}

module _ {H : Type 0} where
  -- what is noted of the object with a number; none at null
  abbrev pub noted_at : List (Made H) → ℕ → Option (Made H)
  noted_at ms zero = None
  noted_at ms (suc n) = slice_get ms n

  -- an object by what is noted of it, where it begins these lists
  abbrev pub object_of : Made H → List ℕ → List Bool → Object H
  object_of m bytes refs = record { of = m.of; count = m.count; bytes = take (8 * m.words) bytes; refs = take m.words refs }

  -- the objects, one behind the other
  unfoldable pub objects_of : List (Made H) → List ℕ → List Bool → List (Object H)
  objects_of [] bytes refs = []
  objects_of (m ∷ ms) bytes refs = object_of m bytes refs ∷ objects_of ms (drop (8 * m.words) bytes) (drop m.words refs)

  -- each object begins where the one before it ends, and takes some words; the last ends at the end
  unfoldable pub are_laid : ℕ → List (Made H) → ℕ → Bool
  are_laid first [] end = first == end
  are_laid first (m ∷ ms) end = (m.first == first) && (nat_lt 0 m.words && are_laid (first + m.words) ms end)

pub record IsLaid (H : Type 0) (made : List (Made H)) (bytes : List ℕ) (refs : List Bool) : Type 0 where
  pub laid : IsTrue (are_laid 0 made (length refs))
  pub eights : length bytes ≡ 8 * length refs
  pub limit : length bytes ≤ HEAP_LIMIT
