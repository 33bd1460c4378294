-- The first place of each name of a type in a list of names.
use Rattle.std.specs.Prelude.{◌≡◌, ℕ, ◌==◌, ◌&&◌, List, Bool, Option, Some, is_some, if◌then◌else◌, get_or, length, map, ◌<◌}
use Rattle.std.specs.List.{find, range_with_len}
use Rattle.indexmap.specs.IndexMap.{IndexMap, get}
use Rattle.type_names.specs.declared.type_keys.TypeKey.{TypeKey}
use Rattle.clr_base.specs.declared.ids.NameId.{NameId}
use Rattle.type_names.specs.declared.type_texts.NameColumns.{NameColumns}
use Rattle.type_names.specs.declared.type_keys.FirstPlaces.{FirstPlaces}

-- two keys are the same
abbrev pub same_key : TypeKey → TypeKey → Bool
same_key a b = a.around == b.around && (a.namespace == b.namespace && a.name == b.name)

-- ---- lists of names

-- the number at a place
abbrev pub number_at : List NameId → ℕ → ℕ
number_at ids i = (get_or ids i (record { 0 = 0 })).0

-- what types are called, by the definitions around them and by the numbers of their namespaces and names
abbrev pub key_of : (ℕ → ℕ) → NameColumns → ℕ → TypeKey
key_of around columns i = record { around = around i; namespace = number_at columns.namespaces i; name = number_at columns.names i }

abbrev pub keys_of : (ℕ → ℕ) → NameColumns → ℕ → List TypeKey
keys_of around columns count = map (key_of around columns) (range_with_len 0 count)

-- ---- first places

-- the key at a place
abbrev pub key_at : List TypeKey → ℕ → TypeKey
key_at keys i = get_or keys i (record { around = 0; namespace = 0; name = 0 })

-- the first of some places at which a key stands
abbrev pub first_of : List TypeKey → TypeKey → ℕ → Option ℕ
first_of keys key n = find (λ i. same_key key (key_at keys i)) (range_with_len 0 n)

-- the place that is noted of a key
abbrev pub place_in : {S : Type 0} → IndexMap TypeKey ℕ S → TypeKey → Option ℕ
place_in places key = get same_key places key

-- the place that is noted of the key k, once `place` was noted of `key` where it had none
abbrev pub place_with : {S : Type 0} → IndexMap TypeKey ℕ S → TypeKey → ℕ → TypeKey → Option ℕ
place_with places key place k =
    if is_some (place_in places key) then place_in places k
    else if same_key key k then Some place
    else place_in places k

-- where an index finds a key
abbrev pub first_at : FirstPlaces → TypeKey → Option ℕ
first_at index key = place_in index.places key

-- it is the first place of the key in a list
pub record Finds (keys : List TypeKey) (index : FirstPlaces) : Type 0 where
  pub few : length keys < 4294967295
  pub each : (key : TypeKey) → first_at index key ≡ first_of keys key (length keys)
