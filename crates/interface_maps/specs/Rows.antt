-- MethodImpl rows that are found by the interface and the method that they name, over a pool.
use Rattle.std.specs.Prelude.{◌≡◌, ◌<◌, ℕ, ◌+◌, ◌*◌, Bool, false, nat_eq, ◌&&◌, ◌==◌, cond, List, [], ◌∷◌, ◌++◌, map, Option, None, Some}
use Rattle.std.specs.declared.hash.FoldHasher.{FoldHasher}
use Rattle.std.specs.declared.hash.BuildHasherDefault.{BuildHasherDefault}
use Rattle.std.specs.HashMap.{get, HashMap}
use Rattle.std.specs.Option.{option_and_then, option_map_or}
use Rattle.clr_base.specs.declared.ids.MethId.{MethId}
use Rattle.type_tree.specs.declared.definition.Impl.{Impl}
use Rattle.type_tree.specs.declared.tree.Ty.{Ty}
use Rattle.type_tree.specs.World.{Facts}
use Rattle.type_pool.specs.declared.nodes.Id.{Id}
use Rattle.type_pool.specs.Jobs.{SpellAll}
use Rattle.type_pool.specs.Trees.{at}
use Rattle.method_slots.specs.Chains.{longest_chain, number_in, owns, last_of}
use Rattle.interface_maps.specs.Choices.{row_names}

abbrev pub RowNumbers : Type 0
RowNumbers = HashMap ℕ (Option ℕ) (BuildHasherDefault FoldHasher)

-- one number for two
abbrev pub pair : ℕ → ℕ → ℕ
pair t m = t * 4294967296 + m

-- the slot that a row's body takes
abbrev pub row_number : Facts → ℕ → Impl → Option ℕ
row_number w n i = option_and_then (λ (body : MethId). number_in longest_chain w n body.0) i.body

-- whether a row, whose owner has the number k, puts a body for the method m of the interface of the number t
abbrev pub names_number : Facts → ℕ → ℕ → ℕ → ℕ → Impl → Bool
names_number w n t m k i = owns w n i.body && (nat_eq k t && option_map_or (λ (id : MethId). id.0 == m) i.declaration false)

-- the slot is noted where the row puts one
abbrev pub AddsRow : Facts → ℕ → ℕ → Impl → RowNumbers → RowNumbers → Type 0
AddsRow w n k i old new = (t m : ℕ) → m < 4294967296 → get nat_eq new (pair t m) ≡ cond (names_number w n t m k i) (Some (row_number w n i)) (get nat_eq old (pair t m))

-- of the last row that does, after what was known before
abbrev pub last_number : Facts → ℕ → ℕ → ℕ → Option (Option ℕ) → List Id → List Impl → Option (Option ℕ)
last_number w n t m before [] rows = before
last_number w n t m before (k ∷ ks) [] = before
last_number w n t m before (k ∷ ks) (i ∷ rows) = last_number w n t m (cond (names_number w n t m k.0 i) (Some (row_number w n i)) before) ks rows

-- for each interface and method the slot of the last of these rows is noted
pub record AreRows (w : Facts) (n : ℕ) (ts : List Ty) (numbers : RowNumbers) (rows : List Impl) : Type 0 where
  pub ids : List Id
  pub owners : SpellAll ts ids (map (λ (i : Impl). i.owner) rows)
  pub lasts : (t m : ℕ) → m < 4294967296 → get nat_eq numbers (pair t m) ≡ last_number w n t m None ids rows

-- with these after them
abbrev pub GainRows : Facts → ℕ → List Ty → RowNumbers → List Ty → RowNumbers → List Impl → Type 0
GainRows w n ts old us new more = (rows : List Impl) → AreRows w n ts old rows → AreRows w n us new (rows ++ more)

-- the slot of the last row on this method of this interface
abbrev pub FindsRow : List Ty → RowNumbers → Id → ℕ → Option ℕ → Type 0
FindsRow ts numbers t m found = (w : Facts) (n : ℕ) (rows : List Impl) → AreRows w n ts numbers rows → found ≡ option_and_then (row_number w n) (last_of (row_names w n (at ts t) m) rows)
