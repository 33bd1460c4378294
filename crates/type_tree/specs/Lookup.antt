-- Names of definitions, and definitions by their names.
use Rattle.std.specs.Prelude.{ℕ, Bool, not, ◌&&◌, ◌==◌, List, [], Option, Some, None, slice_get, unwrap_or, option_map}
use Rattle.std.specs.List.{position_from}
use Rattle.std.specs.Option.{option_or}
use Rattle.std.specs.Str.{bytes_eq}
use Rattle.clr_base.specs.declared.ids.DefId.{DefId}
use Rattle.clr_base.specs.declared.ids.NameId.{NameId}
use Rattle.type_tree.specs.declared.definition.Def.{Def}
use Rattle.type_tree.specs.declared.lookup.Place.{Place}
use Rattle.type_tree.specs.declared.lookup.Place.TheVariants.{Files, Core}
use Rattle.type_tree.specs.World.{Facts}

-- the text of a name, the empty text where there is none with that number
unfoldable pub name_text : Facts → NameId → List ℕ
name_text w name = unwrap_or (slice_get w.names name.0) []

abbrev pub name_of : Facts → Option Def → List ℕ
name_of w None = []
name_of w (Some d) = name_text w d.name

-- the full name of a definition, the empty text where there is none with that number
unfoldable pub full_name : Facts → DefId → List ℕ
full_name w id = name_of w (slice_get w.defs id.0)

-- the core library is file 0
abbrev pub is_in : Place → Def → Bool
is_in Files d = not (d.file == 0)
is_in Core d = d.file == 0

abbrev pub is_named : Facts → Place → List ℕ → Def → Bool
is_named w place name d = is_in place d && bytes_eq (name_text w d.name) name

-- the number of the first definition that stands there and has that full name
abbrev pub first_in : Facts → Place → List ℕ → Option ℕ
first_in w place name = position_from (is_named w place name) 0 w.defs

abbrev pub def_id : ℕ → DefId
def_id n = record { 0 = n }

-- the first definition of a full name: among those of the files, in order, then in the core
unfoldable pub first_named : Facts → List ℕ → Option DefId
first_named w name = option_map def_id (option_or (first_in w Files name) (first_in w Core name))
