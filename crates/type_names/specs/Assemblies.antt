-- The names of assemblies by their numbers.
use Rattle.std.specs.Prelude.{◌==◌, List, Bool, false, slice_get}
use Rattle.std.specs.List.{list_any}
use Rattle.std.specs.Option.{option_map_or}
use Rattle.clr_base.specs.declared.ids.NameId.{NameId}
use Rattle.type_names.specs.declared.type_texts.FileTexts.{FileTexts}

-- the first Assembly row of a file has a name
abbrev pub has_number : FileTexts → NameId → Bool
has_number texts name = option_map_or (λ own. name.0 == own.0) (slice_get texts.assemblies 0) false

-- a name is one of several
abbrev pub is_among : List NameId → NameId → Bool
is_among ids name = list_any (λ own. own.0 == name.0) ids
