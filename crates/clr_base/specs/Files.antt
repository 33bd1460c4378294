-- What a shelf's files hold, by name, where it tells it.
use Rattle.std.specs.Prelude.{◌≡◌, ℕ, List, Option, None, Some}
use Rattle.std.specs.Option.{option_map}
use Rattle.std.specs.List.{find}
use Rattle.std.specs.Str.{bytes_eq}
use Rattle.clr_base.specs.declared.memory.MemFile.{MemFile}

-- these bytes are what the file of that name holds, where that is told
abbrev pub IsFile : Option (List ℕ → Option (List ℕ)) → List ℕ → List ℕ → Type 0
IsFile None name bytes = Unit {0}
IsFile (Some files) name bytes = files name ≡ Some bytes

-- the first file of that name
abbrev pub named : List MemFile → List ℕ → Option MemFile
named files name = find (λ file. bytes_eq file.name name) files

-- what the first file of that name holds
abbrev pub held : List MemFile → List ℕ → Option (List ℕ)
held files name = option_map (λ file. file.bytes) (named files name)
