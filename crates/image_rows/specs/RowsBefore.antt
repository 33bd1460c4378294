-- What is kept of the rows before one, while the rows of NestedClass and of GenericParam are checked.
use Rattle.std.specs.Prelude.{◌≡◌, ℕ, ◌+◌, ◌*◌, ◌<◌, List, length, max, Bool, get_or}
use Rattle.cli_tables.specs.Layout.{row_count}
use Rattle.cli_tables.specs.Metadata.{Metadata}
use Rattle.image_rows.specs.Rows.{nested_in_first, owned_in_first}

-- for each row of TypeDef, by its number, whether one of the first n rows of NestedClass nests it
pub record AreNested (m : Metadata) (n : ℕ) (seen : List Bool) : Type 0 where
  pub count : length seen ≡ row_count m.tables 0x02 + 1
  pub each : (type : ℕ) (d : Bool) → type < row_count m.tables 0x02 + 1 → get_or seen type d ≡ nested_in_first m n type

-- for each owner, by its coded index, how many of the first n rows of GenericParam it owns
pub record AreOwned (m : Metadata) (n : ℕ) (owned : List ℕ) : Type 0 where
  pub count : length owned ≡ 2 * (max (row_count m.tables 0x02) (row_count m.tables 0x06) + 1)
  pub each : (of d : ℕ) → of < length owned → get_or owned of d ≡ owned_in_first m n of
