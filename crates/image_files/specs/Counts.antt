-- How many definitions, methods, fields and signatures files may give a world, so that tokens can number them.
use Rattle.std.specs.Prelude.{ℕ, ◌+◌, ◌&&◌, List, [], ◌∷◌, length, min, Bool, nat_le}
use Rattle.std.specs.List.{sum_by}
use Rattle.clr_base.specs.declared.image_fault.FaultKind.TheVariants.{TooMany}
use Rattle.clr_base.specs.Checks.{Check, check}
use Rattle.cli_tables.specs.Metadata.{Metadata}
use Rattle.image_files.specs.declared.counts.Totals.{Totals}
use Rattle.clr_base.specs.Core.{core_defs, core_methods, core_sigs}
use Rattle.image_rows.specs.Cells.{rows}
use Rattle.image_rows.specs.Rows.{token}
use Rattle.image_files.specs.Signatures.{listed, locals_before, locals_by, sigs_in}

-- the most that tokens can number: 24 bits of them are a row (ECMA-335 III.1.9)
abbrev pub most : ℕ
most = 16777215

-- those of the core library and of some files; the core has no fields
unfoldable pub totals_of : List Metadata → Totals
totals_of files = record {
  defs = core_defs + sum_by (λ m. rows m 0x02) files;
  methods = core_methods + sum_by (λ m. rows m 0x06) files;
  fields = sum_by (λ m. rows m 0x04) files;
  sigs = core_sigs + sum_by sigs_in files;
}

unfoldable pub are_few : Totals → Bool
are_few t = nat_le t.defs most && nat_le t.methods most && nat_le t.fields most && nat_le t.sigs most

-- the check of a file's counts, given with the counts of the files before it and its own
unfoldable pub count_checks : Totals → List Check
count_checks t = check (are_few t) TooMany (token 0x00 1) ∷ []

-- those of one file more
unfoldable pub with_file : Totals → Metadata → Totals
with_file t m = record {
  defs = t.defs + rows m 0x02;
  methods = t.methods + rows m 0x06;
  fields = t.fields + rows m 0x04;
  sigs = t.sigs + sigs_in m;
}

-- ---- counts that stop where they are too many

abbrev pub too_many : ℕ
too_many = most + 1

abbrev pub capped : ℕ → ℕ
capped n = min n too_many

-- how many local variables the blob at an index lists, up to one too many
unfoldable pub local_count : Metadata → ℕ → ℕ
local_count m index = capped (length (listed (locals_by m index)))

-- how many all rows of StandAloneSig list, up to one too many
unfoldable pub all_locals : Metadata → ℕ
all_locals m = capped (locals_before m (rows m 0x11))
