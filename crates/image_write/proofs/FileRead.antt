-- A file with the headers of one section is read as they say.
use Rattle.std.proofs.Common.{◌≡◌, ℕ, suc, ◌+◌, ◌-◌, ◌*◌, ◌<◌, ◌≤◌, List, [], ◌∷◌, length, max, Bool, true, false, cond, ◌||◌, ◌==◌, nat_le, if◌then◌else◌, Option, Some, None, is_some, Ok, refl, ◌∙◌, ap, ap₂, arith}
use Rattle.std.proofs.lemmas.Bool.{le-leb}
use Rattle.std.specs.List.{find}
use Rattle.std.specs.Option.{option_and_then, unwrap_or}
use Rattle.clr_base.specs.LittleEndian.{u16_at, u32_at, has_range}
use Rattle.clr_base.specs.Checks.{outcome}
use Rattle.clr_base.proofs.Checks.{outcome_passed}
use Rattle.pe_image.specs.declared.sections.Section.{Section}
use Rattle.pe_image.specs.declared.locate.Places.{Places}
use Rattle.pe_image.specs.Headers as pe
use Rattle.pe_image.specs.Sections.{section_at, covers, table_at, place_in, place_by, sections, place_of}
use Rattle.pe_image.specs.Metadata.{has_dos_header, has_pe_header, has_optional_header, has_cli_directory, has_section_table, header_checks, cli_header, metadata_rva, metadata_size, metadata_range, range_checks, places, metadata_of}
use Rattle.image_write.specs.Image.{optional_len, directories}

-- what stands in the headers: the section has n bytes, and the metadata m
pub record IsFile (bytes : List ℕ) (plus : Bool) (n m : ℕ) : Type 0 where
  pub dos : u16_at bytes 0 ≡ 0x5a4d
  pub pe_at : u32_at bytes 60 ≡ 64
  pub signature : u32_at bytes 64 ≡ 0x4550
  pub count : u16_at bytes 70 ≡ 1
  pub size : u16_at bytes 84 ≡ optional_len plus
  pub magic : u16_at bytes 88 ≡ (if plus then 0x20b else 0x10b)
  pub directory_count : u32_at bytes (84 + directories plus) ≡ 16
  pub cli_rva : u32_at bytes (200 + directories plus) ≡ 0x2000
  pub virtual_size : u32_at bytes (96 + optional_len plus) ≡ n
  pub address : u32_at bytes (100 + optional_len plus) ≡ 0x2000
  pub raw_size : u32_at bytes (104 + optional_len plus) ≡ n
  pub raw_at : u32_at bytes (108 + optional_len plus) ≡ 512
  pub meta_rva : u32_at bytes 520 ≡ 0x2048
  pub meta_len : u32_at bytes 524 ≡ m
  pub long : length bytes ≡ 512 + n
  pub inside : 72 + m ≤ n
  pub some : 0 < m

module _ (bytes : List ℕ) (plus : Bool) (n m : ℕ) (f : IsFile bytes plus n m) where
  pe_is : pe.pe_at bytes ≡ 64
  unfolding pe.pe_at
  pe_is = f.pe_at

  count_is : pe.section_count bytes ≡ 1
  unfolding pe.section_count
  count_is = ap (λ (p : ℕ). u16_at bytes (p + 6)) pe_is ∙ f.count

  size_is : pe.optional_size bytes ≡ optional_len plus
  unfolding pe.optional_size
  size_is = ap (λ (p : ℕ). u16_at bytes (p + 20)) pe_is ∙ f.size

  optional_is : pe.optional_at bytes ≡ 88
  optional_is = ap (λ (p : ℕ). p + 24) pe_is

  magic_is : pe.magic bytes ≡ (if plus then 0x20b else 0x10b)
  unfolding pe.magic
  magic_is = ap (λ (p : ℕ). u16_at bytes p) optional_is ∙ f.magic

  directories_by : (b : Bool) → (if (if b then 0x20b else 0x10b) == 0x20b then 112 else 96) ≡ directories b
  directories_by true = refl
  directories_by false = refl

  directories_are : pe.directories bytes ≡ directories plus
  unfolding pe.directories
  directories_are = ap (λ (x : ℕ). if x == 0x20b then 112 else 96) magic_is ∙ directories_by plus

  directory_count_is : pe.directory_count bytes ≡ 16
  unfolding pe.directory_count
  directory_count_is =
      let e : 88 + directories plus - 4 ≡ 84 + directories plus = omega arith in
      ap₂ (λ (o d : ℕ). u32_at bytes (o + d - 4)) optional_is directories_are ∙ ap (λ (p : ℕ). u32_at bytes p) e ∙ f.directory_count

  cli_is : pe.cli_rva bytes ≡ 0x2000
  unfolding pe.cli_rva
  cli_is =
      let e : 88 + directories plus + 112 ≡ 200 + directories plus = omega arith in
      ap₂ (λ (o d : ℕ). u32_at bytes (o + d + 112)) optional_is directories_are ∙ ap (λ (p : ℕ). u32_at bytes p) e ∙ f.cli_rva

  sections_at_is : pe.sections_at bytes ≡ 88 + optional_len plus
  sections_at_is = ap₂ (λ (o s : ℕ). o + s) optional_is size_is

  section : Section
  section = record { virtual_size = n; address = 0x2000; raw_size = n; raw_at = 512 }

  same_section : (a a' b b' c c' d d' : ℕ) → a ≡ a' → b ≡ b' → c ≡ c' → d ≡ d'
      → ◌≡◌ {A = Section} (record { virtual_size = a; address = b; raw_size = c; raw_at = d }) (record { virtual_size = a'; address = b'; raw_size = c'; raw_at = d' })
  same_section a a' b b' c c' d d' e g h i =
      ap₂ (λ (x y : ℕ). let s : Section = record { virtual_size = x; address = y; raw_size = c; raw_at = d } in s) e g
      ∙ ap₂ (λ (x y : ℕ). let s : Section = record { virtual_size = a'; address = b'; raw_size = x; raw_at = y } in s) h i

  at_more : (p k q : ℕ) → p + k ≡ q → u32_at bytes (p + k) ≡ u32_at bytes q
  at_more p k q e = ap (λ (x : ℕ). u32_at bytes x) e

  section_is : section_at bytes (88 + optional_len plus + 0) ≡ section
  unfolding section_at section
  section_is =
      let p = 88 + optional_len plus + 0 in
      same_section _ _ _ _ _ _ _ _
      (at_more p 8 (96 + optional_len plus) (omega arith) ∙ f.virtual_size)
      (at_more p 12 (100 + optional_len plus) (omega arith) ∙ f.address)
      (at_more p 16 (104 + optional_len plus) (omega arith) ∙ f.raw_size)
      (at_more p 20 (108 + optional_len plus) (omega arith) ∙ f.raw_at)

  sections_are : sections bytes ≡ section ∷ []
  sections_are =
      ap₂ (λ (at count : ℕ). table_at bytes at count) sections_at_is count_is
      ∙ ap (λ (s : Section). s ∷ []) section_is

  -- bytes of the section lie behind the headers
  pub place_found : (rva len : ℕ) → 0x2000 ≤ rva → rva < 0x2000 + n → rva + len ≤ 0x2000 + n → place_of bytes rva len ≡ Some (512 + (rva - 0x2000))
  unfolding place_by section
  place_found rva len low high inside =
      let long = f.long in
      let first = le-leb 0x2000 rva low in
      let last = le-leb (suc rva) (0x2000 + max n n) (omega arith) in
      let raw = le-leb (rva - 0x2000 + len) n (omega arith) in
      let file = le-leb (512 + (rva - 0x2000) + len) (length bytes) (omega arith) in
      let s : Section = record { virtual_size = n; address = 0x2000; raw_size = n; raw_at = 512 } in
      let covered : covers rva s ≡ true = rw (first, last) refl in
      let placed : place_in bytes rva len s ≡ Some (512 + (rva - 0x2000)) = rw (raw, file) refl in
      ap (λ (table : List Section). option_and_then (place_in bytes rva len) (find (covers rva) table)) sections_are
      ∙ ap (λ (b : Bool). option_and_then (place_in bytes rva len) (cond b (Some s) None)) covered
      ∙ placed

  cli_found : cli_header bytes ≡ Some 512
  cli_found =
      let inside = f.inside in
      let some = f.some in
      ap (λ (rva : ℕ). place_of bytes rva 72) cli_is ∙ place_found 0x2000 72 (omega arith) (omega arith) (omega arith)

  rva_is : metadata_rva bytes ≡ 0x2048
  rva_is = ap (λ (p : Option ℕ). u32_at bytes (unwrap_or p 0 + 8)) cli_found ∙ f.meta_rva

  len_is : metadata_size bytes ≡ m
  len_is = ap (λ (p : Option ℕ). u32_at bytes (unwrap_or p 0 + 12)) cli_found ∙ f.meta_len

  range_found : metadata_range bytes ≡ Some 584
  range_found =
      let inside = f.inside in
      let some = f.some in
      ap₂ (λ (rva len : ℕ). place_of bytes rva len) rva_is len_is ∙ place_found 0x2048 m (omega arith) (omega arith) (omega arith)

  magic_known : (b : Bool) → ((if b then 0x20b else 0x10b) == 0x10b || (if b then 0x20b else 0x10b) == 0x20b) ≡ true
  magic_known true = refl
  magic_known false = refl

  two_bytes : (b : Bool) → nat_le 2 (optional_len b) ≡ true
  two_bytes true = refl
  two_bytes false = refl

  room_for_cli : (b : Bool) → nat_le (directories b + 120) (optional_len b) ≡ true
  room_for_cli true = refl
  room_for_cli false = refl

  short_header : (b : Bool) → optional_len b ≤ 240
  short_header true = omega arith
  short_header false = omega arith

  dos_passes : has_dos_header bytes ≡ true
  dos_passes =
      let long = f.long in
      let size = le-leb (0 + 64) (length bytes) (omega arith) in
      rw (size, f.dos) refl

  pe_passes : has_pe_header bytes ≡ true
  pe_passes =
      let long = f.long in
      let inside = f.inside in
      let size : has_range bytes (pe.pe_at bytes) 24 ≡ true = ap (λ (p : ℕ). has_range bytes p 24) pe_is ∙ le-leb (64 + 24) (length bytes) (omega arith) in
      let sign : u32_at bytes (pe.pe_at bytes) ≡ 0x4550 = ap (λ (p : ℕ). u32_at bytes p) pe_is ∙ f.signature in
      rw (size, sign) refl

  optional_passes : has_optional_header bytes ≡ true
  optional_passes =
      let long = f.long in
      let shortness = short_header plus in
      let size : has_range bytes (pe.optional_at bytes) (pe.optional_size bytes) ≡ true =
      ap₂ (λ (p s : ℕ). has_range bytes p s) optional_is size_is ∙ le-leb (88 + optional_len plus) (length bytes) (omega arith) in
      let two : nat_le 2 (pe.optional_size bytes) ≡ true = ap (λ (s : ℕ). nat_le 2 s) size_is ∙ two_bytes plus in
      let known : (pe.magic bytes == 0x10b || pe.magic bytes == 0x20b) ≡ true = ap (λ (x : ℕ). x == 0x10b || x == 0x20b) magic_is ∙ magic_known plus in
      rw (size, two, known) refl

  cli_passes : has_cli_directory bytes ≡ true
  cli_passes =
      let room : nat_le (pe.directories bytes + 120) (pe.optional_size bytes) ≡ true =
      ap₂ (λ (d s : ℕ). nat_le (d + 120) s) directories_are size_is ∙ room_for_cli plus in
      rw (room, directory_count_is, cli_is) refl

  table_passes : has_section_table bytes ≡ true
  table_passes =
      let long = f.long in
      let shortness = short_header plus in
      ap₂ (λ (p c : ℕ). has_range bytes p (40 * c)) sections_at_is count_is ∙ le-leb (88 + optional_len plus + 40) (length bytes) (omega arith)

  same_places : (a a' b b' c c' d d' : ℕ) → a ≡ a' → b ≡ b' → c ≡ c' → d ≡ d'
      → ◌≡◌ {A = Places} (record { meta_start = a; meta_len = b; sections_at = c; section_count = d }) (record { meta_start = a'; meta_len = b'; sections_at = c'; section_count = d' })
  same_places a a' b b' c c' d d' e g h i =
      ap₂ (λ (x y : ℕ). let s : Places = record { meta_start = x; meta_len = y; sections_at = c; section_count = d } in s) e g
      ∙ ap₂ (λ (x y : ℕ). let s : Places = record { meta_start = a'; meta_len = b'; sections_at = x; section_count = y } in s) h i

  places_are : places bytes ≡ record { meta_start = 584; meta_len = m; sections_at = 88 + optional_len plus; section_count = 1 }
  unfolding places
  places_are = same_places _ _ _ _ _ _ _ _ (ap (λ (p : Option ℕ). unwrap_or p 0) range_found) len_is sections_at_is count_is

  headers_pass : outcome (header_checks bytes) (tt {0}) ≡ Ok (tt {0})
  unfolding header_checks
  headers_pass = rw (dos_passes, pe_passes, optional_passes, cli_passes, table_passes) refl

  ranges_pass : outcome (range_checks bytes) (places bytes) ≡ Ok (places bytes)
  unfolding range_checks
  ranges_pass =
      let cli : is_some (cli_header bytes) ≡ true = ap is_some cli_found in
      let range : is_some (metadata_range bytes) ≡ true = ap is_some range_found in
      rw (cli, range) refl

  pub metadata_found : metadata_of bytes ≡ Ok (record { meta_start = 584; meta_len = m; sections_at = 88 + optional_len plus; section_count = 1 })
  metadata_found =
      outcome_passed (header_checks bytes) (range_checks bytes) (tt {0}) (tt {0}) (places bytes) headers_pass
      ∙ ranges_pass
      ∙ ap (λ (p : Places). Ok p) places_are
