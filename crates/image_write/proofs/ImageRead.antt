-- The image that is written is read as it is.
use Rattle.std.proofs.Common.{◌≡◌, ℕ, ◌+◌, ◌-◌, ◌^◌, ◌<◌, ◌≤◌, List, ◌++◌, length, drop, get_or, Bool, true, false, Option, Some, None, refl, ◌∙◌, ap, arith, length-append}
use Rattle.std.proofs.Math.Seq.{drop-append-add}
use Rattle.std.specs.Option.{option_map}
use Rattle.clr_base.specs.LittleEndian.{number_at}
use Rattle.pe_image.specs.Sections.{place_of}
use Rattle.cli_tables.specs.Metadata.{read_of}
use Rattle.image_write.specs.declared.draft.Draft.{Draft}
use Rattle.image_write.specs.declared.pieces.Field.{Field}
use Rattle.image_write.specs.Fitting.{fits, crowded}
use Rattle.image_write.specs.Image.{dos_header, file_header, optional_header, section_header, cli_header, file_headers, optional_len, bodies_rva, metadata, image_of}
use Rattle.image_write.specs.Lengths.{metadata_len, section_len, image_len}
use Rattle.image_write.specs.Pieces.{field, structure}
use Rattle.image_write.specs.ReadBack.{ReadsBack}
use Rattle.image_write.proofs.CellsRead.{cell_read}
use Rattle.image_write.proofs.FileRead.{IsFile, metadata_found, place_found}
use Rattle.image_write.proofs.Fitted.{short}
use Rattle.image_write.proofs.Found.{At, at_whole, at_front, at_more, at_behind, at_inside, at_place, at_field, number_found, range_found, ordered}
use Rattle.image_write.proofs.MetadataLengths.{length-metadata}
use Rattle.image_write.proofs.MetadataRead.{metadata_read}
use Rattle.image_write.proofs.TablesRead.{count_read}
use Rattle.image_write.proofs.WrittenLengths.{length-structure, structure_len}

-- how long the headers are

length-dos : length dos_header ≡ 64
unfolding dos_header structure_len
length-dos = length-structure 0 64 _

length-file : (plus : Bool) → length (file_header plus) ≡ 24
unfolding file_header structure_len
length-file plus = length-structure 0 24 _

length-optional : (plus : Bool) → length (optional_header plus) ≡ optional_len plus
unfolding optional_header structure_len
length-optional true = length-structure 0 240 _
length-optional false = length-structure 0 224 _

length-section : (plus : Bool) (n : ℕ) → length (section_header plus n) ≡ 424 - optional_len plus
unfolding section_header structure_len
length-section true n = length-structure 0 184 _
length-section false n = length-structure 0 200 _

length-cli : (m : ℕ) → length (cli_header m) ≡ 72
unfolding cli_header structure_len
length-cli m = length-structure 0 72 _

short_header : (plus : Bool) → optional_len plus ≤ 424
short_header true = omega arith
short_header false = omega arith

-- where they stand
record Headers (whole : List ℕ) (plus : Bool) (n m : ℕ) : Type 0 where
  dos : At whole 0 dos_header
  file : At whole 64 (file_header plus)
  optional : At whole 88 (optional_header plus)
  section : At whole (88 + optional_len plus) (section_header plus n)
  cli : At whole 512 (cli_header m)

headers : (plus : Bool) (n m : ℕ) → Headers (file_headers plus n m) plus n m
unfolding file_headers
headers plus n m =
    let d = dos_header in
    let f = file_header plus in
    let o = optional_header plus in
    let s = section_header plus n in
    let c = cli_header m in
    let ld = length-dos in
    let lf = length-file plus in
    let lo = length-optional plus in
    let ls = length-section plus n in
    let near = short_header plus in
    let at_f = at_behind d (f ++ (o ++ (s ++ c))) f 0 (at_front f (o ++ (s ++ c))) in
    let at_o = at_behind d (f ++ (o ++ (s ++ c))) o _ (at_behind f (o ++ (s ++ c)) o 0 (at_front o (s ++ c))) in
    let at_s = at_behind d (f ++ (o ++ (s ++ c))) s _ (at_behind f (o ++ (s ++ c)) s _ (at_behind o (s ++ c) s 0 (at_front s c))) in
    let at_c = at_behind d (f ++ (o ++ (s ++ c))) c _ (at_behind f (o ++ (s ++ c)) c _ (at_behind o (s ++ c) c _ (at_behind s c c 0 (at_whole c)))) in
    record {
      dos = at_front d (f ++ (o ++ (s ++ c)));
      file = at_place _ _ _ _ (let e : length d + 0 ≡ 64 = omega (arith, ld) in e) at_f;
      optional = at_place _ _ _ _ (let e : length d + (length f + 0) ≡ 88 = omega (arith, ld, lf) in e) at_o;
      section = at_place _ _ _ _ (let e : length d + (length f + (length o + 0)) ≡ 88 + optional_len plus = omega (arith, ld, lf, lo) in e) at_s;
      cli = at_place _ _ _ _ (let e : length d + (length f + (length o + (length s + 0))) ≡ 512 = omega (arith, ld, lf, lo, ls, near) in e) at_c;
    }

pub length-headers : (plus : Bool) (n m : ℕ) → length (file_headers plus n m) ≡ 584
unfolding file_headers
length-headers plus n m =
    let d = dos_header in
    let f = file_header plus in
    let o = optional_header plus in
    let s = section_header plus n in
    let c = cli_header m in
    omega (
      arith,
      length-append d (f ++ (o ++ (s ++ c))),
      length-append f (o ++ (s ++ c)),
      length-append o (s ++ c),
      length-append s c,
      length-dos,
      length-file plus,
      length-optional plus,
      length-section plus n,
      length-cli m,
      short_header plus,
    )

-- the numbers of each structure
module _ (whole : List ℕ) (place end : ℕ) (fs : List Field) (a : At whole place (structure 0 end fs)) (order : ordered 0 fs ≡ true) where
  number_of_field : (i : ℕ) → i < length fs → (get_or fs i (field 0 0 0)).value < 256 ^ (get_or fs i (field 0 0 0)).width
      → number_at (get_or fs i (field 0 0 0)).width whole (place + (get_or fs i (field 0 0 0)).at) ≡ (get_or fs i (field 0 0 0)).value
  number_of_field i within fit =
      number_found whole (place + (get_or fs i (field 0 0 0)).at) (get_or fs i (field 0 0 0)).width (get_or fs i (field 0 0 0)).value
      (at_inside whole (structure 0 end fs) _ place _ a (at_field end fs i (field 0 0 0) order within)) fit

is_file : (whole : List ℕ) (plus : Bool) (n m : ℕ) → Headers whole plus n m → length whole ≡ 512 + n → 72 + m ≤ n → 0 < m → n < 2 ^ 31 → IsFile whole plus n m
unfolding dos_header file_header optional_header section_header cli_header ordered
is_file whole true n m h long inside some small = record {
  dos = number_of_field whole 0 64 _ h.dos refl 0 (omega arith) (omega arith);
  pe_at = number_of_field whole 0 64 _ h.dos refl 1 (omega arith) (omega arith);
  signature = number_of_field whole 64 24 _ h.file refl 0 (omega arith) (omega arith);
  count = number_of_field whole 64 24 _ h.file refl 2 (omega arith) (omega arith);
  size = number_of_field whole 64 24 _ h.file refl 3 (omega arith) (omega arith);
  magic = number_of_field whole 88 240 _ h.optional refl 0 (omega arith) (omega arith);
  directory_count = number_of_field whole 88 240 _ h.optional refl 3 (omega arith) (omega arith);
  cli_rva = number_of_field whole 88 240 _ h.optional refl 4 (omega arith) (omega arith);
  virtual_size = number_of_field whole 328 184 _ h.section refl 1 (omega arith) (omega arith);
  address = number_of_field whole 328 184 _ h.section refl 2 (omega arith) (omega arith);
  raw_size = number_of_field whole 328 184 _ h.section refl 3 (omega arith) (omega arith);
  raw_at = number_of_field whole 328 184 _ h.section refl 4 (omega arith) (omega arith);
  meta_rva = number_of_field whole 512 72 _ h.cli refl 3 (omega arith) (omega arith);
  meta_len = number_of_field whole 512 72 _ h.cli refl 4 (omega arith) (omega arith);
  long = long;
  inside = inside;
  some = some;
}
is_file whole false n m h long inside some small = record {
  dos = number_of_field whole 0 64 _ h.dos refl 0 (omega arith) (omega arith);
  pe_at = number_of_field whole 0 64 _ h.dos refl 1 (omega arith) (omega arith);
  signature = number_of_field whole 64 24 _ h.file refl 0 (omega arith) (omega arith);
  count = number_of_field whole 64 24 _ h.file refl 2 (omega arith) (omega arith);
  size = number_of_field whole 64 24 _ h.file refl 3 (omega arith) (omega arith);
  magic = number_of_field whole 88 224 _ h.optional refl 0 (omega arith) (omega arith);
  directory_count = number_of_field whole 88 224 _ h.optional refl 3 (omega arith) (omega arith);
  cli_rva = number_of_field whole 88 224 _ h.optional refl 4 (omega arith) (omega arith);
  virtual_size = number_of_field whole 312 200 _ h.section refl 1 (omega arith) (omega arith);
  address = number_of_field whole 312 200 _ h.section refl 2 (omega arith) (omega arith);
  raw_size = number_of_field whole 312 200 _ h.section refl 3 (omega arith) (omega arith);
  raw_at = number_of_field whole 312 200 _ h.section refl 4 (omega arith) (omega arith);
  meta_rva = number_of_field whole 512 72 _ h.cli refl 3 (omega arith) (omega arith);
  meta_len = number_of_field whole 512 72 _ h.cli refl 4 (omega arith) (omega arith);
  long = long;
  inside = inside;
  some = some;
}

pub length-image : (draft : Draft) → length (image_of draft) ≡ image_len draft
unfolding image_of
length-image draft =
    let h = file_headers draft.plus (section_len draft) (metadata_len draft) in
    omega (
      arith,
      length-append h (metadata draft ++ draft.bodies),
      length-append (metadata draft) draft.bodies,
      length-headers draft.plus (section_len draft) (metadata_len draft),
      length-metadata draft,
    )

headers_of_image : (draft : Draft) → Headers (image_of draft) draft.plus (section_len draft) (metadata_len draft)
unfolding image_of
headers_of_image draft =
    let h = headers draft.plus (section_len draft) (metadata_len draft) in
    let front = file_headers draft.plus (section_len draft) (metadata_len draft) in
    let rest : List ℕ = metadata draft ++ draft.bodies in
    record {
      dos = at_more front _ rest _ h.dos;
      file = at_more front _ rest _ h.file;
      optional = at_more front _ rest _ h.optional;
      section = at_more front _ rest _ h.section;
      cli = at_more front _ rest _ h.cli;
    }

some_metadata : (draft : Draft) → 0 < metadata_len draft
unfolding metadata_len
some_metadata draft = omega arith

image_is_file : (draft : Draft) → image_len draft < 2 ^ 31 → IsFile (image_of draft) draft.plus (section_len draft) (metadata_len draft)
image_is_file draft near =
    is_file (image_of draft) draft.plus (section_len draft) (metadata_len draft) (headers_of_image draft) (length-image draft) (omega arith) (some_metadata draft) (omega arith)

at_metadata : (draft : Draft) → At (image_of draft) 584 (metadata draft)
unfolding image_of
at_metadata draft =
    let front = file_headers draft.plus (section_len draft) (metadata_len draft) in
    let place : length front + 0 ≡ 584 = omega (arith, length-headers draft.plus (section_len draft) (metadata_len draft)) in
    at_place _ _ _ _ place (at_behind front (metadata draft ++ draft.bodies) (metadata draft) 0 (at_front (metadata draft) draft.bodies))

-- the bodies are the end of the image
bodies_end : (draft : Draft) (k : ℕ) → drop (584 + metadata_len draft + k) (image_of draft) ≡ drop k draft.bodies
unfolding image_of
bodies_end draft k =
    let front = file_headers draft.plus (section_len draft) (metadata_len draft) in
    let rest : List ℕ = metadata draft ++ draft.bodies in
    let place : 584 + metadata_len draft + k ≡ length front + (length (metadata draft) + k) =
    omega (arith, length-headers draft.plus (section_len draft) (metadata_len draft), length-metadata draft) in
    ap (λ (n : ℕ). drop n (front ++ rest)) place
    ∙ drop-append-add front rest (length (metadata draft) + k)
    ∙ drop-append-add (metadata draft) draft.bodies k

body_found : (draft : Draft) (k : ℕ) → image_len draft < 2 ^ 31 → k < length draft.bodies
    → option_map (λ place. drop place (image_of draft)) (place_of (image_of draft) (bodies_rva draft + k) (length draft.bodies - k)) ≡ Some (drop k draft.bodies)
body_found draft k near within =
    let found = place_found (image_of draft) draft.plus (section_len draft) (metadata_len draft) (image_is_file draft near)
    (bodies_rva draft + k) (length draft.bodies - k) (omega arith) (omega arith) (omega arith) in
    let place : 512 + (bodies_rva draft + k - 0x2000) ≡ 584 + metadata_len draft + k = omega arith in
    ap (λ (p : Option ℕ). option_map (λ place. drop place (image_of draft)) p) found
    ∙ ap (λ (p : ℕ). Some (drop p (image_of draft))) place
    ∙ ap (λ (xs : List ℕ). Some xs) (bodies_end draft k)

pub reads_back : (draft : Draft) → fits draft ≡ true → crowded draft ≡ None → ReadsBack draft (image_of draft)
reads_back draft fit none =
    let near = short draft fit in
    record {
      found = metadata_found (image_of draft) draft.plus (section_len draft) (metadata_len draft) (image_is_file draft near);
      read =
          ap read_of (range_found (image_of draft) (metadata draft) 584 (metadata_len draft) (at_metadata draft) (length-metadata draft))
          ∙ metadata_read draft fit none;
      counts = λ t known. count_read draft t near known;
      cells = λ t r c known row column. cell_read draft t r c fit known row column;
      bodies = λ k within. body_found draft k near within;
    }
