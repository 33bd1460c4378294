-- The metadata that is written is read as it is.
use Rattle.std.proofs.Common.{◌≡◌, ℕ, ◌+◌, ◌*◌, ◌/◌, ◌^◌, ◌<◌, ◌≤◌, List, [], ◌∷◌, ◌++◌, length, get_or, true, ◌==◌, nat_le, None, Some, is_some, Ok, codes, refl, sym, ◌∙◌, ap, arith}
use Rattle.std.proofs.lemmas.Bool.{le-leb}
use Rattle.std.proofs.lemmas.List.{append-nil}
use Rattle.clr_base.specs.LittleEndian.{u16_at, u32_at}
use Rattle.clr_base.specs.Checks.{Check, outcome}
use Rattle.clr_base.proofs.Checks.{outcome_passed}
use Rattle.cli_tables.specs.declared.root.Root.{Root}
use Rattle.cli_tables.specs.declared.streams.Range.{Range}
use Rattle.cli_tables.specs.declared.streams.Streams.{Streams}
use Rattle.cli_tables.specs.declared.streams.StreamKind.TheVariants as kind
use Rattle.cli_tables.specs.Root.{version_len, root_of, root_checks}
use Rattle.cli_tables.specs.Streams.{kind_of, stream_checks, found}
use Rattle.cli_tables.specs.Metadata.{Metadata, part, streams_of, header_checks, read_of}
use Rattle.cli_tables.specs.Layout.{are_tables}
use Rattle.cli_tables.proofs.Reading.{read_whole, same_contents}
use Rattle.image_write.specs.declared.draft.Draft.{Draft}
use Rattle.image_write.specs.declared.pieces.Field.{Field}
use Rattle.image_write.specs.Fitting.{fits, crowded}
use Rattle.image_write.specs.Image.{root, stream_header, headers_of, stream_headers, streams, metadata, tables}
use Rattle.image_write.specs.Lengths.{tables_len, filled_len, metadata_len, image_len}
use Rattle.image_write.specs.Pieces.{bytes_of, zeros, rounded, padded, filled, field, text_field}
use Rattle.image_write.specs.ReadBack.{contents_of}
use Rattle.image_write.proofs.CellsRead.{stream_whole}
use Rattle.image_write.proofs.Fitted.{short}
use Rattle.image_write.proofs.Found.{At, at_whole, at_front, at_more, at_behind, at_inside, at_place, at_field, number_found, range_found, ordered}
use Rattle.image_write.proofs.MetadataLengths.{length-root, length-stream_header, length-headers_of, length-stream, length-metadata}
use Rattle.image_write.proofs.StreamHeaders.{Walk, header_read, walk_none, walk_next}
use Rattle.image_write.proofs.WrittenLengths.{length-padded, length-filled}

-- the root

root_fields : List Field
root_fields =
    text_field 0 4 (codes "BSJB")
    ∷ field 4 2 1
    ∷ field 6 2 1
    ∷ field 12 4 12
    ∷ text_field 16 8 (codes "v4.0.303")
    ∷ text_field 24 2 (codes "19")
    ∷ field 30 2 5
    ∷ []

at_root : (draft : Draft) (i : ℕ) → i < 7
    → At (metadata draft) (get_or root_fields i (field 0 0 0)).at (bytes_of (get_or root_fields i (field 0 0 0)).width (get_or root_fields i (field 0 0 0)).value)
unfolding metadata root root_fields ordered
at_root draft i within = at_more root _ (headers_of draft ++ streams draft) _ (at_field 32 _ i (field 0 0 0) refl within)

signature_read : (draft : Draft) → u32_at (metadata draft) 0 ≡ 0x424a5342
unfolding root_fields
signature_read draft = number_found (metadata draft) 0 4 0x424a5342 (at_root draft 0 (omega arith)) (omega arith)

version_read : (draft : Draft) → version_len (metadata draft) ≡ 12
unfolding version_len root_fields
version_read draft =
    ap (λ (n : ℕ). 4 * ((n + 3) / 4)) (number_found (metadata draft) 12 4 12 (at_root draft 3 (omega arith)) (omega arith))

count_of_streams : (draft : Draft) → u16_at (metadata draft) 30 ≡ 5
unfolding root_fields
count_of_streams draft = number_found (metadata draft) 30 2 5 (at_root draft 6 (omega arith)) (omega arith)

root_read : (draft : Draft) → root_of (metadata draft) ≡ record { headers_at = 32; stream_count = 5 }
unfolding root_of
root_read draft =
    let e = version_read draft in
    ap (λ (n : ℕ). let r : Root = record { headers_at = 20 + n; stream_count = u16_at (metadata draft) (18 + n) } in r) e
    ∙ ap (λ (n : ℕ). let r : Root = record { headers_at = 32; stream_count = n } in r) (count_of_streams draft)

root_passes : (draft : Draft) {X : Type 0} (x : X) → outcome (root_checks (metadata draft)) x ≡ Ok x
unfolding root_checks metadata_len
root_passes draft x =
    let long : 32 ≤ length (metadata draft) = omega (arith, length-metadata draft) in
    let size : nat_le (0 + (20 + version_len (metadata draft))) (length (metadata draft)) ≡ true =
    ap (λ (n : ℕ). nat_le (0 + (20 + n)) (length (metadata draft))) (version_read draft) ∙ le-leb 32 (length (metadata draft)) long in
    let sign : (u32_at (metadata draft) 0 == 0x424a5342) ≡ true = ap (λ (n : ℕ). n == 0x424a5342) (signature_read draft) in
    rw (size, sign) refl

-- the streams

abbrev t_len : Draft → ℕ
t_len draft = rounded (tables_len draft)

abbrev s_len : Draft → ℕ
s_len draft = rounded (length draft.strings)

abbrev u_len : Draft → ℕ
u_len draft = filled_len (length draft.users)

abbrev g_len : Draft → ℕ
g_len draft = rounded (length draft.guids)

abbrev b_len : Draft → ℕ
b_len draft = filled_len (length draft.blobs)

abbrev range : ℕ → ℕ → Range
range start len = record { start = start; len = len }

written_streams : Draft → Streams
written_streams draft = record {
  tables = Some (range 108 (t_len draft));
  strings = Some (range (108 + t_len draft) (s_len draft));
  users = Some (range (108 + t_len draft + s_len draft) (u_len draft));
  guids = Some (range (108 + t_len draft + s_len draft + u_len draft) (g_len draft));
  blobs = Some (range (108 + t_len draft + s_len draft + u_len draft + g_len draft) (b_len draft));
}

at_headers : (draft : Draft) → At (metadata draft) 32 (headers_of draft)
unfolding metadata
at_headers draft =
    let place : length root + 0 ≡ 32 = omega (arith, length-root) in
    at_place _ _ _ _ place (at_behind root (headers_of draft ++ streams draft) (headers_of draft) 0 (at_front (headers_of draft) (streams draft)))

at_streams : (draft : Draft) → At (metadata draft) 108 (streams draft)
unfolding metadata
at_streams draft =
    let place : length root + (length (headers_of draft) + 0) ≡ 108 = omega (arith, length-root, length-headers_of draft) in
    at_place _ _ _ _ place
    (at_behind root (headers_of draft ++ streams draft) (streams draft) _ (at_behind (headers_of draft) (streams draft) (streams draft) 0 (at_whole (streams draft))))

-- the five headers stand at 32, 44, 64, 76 and 92
record FiveHeaders (draft : Draft) : Type 0 where
  h1 : At (metadata draft) 32 (stream_header 108 (t_len draft) (codes "#~" ++ 0 ∷ zeros 1))
  h2 : At (metadata draft) 44 (stream_header (108 + t_len draft) (s_len draft) (codes "#Strings" ++ 0 ∷ zeros 3))
  h3 : At (metadata draft) 64 (stream_header (108 + t_len draft + s_len draft) (u_len draft) (codes "#US" ++ 0 ∷ zeros 0))
  h4 : At (metadata draft) 76 (stream_header (108 + t_len draft + s_len draft + u_len draft) (g_len draft) (codes "#GUID" ++ 0 ∷ zeros 2))
  h5 : At (metadata draft) 92 (stream_header (108 + t_len draft + s_len draft + u_len draft + g_len draft) (b_len draft) (codes "#Blob" ++ 0 ∷ zeros 2))

five_headers : (draft : Draft) → FiveHeaders draft
unfolding headers_of stream_headers zeros
five_headers draft =
    let t = t_len draft in
    let s = s_len draft in
    let u = u_len draft in
    let g = g_len draft in
    let h1 : List ℕ = stream_header 108 t (codes "#~" ++ zeros 2) in
    let h2 : List ℕ = stream_header (108 + t) s (codes "#Strings" ++ zeros 4) in
    let h3 : List ℕ = stream_header (108 + t + s) u (codes "#US" ++ zeros 1) in
    let h4 : List ℕ = stream_header (108 + t + s + u) g (codes "#GUID" ++ zeros 3) in
    let h5 : List ℕ = stream_header (108 + t + s + u + g) (b_len draft) (codes "#Blob" ++ zeros 3) in
    let l1 : length h1 ≡ 12 = length-stream_header 108 t (codes "#~" ++ zeros 2) in
    let l2 : length h2 ≡ 20 = length-stream_header (108 + t) s (codes "#Strings" ++ zeros 4) in
    let l3 : length h3 ≡ 12 = length-stream_header (108 + t + s) u (codes "#US" ++ zeros 1) in
    let l4 : length h4 ≡ 16 = length-stream_header (108 + t + s + u) g (codes "#GUID" ++ zeros 3) in
    let all = at_headers draft in
    let rest4 : List ℕ = h4 ++ h5 in
    let rest3 : List ℕ = h3 ++ rest4 in
    let rest2 : List ℕ = h2 ++ rest3 in
    let in1 = at_front h1 rest2 in
    let in2 = at_behind h1 rest2 h2 0 (at_front h2 rest3) in
    let in3 = at_behind h1 rest2 h3 _ (at_behind h2 rest3 h3 0 (at_front h3 rest4)) in
    let in4 = at_behind h1 rest2 h4 _ (at_behind h2 rest3 h4 _ (at_behind h3 rest4 h4 0 (at_front h4 h5))) in
    let in5 = at_behind h1 rest2 h5 _ (at_behind h2 rest3 h5 _ (at_behind h3 rest4 h5 _ (at_behind h4 h5 h5 0 (at_whole h5)))) in
    record {
      h1 = at_inside (metadata draft) (headers_of draft) h1 32 0 all in1;
      h2 = at_place _ _ _ _ (let e : 32 + (length h1 + 0) ≡ 44 = omega (arith, l1) in e) (at_inside (metadata draft) (headers_of draft) h2 32 _ all in2);
      h3 = at_place _ _ _ _ (let e : 32 + (length h1 + (length h2 + 0)) ≡ 64 = omega (arith, l1, l2) in e) (at_inside (metadata draft) (headers_of draft) h3 32 _ all in3);
      h4 =
          at_place _ _ _ _ (let e : 32 + (length h1 + (length h2 + (length h3 + 0))) ≡ 76 = omega (arith, l1, l2, l3) in e)
          (at_inside (metadata draft) (headers_of draft) h4 32 _ all in4);
      h5 =
          at_place _ _ _ _ (let e : 32 + (length h1 + (length h2 + (length h3 + (length h4 + 0)))) ≡ 92 = omega (arith, l1, l2, l3, l4) in e)
          (at_inside (metadata draft) (headers_of draft) h5 32 _ all in5);
    }

walked : (draft : Draft) → image_len draft < 2 ^ 31 → Walk (metadata draft) 5 108 (written_streams draft)
unfolding kind_of metadata_len written_streams
walked draft near =
    let m = metadata draft in
    let t = t_len draft in
    let s = s_len draft in
    let u = u_len draft in
    let g = g_len draft in
    let b = b_len draft in
    let five = five_headers draft in
    let len = length-metadata draft in
    let r1 = header_read m 32 108 t (codes "#~") (zeros 1) five.h1 refl (omega arith) (omega arith) (omega arith) in
    let r2 = header_read m 44 (108 + t) s (codes "#Strings") (zeros 3) five.h2 refl (omega arith) (omega arith) (omega arith) in
    let r3 = header_read m 64 (108 + t + s) u (codes "#US") (zeros 0) five.h3 refl (omega arith) (omega arith) (omega arith) in
    let r4 = header_read m 76 (108 + t + s + u) g (codes "#GUID") (zeros 2) five.h4 refl (omega arith) (omega arith) (omega arith) in
    let r5 = header_read m 92 (108 + t + s + u + g) b (codes "#Blob") (zeros 2) five.h5 refl (omega arith) (omega arith) (omega arith) in
    let w0 = walk_none m in
    let w1 = walk_next m 0 32 _ (codes "#~") (range 108 t) kind.Tables w0 r1 refl refl (omega arith) (omega arith) in
    let w2 = walk_next m 1 44 _ (codes "#Strings") (range (108 + t) s) kind.Strings w1 r2 refl refl (omega arith) (omega arith) in
    let w3 = walk_next m 2 64 _ (codes "#US") (range (108 + t + s) u) kind.UserStrings w2 r3 refl refl (omega arith) (omega arith) in
    let w4 = walk_next m 3 76 _ (codes "#GUID") (range (108 + t + s + u) g) kind.Guid w3 r4 refl refl (omega arith) (omega arith) in
    walk_next m 4 92 _ (codes "#Blob") (range (108 + t + s + u + g) b) kind.Blob w4 r5 refl refl (omega arith) (omega arith)

passes_all : {X Y : Type 0} (cs : List Check) (x z : X) (y : Y) → outcome cs x ≡ Ok z → outcome cs y ≡ Ok y
passes_all cs x z y e = ap (λ (l : List Check). outcome l y) (sym (append-nil cs)) ∙ outcome_passed cs [] x z y e

headers_pass : (draft : Draft) → image_len draft < 2 ^ 31 → outcome (header_checks (metadata draft)) (streams_of (metadata draft)) ≡ Ok (written_streams draft)
unfolding streams_of
headers_pass draft near =
    let m = metadata draft in
    let w = walked draft near in
    ap (λ (r : Root). outcome (root_checks m ++ stream_checks m r.headers_at r.stream_count) (found m r.headers_at r.stream_count)) (root_read draft)
    ∙ outcome_passed (root_checks m) (stream_checks m 32 5) (tt {0}) (tt {0}) (found m 32 5) (root_passes draft (tt {0}))
    ∙ passes_all (stream_checks m 32 5) (tt {0}) (tt {0}) (found m 32 5) w.passed
    ∙ ap (λ (s : Streams). Ok s) w.streams_are

-- the contents
at_part : (draft : Draft) → At (streams draft) 0 (padded (tables draft))
unfolding streams
at_part draft = at_front (padded (tables draft)) (padded draft.strings ++ (filled draft.users ++ (padded draft.guids ++ filled draft.blobs)))

record Contents (draft : Draft) : Type 0 where
  tables_are : part (metadata draft) (written_streams draft).tables ≡ padded (tables draft)
  strings_are : part (metadata draft) (written_streams draft).strings ≡ padded draft.strings
  users_are : part (metadata draft) (written_streams draft).users ≡ filled draft.users
  blobs_are : part (metadata draft) (written_streams draft).blobs ≡ filled draft.blobs

contents : (draft : Draft) → Contents draft
unfolding streams written_streams
contents draft =
    let m = metadata draft in
    let t : List ℕ = padded (tables draft) in
    let s : List ℕ = padded draft.strings in
    let u : List ℕ = filled draft.users in
    let g : List ℕ = padded draft.guids in
    let b : List ℕ = filled draft.blobs in
    let lt = length-stream draft in
    let ls = length-padded draft.strings in
    let lu = length-filled draft.users in
    let lg = length-padded draft.guids in
    let lb = length-filled draft.blobs in
    let all = at_streams draft in
    let in_t = at_front t (s ++ (u ++ (g ++ b))) in
    let in_s = at_behind t (s ++ (u ++ (g ++ b))) s 0 (at_front s (u ++ (g ++ b))) in
    let in_u = at_behind t (s ++ (u ++ (g ++ b))) u _ (at_behind s (u ++ (g ++ b)) u 0 (at_front u (g ++ b))) in
    let in_b = at_behind t (s ++ (u ++ (g ++ b))) b _ (at_behind s (u ++ (g ++ b)) b _ (at_behind u (g ++ b) b _ (at_behind g b b 0 (at_whole b)))) in
    record {
      tables_are = range_found m t 108 (t_len draft) (at_inside m (streams draft) t 108 0 all in_t) lt;
      strings_are =
          range_found m s (108 + t_len draft) (s_len draft)
          (at_place _ _ _ _ (let e : 108 + (length t + 0) ≡ 108 + t_len draft = omega (arith, lt) in e) (at_inside m (streams draft) s 108 _ all in_s)) ls;
      users_are =
          range_found m u (108 + t_len draft + s_len draft) (u_len draft)
          (at_place _ _ _ _ (let e : 108 + (length t + (length s + 0)) ≡ 108 + t_len draft + s_len draft = omega (arith, lt, ls) in e) (at_inside m (streams draft) u 108 _ all in_u)) lu;
      blobs_are =
          range_found m b (108 + t_len draft + s_len draft + u_len draft + g_len draft) (b_len draft)
          (at_place _ _ _ _
          (let e : 108 + (length t + (length s + (length u + (length g + 0)))) ≡ 108 + t_len draft + s_len draft + u_len draft + g_len draft = omega (arith, lt, ls, lu, lg) in e)
          (at_inside m (streams draft) b 108 _ all in_b)) lb;
    }

tables_there : (draft : Draft) → is_some (written_streams draft).tables ≡ true
unfolding written_streams
tables_there draft = refl

pub metadata_read : (draft : Draft) → fits draft ≡ true → crowded draft ≡ None → read_of (metadata draft) ≡ Ok (contents_of draft)
metadata_read draft fit none =
    let near = short draft fit in
    let c = contents draft in
    let there : is_some (written_streams draft).tables ≡ true = tables_there draft in
    let whole : are_tables (part (metadata draft) (written_streams draft).tables) ≡ true = ap are_tables c.tables_are ∙ stream_whole draft fit none in
    sym (read_whole (metadata draft) (written_streams draft) (headers_pass draft near) there whole)
    ∙ ap (λ (x : Metadata). Ok x) (same_contents _ _ _ _ _ _ _ _ c.tables_are c.strings_are c.users_are c.blobs_are)
