-- How long the parts of the metadata are.
use Rattle.std.proofs.Common.{◌≡◌, ℕ, ◌+◌, List, ◌++◌, length, codes, ◌∙◌, ap, arith, length-append}
use Rattle.image_write.specs.declared.draft.Draft.{Draft}
use Rattle.image_write.specs.Image.{root, stream_header, stream_headers, headers_of, streams, metadata, tables}
use Rattle.image_write.specs.Lengths.{tables_len, filled_len, metadata_len}
use Rattle.image_write.specs.Pieces.{bytes_of, zeros, rounded, padded, filled}
use Rattle.image_write.proofs.WrittenLengths.{length-bytes_of, length-structure, structure_len, length-padded, length-filled, length-tables}

pub length-root : length root ≡ 32
unfolding root structure_len
length-root = length-structure 0 32 _

pub length-stream_header : (at len : ℕ) (name : List ℕ) → length (stream_header at len name) ≡ 8 + length name
unfolding stream_header
length-stream_header at len name =
    let whole = length-append (bytes_of 4 at) (bytes_of 4 len ++ name) in
    let behind = length-append (bytes_of 4 len) name in
    omega (arith, whole, behind, length-bytes_of 4 at, length-bytes_of 4 len)

pub length-stream_headers : (t s u g b : ℕ) → length (stream_headers t s u g b) ≡ 76
unfolding stream_headers zeros
length-stream_headers t s u g b =
    let h1 : List ℕ = stream_header 108 t (codes "#~" ++ zeros 2) in
    let h2 : List ℕ = stream_header (108 + t) s (codes "#Strings" ++ zeros 4) in
    let h3 : List ℕ = stream_header (108 + t + s) u (codes "#US" ++ zeros 1) in
    let h4 : List ℕ = stream_header (108 + t + s + u) g (codes "#GUID" ++ zeros 3) in
    let h5 : List ℕ = stream_header (108 + t + s + u + g) b (codes "#Blob" ++ zeros 3) in
    let l1 : length h1 ≡ 12 = length-stream_header 108 t (codes "#~" ++ zeros 2) in
    let l2 : length h2 ≡ 20 = length-stream_header (108 + t) s (codes "#Strings" ++ zeros 4) in
    let l3 : length h3 ≡ 12 = length-stream_header (108 + t + s) u (codes "#US" ++ zeros 1) in
    let l4 : length h4 ≡ 16 = length-stream_header (108 + t + s + u) g (codes "#GUID" ++ zeros 3) in
    let l5 : length h5 ≡ 16 = length-stream_header (108 + t + s + u + g) b (codes "#Blob" ++ zeros 3) in
    omega (arith, length-append h1 (h2 ++ (h3 ++ (h4 ++ h5))), length-append h2 (h3 ++ (h4 ++ h5)), length-append h3 (h4 ++ h5), length-append h4 h5)

pub length-headers_of : (draft : Draft) → length (headers_of draft) ≡ 76
unfolding headers_of
length-headers_of draft =
    length-stream_headers (rounded (tables_len draft)) (rounded (length draft.strings)) (filled_len (length draft.users))
    (rounded (length draft.guids)) (filled_len (length draft.blobs))

pub length-stream : (draft : Draft) → length (padded (tables draft)) ≡ rounded (tables_len draft)
length-stream draft = length-padded (tables draft) ∙ ap rounded (length-tables draft)

pub length-metadata : (draft : Draft) → length (metadata draft) ≡ metadata_len draft
unfolding metadata streams metadata_len
length-metadata draft =
    let t : List ℕ = padded (tables draft) in
    let s : List ℕ = padded draft.strings in
    let u : List ℕ = filled draft.users in
    let g : List ℕ = padded draft.guids in
    let b : List ℕ = filled draft.blobs in
    omega (
      arith,
      length-append root (headers_of draft ++ (t ++ (s ++ (u ++ (g ++ b))))),
      length-append (headers_of draft) (t ++ (s ++ (u ++ (g ++ b)))),
      length-append t (s ++ (u ++ (g ++ b))),
      length-append s (u ++ (g ++ b)),
      length-append u (g ++ b),
      length-append g b,
      length-root,
      length-headers_of draft,
      length-stream draft,
      length-padded draft.strings,
      length-filled draft.users,
      length-padded draft.guids,
      length-filled draft.blobs,
    )
