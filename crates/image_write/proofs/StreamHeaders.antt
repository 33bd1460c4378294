-- A stream header that is written is read as it is, and a walk over such headers finds their streams.
use Rattle.std.proofs.Common.{◌≡◌, ℕ, zero, suc, ◌+◌, ◌*◌, ◌/◌, ◌^◌, ◌<◌, ◌≤◌, List, [], ◌∷◌, ◌++◌, length, take, drop, Bool, true, not, ◌==◌, nat_lt, nat_le, Option, Some, is_some, Ok, refl, ◌∙◌, ap, ap₂, subst, arith, append_assoc, length-append}
use Rattle.std.proofs.lemmas.Bool.{le-leb}
use Rattle.std.proofs.lemmas.List.{take_at, length-take}
use Rattle.std.specs.List.{list_all, position, prefix_len}
use Rattle.std.specs.Option.{unwrap_or}
use Rattle.clr_base.specs.LittleEndian.{has_range}
use Rattle.clr_base.specs.Checks.{first_fault, each}
use Rattle.clr_base.proofs.Checks.{each_none, each_passed}
use Rattle.cli_tables.proofs.SchemaFacts.{first_of_both, last_of_both}
use Rattle.cli_tables.specs.declared.streams.Range.{Range}
use Rattle.cli_tables.specs.declared.streams.StreamKind.{StreamKind}
use Rattle.cli_tables.specs.declared.streams.Streams.{Streams}
use Rattle.cli_tables.specs.Streams.{name_len, name_at, header_len, range_at, kind_of, no_streams, with_stream, may_come, is_stream, one_header, place, found, header_checks}
use Rattle.image_write.specs.Image.{stream_header}
use Rattle.image_write.specs.Pieces.{bytes_of}
use Rattle.image_write.proofs.Found.{At, at_whole, at_front, at_behind, at_inside, at_place, rest_at, number_found}
use Rattle.image_write.proofs.WrittenLengths.{length-bytes_of}

abbrev is_letter : ℕ → Bool
is_letter byte = not (byte == 0)

-- the zero behind a name ends it
letters_before : (m : ℕ) (name more : List ℕ) → list_all is_letter name ≡ true → length name < m
    → prefix_len (λ x. not (x == 0)) (take m (name ++ 0 ∷ more)) ≡ length name
letters_before zero name more letters fits = absurd (omega arith)
letters_before (suc m) [] more letters fits = refl
letters_before (suc m) (x ∷ xs) more letters fits =
    let here = first_of_both (is_letter x) (list_all is_letter xs) letters in
    let rest = letters_before m xs more (last_of_both (is_letter x) (list_all is_letter xs) letters) (omega arith) in
    rw (here, rest) (omega arith)

zero_found : (m : ℕ) (name more : List ℕ) → list_all is_letter name ≡ true → length name < m
    → position (λ byte. byte == 0) (take m (name ++ 0 ∷ more)) ≡ Some (length name)
zero_found m name more letters fits =
    let before = letters_before m name more letters fits in
    let len = length-take m (name ++ 0 ∷ more) in
    let whole = length-append name (0 ∷ more) in
    let within : nat_lt (length name) (length (take m (name ++ 0 ∷ more))) ≡ true = le-leb (suc (length name)) (length (take m (name ++ 0 ∷ more))) (omega arith) in
    rw (before, within) refl

-- a header as it is read
pub record IsHeader (meta : List ℕ) (at : ℕ) (name : List ℕ) (range : Range) : Type 0 where
  pub len : name_len meta at ≡ Some (length name)
  pub name_is : name_at meta at ≡ name
  pub range_is : range_at meta at ≡ range

pub header_read : (meta : List ℕ) (p at len : ℕ) (name more : List ℕ) → At meta p (stream_header at len (name ++ 0 ∷ more))
    → list_all is_letter name ≡ true → length name < 32 → at < 2 ^ 32 → len < 2 ^ 32
    → IsHeader meta p name (record { start = at; len = len })
unfolding stream_header name_len name_at range_at
header_read meta p at len name more a letters short at_fits len_fits =
    let text : List ℕ = name ++ 0 ∷ more in
    let first : At meta (p + 0) (bytes_of 4 at) = at_inside meta _ (bytes_of 4 at) p 0 a (at_front (bytes_of 4 at) (bytes_of 4 len ++ text)) in
    let four = length-bytes_of 4 at in
    let four' = length-bytes_of 4 len in
    let second : At meta (p + (length (bytes_of 4 at) + 0)) (bytes_of 4 len) =
    at_inside meta _ (bytes_of 4 len) p _ a (at_behind (bytes_of 4 at) (bytes_of 4 len ++ text) (bytes_of 4 len) 0 (at_front (bytes_of 4 len) text)) in
    let third : At meta (p + (length (bytes_of 4 at) + (length (bytes_of 4 len) + 0))) text =
    at_inside meta _ text p _ a
    (at_behind (bytes_of 4 at) (bytes_of 4 len ++ text) text _ (at_behind (bytes_of 4 len) text text 0 (at_whole text))) in
    let text_at : At meta (p + 8) text = at_place meta text _ (p + 8) (omega arith) third in
    let behind : drop (p + 8) meta ≡ name ++ 0 ∷ (more ++ text_at.rest) =
    rest_at meta text (p + 8) text_at ∙ append_assoc name (0 ∷ more) text_at.rest in
    let len_is : name_len meta p ≡ Some (length name) =
    ap (λ (xs : List ℕ). position (λ byte. byte == 0) (take 32 xs)) behind ∙ zero_found 32 name (more ++ text_at.rest) letters short in
    record {
      len = len_is;
      name_is =
          ap₂ (λ (n : Option ℕ) (xs : List ℕ). take (unwrap_or n 0) xs) len_is behind ∙ take_at name (0 ∷ (more ++ text_at.rest)) (length name) refl;
      range_is =
          ap₂ (λ (s l : ℕ). let r : Range = record { start = s; len = l } in r)
          (number_found meta p 4 at (at_place meta _ _ p (omega arith) first) at_fits)
          (number_found meta (p + 4) 4 len (at_place meta _ _ (p + 4) (omega arith) second) len_fits);
    }

-- how long a header with a name is
abbrev pub len_by : List ℕ → ℕ
len_by name = 8 + 4 * (length name / 4 + 1)

len_read : (meta : List ℕ) (p : ℕ) (name : List ℕ) (range : Range) → IsHeader meta p name range → header_len meta p ≡ len_by name
unfolding header_len
len_read meta p name range h = ap (λ (n : Option ℕ). 8 + 4 * (unwrap_or n 0 / 4 + 1)) h.len

passes : (meta : List ℕ) (p : ℕ) (name : List ℕ) (range : Range) (kind : StreamKind) (streams : Streams) → IsHeader meta p name range
    → kind_of name ≡ kind → may_come streams kind ≡ true → p + len_by name ≤ length meta → range.start + range.len ≤ length meta
    → first_fault (one_header meta streams p) ≡ Ok (tt {0})
unfolding one_header is_stream
passes meta p name range kind streams h kind_is may inside holds =
    let there : is_some (name_len meta p) ≡ true = ap is_some h.len in
    let whole : has_range meta p (header_len meta p) ≡ true =
    ap (λ (n : ℕ). nat_le (p + n) (length meta)) (len_read meta p name range h) ∙ le-leb (p + len_by name) (length meta) inside in
    let lies : has_range meta (range_at meta p).start (range_at meta p).len ≡ true =
    ap (λ (r : Range). nat_le (r.start + r.len) (length meta)) h.range_is ∙ le-leb (range.start + range.len) (length meta) holds in
    let comes : may_come streams (kind_of (name_at meta p)) ≡ true =
    ap (λ (xs : List ℕ). may_come streams (kind_of xs)) h.name_is ∙ ap (λ (k : StreamKind). may_come streams k) kind_is ∙ may in
    rw (there, whole, lies, comes) refl

-- a walk has passed the headers before k, is at a place, and has found some streams
pub record Walk (meta : List ℕ) (k p : ℕ) (streams : Streams) : Type 0 where
  pub at : place meta 32 k ≡ p
  pub streams_are : found meta 32 k ≡ streams
  pub passed : first_fault (each k (header_checks meta 32)) ≡ Ok (tt {0})

pub walk_none : (meta : List ℕ) → Walk meta 0 32 no_streams
unfolding place found
walk_none meta = record { at = refl; streams_are = refl; passed = each_none (header_checks meta 32) }

pub walk_next : (meta : List ℕ) (k p : ℕ) (streams : Streams) (name : List ℕ) (range : Range) (kind : StreamKind) → Walk meta k p streams
    → IsHeader meta p name range → kind_of name ≡ kind → may_come streams kind ≡ true → p + len_by name ≤ length meta
    → range.start + range.len ≤ length meta → Walk meta (suc k) (p + len_by name) (with_stream streams kind range)
unfolding place found
walk_next meta k p streams name range kind w h kind_is may inside holds =
    let one = passes meta p name range kind streams h kind_is may inside holds in
    let here : first_fault (header_checks meta 32 k) ≡ Ok (tt {0}) =
    ap₂ (λ (s : Streams) (q : ℕ). first_fault (one_header meta s q)) w.streams_are w.at ∙ one in
    let next : k + 1 ≡ suc k = omega arith in
    record {
      at = ap (λ (q : ℕ). q + header_len meta q) w.at ∙ ap (λ (n : ℕ). p + n) (len_read meta p name range h);
      streams_are =
          ap₂ (λ (s : Streams) (q : ℕ). with_stream s (kind_of (name_at meta q)) (range_at meta q)) w.streams_are w.at
          ∙ ap₂ (λ (xs : List ℕ) (r : Range). with_stream streams (kind_of xs) r) h.name_is h.range_is
          ∙ ap (λ (kd : StreamKind). with_stream streams kd range) kind_is;
      passed = subst (λ (n : ℕ). first_fault (each n (header_checks meta 32)) ≡ Ok (tt {0})) next (each_passed k (header_checks meta 32) w.passed here);
    }
