-- One more file that is fetched.
use Rattle.std.proofs.Common.{◌≡◌, inl, ℕ, zero, suc, ◌+◌, ◌<◌, List, [], ◌∷◌, ◌++◌, map, take, length, get_or, Option, None, Some, Result, Ok, Err, IsOk, Vec, String, Global, refl, sym, ap, ◌∙◌, subst, arith, length-append}
use Rattle.std.specs.Prelude.{string_bytes, is_ok, if◌then◌else◌}
use Rattle.std.specs.declared.alloc.AllocError.{AllocError}
use Rattle.std.specs.Option.{option_and_then, option_map}
use Rattle.std.proofs.lemmas.List.{length-map, map-append, take-map, take_more}
use Rattle.clr_base.specs.Causes.{FetchCounts, counted, counted_times}
use Rattle.clr_base.specs.declared.outside.FetchFault.{FetchFault}
use Rattle.clr_base.specs.declared.outside.FetchFault.TheVariants as fetch
use Rattle.clr_base.specs.Files.{IsFile}
use Rattle.clr_core.specs.Command.{texts_of}
use Rattle.clr_core.specs.Fetched.{Files, Shelved, AreFiles, IsCalm, IsShort, all_held}
use Rattle.image_files.specs.Images.{bytes_of_each}
use Rattle.clr_core.proofs.FileWords.{as_many}

-- the first file and the others are there where all are
split : (o : Option (List ℕ)) (rest : Option (List (List ℕ))) (bytes : List (List ℕ))
    → option_and_then (λ one. option_map (λ others. one ∷ others) rest) o ≡ Some bytes
    → (one : List ℕ) × (others : List (List ℕ)) × (o ≡ Some one) × (rest ≡ Some others) × (one ∷ others ≡ bytes)
split None rest bytes e = cc
split (Some one) None bytes e = cc
split (Some one) (Some others) bytes e = (one, others, refl, refl, cc)

join : (o : Option (List ℕ)) (rest : Option (List (List ℕ))) (one : List ℕ) (others : List (List ℕ)) → o ≡ Some one → rest ≡ Some others
    → option_and_then (λ one. option_map (λ others. one ∷ others) rest) o ≡ Some (one ∷ others)
join o rest one others e f =
    ap (option_and_then (λ first. option_map (λ behind. first ∷ behind) rest)) e ∙ ap (option_map (λ behind. one ∷ behind)) f

held_more : (files : List ℕ → Option (List ℕ)) (names bytes : List (List ℕ)) (name last : List ℕ) → all_held files names ≡ Some bytes
    → files name ≡ Some last → all_held files (names ++ name ∷ []) ≡ Some (bytes ++ last ∷ [])
held_more files [] bytes name last e f = join (files name) (Some []) last [] f refl ∙ ap (λ (l : List (List ℕ)). Some (l ++ last ∷ [])) (let same : [] ≡ bytes = cc in same)
held_more files (n ∷ ns) bytes name last e f =
    let p = split (files n) (all_held files ns) bytes e in
    join (files n) (all_held files (ns ++ name ∷ [])) p.0 (p.1 ++ last ∷ []) p.2 (held_more files ns p.1 name last p.3 f)
    ∙ ap (λ (l : List (List ℕ)). Some (l ++ last ∷ [])) p.4

held_count : (files : List ℕ → Option (List ℕ)) (names bytes : List (List ℕ)) → all_held files names ≡ Some bytes → length bytes ≡ length names
held_count files [] bytes e = let same : [] ≡ bytes = cc in ap length (sym same)
held_count files (n ∷ ns) bytes e =
    let p = split (files n) (all_held files ns) bytes e in
    let behind = held_count files ns p.1 p.3 in
    let count = ap length p.4 in
    omega arith

-- there are as many as names
pub as_many_files : (shelf : Files) (names bytes : List (List ℕ)) → AreFiles shelf names bytes → length bytes ≡ length names
as_many_files None names bytes e = e
as_many_files (Some files) names bytes e = held_count files names bytes e

pub files_more : (shelf : Files) (names bytes : List (List ℕ)) (name last : List ℕ) → AreFiles shelf names bytes → IsFile shelf name last
    → AreFiles shelf (names ++ name ∷ []) (bytes ++ last ∷ [])
files_more None names bytes name last e f =
    let one = length-append bytes (last ∷ []) in
    let other = length-append names (name ∷ []) in
    omega arith
files_more (Some files) names bytes name last e f = held_more files names bytes name last e f

text_more : (names : List (String Global)) (k : ℕ) (name : String Global) → k < length names → name ≡ get_or names k name
    → take (k + 1) (texts_of names) ≡ take k (texts_of names) ++ string_bytes name ∷ []
text_more names k name within is =
    take-map (λ word. string_bytes word) (k + 1) names
    ∙ ap (map (λ word. string_bytes word)) (take_more names k name within ∙ ap (λ (n : String Global). take k names ++ n ∷ []) (sym is))
    ∙ map-append (λ word. string_bytes word) (take k names) (name ∷ [])
    ∙ ap (λ (l : List (List ℕ)). l ++ string_bytes name ∷ []) (sym (take-map (λ word. string_bytes word) k names))

-- there are as many as words
pub files_count : (shelf : Files) (names : List (String Global)) (files slice : List (Vec ℕ Global)) → AreFiles shelf (texts_of names) (bytes_of_each files)
    → slice ≡ files → length slice ≡ length names
files_count shelf names files slice told same =
    ap length same ∙ sym (length-map files (λ (v : Vec ℕ Global). v.items)) ∙ as_many_files shelf (texts_of names) (bytes_of_each files) told
    ∙ length-map names (λ word. string_bytes word)

-- the same of the files that are kept, by the names' words
pub fetched_more : (shelf : Files) (names : List (String Global)) (k : ℕ) (name : String Global) (old new : List (Vec ℕ Global)) (file : Vec ℕ Global)
    → k < length names → name ≡ get_or names k name → AreFiles shelf (take k (texts_of names)) (bytes_of_each old)
    → IsFile shelf (string_bytes name) file.items → new ≡ old ++ file ∷ []
    → AreFiles shelf (take (k + 1) (texts_of names)) (bytes_of_each new)
fetched_more shelf names k name old new file within is before fetched more =
    let bytes : bytes_of_each new ≡ bytes_of_each old ++ file.items ∷ [] = ap bytes_of_each more ∙ map-append (λ (v : Vec ℕ Global). v.items) old (file ∷ []) in
    subst (λ l. AreFiles shelf l (bytes_of_each new)) (sym (text_more names k name within is))
    (subst (λ l. AreFiles shelf (take k (texts_of names) ++ string_bytes name ∷ []) l) (sym bytes)
    (files_more shelf (take k (texts_of names)) (bytes_of_each old) (string_bytes name) file.items before fetched))

-- what was asked for, by the words of the names
pub calm_words : (shelf : Shelved) (names : List (String Global)) → IsCalm shelf (length names) (length names)
    → IsCalm shelf (length (texts_of names)) (length (texts_of names))
calm_words shelf names calm = subst (λ n. IsCalm shelf n n) (sym (as_many names)) calm

-- one call more
pub once_more : (k calls before now : ℕ) → now ≡ counted calls → calls ≡ counted_times k before → now ≡ counted_times (k + 1) before
once_more k calls before now is all = is ∙ ap counted all ∙ ap (λ (n : ℕ). counted_times n before) (let next : suc k ≡ k + 1 = omega arith in next)

-- what is done where a call succeeds
pub where_done : {X Y Z : Type 0} (made : Result X Z) (now grown kept : Y) (x : X) → made ≡ Ok x → now ≡ (if is_ok made then grown else kept) → now ≡ grown
where_done (Ok y) now grown kept x is e = e
where_done (Err y) now grown kept x is e = cc

-- no file is asked for where there is no room for them
not_empty : {X : Type 0} (n : ℕ) (made : Result X AllocError) (e : AllocError) → made ≡ Err e → (n ≡ 0 → IsOk made) → 0 < n
not_empty zero made e is succeeds = let lost = subst IsOk is (succeeds refl) in cc
not_empty (suc n) made e is succeeds = omega arith

pub none_asked : {X : Type 0} (shelf : Shelved) (names : List (String Global)) (made : Result X AllocError) (e : AllocError) → made ≡ Err e
    → (length names ≡ 0 → IsOk made) → shelf.calls_now ≡ shelf.calls_before → shelf.given_now ≡ shelf.given_before
    → shelf.faults_now ≡ shelf.faults_before → IsShort shelf (texts_of names)
none_asked shelf names made e is succeeds calls given faults = record {
  calls = 0;
  given = 0;
  last = inl (refl, refl);
  within = let count = as_many names in let some = not_empty (length names) made e is succeeds in omega arith;
  calm = record { asked = calls; gave = given; faults = faults };
}

-- want of memory is no fault
pub no_fault : (before now : ℕ) (fault : FetchFault) → fault ≡ fetch.Memory → FetchCounts {T = Vec ℕ Global} before now (Err fault) → now ≡ before
no_fault before now fault is counts = subst (λ f. FetchCounts {T = Vec ℕ Global} before now (Err f)) is counts
