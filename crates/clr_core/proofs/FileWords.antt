-- The words of files.
use Rattle.std.proofs.Common.{◌≡◌, ℕ, zero, suc, ◌<◌, ◌≤◌, get_or, Bool, true, false, List, [], ◌∷◌, None, Some, length, cond, String, Global, sym, ap, ◌∙◌, refl, arith, le-leb, leb-true}
use Rattle.std.specs.Prelude.{◌&&◌, ◌==◌, nat_le, slice_get, string_bytes, codes}
use Rattle.std.specs.List.{list_all}
use Rattle.std.specs.Str.{bytes_eq}
use Rattle.std.proofs.lemmas.List.{length-map}
use Rattle.std.proofs.lemmas.List.Folds.{list_all-map}
use Rattle.clr_core.specs.Command.{is_file_word, are_file_words, named_files, texts_of}

last_of_three : (a b c : Bool) → a ≡ true → b ≡ true → (a && b && c) ≡ c
last_of_three true true c one other = refl
last_of_three true false c one other = cc
last_of_three false b c one other = cc

pub as_many : (words : List (String Global)) → length (texts_of words) ≡ length words
as_many words = length-map words (λ word. string_bytes word)

-- the word at a place
pub word_at : (words : List (String Global)) (k : ℕ) (word : String Global) (d : List ℕ) → k < length words → word ≡ get_or words k word
    → string_bytes word ≡ get_or (texts_of words) k d
word_at [] k word d within is = absurd (omega arith)
word_at (w ∷ ws) zero word d within is = ap (λ (x : String Global). string_bytes x) is
word_at (w ∷ ws) (suc k) word d within is = word_at ws k word d (omega arith) is

pub word_found : (words : List (String Global)) (k : ℕ) (word : String Global) → k < length words → word ≡ get_or words k word
    → slice_get (texts_of words) k ≡ Some (string_bytes word)
word_found [] k word within is = absurd (omega arith)
word_found (w ∷ ws) zero word within is = ap (λ (x : String Global). Some (string_bytes x)) (sym is)
word_found (w ∷ ws) (suc k) word within is = word_found ws k word (omega arith) is

pub not_none : (n : ℕ) (b : Bool) → b ≡ (n == 0) → b ≡ false → 1 ≤ n
not_none zero b e none = cc
not_none (suc n) b e none = omega arith

-- where there is one, and there aren't too many, each decides
pub some_words : (words : List (String Global)) → 1 ≤ length words → length words ≤ 16
    → list_all (λ word. is_file_word (string_bytes word)) words ≡ are_file_words (texts_of words)
some_words words some few =
    let count = as_many words in
    sym
    (last_of_three _ _ _ (le-leb 1 (length (texts_of words)) (omega arith)) (le-leb (length (texts_of words)) 16 (omega arith))
    ∙ list_all-map is_file_word (λ word. string_bytes word) words)

second_of_three : (a b c : Bool) → (a && b && c) ≡ true → b ≡ true
second_of_three true true c e = refl
second_of_three true false c e = cc
second_of_three false b c e = cc

taken : (b : Bool) (files names : List (List ℕ)) → cond b (Some files) None ≡ Some names → (b ≡ true) × (files ≡ names)
taken true files names e = (refl, cc)
taken false files names e = cc

second_of_both : (a b : Bool) → (a && b) ≡ true → b ≡ true
second_of_both true b e = e
second_of_both false b e = cc

-- a command has no more than 16 files
pub few_files : (words names : List (List ℕ)) → named_files words ≡ Some names → length names ≤ 16
few_files [] names e = cc
few_files (verb ∷ files) names e =
    let both = taken (bytes_eq verb (codes "names") && are_file_words files) files names e in
    let few = leb-true (length files) 16 (second_of_three (nat_le 1 (length files)) (nat_le (length files) 16) (list_all is_file_word files) (second_of_both (bytes_eq verb (codes "names")) (are_file_words files) both.0)) in
    let count = ap length both.1 in
    omega arith
