-- The words of the command line.
use Rattle.std.specs.Prelude.{ℕ, List, [], ◌∷◌, Bool, false, not, ◌&&◌, ◌==◌, Option, None, Some, map, length, nat_le, String, codes, if◌then◌else◌}
use Rattle.std.specs.List.{list_all}
use Rattle.std.specs.Str.{bytes_eq}
use Rattle.std.specs.String.{string_bytes}
use Rattle.std.specs.declared.alloc.Global.{Global}

-- a file's word isn't empty and doesn't begin with `-`
abbrev pub is_file_word : List ℕ → Bool
is_file_word [] = false
is_file_word (first ∷ rest) = not (first == 45)

-- 1 to 16 files' words
abbrev pub are_file_words : List (List ℕ) → Bool
are_file_words words = nat_le 1 (length words) && nat_le (length words) 16 && list_all is_file_word words

-- the files of `names FILE..`, or none where the words are no command
abbrev pub named_files : List (List ℕ) → Option (List (List ℕ))
named_files [] = None
named_files (verb ∷ files) = if bytes_eq verb (codes "names") && are_file_words files then Some files else None

-- the bytes of each word
abbrev pub texts_of : List (String Global) → List (List ℕ)
texts_of words = map (λ word. string_bytes word) words
