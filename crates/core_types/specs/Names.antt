-- Names, each once, numbered in the order in which they are first seen.
use Rattle.std.specs.Prelude.{ℕ, Bool, List, [], ◌∷◌, ◌++◌, if◌then◌else◌}
use Rattle.std.specs.List.{list_any, position_or_len}
use Rattle.std.specs.Str.{bytes_eq}
use Rattle.clr_base.specs.declared.ids.NameId.{NameId}

-- a list with one more item, where none is the same
abbrev pub with_one : {A : Type 0} → (A → A → Bool) → List A → A → List A
with_one same seen x = if list_any (same x) seen then seen else seen ++ x ∷ []

-- a list with each of some more items, in order, that none before it is the same as
abbrev pub with_all : {A : Type 0} → (A → A → Bool) → List A → List A → List A
with_all same seen [] = seen
with_all same seen (x ∷ xs) = with_all same (with_one same seen x) xs

-- each text once, in the order in which they are first seen
abbrev pub first_seen : List (List ℕ) → List (List ℕ)
first_seen texts = with_all bytes_eq [] texts

-- the number of a text among names, how many these are where it isn't one of them
abbrev pub number_in : List (List ℕ) → List ℕ → ℕ
number_in names text = position_or_len (bytes_eq text) names

abbrev pub id_in : List (List ℕ) → List ℕ → NameId
id_in names text = record { 0 = number_in names text }
