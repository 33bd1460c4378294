-- What a closure lists, turn by turn, as one list for each number of turns.
use Rattle.std.specs.Prelude.{ℕ, zero, suc, Bool, cond, List, [], ◌∷◌, ◌++◌, slice_get}
use Rattle.std.specs.List.{list_any}
use Rattle.type_tree.specs.declared.tree.Key.{Key}
use Rattle.type_tree.specs.contracts.tree.Key as row-of-key
use Rattle.type_tree.specs.Same.{same}
use Rattle.key_closure.specs.Closures.{needs_of}

abbrev pub same_key : Key → Key → Bool
same_key = same row-of-key.the_row.coded

-- whether a key is listed
abbrev pub has : List Key → Key → Bool
has keys k = list_any (same_key k) keys

-- what is listed, and then the key, unless it is listed already
abbrev pub added : List Key → Key → List Key
added keys k = cond (has keys k) keys (keys ++ k ∷ [])

abbrev pub all_added : List Key → List Key → List Key
all_added keys [] = keys
all_added keys (k ∷ ks) = all_added (added keys k) ks

-- The key before the first turn; each turn takes the next one that is listed, and adds what it needs.
unfoldable pub listed : (Key → List Key) → Key → ℕ → List Key
listed needs k zero = k ∷ []
listed needs k (suc n) = all_added (listed needs k n) (needs_of needs (slice_get (listed needs k n) n))
