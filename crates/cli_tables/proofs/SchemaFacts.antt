-- What holds of each table of the schema.
use Rattle.std.proofs.Common.{◌≡◌, ℕ, zero, suc, ◌≤◌, Bool, true, false, ◌&&◌, List, [], ◌∷◌, map, length, get_or, nat_le, refl}
use Rattle.std.proofs.lemmas.Bool.{leb-true}
use Rattle.std.specs.List.{list_all}
use Rattle.cli_tables.specs.Schema.{columns}
use Rattle.cli_tables.specs.declared.schema.Column.{Column}
use Rattle.cli_tables.specs.declared.schema.TheConstants.{TABLES}

pub first_of_both : (a b : Bool) → (a && b) ≡ true → a ≡ true
first_of_both true b e = refl
first_of_both false b e = cc

pub last_of_both : (a b : Bool) → (a && b) ≡ true → b ≡ true
last_of_both true b e = e
last_of_both false b e = cc

-- what all items pass, and the default too
pub all_at : {X : Type 0} (p : X → Bool) (xs : List X) (i : ℕ) (d : X) → list_all p xs ≡ true → p d ≡ true → p (get_or xs i d) ≡ true
all_at p [] i d all last = last
all_at p (x ∷ xs) zero d all last = first_of_both (p x) (list_all p xs) all
all_at p (x ∷ xs) (suc i) d all last = all_at p xs i d (last_of_both (p x) (list_all p xs) all) last

-- a table has at most 9 columns
pub short : (t : ℕ) → length (columns t) ≤ 9
unfolding columns
short t = leb-true _ _ (all_at (λ (cs : List Column). nat_le (length cs) 9) (map (λ c. c.now) TABLES) t [] refl refl)
