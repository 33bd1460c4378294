-- Lists that grow by what each row gives.
use Rattle.std.proofs.Common.{◌≡◌, ℕ, suc, ◌+◌, List, [], ◌∷◌, ◌++◌, map, length, refl, sym, ap, ap₂, ◌∙◌, arith}
use Rattle.std.specs.List.{flat_map, enumerate_from, range_with_len}
use Rattle.std.proofs.lemmas.List.{append-nil, append_assoc}
use Rattle.std.proofs.lemmas.List.Concat.{flat_map-append}
use Rattle.std.proofs.lemmas.List.FromFn.{length-range_with_len, map-range_with_len_more}
use Rattle.clr_base.proofs.Ranges.{range_more}

pub map_map : {X Y Z : Type 0} (g : Y → Z) (f : X → Y) (xs : List X) → map g (map f xs) ≡ map (λ x. g (f x)) xs
map_map g f [] = refl
map_map g f (x ∷ xs) = ap (λ rest. g (f x) ∷ rest) (map_map g f xs)

-- one row more gives one item more
pub pushed : {X : Type 0} (f : ℕ → X) (row : ℕ) (old before after : List X) (x : X) → before ≡ old ++ map f (range_with_len 1 row)
    → after ≡ before ++ x ∷ [] → x ≡ f (row + 1) → after ≡ old ++ map f (range_with_len 1 (row + 1))
pushed f row old before after x done added is =
    added ∙ ap₂ (λ xs y. xs ++ y ∷ []) done is ∙ append_assoc old (map f (range_with_len 1 row)) (f (row + 1) ∷ [])
    ∙ ap (λ xs. old ++ xs) (sym (map-range_with_len_more f 1 row (row + 1) (omega arith)))

-- one row more gives a list more
pub appended : {X : Type 0} (f : ℕ → List X) (row : ℕ) (old before after more : List X) → before ≡ old ++ flat_map f (range_with_len 1 row)
    → after ≡ before ++ more → more ≡ f (row + 1) → after ≡ old ++ flat_map f (range_with_len 1 (row + 1))
appended f row old before after more done added is =
    let last : 1 + row ≡ row + 1 = omega arith in
    let one : row + 1 ≡ suc row = omega arith in
    let step : flat_map f (range_with_len 1 (row + 1)) ≡ flat_map f (range_with_len 1 row) ++ f (row + 1) =
    ap (λ (n : ℕ). flat_map f (range_with_len 1 n)) one ∙ ap (flat_map f) (range_more 1 row) ∙ flat_map-append f (range_with_len 1 row) ((1 + row) ∷ [])
    ∙ ap (λ xs. flat_map f (range_with_len 1 row) ++ xs) (append-nil (f (1 + row)) ∙ ap f last)
    in
    added ∙ ap₂ (λ xs ys. xs ++ ys) done is ∙ append_assoc old (flat_map f (range_with_len 1 row)) (f (row + 1)) ∙ ap (λ xs. old ++ xs) (sym step)

-- all rows have given their items
pub all_pushed : {X Y : Type 0} (g : X → Y) (f : ℕ → X) (row count : ℕ) (old now : List Y) → now ≡ old ++ map (λ r. g (f r)) (range_with_len 1 row)
    → row ≡ count → now ≡ old ++ map g (map f (range_with_len 1 count))
all_pushed g f row count old now done all =
    done ∙ ap (λ (n : ℕ). old ++ map (λ r. g (f r)) (range_with_len 1 n)) all ∙ ap (λ ys. old ++ ys) (sym (map_map g f (range_with_len 1 count)))

-- items with their places: one more
pub enumerate_more : {X Y : Type 0} (f : ℕ × X → Y) (n : ℕ) (xs : List X) (x : X)
    → map f (enumerate_from n (xs ++ x ∷ [])) ≡ map f (enumerate_from n xs) ++ f (n + length xs, x) ∷ []
enumerate_more f n [] x = let here : n ≡ n + 0 = omega arith in ap (λ (k : ℕ). f (k, x) ∷ []) here
enumerate_more f n (y ∷ ys) x =
    let behind : n + 1 + length ys ≡ n + suc (length ys) = omega arith in
    ap (λ rest. f (n, y) ∷ rest) (enumerate_more f (n + 1) ys x) ∙ ap (λ (k : ℕ). f (n, y) ∷ (map f (enumerate_from (n + 1) ys) ++ f (k, x) ∷ [])) behind

pub enumerate_row : {Y : Type 0} (f : ℕ × ℕ → Y) (row : ℕ)
    → map f (enumerate_from 0 (range_with_len 1 (row + 1))) ≡ map f (enumerate_from 0 (range_with_len 1 row)) ++ f (row, row + 1) ∷ []
enumerate_row f row =
    let one : row + 1 ≡ suc row = omega arith in
    let last : 1 + row ≡ row + 1 = omega arith in
    let place : 0 + length (range_with_len 1 row) ≡ row = omega (arith, length-range_with_len 1 row) in
    ap (λ (n : ℕ). map f (enumerate_from 0 (range_with_len 1 n))) one ∙ ap (λ xs. map f (enumerate_from 0 xs)) (range_more 1 row)
    ∙ enumerate_more f 0 (range_with_len 1 row) (1 + row)
    ∙ ap₂ (λ (k r : ℕ). map f (enumerate_from 0 (range_with_len 1 row)) ++ f (k, r) ∷ []) place last
