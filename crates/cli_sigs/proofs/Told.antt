-- What a list of locals tells of its length is its length, where the list is one.
use Rattle.std.proofs.Common.{◌≡◌, ℕ, Bool, true, false, cond, List, [], ◌∷◌, length, Ok, Err, sym, ap, ◌∙◌}
use Rattle.std.specs.Prelude.{nat_eq}
use Rattle.cli_sigs.specs.declared.signature.RowCounts.{RowCounts}
use Rattle.cli_sigs.specs.declared.signature.SigTy.{SigTy}
use Rattle.cli_sigs.specs.Reading.{Answer, Part, ◌>>=◌, refused, behind, measured, repeated}
use Rattle.cli_sigs.specs.Compressed.{number_at}
use Rattle.cli_sigs.specs.Signatures.{placed, kind_at, local_at, locals_at, told_by, told_locals}
use Rattle.cli_sigs.proofs.ReaderLaws.{ok_is}
use Rattle.cli_sigs.proofs.Skipping.{locals}

length_of : {X : Type 0} (blob : List ℕ) (part : Part (List X)) (xs : List X) → placed blob part ≡ Ok xs → (rest : List ℕ) × (measured part ≡ Ok (length xs, rest))
length_of {X = X} blob (Ok x) xs e = (x.1, ap (λ (ys : List X). Ok (length ys, x.1)) (ok_is x.0 xs e))
length_of blob (Err left) xs e = absurd cc

abbrev found : ℕ → List ℕ → Part ℕ
found n left = Ok (n, left)

last_told : (after : Answer (List ℕ)) (told n : ℕ) (left : List ℕ) → found n left ≡ (after >>= λ rest. Ok (told, rest)) → told ≡ n
last_told (Ok rest) told n left e = ap (λ (p : ℕ × List ℕ). p.0) (ok_is (told, rest) (n, left) (sym e))
last_told (Err other) told n left e = absurd cc

number_told : (number : Part ℕ) (types : ℕ × List ℕ → Answer (List ℕ)) (n : ℕ) (left : List ℕ)
    → found n left ≡ (number >>= λ count. types count >>= λ rest. Ok (count.0, rest)) → told_by number ≡ n
number_told (Ok count) types n left e = last_told (types count) count.0 n left e
number_told (Err other) types n left e = absurd cc

behind_kind : (good : Bool) (rest bytes : List ℕ) (others : List ℕ → Part ℕ) (n told : ℕ) (left : List ℕ) → (found n left ≡ others rest → told ≡ n)
    → found n left ≡ (cond good (Ok rest) (refused bytes) >>= others) → told ≡ n
behind_kind true rest bytes others n told left here e = here e
behind_kind false rest bytes others n told left here e = absurd cc

-- the number at the front, and the types behind it
types_of : RowCounts → List ℕ → Part ℕ
types_of counts bytes = number_at bytes >>= λ count. behind (repeated (local_at counts) count.0 count.1) >>= λ rest. Ok (count.0, rest)

told_in : (counts : RowCounts) (blob : List ℕ) (n : ℕ) (left : List ℕ) → found n left ≡ (kind_at 0x07 blob >>= types_of counts) → told_locals blob ≡ n
unfolding kind_at told_locals types_of
told_in counts [] n left e = absurd cc
told_in counts (code ∷ rest) n left e =
    behind_kind (nat_eq code 0x07) rest (code ∷ rest) (types_of counts) n (told_by (number_at rest)) left
    (number_told (number_at rest) (λ count. behind (repeated (local_at counts) count.0 count.1)) n left) e

pub told_is : (counts : RowCounts) (blob : List ℕ) (xs : List SigTy) → placed blob (locals_at counts blob) ≡ Ok xs → told_locals blob ≡ length xs
unfolding types_of
told_is counts blob xs e =
    let measured_is = length_of blob (locals_at counts blob) xs e in
    told_in counts blob (length xs) measured_is.0 (sym measured_is.1 ∙ locals counts blob)
