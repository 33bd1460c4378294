-- Lists that files give with their bytes, one after the other: what one file more adds.
use Rattle.std.proofs.Common.{◌≡◌, ℕ, zero, suc, ◌+◌, ◌≤◌, List, [], ◌∷◌, ◌++◌, take, length, Some, sym, ap, ap₂, ◌∙◌, arith, slice_get}
use Rattle.std.proofs.lemmas.List.{append-nil, append_assoc, take_all}
use Rattle.cli_tables.specs.Metadata.{Metadata}
use Rattle.image_rows.specs.Image.{metadata_in}
use Rattle.world_build.specs.World.{of_bytes}

module _ {X : Type 0} (give : List ℕ → ℕ → Metadata → List X) where
  bytes_from_more : (n : ℕ) (files : List (List ℕ)) (k : ℕ) (b : List ℕ) → slice_get files k ≡ Some b
      → of_bytes give n (take (suc k) files) ≡ of_bytes give n (take k files) ++ give b (n + k) (metadata_in b)
  bytes_from_more n [] k b there = absurd cc
  bytes_from_more n (y ∷ ys) zero b there =
      let same : y ≡ b = cc in
      let place : n ≡ n + 0 = omega arith in
      append-nil (give y n (metadata_in y)) ∙ ap (λ (x : List ℕ). give x n (metadata_in x)) same ∙ ap (λ (i : ℕ). give b i (metadata_in b)) place
  bytes_from_more n (y ∷ ys) (suc k) b there =
      let place : n + 1 + k ≡ n + suc k = omega arith in
      ap (λ (xs : List X). give y n (metadata_in y) ++ xs)
      (bytes_from_more (n + 1) ys k b there ∙ ap (λ (i : ℕ). of_bytes give (n + 1) (take k ys) ++ give b i (metadata_in b)) place)
      ∙ sym (append_assoc (give y n (metadata_in y)) (of_bytes give (n + 1) (take k ys)) (give b (n + suc k) (metadata_in b)))

  -- a list behind others gets what the next file gives
  pub bytes_file : (files : List (List ℕ)) (k : ℕ) (b : List ℕ) (before now after one : List X) → slice_get files k ≡ Some b
      → now ≡ before ++ of_bytes give 0 (take k files) → one ≡ give b k (metadata_in b) → after ≡ now ++ one
      → after ≡ before ++ of_bytes give 0 (take (k + 1) files)
  bytes_file files k b before now after one there done is added =
      let next : k + 1 ≡ suc k = omega arith in
      let place : 0 + k ≡ k = omega arith in
      let more =
      ap (λ (n : ℕ). of_bytes give 0 (take n files)) next ∙ bytes_from_more 0 files k b there
      ∙ ap (λ (i : ℕ). of_bytes give 0 (take k files) ++ give b i (metadata_in b)) place
      in
      added ∙ ap₂ (λ (xs ys : List X). xs ++ ys) done is ∙ append_assoc before (of_bytes give 0 (take k files)) (give b k (metadata_in b))
      ∙ ap (λ (xs : List X). before ++ xs) (sym more)

  -- the lists of all files
  pub bytes_all : (files : List (List ℕ)) (n : ℕ) (before now : List X) → length files ≤ n → now ≡ before ++ of_bytes give 0 (take n files)
      → now ≡ before ++ of_bytes give 0 files
  bytes_all files n before now enough done = done ∙ ap (λ (fs : List (List ℕ)). before ++ of_bytes give 0 fs) (take_all n files enough)
