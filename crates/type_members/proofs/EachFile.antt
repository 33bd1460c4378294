-- Lists that files give one after the other: what one file more adds.
use Rattle.std.proofs.Common.{◌≡◌, ℕ, zero, suc, ◌+◌, ◌≤◌, List, [], ◌∷◌, ◌++◌, take, length, Some, sym, ap, ap₂, ◌∙◌, arith, slice_get}
use Rattle.std.specs.List.{flat_map, enumerate_from}
use Rattle.std.proofs.lemmas.List.{append-nil, append_assoc, take_all}
use Rattle.cli_tables.specs.Metadata.{Metadata}
use Rattle.type_members.specs.MemberTable.{of_each}

module _ {X : Type 0} (give : ℕ → Metadata → List X) where
  abbrev from : ℕ → List Metadata → List X
  from n files = flat_map (λ ((k, m) : ℕ × Metadata). give k m) (enumerate_from n files)

  from_more : (n : ℕ) (files : List Metadata) (k : ℕ) (m : Metadata) → slice_get files k ≡ Some m
      → from n (take (suc k) files) ≡ from n (take k files) ++ give (n + k) m
  from_more n [] k m there = absurd cc
  from_more n (y ∷ ys) zero m there =
      let same : y ≡ m = cc in
      let place : n ≡ n + 0 = omega arith in
      append-nil (give n y) ∙ ap (give n) same ∙ ap (λ (i : ℕ). give i m) place
  from_more n (y ∷ ys) (suc k) m there =
      let place : n + 1 + k ≡ n + suc k = omega arith in
      ap (λ (xs : List X). give n y ++ xs) (from_more (n + 1) ys k m there ∙ ap (λ (i : ℕ). from (n + 1) (take k ys) ++ give i m) place)
      ∙ sym (append_assoc (give n y) (from (n + 1) (take k ys)) (give (n + suc k) m))

  -- what the next file gives stands behind what those before it give
  pub each_more : (files : List Metadata) (k : ℕ) (m : Metadata) → slice_get files k ≡ Some m
      → of_each give (take (k + 1) files) ≡ of_each give (take k files) ++ give k m
  each_more files k m there =
      let one : k + 1 ≡ suc k = omega arith in
      let place : 0 + k ≡ k = omega arith in
      ap (λ (n : ℕ). of_each give (take n files)) one ∙ from_more 0 files k m there
      ∙ ap (λ (i : ℕ). of_each give (take k files) ++ give i m) place

  -- a list behind others gets what the next file gives
  pub each_file : (files : List Metadata) (k : ℕ) (m : Metadata) (before now after one : List X) → slice_get files k ≡ Some m
      → now ≡ before ++ of_each give (take k files) → one ≡ give k m → after ≡ now ++ one → after ≡ before ++ of_each give (take (k + 1) files)
  each_file files k m before now after one there done is added =
      added ∙ ap₂ (λ (xs ys : List X). xs ++ ys) done is ∙ append_assoc before (of_each give (take k files)) (give k m)
      ∙ ap (λ (xs : List X). before ++ xs) (sym (each_more files k m there))

  -- the lists of all files
  pub each_all : (files : List Metadata) (n : ℕ) (before now : List X) → n ≡ length files → now ≡ before ++ of_each give (take n files)
      → now ≡ before ++ of_each give files
  each_all files n before now all done =
      let enough : length files ≤ n = omega arith in
      done ∙ ap (λ (fs : List Metadata). before ++ of_each give fs) (take_all n files enough)
