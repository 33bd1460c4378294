-- Lists that files give one after the other: how long they are, what their items pass, and where the part of a file stands.
use Rattle.std.proofs.Common.{◌≡◌, ℕ, zero, suc, ◌+◌, ◌≤◌, Bool, true, List, [], ◌∷◌, take, length, Some, refl, sym, ap, ap₂, ◌∙◌, subst, arith, slice_get}
use Rattle.std.specs.List.{list_all, flat_map, enumerate_from, sum_by}
use Rattle.std.proofs.lemmas.List.{length-append}
use Rattle.std.proofs.lemmas.List.Sums.{sum_by-cons}
use Rattle.cli_tables.specs.Metadata.{Metadata}
use Rattle.image_rows.specs.Cells.{rows}
use Rattle.type_members.specs.MemberTable.{of_each}
use Rattle.type_names.specs.Resolution.{rows_before}
use Rattle.clr_base.proofs.ListFacts.{all_of_both}

-- ---- sums

module _ {X : Type 0} (f : X → ℕ) where
  pub of_part : (xs : List X) (k : ℕ) (x : X) → slice_get xs k ≡ Some x → sum_by f (take k xs) + f x ≤ sum_by f xs
  of_part [] k x e = absurd cc
  of_part (y ∷ ys) zero x e =
      let same : y ≡ x = cc in
      let first : f y ≡ f x = ap f same in
      omega (arith, sum_by-cons f y ys, first)
  of_part (y ∷ ys) (suc k) x e =
      omega (arith, sum_by-cons f y ys, sum_by-cons f y (take k ys), of_part ys k x e)

-- how many rows of a table all files have
abbrev pub all_rows : List Metadata → ℕ → ℕ
all_rows files table = sum_by (λ m. rows m table) files

-- those of the files before one, and its own
pub rows_within : (files : List Metadata) (k table : ℕ) (m : Metadata) → slice_get files k ≡ Some m → rows_before files k table + rows m table ≤ all_rows files table
unfolding rows_before
rows_within files k table m e = of_part (λ m. rows m table) files k m e

-- ---- what each file gives

module _ {X : Type 0} (give : ℕ → Metadata → List X) where
  abbrev from : ℕ → List Metadata → List X
  from n files = flat_map (λ ((k, m) : ℕ × Metadata). give k m) (enumerate_from n files)

  length_from : (len : Metadata → ℕ) (n : ℕ) (files : List Metadata) → ((k : ℕ) (m : Metadata) → length (give k m) ≡ len m) → length (from n files) ≡ sum_by len files
  length_from len n [] each = refl
  length_from len n (m ∷ ms) each =
      length-append (give n m) (from (n + 1) ms) ∙ ap₂ ◌+◌ (each n m) (length_from len (n + 1) ms each) ∙ sym (sum_by-cons len m ms)

  pub length_of_each : (len : Metadata → ℕ) (files : List Metadata) → ((k : ℕ) (m : Metadata) → length (give k m) ≡ len m)
      → length (of_each give files) ≡ sum_by len files
  length_of_each len files each = length_from len 0 files each

  all_from : (p : X → Bool) (n : ℕ) (files : List Metadata) → ((k : ℕ) (m : Metadata) → slice_get files k ≡ Some m → list_all p (give (n + k) m) ≡ true)
      → list_all p (from n files) ≡ true
  all_from p n [] each = refl
  all_from p n (m ∷ ms) each =
      let here : n + 0 ≡ n = omega arith in
      all_of_both p (give n m) (from (n + 1) ms) (subst (λ (k : ℕ). list_all p (give k m) ≡ true) here (each 0 m refl))
      (all_from p (n + 1) ms
      (λ k o e. let behind : n + suc k ≡ n + 1 + k = omega arith in subst (λ (i : ℕ). list_all p (give i o) ≡ true) behind (each (suc k) o e)))

  pub all_of_each : (p : X → Bool) (files : List Metadata) → ((k : ℕ) (m : Metadata) → slice_get files k ≡ Some m → list_all p (give k m) ≡ true)
      → list_all p (of_each give files) ≡ true
  all_of_each p files each =
      all_from p 0 files (λ k m e. let here : k ≡ 0 + k = omega arith in subst (λ (i : ℕ). list_all p (give i m) ≡ true) here (each k m e))
