-- The world of files that pass their checks and are not too many is whole.
use Rattle.std.proofs.Common.{◌≡◌, ℕ, zero, suc, ◌+◌, ◌≤◌, Bool, true, List, [], ◌∷◌, length, Some, refl, sym, ap, ap₂, ◌∙◌, subst, arith, slice_get}
use Rattle.std.specs.List.{list_all, sum_by}
use Rattle.std.proofs.lemmas.List.{length-append}
use Rattle.std.proofs.lemmas.List.Sums.{sum_by-cons}
use Rattle.cli_tables.specs.Metadata.{Metadata}
use Rattle.type_tree.specs.declared.parts.WorldFile.{WorldFile}
use Rattle.type_tree.specs.Whole.{most}
use Rattle.core_types.specs.CoreTable.{core_defs, core_methods}
use Rattle.image_rows.specs.Cells.{rows}
use Rattle.image_rows.specs.Image.{metadata_in}
use Rattle.image_rows.specs.Rows.{ArePassed}
use Rattle.image_files.specs.Signatures.{row_sigs, sigs_in}
use Rattle.world_build.specs.World.{of_bytes}
use Rattle.image_files.specs.Images.{tables_in}
use Rattle.type_members.proofs.FileSums.{all_rows}
use Rattle.clr_base.proofs.ListFacts.{all_of_both}
use Rattle.type_names.proofs.NamesCount.{named_rows}

-- files that pass their checks, whose definitions, methods, fields and signatures are few enough
pub record AreFew (files : List (List ℕ)) : Type 0 where
  pub passed : (k : ℕ) (m : Metadata) → slice_get (tables_in files) k ≡ Some m → ArePassed m
  pub defs : core_defs + all_rows (tables_in files) 0x02 ≤ most
  pub methods : core_methods + all_rows (tables_in files) 0x06 ≤ most
  pub fields : all_rows (tables_in files) 0x04 ≤ most
  pub sigs : 3 + sum_by sigs_in (tables_in files) ≤ most

-- ---- how many names there are

refs_few : (m : Metadata) → rows m 0x01 ≤ sigs_in m
unfolding sigs_in row_sigs
refs_few m = omega arith

pub named_few : (ms : List Metadata) → sum_by named_rows ms ≤ all_rows ms 0x02 + all_rows ms 0x04 + all_rows ms 0x06 + sum_by sigs_in ms
named_few [] = omega arith
named_few (m ∷ ms) =
    omega (
      arith,
      named_few ms,
      refs_few m,
      sum_by-cons named_rows m ms,
      sum_by-cons (λ m. rows m 0x02) m ms,
      sum_by-cons (λ m. rows m 0x04) m ms,
      sum_by-cons (λ m. rows m 0x06) m ms,
      sum_by-cons sigs_in m ms,
    )

-- ---- lists that files give with their bytes

module _ {X : Type 0} (give : List ℕ → ℕ → Metadata → List X) where
  pub length_of_bytes : (len : Metadata → ℕ) (n : ℕ) (files : List (List ℕ)) → ((b : List ℕ) (k : ℕ) (m : Metadata) → length (give b k m) ≡ len m)
      → length (of_bytes give n files) ≡ sum_by len (tables_in files)
  length_of_bytes len n [] each = refl
  length_of_bytes len n (b ∷ bs) each =
      length-append (give b n (metadata_in b)) (of_bytes give (n + 1) bs)
      ∙ ap₂ ◌+◌ (each b n (metadata_in b)) (length_of_bytes len (n + 1) bs each) ∙ sym (sum_by-cons len (metadata_in b) (tables_in bs))

  pub all_of_bytes : (p : X → Bool) (n : ℕ) (files : List (List ℕ)) → ((k : ℕ) (b : List ℕ) → slice_get files k ≡ Some b → list_all p (give b (n + k) (metadata_in b)) ≡ true)
      → list_all p (of_bytes give n files) ≡ true
  all_of_bytes p n [] each = refl
  all_of_bytes p n (b ∷ bs) each =
      let here : n + 0 ≡ n = omega arith in
      all_of_both p (give b n (metadata_in b)) (of_bytes give (n + 1) bs) (subst (λ (k : ℕ). list_all p (give b k (metadata_in b)) ≡ true) here (each 0 b refl))
      (all_of_bytes p (n + 1) bs
      (λ k o e. let behind : n + suc k ≡ n + 1 + k = omega arith in subst (λ (i : ℕ). list_all p (give o i (metadata_in o)) ≡ true) behind (each (suc k) o e)))

-- the table of a file that is there
pub table_at : (files : List (List ℕ)) (k : ℕ) (b : List ℕ) → slice_get files k ≡ Some b → slice_get (tables_in files) k ≡ Some (metadata_in b)
table_at [] k b e = absurd cc
table_at (x ∷ xs) zero b e = let same : x ≡ b = cc in ap (λ (y : List ℕ). Some (metadata_in y)) same
table_at (x ∷ xs) (suc k) b e = table_at xs k b e

-- what stands for it
pub one_each : (give : List ℕ → ℕ → Metadata → WorldFile) (n : ℕ) (files : List (List ℕ)) (k : ℕ) (b : List ℕ) → slice_get files k ≡ Some b
    → slice_get (of_bytes (λ b k m. give b k m ∷ []) n files) k ≡ Some (give b (n + k) (metadata_in b))
one_each give n [] k b e = absurd cc
one_each give n (x ∷ xs) zero b e =
    let same : x ≡ b = cc in
    let here : n ≡ n + 0 = omega arith in
    ap (λ (y : List ℕ). Some (give y n (metadata_in y))) same ∙ ap (λ (i : ℕ). Some (give b i (metadata_in b))) here
one_each give n (x ∷ xs) (suc k) b e =
    let behind : n + 1 + k ≡ n + suc k = omega arith in
    one_each give (n + 1) xs k b e ∙ ap (λ (i : ℕ). Some (give b i (metadata_in b))) behind
