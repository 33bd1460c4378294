-- Files that are read are few enough for the world that they give.
use Rattle.std.proofs.Common.{◌≡◌, ℕ, All, List, true, Some, sym, ap, ◌∙◌, subst, slice_get}
use Rattle.std.proofs.lemmas.Option.{slice_get_within, get_or_from_slice_get}
use Rattle.cli_tables.specs.Metadata.{Metadata}
use Rattle.image_files.specs.Counts.{totals_of, are_few}
use Rattle.image_rows.specs.Rows.{ArePassed}
use Rattle.image_files.specs.Images.{tables_in}
use Rattle.image_files.proofs.FewEnough.{are_below}
use Rattle.world_build.proofs.WorldFits.{AreFew}

each_passed : (images : List Metadata) (k : ℕ) (m : Metadata) → All ArePassed images → slice_get images k ≡ Some m → ArePassed m
each_passed images k m all e =
    subst ArePassed (get_or_from_slice_get images k m m e) (all k m (slice_get_within images k m e))

few_tables : (files : List (List ℕ)) → All ArePassed (tables_in files) → are_few (totals_of (tables_in files)) ≡ true → AreFew files
unfolding totals_of
few_tables files all few =
    let parts = are_below (totals_of (tables_in files)) few in
    record {
      passed = λ k m e. each_passed (tables_in files) k m all e;
      defs = parts.defs;
      methods = parts.methods;
      fields = parts.fields;
      sigs = parts.sigs;
    }

-- what is read says of the files' metadata
pub few_files : (files : List (List ℕ)) (images : List Metadata) → images ≡ tables_in files → All ArePassed images → are_few (totals_of images) ≡ true → AreFew files
few_files files images is all few =
    few_tables files (subst (λ ms. All ArePassed ms) is all) (ap (λ ms. are_few (totals_of ms)) (sym is) ∙ few)
