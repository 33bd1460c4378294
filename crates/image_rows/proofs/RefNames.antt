-- The name of a reference that stands in no other one.
use Rattle.std.proofs.Common.{◌≡◌, ℕ, zero, suc, List, Result, Ok, Err, IfOk, refl, sym, ◌∙◌}
use Rattle.cli_tables.specs.Metadata.{Metadata}
use Rattle.image_rows.specs.TypeNames.{outer, qualified, ref_name, ref_namespace, ref_name_within}

alone : (n : ℕ) (m : Metadata) (row : ℕ) → outer m row ≡ 0 → ref_name_within n m row ≡ qualified (ref_namespace m row) (ref_name m row)
unfolding ref_name_within
alone zero m row none = refl
alone (suc n) m row none = rw none refl

pub read_alone : {E : Type 0} (n : ℕ) (m : Metadata) (row around : ℕ) (r : Result (List ℕ) E) → around ≡ outer m row → around ≡ 0
    → IfOk r (λ name. name ≡ qualified (ref_namespace m row) (ref_name m row)) → IfOk r (λ name. name ≡ ref_name_within n m row)
read_alone n m row around (Ok name) is none e = e ∙ sym (alone n m row (sym is ∙ none))
read_alone n m row around (Err x) is none e = e
