-- How deep and how heavy the answer of a substitution is, from the measures of its arguments.
use Rattle.std.specs.Prelude.{ℕ, ◌+◌, max, min, List, map, sum, unwrap_or, slice_get}
use Rattle.type_tree.specs.declared.tree.Ty.{Ty}
use Rattle.type_tree.specs.declared.tree.Ty.TheOpen.{Ty-F}
use Rattle.type_tree.specs.declared.tree.Ty.TheFolds.{fold-Ty}
use Rattle.type_tree.specs.declared.tree.Key.{Key}
use Rattle.type_tree.specs.declared.tree.Key.TheVariants.{Tree, Meth}
use Rattle.type_tree.specs.Measure.{largest, depth, weight}

-- a number as a u64 holds it, its greatest value standing for every greater one
abbrev pub held : ℕ → ℕ
held n = min n 18446744073709551615

abbrev pub held_depths : List Ty → List ℕ
held_depths ts = map (λ t. held (depth t)) ts

abbrev pub held_weights : List Ty → List ℕ
held_weights ts = map (λ t. held (weight t)) ts

-- the measure of what stands at n; a variable past its list stays, and has the measure 1
abbrev pub measure_at : List ℕ → ℕ → ℕ
measure_at ms n = unwrap_or (slice_get ms n) 1

-- one level, each part given by its depth, each argument too
abbrev pub put_depth_step : List ℕ → List ℕ → Ty-F ℕ → ℕ
put_depth_step types methods (Ty-F.Inst d parts) = largest parts + 1
put_depth_step types methods (Ty-F.Array part) = part + 1
put_depth_step types methods (Ty-F.ByRef part) = part + 1
put_depth_step types methods (Ty-F.Ptr part) = part + 1
put_depth_step types methods (Ty-F.Var n) = measure_at types n
put_depth_step types methods (Ty-F.MVar n) = measure_at methods n
put_depth_step types methods (Ty-F.Missing name value) = 1
put_depth_step types methods (Ty-F.Odd code) = 1

abbrev pub put_depth : List ℕ → List ℕ → Ty → ℕ
put_depth types methods = fold-Ty ℕ (put_depth_step types methods)

abbrev pub put_depth_of_all : List ℕ → List ℕ → List Ty → ℕ
put_depth_of_all types methods ts = largest (map (put_depth types methods) ts)

-- one level, each part given by its weight, each argument too
abbrev pub put_weight_step : List ℕ → List ℕ → Ty-F ℕ → ℕ
put_weight_step types methods (Ty-F.Inst d parts) = sum parts + 1
put_weight_step types methods (Ty-F.Array part) = part + 1
put_weight_step types methods (Ty-F.ByRef part) = part + 1
put_weight_step types methods (Ty-F.Ptr part) = part + 1
put_weight_step types methods (Ty-F.Var n) = measure_at types n
put_weight_step types methods (Ty-F.MVar n) = measure_at methods n
put_weight_step types methods (Ty-F.Missing name value) = 1
put_weight_step types methods (Ty-F.Odd code) = 1

abbrev pub put_weight : List ℕ → List ℕ → Ty → ℕ
put_weight types methods = fold-Ty ℕ (put_weight_step types methods)

abbrev pub put_weight_of_all : List ℕ → List ℕ → List Ty → ℕ
put_weight_of_all types methods ts = sum (map (put_weight types methods) ts)

abbrev pub put_depth_of_key : List ℕ → List ℕ → Key → ℕ
put_depth_of_key types methods (Tree t) = put_depth types methods t
put_depth_of_key types methods (Meth k) = max (put_depth types methods k.owner) (put_depth_of_all types methods k.args) + 1

abbrev pub put_weight_of_key : List ℕ → List ℕ → Key → ℕ
put_weight_of_key types methods (Tree t) = put_weight types methods t
put_weight_of_key types methods (Meth k) = put_weight types methods k.owner + put_weight_of_all types methods k.args + 1
