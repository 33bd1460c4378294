-- Arguments put in for variables (ECMA-335 I.8, II.9.1).
use Rattle.std.specs.Prelude.{ℕ, List, ◌++◌, length, drop, map, unwrap_or, slice_get}
use Rattle.type_tree.specs.declared.tree.Ty.{Ty}
use Rattle.type_tree.specs.declared.tree.Ty.TheOpen.{Ty-F}
use Rattle.type_tree.specs.declared.tree.Ty.TheVariants as ty
use Rattle.type_tree.specs.declared.tree.Ty.TheFolds.{fold-Ty}
use Rattle.type_tree.specs.declared.tree.Key.{Key}
use Rattle.type_tree.specs.declared.tree.Key.TheVariants.{Tree, Meth}

-- the tree at n, or another past the end
abbrev pub entry : List Ty → ℕ → Ty → Ty
entry ts n otherwise = unwrap_or (slice_get ts n) otherwise

-- one level, with each part already put in; a variable past its list stays
abbrev pub subst_step : List Ty → List Ty → Ty-F Ty → Ty
subst_step types methods (Ty-F.Inst d parts) = ty.Inst d parts
subst_step types methods (Ty-F.Array part) = ty.Array part
subst_step types methods (Ty-F.ByRef part) = ty.ByRef part
subst_step types methods (Ty-F.Ptr part) = ty.Ptr part
subst_step types methods (Ty-F.Var n) = entry types n (ty.Var n)
subst_step types methods (Ty-F.MVar n) = entry methods n (ty.MVar n)
subst_step types methods (Ty-F.Missing name value) = ty.Missing name value
subst_step types methods (Ty-F.Odd code) = ty.Odd code

-- the tree with `types` in place of the variables of a type, `methods` in place of a method's
abbrev pub subst_ty : List Ty → List Ty → Ty → Ty
subst_ty types methods = fold-Ty Ty (subst_step types methods)

abbrev pub subst_all : List Ty → List Ty → List Ty → List Ty
subst_all types methods ts = map (subst_ty types methods) ts

abbrev pub subst : Key → List Ty → List Ty → Key
subst (Tree t) types methods = Tree (subst_ty types methods t)
subst (Meth k) types methods =
    Meth (record { owner = subst_ty types methods k.owner; method = k.method; args = subst_all types methods k.args })

-- what two substitutions, one after the other, put in for the variables of one list: the second is
-- made in each tree of the first; past the end of the first the second's own trees stand
abbrev pub composed : (Ty → Ty) → List Ty → List Ty → List Ty
composed second firsts seconds = map second firsts ++ drop (length firsts) seconds
