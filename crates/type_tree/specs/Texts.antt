-- The text of a type tree.
use Rattle.std.specs.Prelude.{ℕ, List, [], ◌∷◌, ◌++◌, codes, decimal}
use Rattle.std.specs.List.{join_by}
use Rattle.type_tree.specs.declared.tree.Ty.{Ty}
use Rattle.type_tree.specs.declared.tree.Ty.TheOpen.{Ty-F}
use Rattle.type_tree.specs.declared.tree.Ty.TheFolds.{fold-Ty}
use Rattle.type_tree.specs.Lookup.{full_name, name_text}
use Rattle.type_tree.specs.World.{Facts}

-- what stands behind the name of a definition: its arguments in brackets, nothing where there are none
abbrev pub bracketed : List (List ℕ) → List ℕ
bracketed [] = []
bracketed (text ∷ texts) = codes "[" ++ (join_by (λ t. t) (codes ",") (text ∷ texts) ++ codes "]")

-- one level; each part is given by its text
abbrev pub text_step : Facts → Ty-F (List ℕ) → List ℕ
text_step w (Ty-F.Inst d parts) = full_name w d ++ bracketed parts
text_step w (Ty-F.Array part) = part ++ codes "[]"
text_step w (Ty-F.ByRef part) = part ++ codes "&"
text_step w (Ty-F.Ptr part) = part ++ codes "*"
text_step w (Ty-F.Var n) = codes "!" ++ decimal n
text_step w (Ty-F.MVar n) = codes "!!" ++ decimal n
text_step w (Ty-F.Missing name value) = name_text w name
text_step w (Ty-F.Odd code) = codes "?"

abbrev pub type_text : Facts → Ty → List ℕ
type_text w = fold-Ty (List ℕ) (text_step w)
