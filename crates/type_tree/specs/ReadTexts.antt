-- The texts of types that are read, and the trees that they name.
use Rattle.std.specs.Prelude.{◌≡◌, ℕ, ◌≤◌, Bool, false, IsTrue, not, ◌&&◌, ◌||◌, ◌==◌, List, [], ◌∷◌, ◌++◌, codes, Option, Some, None}
use Rattle.std.specs.List.{list_all}
use Rattle.clr_base.specs.declared.ids.DefId.{DefId}
use Rattle.type_tree.specs.declared.tree.Ty.{Ty}
use Rattle.type_tree.specs.declared.tree.Ty.TheOpen.{Ty-F}
use Rattle.type_tree.specs.declared.tree.Ty.TheVariants as ty
use Rattle.type_tree.specs.declared.tree.Ty.TheFolds.{fold-Ty}
use Rattle.type_tree.specs.World.{Facts}
use Rattle.type_tree.specs.Measure.{depth}
use Rattle.type_tree.specs.Lookup.{full_name, first_named}

-- `[`, `]` and `,` stand in no name
abbrev pub is_mark : ℕ → Bool
is_mark b = b == 91 || b == 93 || b == 44

abbrev pub is_plain : ℕ → Bool
is_plain b = not (is_mark b)

abbrev pub is_name : List ℕ → Bool
is_name [] = false
is_name name = list_all is_plain name

mutual
  -- a name, the arguments in brackets where there are any, and then any number of `[]`
  pub data Names (w : Facts) : List ℕ → Ty → Type 0 where
    definition : (name arguments : List ℕ) (d : DefId) (ts : List Ty) → IsTrue (is_name name) → first_named w name ≡ Some d → NamesArguments w arguments ts
        → Names w (name ++ arguments) (ty.Inst d ts)
    array : (text : List ℕ) (t : Ty) → Names w text t → Names w (text ++ codes "[]") (ty.Array t)

  pub data NamesArguments (w : Facts) : List ℕ → List Ty → Type 0 where
    none : NamesArguments w [] []
    some : (text others : List ℕ) (t : Ty) (ts : List Ty) → Names w text t → NamesMore w others ts → NamesArguments w (codes "[" ++ (text ++ (others ++ codes "]"))) (t ∷ ts)

  -- further arguments, each behind a comma
  pub data NamesMore (w : Facts) : List ℕ → List Ty → Type 0 where
    no_more : NamesMore w [] []
    more : (text others : List ℕ) (t : Ty) (ts : List Ty) → Names w text t → NamesMore w others ts → NamesMore w (codes "," ++ (text ++ others)) (t ∷ ts)

-- a text of the grammar, and the tree that it names, which is not deeper than 64
pub record Reads (w : Facts) (text : List ℕ) (t : Ty) : Type 0 where
  pub names : Names w text t
  pub shallow : depth t ≤ 64

abbrev pub is_that : DefId → Option DefId → Bool
is_that d None = false
is_that d (Some e) = e.0 == d.0

-- the definition's full name is one of the grammar, and the definition is the first of it
abbrev pub names_itself : Facts → DefId → Bool
names_itself w d = is_name (full_name w d) && is_that d (first_named w (full_name w d))

-- only definitions that their names find, with arguments, and arrays; each part is given by whether it is so
abbrev pub readable_step : Facts → Ty-F Bool → Bool
readable_step w (Ty-F.Inst d parts) = names_itself w d && list_all (λ p. p) parts
readable_step w (Ty-F.Array part) = part
readable_step w _ = false

abbrev pub is_readable : Facts → Ty → Bool
is_readable w = fold-Ty Bool (readable_step w)
