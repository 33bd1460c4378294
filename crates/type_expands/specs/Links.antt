-- Which variables stand in the arguments of constructed types (ECMA-335 II.9.2).
use Rattle.std.specs.Prelude.{ℕ, ◌+◌, true, false, List, [], ◌∷◌, ◌++◌, map, flat_map, Option, Some, None}
use Rattle.clr_base.specs.declared.ids.DefId.{DefId}
use Rattle.type_tree.specs.declared.tree.Ty.{Ty}
use Rattle.type_tree.specs.declared.tree.Ty.TheOpen.{Ty-F}
use Rattle.type_tree.specs.declared.tree.Ty.TheFolds.{fold-Ty}
use Rattle.type_tree.specs.declared.definition.Def.{Def}
use Rattle.type_expands.specs.declared.links.Link.{Link}

-- what stands in a tree: whether it is a variable, all variables in it, and its links
pub record Found : Type 0 where
  pub itself : Option ℕ
  pub variables : List ℕ
  pub links : List Link

abbrev pub plain_to : DefId → ℕ → ℕ → Link
plain_to d place x = record { from = x; to = d; place = place; expanding = false }

abbrev pub expanding_to : DefId → ℕ → ℕ → Link
expanding_to d place x = record { from = x; to = d; place = place; expanding = true }

-- a plain link from the variable that is the argument at that place; else expanding ones from those that are proper
-- parts of it
abbrev pub links_by : DefId → ℕ → Option ℕ → List ℕ → List Link
links_by d place (Some x) xs = plain_to d place x ∷ []
links_by d place None xs = map (expanding_to d place) xs

abbrev pub links_to : DefId → ℕ → Found → List Link
links_to d place f = links_by d place f.itself f.variables

abbrev pub argument_links : DefId → ℕ → List Found → List Link
argument_links d place [] = []
argument_links d place (f ∷ fs) = links_to d place f ++ argument_links d (place + 1) fs

-- one level, each part given by what stands in it: each constructed type has the links of its arguments
abbrev pub found_step : Ty-F Found → Found
found_step (Ty-F.Inst d parts) = record { itself = None; variables = flat_map (λ f. f.variables) parts; links = argument_links d 0 parts ++ flat_map (λ f. f.links) parts }
found_step (Ty-F.Array part) = record { itself = None; variables = part.variables; links = part.links }
found_step (Ty-F.ByRef part) = record { itself = None; variables = part.variables; links = part.links }
found_step (Ty-F.Ptr part) = record { itself = None; variables = part.variables; links = part.links }
found_step (Ty-F.Var n) = record { itself = Some n; variables = n ∷ []; links = [] }
found_step _ = record { itself = None; variables = []; links = [] }

abbrev pub found : Ty → Found
found = fold-Ty Found found_step

abbrev pub all_links : List Ty → List Link
all_links ts = flat_map (λ t. (found t).links) ts

abbrev pub parent_links : Option Ty → List Link
parent_links None = []
parent_links (Some t) = (found t).links

-- the links of the parent and of the declared interfaces
abbrev pub def_links : Def → List Link
def_links d = parent_links d.parent ++ all_links d.interfaces
