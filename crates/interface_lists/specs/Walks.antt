-- Lists of interfaces over a pool: numbers of trees in place of trees.
use Rattle.std.specs.Prelude.{◌≡◌, ℕ, ◌<◌, nat_eq, false, true, List, ◌∷◌, ◌++◌, length, map, reverse, Option, None, Some}
use Rattle.std.specs.List.{list_any}
use Rattle.clr_base.specs.declared.ids.DefId.{DefId}
use Rattle.type_tree.specs.declared.tree.Ty.{Ty}
use Rattle.type_tree.specs.Context.{arguments}
use Rattle.type_tree.specs.Kinds.{head}
use Rattle.type_tree.specs.World.{Facts}
use Rattle.type_pool.specs.declared.nodes.Id.{Id}
use Rattle.type_pool.specs.Jobs.{SpellAll}
use Rattle.type_pool.specs.Trees.{at, at_all, ids_below}
use Rattle.interface_lists.specs.Lists.{def_of, is_new, follow, joined}

abbrev pub id_of : ℕ → Id
id_of n = record { 0 = n }

-- the trees that numbers name
abbrev pub members : List Ty → List ℕ → List Ty
members ts ks = at_all ts (map id_of ks)

-- the trees of a stack, the top first
abbrev pub stack : List Ty → List Id → List Ty
stack ts todo = reverse (at_all ts todo)

-- the definition at the head of a tree with the tree's arguments; none where there is no such definition
abbrev pub IsHead : Facts → List Ty → Ty → Option (DefId × List Id) → Type 0
IsHead w ts t (Some h) = (head t ≡ Some h.0.0) × (arguments t ≡ at_all ts h.1) × (h.0.0 < length w.defs) × (ids_below (length ts) h.1 ≡ true)
IsHead w ts t None = def_of w t ≡ None

-- what follows where trees at the top of a stack are passed over until a new interface is there, which is taken off
pub record IsNext (w : Facts) (ts : List Ty) (keys : List ℕ) (old new : List Id) (id : Id) : Type 0 where
  pub within : id.0 < length ts
  pub unlisted : list_any (nat_eq id.0) keys ≡ false
  pub fresh : is_new w (at ts id) (members ts keys) ≡ true
  pub left : ids_below (length ts) new ≡ true
  pub same : follow w (stack ts old) (members ts keys) ≡ follow w (at ts id ∷ stack ts new) (members ts keys)

abbrev pub NextIs : Facts → List Ty → List ℕ → List Id → List Id → Option Id → Type 0
NextIs w ts keys old new (Some id) = IsNext w ts keys old new id
NextIs w ts keys old new None = follow w (stack ts old) (members ts keys) ≡ Some (members ts keys)

-- a stack with more on top of it
pub record Stacked (before after : List Ty) (old new : List Id) (more : List Ty) : Type 0 where
  pub within : ids_below (length after) new ≡ true
  pub are : stack after new ≡ more ++ stack before old

-- numbers that name the trees of this list, none where there is no list
abbrev pub IdsAre : List Ty → Option (List Id) → Option (List Ty) → Type 0
IdsAre ts None list = list ≡ None
IdsAre ts (Some ids) list = (us : List Ty) × (list ≡ Some us) × SpellAll ts ids us

-- numbers of trees that name a list with these after it, without repeats
pub record Joins (ts : List Ty) (old new : List ℕ) (us : List Ty) : Type 0 where
  pub within : ids_below (length ts) (map id_of new) ≡ true
  pub are : members ts new ≡ joined (members ts old) us
