-- The definition that a tree instantiates.
use Rattle.std.specs.Prelude.{Bool, false, nat_lt, cond, List, length, Option, None, Some}
use Rattle.std.specs.Option.{option_map_or}
use Rattle.clr_base.specs.declared.ids.DefId.{DefId}
use Rattle.type_tree.specs.declared.tree.Ty.{Ty}
use Rattle.type_tree.specs.declared.tree.Ty.TheOpen.{Ty-F}
use Rattle.type_tree.specs.declared.tree.Ty.TheViews.{out-Ty}
use Rattle.type_tree.specs.World.{Facts}

-- a number that a definition of the world has
abbrev pub existing : Facts → DefId → Option DefId
existing w d = cond (nat_lt d.0 (length w.defs)) (Some d) None

abbrev pub def_at : {A : Type 0} → Facts → Ty-F A → Option DefId
def_at w (Ty-F.Inst d args) = existing w d
def_at w _ = None

-- the definition of the world that a tree instantiates
abbrev pub def_in : Facts → Ty → Option DefId
def_in w t = def_at w (out-Ty t)

-- the tree instantiates a definition of which this holds
abbrev pub with_def : Facts → (DefId → Bool) → Ty → Bool
with_def w p t = option_map_or p (def_in w t) false

abbrev pub Of : (DefId → Type 0) → Option DefId → Type 0
Of P None = ⊥
Of P (Some d) = P d

abbrev pub WithDef : Facts → (DefId → Type 0) → Ty → Type 0
WithDef w P t = Of P (def_in w t)
