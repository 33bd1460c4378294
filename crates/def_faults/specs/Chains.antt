-- Chains of parents (ECMA-335 I.8.9.9, II.10.1.3): a definition, the one that it extends, and so on.
use Rattle.std.specs.Prelude.{◌≡◌, ℕ, zero, suc, Bool, true, false, Option, None, Some, slice_get}
use Rattle.std.specs.Option.{option_and_then, option_map_or}
use Rattle.clr_base.specs.declared.ids.DefId.{DefId}
use Rattle.type_tree.specs.declared.tree.Ty.{Ty}
use Rattle.type_tree.specs.declared.tree.Ty.TheOpen.{Ty-F}
use Rattle.type_tree.specs.declared.tree.Ty.TheViews.{out-Ty}
use Rattle.type_tree.specs.World.{Facts}
use Rattle.type_tree.specs.Kinds.{parent_of}

-- what a tree instantiates
abbrev pub head_at : Ty-F Ty → Option DefId
head_at (Ty-F.Inst d parts) = Some d
head_at _ = None

abbrev pub head : Ty → Option DefId
head t = head_at (out-Ty t)

abbrev pub head_of : Option Ty → Option DefId
head_of (Some t) = head t
head_of None = None

-- the definition that a definition extends: none where its parent is absent or no instantiation
abbrev pub parent : Facts → DefId → Option DefId
parent w id = head_of (parent_of (slice_get w.defs id.0))

module _ {X : Type 0} (up : X → Option X) where
  -- the chain has at most so many members, its first counted
  unfoldable pub chain_within : ℕ → X → Bool
  chain_within zero x = false
  chain_within (suc n) x = option_map_or (chain_within n) (up x) true

  -- the member of the chain that stands so many parents up
  abbrev pub member : ℕ → X → Option X
  member zero x = Some x
  member (suc n) x = option_and_then (member n) (up x)

  -- a member of the chain, its first counted, passes the test
  pub record OnChain (p : X → Bool) (x : X) : Type 0 where
    pub parents : ℕ
    pub it : X
    pub there : member parents x ≡ Some it
    pub passes : p it ≡ true
