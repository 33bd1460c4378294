-- The list of a definition by that of its parent.
use Rattle.std.proofs.Common.{◌≡◌, ℕ, zero, suc, List, [], Option, None, Some, slice_get, ap, refl, ◌∙◌}
use Rattle.std.specs.Option.{option_map, option_map_or, option_and_then}
use Rattle.type_tree.specs.declared.definition.Def.{Def}
use Rattle.type_tree.specs.declared.tree.Ty.{Ty}
use Rattle.type_tree.specs.Kinds.{head_of}
use Rattle.type_tree.specs.World.{Facts}
use Rattle.interface_lists.specs.Lists.{interfaces, list_at, with_own, from_parent}

none : (w : Facts) (n : ℕ) → interfaces zero w n ≡ Some []
unfolding interfaces
none w n = refl

pub none_within : (w : Facts) (k n : ℕ) → k ≡ 0 → interfaces k w n ≡ Some []
none_within w k n e = ap (λ k. interfaces k w n) e ∙ none w n

module _ (w : Facts) (k n : ℕ) where
  next : interfaces (suc k) w n ≡ list_at (interfaces k w) w (slice_get w.defs n)
  unfolding interfaces
  next = refl

  pub no_def : slice_get w.defs n ≡ None → interfaces (suc k) w n ≡ Some []
  no_def e = next ∙ ap (list_at (interfaces k w) w) e

  module _ (d : Def) (here : slice_get w.defs n ≡ Some d) where
    abbrev pub by : Option (List Ty) → Option (List Ty)
    by o = option_and_then (with_own w d) (option_map (from_parent d.parent) o)

    pub at_root : head_of d.parent ≡ None → interfaces (suc k) w n ≡ with_own w d (from_parent d.parent [])
    at_root e = next ∙ ap (list_at (interfaces k w) w) here ∙ ap (λ o. by (option_map_or (interfaces k w) o (Some []))) e

    pub at_child : (p : ℕ) (above : Option (List Ty)) → head_of d.parent ≡ Some p → interfaces k w p ≡ above → interfaces (suc k) w n ≡ by above
    at_child p above e is = next ∙ ap (list_at (interfaces k w) w) here ∙ ap (λ o. by (option_map_or (interfaces k w) o (Some []))) e ∙ ap by is
