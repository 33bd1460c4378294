-- Faults of overrides, and the answer of the slots of a definition.
use Rattle.std.specs.Prelude.{ℕ, zero, suc, Bool, false, not, ◌&&◌, ◌||◌, List, ◌++◌, Option, None, Some, slice_get}
use Rattle.std.specs.List.{list_any}
use Rattle.std.specs.Option.{option_map_or, option_and_then}
use Rattle.type_tree.specs.declared.definition.Def.{Def}
use Rattle.type_tree.specs.declared.definition.Impl.{Impl}
use Rattle.type_tree.specs.declared.definition.Method.{Method}
use Rattle.type_tree.specs.declared.tree.Ty.{Ty}
use Rattle.type_tree.specs.World.{Facts}
use Rattle.method_slots.specs.declared.entries.SlotEntry.{SlotEntry}
use Rattle.method_slots.specs.Chains.{flat, owns, is_declared, inherited, openers, parents, slots, above_slots, longest_chain}
use Rattle.method_slots.specs.Opens.{Open}
use Rattle.method_slots.specs.Slots.{takes_slot, is_final, is_abstract, is_abstract_type, is_interface, own_methods, overridden}

-- the method that stands in a slot has this property
abbrev pub stands_with : (Method → Bool) → Facts → Option SlotEntry → Bool
stands_with p w e = option_map_or p (option_and_then (λ (e : SlotEntry). slice_get w.methods e.method.0) e) false

-- a virtual method without newslot takes a slot in which a final method of a parent stands
abbrev pub overrides_final : Facts → List Open → List (Option SlotEntry) → Method → Bool
overrides_final w above entries m = takes_slot m && stands_with is_final w (option_and_then (λ q. flat (slice_get entries q)) (overridden above m))

abbrev pub finals_at : (ℕ → List Open) → (ℕ → List (Option SlotEntry)) → Facts → Option Def → Bool
finals_at above entries w None = false
finals_at above entries w (Some d) = not (is_interface d) && list_any (overrides_final w (inherited above d) (above_slots entries (Some d))) (own_methods w d)

unfoldable pub finals : ℕ → Facts → ℕ → Bool
finals zero w n = false
finals (suc k) w n = finals_at (openers k w) (slots k w) w (slice_get w.defs n)

-- A MethodImpl row fits where its body is one of the definition's own virtual methods, and its declaration a virtual method of a
-- parent or of an interface of the definition, which the row names in the definition's own generic parameters.
abbrev pub row_fits : ℕ → Facts → ℕ → List Ty → Impl → Bool
row_fits k w n interfaces i = owns w n i.body && is_declared w (parents k w n ++ interfaces) i

abbrev pub rows_fail : ℕ → Facts → ℕ → List Ty → Option Def → Bool
rows_fail k w n interfaces None = false
rows_fail k w n interfaces (Some d) = list_any (λ (i : Impl). not (row_fits k w n interfaces i)) d.impls

-- the interfaces are those that the definition has, as trees in its own generic parameters
abbrev pub bad_override : Facts → ℕ → List Ty → Bool
bad_override w n interfaces = finals longest_chain w n || rows_fail longest_chain w n interfaces (slice_get w.defs n)

-- a definition that isn't abstract has a slot with an abstract method
abbrev pub stands_abstract : Facts → ℕ → Bool
stands_abstract w n = list_any (stands_with is_abstract w) (slots longest_chain w n)

abbrev pub lacks_method : Facts → ℕ → Bool
lacks_method w n = option_map_or (λ (d : Def). not (is_abstract_type d)) (slice_get w.defs n) false && stands_abstract w n
