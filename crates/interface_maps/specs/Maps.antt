-- What is known of the interfaces of definitions, with their choices, that were found along a chain.
use Rattle.std.specs.Prelude.{◌≡◌, ℕ, nat_eq, true, cond, List, [], ◌∷◌, ◌++◌, length, map, unwrap_or, Option, None, Some, slice_get}
use Rattle.std.specs.HashMap.{get, Updates}
use Rattle.type_tree.specs.declared.definition.Def.{Def}
use Rattle.type_tree.specs.declared.tree.Ty.{Ty}
use Rattle.type_tree.specs.World.{Facts}
use Rattle.type_pool.specs.declared.nodes.Id.{Id}
use Rattle.type_pool.specs.Jobs.{SpellAll}
use Rattle.type_pool.specs.Trees.{at_all, ids_below}
use Rattle.method_slots.specs.declared.opens.OpenMethod.{OpenMethod}
use Rattle.method_slots.specs.Chains.{longest_chain, handed_on, IsWithin}
use Rattle.method_slots.specs.Slots.{is_interface}
use Rattle.slot_chains.specs.declared.notes.Notes.{Notes}
use Rattle.slot_chains.specs.Levels.{AreNotes, IsNoted}
use Rattle.interface_lists.specs.Lists.{from_parent, interfaces, own_list, with_own}
use Rattle.interface_lists.specs.Walks.{IdsAre}
use Rattle.interface_maps.specs.declared.answers.Interface.{Interface}
use Rattle.interface_maps.specs.declared.known.Known.{Known}
use Rattle.interface_maps.specs.declared.maps.MapLevel.{MapLevel}
use Rattle.interface_maps.specs.declared.maps.MapNotes.{MapNotes}
use Rattle.interface_maps.specs.Choices.{Answered, answers, choice, put_answered}
use Rattle.interface_maps.specs.Found.{AreFound}
use Rattle.interface_maps.specs.Inherited.{ArePlaces}
use Rattle.interface_maps.specs.Known.{IsKnown}
use Rattle.interface_maps.specs.Publics.{Numbers}

-- the interfaces of a definition; none where their list passes its bounds
abbrev pub interfaces_of : Facts → ℕ → List Ty
interfaces_of w n = unwrap_or (interfaces longest_chain w n) []

-- those that it declares itself
abbrev pub own_of : Facts → Def → List Ty
own_of w d = unwrap_or (own_list w d) []

-- what a definition has of its parent
abbrev pub above_of : Facts → Def → List Answered
above_of w d = handed_on put_answered (answers longest_chain w) d.parent

-- what was found of the definition n is so
pub record IsMap (w : Facts) (ts : List Ty) (n : ℕ) (l : MapLevel) : Type 0 where
  pub list : IdsAre ts l.list (interfaces longest_chain w n)
  pub found : AreFound ts l.found (answers longest_chain w n)

-- what was found of the definition n stands at i
pub record IsMapAt (w : Facts) (ts : List Ty) (levels : List MapLevel) (n i : ℕ) : Type 0 where
  pub level : MapLevel
  pub here : slice_get levels i ≡ Some level
  pub is : IsMap w ts n level

-- it is found where its place is noted
abbrev pub AreMaps : Facts → List Ty → MapNotes → Type 0
AreMaps w ts notes = (n i : ℕ) → get nat_eq notes.places n ≡ Some i → IsMapAt w ts notes.levels n i

-- what was found stays where it stands, and what was noted stays noted
pub record MapsGrow (old new : MapNotes) : Type 0 where
  pub levels : (more : List MapLevel) × (new.levels ≡ old.levels ++ more)
  pub noted : (n : ℕ) → IsNoted old.places n → IsNoted new.places n

-- one more is noted, last
pub record IsMapKept (old new : MapNotes) (n : ℕ) (level : MapLevel) (place : ℕ) : Type 0 where
  pub levels : new.levels ≡ old.levels ++ level ∷ []
  pub here : place ≡ length old.levels
  pub places : Updates nat_eq old.places new.places n (Some place)

-- ---- what the walk asks

-- d is the definition n, its chain of parents is within the bound, and its slots are noted
pub record IsBase (w : Facts) (ts : List Ty) (slots : Notes) (n : ℕ) (d : Def) : Type 0 where
  pub here : slice_get w.defs n ≡ Some d
  pub within : IsWithin w n
  pub notes : AreNotes w ts slots
  pub noted : IsNoted slots.places n

-- These are the interfaces of the parent of d, and what was found of them.
pub record IsAboveMap (w : Facts) (ts : List Ty) (n : ℕ) (d : Def) (above : List Id) (found : List Interface) : Type 0 where
  pub below : ids_below (length ts) above ≡ true
  pub list : interfaces longest_chain w n ≡ with_own w d (from_parent d.parent (at_all ts above))
  pub trees : map (λ (a : Answered). a.interface) (above_of w d) ≡ from_parent d.parent (at_all ts above)
  pub choices : map (λ (f : Interface). f.choices) found ≡ map (λ (a : Answered). a.choices) (above_of w d)

-- where each interface stands that d itself declares
pub record AreOwnPlaces (w : Facts) (ts : List Ty) (d : Def) (places : Numbers) : Type 0 where
  pub ids : List Id
  pub firsts : ArePlaces places ids
  pub spelled : SpellAll ts ids (own_of w d)

-- the choice for the method m, which stands at j in the interface t
abbrev pub each_of : Facts → ℕ → Def → Ty → ℕ → ℕ → Option ℕ
each_of w n d t j m = cond (is_interface d) None (choice w n d (own_of w d) (above_of w d) t j m)

-- this is known of the definition n, which is d
abbrev pub Knows : Facts → ℕ → Def → List Ty → List OpenMethod → Known → List Interface → Type 0
Knows w n d ts os known found = IsKnown w n d (own_of w d) (above_of w d) ts os known found
