-- What is known of a definition while the methods of its interfaces are answered, over a pool and a set.
use Rattle.std.specs.Prelude.{◌≡◌, ℕ, Bool, true, false, cond, List, Option, None, Some}
use Rattle.std.specs.List.{list_any}
use Rattle.std.specs.Option.{option_map}
use Rattle.type_tree.specs.declared.definition.Def.{Def}
use Rattle.type_tree.specs.declared.definition.Method.{Method}
use Rattle.type_tree.specs.declared.tree.Ty.{Ty}
use Rattle.type_tree.specs.World.{Facts}
use Rattle.type_pool.specs.declared.nodes.Id.{Id}
use Rattle.type_pool.specs.Jobs.{SpellAll}
use Rattle.type_pool.specs.Trees.{at}
use Rattle.method_slots.specs.declared.opens.OpenMethod.{OpenMethod}
use Rattle.method_slots.specs.Opens.{open_of, put_open}
use Rattle.method_slots.specs.Slots.{matches, same_tree}
use Rattle.interface_maps.specs.declared.answers.Interface.{Interface}
use Rattle.interface_maps.specs.declared.known.Known.{Known}
use Rattle.interface_maps.specs.Choices.{Answered, Public, choice, first_of, publics}
use Rattle.interface_maps.specs.Inherited.{AreAbove, ArePlaces}
use Rattle.interface_maps.specs.Publics.{ArePublics, Numbers}
use Rattle.interface_maps.specs.Rows.{AreRows}

-- This is known of the definition n, which is d and declares the interfaces `own` itself, and whose parent has the answers `above`.
pub record IsKnown (w : Facts) (n : ℕ) (d : Def) (own : List Ty) (above : List Answered) (ts : List Ty) (os : List OpenMethod) (known : Known) (found : List Interface) : Type 0 where
  pub publics : ArePublics ts os known.publics (publics w n)
  pub rows : AreRows w n ts known.rows d.impls
  pub trees : List Id
  pub places : ArePlaces known.places trees
  pub parents : AreAbove ts trees found above
  pub declared : List Id
  pub owned : ArePlaces known.own declared
  pub spelled : SpellAll ts declared own

abbrev pub is_there : Option ℕ → Bool
is_there None = false
is_there (Some i) = true

-- whether a tree is one of those whose places are noted
abbrev pub FindsTree : List Ty → Numbers → Id → Bool → Type 0
FindsTree ts places t is = (ids : List Id) (trees : List Ty) → ArePlaces places ids → SpellAll ts ids trees → is ≡ list_any (same_tree (at ts t)) trees

-- the slot of the first public virtual method of the same name and signature, where the definition declares the interface itself
abbrev pub FindsName : List Ty → List OpenMethod → Known → List Interface → Id → List Ty → Method → Option ℕ → Type 0
FindsName ts os known found t types r named = (w : Facts) (n : ℕ) (d : Def) (own : List Ty) (above : List Answered) → IsKnown w n d own above ts os known found
    → named ≡ cond (list_any (same_tree (at ts t)) own) (option_map (λ (p : Public). p.number) (first_of (λ (p : Public). matches p.signature (put_open types (open_of r))) (publics w n))) None

-- the choice for the method m, which stands at j in an interface
abbrev pub FindsChoice : Facts → List Ty → List OpenMethod → Known → List Interface → Id → ℕ → ℕ → Option ℕ → Type 0
FindsChoice w ts os known found t j m answer = (n : ℕ) (d : Def) (own : List Ty) (above : List Answered) → IsKnown w n d own above ts os known found
    → answer ≡ choice w n d own above (at ts t) j m
