-- Where classes end, and how it holds however long a chain of parents may be.
use Rattle.std.specs.Prelude.{◌≡◌, ◌⊎◌, ℕ, ◌+◌, ◌≤◌, nat_eq, List, Option, Some}
use Rattle.std.specs.HashMap.{Updates}
use Rattle.type_tree.specs.declared.tree.Ty.{Ty}
use Rattle.type_tree.specs.World.{Facts}
use Rattle.field_layout.specs.declared.ends.ClassEnd.{ClassEnd}
use Rattle.field_layout.specs.declared.ends.ClassEnd.TheVariants.{At, Deep, Bad}
use Rattle.field_layout.specs.declared.ends.EndNote.{EndNote}
use Rattle.field_layout.specs.declared.known.Notes.{Notes}
use Rattle.field_layout.specs.Layouts.{class_layout, parent_layout, ended}
use Rattle.field_layout.specs.Notes.{NotesOf, AllOf, AllNoted}

-- no end passes the limit
abbrev pub EndWithin : ClassEnd → Type 0
EndWithin (At end) = end ≤ 1048576
EndWithin Deep = Unit {0}
EndWithin Bad = Unit {0}

-- the class ends here wherever a chain of so many members may stand
pub record IsEndNote (w : Facts) (t : Ty) (n : EndNote) : Type 0 where
  pub enough : (m : ℕ) → n.members ≤ m → ended (class_layout m w t) ≡ n.end
  pub within : EndWithin n.end

-- what is found where a chain of `chain` members may stand; it is a note where the chain isn't cut
pub record IsEnded (w : Facts) (t : Ty) (chain : ℕ) (n : EndNote) : Type 0 where
  pub here : ended (class_layout chain w t) ≡ n.end
  pub note : n.members ≤ chain → IsEndNote w t n
  pub few : n.members ≤ chain + 1
  pub within : EndWithin n.end

-- the same of the parent of a class with these arguments
pub record IsParentEnd (w : Facts) (args : List Ty) (parent : Option Ty) (chain : ℕ) (n : EndNote) : Type 0 where
  pub here : ended (parent_layout (class_layout chain w) args parent) ≡ n.end
  pub note : n.members ≤ chain → (m : ℕ) → n.members ≤ m → ended (parent_layout (class_layout m w) args parent) ≡ n.end
  pub few : n.members ≤ chain + 1
  pub within : EndWithin n.end

-- what isn't cut is noted
abbrev pub EndKept : NotesOf EndNote → NotesOf EndNote → ℕ → EndNote → ℕ → Type 0
EndKept old new k n chain = ((n.members ≤ chain) × Updates nat_eq old new k (Some n)) ⊎ (new ≡ old)

-- each note is true of its tree
pub record Known (w : Facts) (ts : List Ty) (notes : Notes) : Type 0 where
  pub shapes : AllNoted w ts notes.shapes
  pub ends : AllOf (IsEndNote w) ts notes.ends
