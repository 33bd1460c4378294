-- Faults of a type by its definition and by its layout.
use Rattle.std.specs.Prelude.{◌≡◌, ◌⊎◌, Bool, true, false, ◌||◌}
use Rattle.clr_base.specs.declared.ids.DefId.{DefId}
use Rattle.type_tree.specs.declared.tree.Ty.{Ty}
use Rattle.type_tree.specs.World.{Facts}
use Rattle.def_faults.specs.BadInterface.{is_bad_interface}
use Rattle.def_faults.specs.BadParent.{is_bad_parent}
use Rattle.def_faults.specs.BaseCycle.{is_base_cycle}
use Rattle.def_faults.specs.NotFound as def
use Rattle.def_faults.specs.NotInProfile as profile
use Rattle.type_expands.specs.Expands as expands
use Rattle.field_layout.specs.declared.answer.LayoutAnswer.{LayoutAnswer}
use Rattle.field_layout.specs.declared.answer.LayoutAnswer.TheVariants.{Laid, Deep, Bad}
use Rattle.field_layout.specs.Layouts.{layout_of}
use Rattle.key_faults.specs.declared.told.Told.{Told}
use Rattle.key_faults.specs.Definitions.{with_def, WithDef}
use Rattle.key_faults.specs.Shapes.{is_missing, is_outside}
use Rattle.key_faults.specs.Told as told

-- ---- by the definition

-- The tree is a name that no definition has; or its definition, or one on that one's chain of parents, names a parent, an interface or
-- a value type of an instance field that stands nowhere.
abbrev pub NotFound : Facts → Ty → Type 0
NotFound w t = (is_missing t ≡ true) ⊎ WithDef w (def.NotFound w) t

-- the chain of parents has more than 64 members
abbrev pub has_base_cycle : Facts → Ty → Bool
has_base_cycle w t = with_def w (is_base_cycle w) t

-- the definition's generic parameters reach an expanding cycle
abbrev pub Expanding : Facts → Ty → Type 0
Expanding w t = WithDef w (λ (d : DefId). expands.Expands w d.0) t

-- the definition extends what it may not
abbrev pub has_bad_parent : Facts → Ty → Bool
has_bad_parent w t = with_def w (is_bad_parent w) t

-- it declares to implement what is no interface, or its list of interfaces passes the bounds
abbrev pub has_bad_interface : Facts → Ty → Bool
has_bad_interface w t = with_def w (λ (d : DefId). is_bad_interface w d || told.passes_bounds w d) t

-- a reference, a pointer or an odd form; or the definition is a delegate, System.Nullable or an interface with a default method
abbrev pub IsLeftOut : Facts → DefId → Type 0
IsLeftOut w d = profile.NotInProfile w d ⊎ (profile.is_with_default_method w d ≡ true)

abbrev pub NotInProfile : Facts → Ty → Type 0
NotInProfile w t = (is_outside t ≡ true) ⊎ WithDef w (IsLeftOut w) t

-- ---- by the layout

abbrev pub is_deep : LayoutAnswer → Bool
is_deep (Laid l) = false
is_deep Deep = true
is_deep Bad = false

abbrev pub is_bad : LayoutAnswer → Bool
is_bad (Laid l) = false
is_bad Deep = false
is_bad Bad = true

-- value fields nest deeper than 64
abbrev pub has_deep_layout : Facts → Ty → Bool
has_deep_layout w t = is_deep (layout_of w t)

-- the layout has no value
abbrev pub has_bad_layout : Facts → Ty → Bool
has_bad_layout w t = is_bad (layout_of w t)

-- ---- three of these as they are told, which they are where what is told is right

abbrev pub tells_not_found : Told → Facts → Ty → Bool
tells_not_found t w tree = is_missing tree || with_def w (λ (d : DefId). (told.faults_of t d).not_found) tree

abbrev pub tells_expanding : Told → Facts → Ty → Bool
tells_expanding t w tree = with_def w (told.expands t) tree

abbrev pub tells_not_in_profile : Told → Facts → Ty → Bool
tells_not_in_profile t w tree = is_outside tree || with_def w (λ (d : DefId). (told.faults_of t d).not_in_profile || (told.faults_of t d).default_method) tree
