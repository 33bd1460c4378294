-- What is told of the key of a handle, with handles in the place of the types that it names.
use Rattle.std.specs.Prelude.{◌≡◌, ℕ, Bool, false, true, List, [], length, map, unwrap_or, Option, None, Some, slice_get}
use Rattle.std.specs.Option.{option_map}
use Rattle.clr_base.specs.declared.ids.DefId.{DefId}
use Rattle.clr_base.specs.declared.ids.Handle.{Handle}
use Rattle.clr_base.specs.declared.ids.MethId.{MethId}
use Rattle.type_tree.specs.declared.tree.Key.{Key}
use Rattle.type_tree.specs.declared.tree.Key.TheVariants.{Tree, Meth}
use Rattle.type_tree.specs.declared.tree.Ty.TheOpen.{Ty-F}
use Rattle.type_tree.specs.declared.tree.Ty.TheViews.{out-Ty}
use Rattle.type_tree.specs.declared.tree.Ty.{Ty}
use Rattle.type_tree.specs.World.{Facts}
use Rattle.type_record.specs.declared.loaded.SlotOf.{SlotOf}
use Rattle.type_record.specs.Naming.{slot_in, choice_in}
use Rattle.type_subs.specs.Subs.{is_sub}

-- ---- of keys

abbrev pub head_at : Ty-F Ty → Option DefId
head_at (Ty-F.Inst d parts) = Some d
head_at _ = None

-- the definition of an instantiation
abbrev pub head_of : Key → Option DefId
head_of (Tree t) = head_at (out-Ty t)
head_of (Meth k) = None

-- the method of a method's key
abbrev pub method_of : Key → Option MethId
method_of (Tree t) = None
method_of (Meth k) = Some k.method

-- Where a value of the key k may stand for one of the key l (I.8.7.1). A method's key is a sub of itself alone.
abbrev pub IsSub : Facts → Key → Key → Type 0
IsSub w (Tree t) (Tree u) = is_sub w t u ≡ true
IsSub w (Tree t) (Meth l) = ⊥
IsSub w (Meth k) (Tree u) = ⊥
IsSub w (Meth k) (Meth l) = k ≡ l

-- ---- of handles: the key at a handle, where a pass has read it

abbrev pub KeysAt : Type 0
KeysAt = Handle → Option Key

-- none of both, or a handle of the key
abbrev pub AreAlike : KeysAt → Option Handle → Option Key → Type 0
AreAlike key_at h k = option_map key_at h ≡ option_map Some k

-- the method, and a handle of its owner
abbrev pub IsSlot : KeysAt → SlotOf Handle → SlotOf Key → Type 0
IsSlot key_at h k = slot_in key_at h ≡ slot_in Some k

abbrev pub IsChoice : KeysAt → Option (SlotOf Handle) → Option (SlotOf Key) → Type 0
IsChoice key_at h k = choice_in key_at h ≡ choice_in Some k

-- what stands at n in a list, if anything does
abbrev pub IfAt : {A : Type 0} → List A → ℕ → (A → Type 0) → Type 0
IfAt {A} xs n P = (x : A) → slice_get xs n ≡ Some x → P x

-- the owner is known, where there is a choice
abbrev pub IfSomeOwner : (Handle → Type 0) → Option (SlotOf Handle) → Type 0
IfSomeOwner known None = Unit {0}
IfSomeOwner known (Some s) = known s.owner
