-- What a loaded type or method is: its method table (ECMA-335 I.8.9, II.10, II.12, II.13, II.16).
use Rattle.std.specs.Prelude.{ℕ, cond, List, [], ◌∷◌, map, length, take, drop, unwrap_or, Option, None, Some, slice_get}
use Rattle.std.specs.List.{filter_map}
use Rattle.std.specs.Option.{option_map, option_map_or, option_and_then}
use Rattle.clr_base.specs.declared.ids.DefId.{DefId}
use Rattle.type_tree.specs.declared.definition.Def.{Def}
use Rattle.type_tree.specs.declared.definition.Field.{Field}
use Rattle.type_tree.specs.declared.tree.Key.{Key}
use Rattle.type_tree.specs.declared.tree.Key.TheVariants.{Tree, Meth}
use Rattle.type_tree.specs.declared.tree.Ty.{Ty}
use Rattle.type_tree.specs.declared.tree.Ty.TheOpen.{Ty-F}
use Rattle.type_tree.specs.declared.tree.Ty.TheViews.{out-Ty}
use Rattle.type_tree.specs.Canon.{canon, canon_ty}
use Rattle.type_tree.specs.Kinds.{is_value, is_value_def}
use Rattle.type_tree.specs.Subst.{subst_ty, subst_all}
use Rattle.type_tree.specs.World.{Facts}
use Rattle.type_relations.specs.Relations.{system_array}
use Rattle.field_layout.specs.declared.answer.LayoutAnswer.{LayoutAnswer}
use Rattle.field_layout.specs.declared.answer.LayoutAnswer.TheVariants.{Laid, Deep, Bad}
use Rattle.field_layout.specs.Fields.{is_instance}
use Rattle.field_layout.specs.Layouts.{layout_of}
use Rattle.method_slots.specs.declared.entries.SlotEntry.{SlotEntry}
use Rattle.method_slots.specs.Chains.{longest_chain, chain, chain_within, slots}
use Rattle.method_slots.specs.Slots.{is_interface}
use Rattle.interface_maps.specs.Choices.{Answered, answers}
use Rattle.type_record.specs.declared.loaded.FieldOf.{FieldOf}
use Rattle.type_record.specs.declared.loaded.SlotOf.{SlotOf}
use Rattle.type_record.specs.declared.loaded.TypeRecord.{TypeRecord}
use Rattle.type_record.specs.declared.shape.Form.{Form}
use Rattle.type_record.specs.declared.shape.Form.TheVariants.{Class, Struct, Interface, Array, Method}
use Rattle.type_record.specs.declared.shape.Shape.{Shape}
use Rattle.type_record.specs.Naming.{record_in}

-- ---- form, size, counts

-- A value type is one also where it is an interface.
abbrev pub form_of : Facts → DefId → Def → Form
form_of w id d = cond (is_value_def w id) Struct (cond (is_interface d) Interface Class)

-- 0 where there is no layout
abbrev pub size_of : LayoutAnswer → ℕ
size_of (Laid l) = l.size
size_of Deep = 0
size_of Bad = 0

abbrev pub shape_of : {K : Type 0} → Form → ℕ → List K → List K → List (FieldOf K) → List (SlotOf K) → Shape
shape_of form size args interfaces fields slots =
    record { form = form; args = length args; interfaces = length interfaces; fields = length fields; slots = length slots; size = size }

-- ---- own fields

-- the offsets of the own instance fields
abbrev pub offsets_of : LayoutAnswer → List ℕ
offsets_of (Laid l) = l.offsets
offsets_of Deep = []
offsets_of Bad = []

-- the own fields of a definition, static ones included
abbrev pub own_fields : Facts → Def → List Field
own_fields w d = take d.fields (drop d.first_field w.fields)

abbrev pub value_type : Facts → Ty → Option Ty
value_type w t = cond (is_value w t) (Some t) None

-- a field, with its owner's arguments put in
abbrev pub field_of : Facts → List Ty → Option ℕ → Field → FieldOf Ty
field_of w args offset f = record { offset = offset; value = value_type w (subst_ty args [] f.ty) }

-- an instance field has the next offset; a static or literal one has none
abbrev pub next_offset : Field → List ℕ → Option ℕ
next_offset f offsets = cond (is_instance f) (slice_get offsets 0) None

abbrev pub later_offsets : Field → List ℕ → List ℕ
later_offsets f offsets = cond (is_instance f) (drop 1 offsets) offsets

abbrev pub fields_of : Facts → List Ty → List ℕ → List Field → List (FieldOf Ty)
fields_of w args offsets [] = []
fields_of w args offsets (f ∷ fs) = field_of w args (next_offset f offsets) f ∷ fields_of w args (later_offsets f offsets) fs

-- ---- slots

-- what stands in the slots of a definition, in the order of their numbers
abbrev pub entries_of : Facts → ℕ → List SlotEntry
entries_of w n = filter_map (λ s. s) (slots longest_chain w n)

-- the chain of a definition with arguments put in: the root first, the type itself last
abbrev pub exact_chain : Facts → List Ty → ℕ → List Ty
exact_chain w args n = subst_all args [] (chain longest_chain w n)

-- a method with its exact owner, by the owner's place on the chain of the type `own`
abbrev pub slot_of : {K : Type 0} → K → List K → SlotEntry → SlotOf K
slot_of own chain e = record { method = e.method; owner = unwrap_or (slice_get chain e.owner) own }

-- the slots of a type that instantiates the definition n with these arguments
abbrev pub slots_of : Facts → Ty → List Ty → ℕ → List (SlotOf Ty)
slots_of w own args n = map (slot_of own (exact_chain w args n)) (entries_of w n)

-- what stands in the slot that is chosen
abbrev pub chosen : {K : Type 0} → List (SlotOf K) → Option ℕ → Option (SlotOf K)
chosen slots choice = option_and_then (slice_get slots) choice

-- ---- types

-- An interface keeps its place also where another becomes equal to it by the arguments that are put in.
abbrev pub inst_table : Facts → Ty → DefId → List Ty → Def → TypeRecord Ty
inst_table w t id args d =
    let answered = answers longest_chain w id.0 in
    let interfaces = map (λ (a : Answered). subst_ty args [] a.interface) answered in
    let fields = fields_of w args (offsets_of (layout_of w t)) (own_fields w d) in
    let slots = slots_of w t args id.0 in record {
      shape = shape_of (form_of w id d) (size_of (layout_of w t)) args interfaces fields slots;
      parent = option_map (subst_ty args []) d.parent;
      canon = canon_ty w t;
      element = None;
      args = args;
      interfaces = interfaces;
      fields = fields;
      slots = slots;
      interface_slots = map (λ (a : Answered). map (chosen slots) a.choices) answered;
    }

-- a type without arguments, interfaces and own fields
abbrev pub plain_table : Form → ℕ → Option Ty → Ty → Option Ty → List (SlotOf Ty) → TypeRecord Ty
plain_table form size parent canonical element slots = record {
  shape = shape_of {K = Ty} form size [] [] [] slots;
  parent = parent;
  canon = canonical;
  element = element;
  args = [];
  interfaces = [];
  fields = [];
  slots = slots;
  interface_slots = [];
}

-- A definition whose chain of parents is too long is loaded nowhere, and nothing is told of it.
abbrev pub told_def : Facts → ℕ → Option Def
told_def w n = cond (chain_within longest_chain w n) (slice_get w.defs n) None

-- the slots of System.Array
abbrev pub array_slots : Facts → List (SlotOf Ty)
array_slots w = option_map_or (λ (d : Def). slots_of w system_array [] 19) (told_def w 19) []

abbrev pub array_table : Facts → Ty → Ty → TypeRecord Ty
array_table w t part = plain_table Array 16 (Some system_array) (canon_ty w t) (Some part) (array_slots w)

-- of whatever is loaded nowhere
abbrev pub bare_table : Facts → Ty → TypeRecord Ty
bare_table w t = plain_table Class 0 None (canon_ty w t) None []

abbrev pub table_at : Facts → Ty → Ty-F Ty → TypeRecord Ty
table_at w t (Ty-F.Inst id args) = option_map_or (inst_table w t id args) (told_def w id.0) (bare_table w t)
table_at w t (Ty-F.Array part) = array_table w t part
table_at w t _ = bare_table w t

abbrev pub type_table : Facts → Ty → TypeRecord Ty
type_table w t = table_at w t (out-Ty t)

-- ---- types and methods

-- A method has its owner in the parent's place, its arguments and its canonical form, and nothing else.
abbrev pub method_record : Ty → List Ty → Key → TypeRecord Key
method_record owner args canonical = record {
  shape = record { form = Method; args = length args; interfaces = 0; fields = 0; slots = 0; size = 0 };
  parent = Some (Tree owner);
  canon = canonical;
  element = None;
  args = map Tree args;
  interfaces = [];
  fields = [];
  slots = [];
  interface_slots = [];
}

abbrev pub mt : Facts → Key → TypeRecord Key
mt w (Tree t) = record_in Tree (type_table w t)
mt w (Meth k) = method_record k.owner k.args (canon w (Meth k))
