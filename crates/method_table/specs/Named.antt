-- Keys by their numbers, over a pool.
use Rattle.std.specs.Prelude.{◌≡◌, ℕ, true, List, [], map, length, Option, None, Some, slice_get}
use Rattle.std.specs.Option.{option_map}
use Rattle.type_tree.specs.declared.tree.Key.{Key}
use Rattle.type_tree.specs.declared.tree.Key.TheVariants.{Tree}
use Rattle.type_tree.specs.declared.tree.Ty.{Ty}
use Rattle.type_pool.specs.declared.key_nodes.KeyId.{KeyId}
use Rattle.type_pool.specs.declared.key_nodes.KeyNode.{KeyNode}
use Rattle.type_pool.specs.Keys.{key_at, keys_below, NodesGrow}
use Rattle.type_pool.specs.Trees.{Grows}
use Rattle.type_record.specs.declared.loaded.FieldOf.{FieldOf}
use Rattle.type_record.specs.declared.loaded.SlotOf.{SlotOf}
use Rattle.type_record.specs.declared.loaded.TypeRecord.{TypeRecord}
use Rattle.type_record.specs.declared.shape.Form.{Form}
use Rattle.type_record.specs.declared.shape.Form.TheVariants.{Class}
use Rattle.type_record.specs.Naming.{field_in, slot_in, choice_in, record_in}
use Rattle.method_table.specs.declared.parts.Back.{Back}
use Rattle.method_table.specs.declared.parts.Front.{Front}
use Rattle.method_table.specs.Tables.{shape_of}

-- the key with a number
abbrev pub key_named : List Ty → List KeyNode → KeyId → Option Key
key_named ts ks n = option_map (key_at ts) (slice_get ks n.0)

-- Trees and keys keep their numbers, and each key is over the pool.
pub record KeysGrow (ts us : List Ty) (ks ls : List KeyNode) : Type 0 where
  pub trees : Grows ts us
  pub nodes : NodesGrow ks ls
  pub within : keys_below (length us) ls ≡ true

-- each number of the record has a key, which in the number's place makes this of it
abbrev pub Tells : List Ty → List KeyNode → TypeRecord KeyId → TypeRecord Key → Type 0
Tells ts ks r told = record_in (key_named ts ks) r ≡ record_in Some told

-- the same of a number, and of lists
abbrev pub NamesType : List Ty → List KeyNode → KeyId → Ty → Type 0
NamesType ts ks n t = key_named ts ks n ≡ Some (Tree t)

abbrev pub NamesTypes : List Ty → List KeyNode → List KeyId → List Ty → Type 0
NamesTypes ts ks ns us = map (key_named ts ks) ns ≡ map Some (map Tree us)

abbrev pub NamesOption : List Ty → List KeyNode → Option KeyId → Option Ty → Type 0
NamesOption ts ks n t = option_map (key_named ts ks) n ≡ option_map Some (option_map Tree t)

abbrev pub NamesField : List Ty → List KeyNode → FieldOf KeyId → FieldOf Ty → Type 0
NamesField ts ks f g = field_in (key_named ts ks) f ≡ field_in Some (field_in Tree g)

abbrev pub NamesFields : List Ty → List KeyNode → List (FieldOf KeyId) → List (FieldOf Ty) → Type 0
NamesFields ts ks fs gs = map (field_in (key_named ts ks)) fs ≡ map (field_in Some) (map (field_in Tree) gs)

abbrev pub NamesSlots : List Ty → List KeyNode → List (SlotOf KeyId) → List (SlotOf Ty) → Type 0
NamesSlots ts ks ss us = map (slot_in (key_named ts ks)) ss ≡ map (slot_in Some) (map (slot_in Tree) us)

abbrev pub NamesChoices : List Ty → List KeyNode → List (List (Option (SlotOf KeyId))) → List (List (Option (SlotOf Ty))) → Type 0
NamesChoices ts ks ls us = map (map (choice_in (key_named ts ks))) ls ≡ map (map (choice_in Some)) (map (map (choice_in Tree)) us)

-- the parts of the record of a type
pub record IsFront (ts : List Ty) (ks : List KeyNode) (f : Front) (up : Option Ty) (parts : List Ty) (own : List (FieldOf Ty)) : Type 0 where
  pub parent : NamesOption ts ks f.parent up
  pub args : NamesTypes ts ks f.args parts
  pub fields : NamesFields ts ks f.fields own

pub record IsBack (ts : List Ty) (ks : List KeyNode) (b : Back) (faces : List Ty) (entries : List (SlotOf Ty)) (choices : List (List (Option (SlotOf Ty)))) : Type 0 where
  pub interfaces : NamesTypes ts ks b.interfaces faces
  pub slots : NamesSlots ts ks b.slots entries
  pub interface_slots : NamesChoices ts ks b.interface_slots choices

-- the record of these parts
abbrev pub joined : Form → ℕ → KeyId → Option KeyId → Front → Back → TypeRecord KeyId
joined form size canonical element f b = record {
  shape = shape_of form size f.args b.interfaces f.fields b.slots;
  parent = f.parent;
  canon = canonical;
  element = element;
  args = f.args;
  interfaces = b.interfaces;
  fields = f.fields;
  slots = b.slots;
  interface_slots = b.interface_slots;
}

-- the record of whatever is loaded nowhere
abbrev pub bare : KeyId → TypeRecord KeyId
bare canonical =
    joined Class 0 canonical None (record { parent = None; args = []; fields = [] }) (record { interfaces = []; slots = []; interface_slots = [] })
