-- Records as entries, and as words.
use Rattle.std.specs.Prelude.{◌≡◌, ℕ, ◌+◌, ◌*◌, ◌<◌, ◌≤◌, List, [], ◌∷◌, ◌++◌, map, length, sum, Option, None, Some, IfSome}
use Rattle.std.specs.List.{flat_map, All}
use Rattle.clr_base.specs.declared.ids.Handle.{Handle}
use Rattle.type_record.specs.declared.entry.Entry.{Entry}
use Rattle.type_record.specs.declared.shape.Form.{Form}
use Rattle.type_record.specs.declared.shape.Form.TheVariants.{Class, Struct, Interface, Array, Method}
use Rattle.type_record.specs.declared.shape.Shape.{Shape}
use Rattle.type_record.specs.declared.loaded.FieldOf.{FieldOf}
use Rattle.type_record.specs.declared.loaded.SlotOf.{SlotOf}
use Rattle.type_record.specs.declared.loaded.TypeRecord.{TypeRecord}
use Rattle.type_record.specs.Words.{word_of, IsHandle}

abbrev pub form_number : Form → ℕ
form_number Class = 0
form_number Struct = 1
form_number Interface = 2
form_number Array = 3
form_number Method = 4

-- 0 for none, else the number plus 1
abbrev pub above_none : Option ℕ → ℕ
above_none None = 0
above_none (Some n) = n + 1

abbrev pub entry : {K : Type 0} → ℕ → Option K → Entry K
entry number key = record { number = number; key = key }

abbrev pub arg_entry : {K : Type 0} → K → Entry K
arg_entry k = entry 0 (Some k)

abbrev pub field_entry : {K : Type 0} → FieldOf K → Entry K
field_entry f = entry (above_none f.offset) f.value

abbrev pub slot_entry : {K : Type 0} → SlotOf K → Entry K
slot_entry s = entry s.method.0 (Some s.owner)

-- a method of an interface, by what was chosen for it
abbrev pub choice_entry : {K : Type 0} → Option (SlotOf K) → Entry K
choice_entry None = entry 0 None
choice_entry (Some s) = entry (s.method.0 + 1) (Some s.owner)

abbrev pub method_count : {X : Type 0} → List (List X) → ℕ
method_count lists = sum (map length lists)

-- one per interface: how many methods the interfaces before it have
abbrev pub interface_entries : {K : Type 0} → ℕ → List K → List (List (Option (SlotOf K))) → List (Entry K)
interface_entries before [] lists = []
interface_entries before (i ∷ is) [] = entry before (Some i) ∷ interface_entries before is []
interface_entries before (i ∷ is) (list ∷ lists) = entry before (Some i) ∷ interface_entries (before + length list) is lists

-- the eight words in front: form and size, the counts, and the four level words
abbrev pub front_entries : {K : Type 0} → Shape → K → Option K → Option K → List (Entry K)
front_entries s canon parent element =
    entry (form_number s.form + 8 * s.size) (Some canon)
    ∷ entry (s.args + 131072 * s.slots) parent
    ∷ entry s.interfaces element
    ∷ entry s.fields None
    ∷ entry 1 None ∷ entry 2 None ∷ entry 3 None ∷ entry 4 None ∷ []

unfoldable pub entries : {K : Type 0} → TypeRecord K → List (Entry K)
entries r =
    front_entries r.shape r.canon r.parent r.element
    ++ map arg_entry r.args
    ++ interface_entries 0 r.interfaces r.interface_slots
    ++ map field_entry r.fields
    ++ map slot_entry r.slots
    ++ flat_map (map choice_entry) r.interface_slots

-- the words of a record
abbrev pub words_of : TypeRecord Handle → List ℕ
words_of r = map word_of (entries r)

-- how many words that are
abbrev pub word_count : {K : Type 0} → TypeRecord K → ℕ
word_count r = 8 + length r.args + length r.interfaces + length r.fields + length r.slots + method_count r.interface_slots

-- the counts of the shape are those of the lists
pub record IsCounted {K : Type 0} (r : TypeRecord K) : Type 0 where
  pub args : r.shape.args ≡ length r.args
  pub interfaces : r.shape.interfaces ≡ length r.interfaces
  pub fields : r.shape.fields ≡ length r.fields
  pub slots : r.shape.slots ≡ length r.slots
  pub lists : length r.interface_slots ≡ length r.interfaces

-- each count, and the size, has room in its word
pub record IsSmall {K : Type 0} (r : TypeRecord K) : Type 0 where
  pub args : length r.args ≤ 65536
  pub interfaces : length r.interfaces < 16777216
  pub fields : length r.fields < 16777216
  pub slots : length r.slots < 16777216
  pub methods : method_count r.interface_slots < 1099511627776
  pub size : r.shape.size ≤ 1048576

abbrev pub FieldHasHandle : FieldOf Handle → Type 0
FieldHasHandle f = IfSome f.value IsHandle

abbrev pub SlotHasHandle : SlotOf Handle → Type 0
SlotHasHandle s = IsHandle s.owner

abbrev pub ChoiceHasHandle : Option (SlotOf Handle) → Type 0
ChoiceHasHandle choice = IfSome choice SlotHasHandle

-- each handle is below 262,144
pub record HasHandles (r : TypeRecord Handle) : Type 0 where
  pub canon : IsHandle r.canon
  pub parent : IfSome r.parent IsHandle
  pub element : IfSome r.element IsHandle
  pub args : All IsHandle r.args
  pub interfaces : All IsHandle r.interfaces
  pub fields : All FieldHasHandle r.fields
  pub slots : All SlotHasHandle r.slots
  pub interface_slots : All (All ChoiceHasHandle) r.interface_slots

pub record IsRecord (r : TypeRecord Handle) : Type 0 where
  pub counted : IsCounted r
  pub small : IsSmall r
  pub handles : HasHandles r

-- offsets and methods are numbers of 32 bits, as those of each value of the type are
abbrev pub Is32 : ℕ → Type 0
Is32 n = n < 4294967296

abbrev pub FieldHasNumber : {K : Type 0} → FieldOf K → Type 0
FieldHasNumber f = IfSome f.offset Is32

abbrev pub SlotHasNumber : {K : Type 0} → SlotOf K → Type 0
SlotHasNumber s = Is32 s.method.0

abbrev pub ChoiceHasNumber : {K : Type 0} → Option (SlotOf K) → Type 0
ChoiceHasNumber choice = IfSome choice SlotHasNumber

pub record HasNumbers {K : Type 0} (r : TypeRecord K) : Type 0 where
  pub fields : All FieldHasNumber r.fields
  pub slots : All SlotHasNumber r.slots
  pub interface_slots : All (All ChoiceHasNumber) r.interface_slots
