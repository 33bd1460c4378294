-- Where the words of a record stand, and what stretches of them tell.
use Rattle.std.specs.Prelude.{◌≡◌, ℕ, ◌+◌, ◌-◌, ◌*◌, ◌/◌, ◌<◌, ◌≤◌, List, map, length, slice_index, take, Option, None, Some, IfSome}
use Rattle.std.specs.List.{flat_map, All}
use Rattle.clr_base.specs.declared.ids.Handle.{Handle}
use Rattle.type_record.specs.declared.entry.Entry.{Entry}
use Rattle.type_record.specs.declared.shape.Shape.{Shape}
use Rattle.type_record.specs.declared.loaded.SlotOf.{SlotOf}
use Rattle.type_record.specs.declared.loaded.TypeRecord.{TypeRecord}
use Rattle.type_record.specs.declared.interfaces.FirstInterface.{FirstInterface}
use Rattle.type_record.specs.declared.front.Front.{Front}
use Rattle.type_record.specs.Words.{word_of, IsHandle}
use Rattle.type_record.specs.Room.{ChoiceFits}
use Rattle.type_record.specs.Records.{entry, choice_entry, interface_entries, form_number, front_entries, words_of, IsRecord, HasNumbers}

-- the first word of each stretch
abbrev pub interfaces_at : Shape → ℕ
interfaces_at s = 8 + s.args

abbrev pub fields_at : Shape → ℕ
fields_at s = interfaces_at s + s.interfaces

abbrev pub slots_at : Shape → ℕ
slots_at s = fields_at s + s.fields

abbrev pub interface_slots_at : Shape → ℕ
interface_slots_at s = slots_at s + s.slots

-- the words are those of the items, one each
abbrev pub AreWords : {X : Type 0} → (X → Type 0) → (X → Entry Handle) → List ℕ → List X → Type 0
AreWords fits told words xs = All fits xs × (map (λ x. word_of (told x)) xs ≡ words)

-- the words, and those of their methods, are those of the interfaces behind some that have so many methods
pub record AreInterfaces (before : ℕ) (words methods : List ℕ) (interfaces : List Handle) (lists : List (List (Option (SlotOf Handle)))) : Type 0 where
  pub one_list_each : length lists ≡ length interfaces
  pub handles : All IsHandle interfaces
  pub fits : All (All ChoiceFits) lists
  pub words_are : map word_of (interface_entries before interfaces lists) ≡ words
  pub methods_are : map word_of (flat_map (map choice_entry) lists) ≡ methods

-- the number in a word
abbrev pub number_in : ℕ → ℕ
number_in word = (word - 1) / 524288

-- The first of the interfaces that are left: its methods end where those of the next one begin, the last one's at the end.
pub record IsFirst (before : ℕ) (words methods : List ℕ) (first : FirstInterface) : Type 0 where
  pub handle : IsHandle first.interface
  pub fits : All ChoiceFits first.slots
  pub word_is : slice_index words 0 ≡ word_of (entry before (Some first.interface))
  pub within : length first.slots ≤ length methods
  pub last : length words ≡ 1 → length first.slots ≡ length methods
  pub next : 1 < length words → before + length first.slots ≡ number_in (slice_index words 1)
  pub methods_are : map (λ c. word_of (choice_entry c)) first.slots ≡ take (length first.slots) methods

-- the first eight words, by what they tell
pub record IsFront (words : List ℕ) (front : Front) : Type 0 where
  pub long : 8 ≤ length words
  pub args : front.shape.args ≤ 65536
  pub interfaces : front.shape.interfaces < 16777216
  pub fields : front.shape.fields < 16777216
  pub slots : front.shape.slots < 16777216
  pub size : front.shape.size ≤ 1048576
  pub canon_handle : IsHandle front.canon
  pub parent_handle : IfSome front.parent IsHandle
  pub element_handle : IfSome front.element IsHandle
  pub words_are : map word_of (front_entries front.shape front.canon front.parent front.element) ≡ take 8 words

-- four entries in front tell this
pub record IsFrontOf (first second third fourth : Entry Handle) (front : Front) : Type 0 where
  pub args : front.shape.args ≤ 65536
  pub interfaces : front.shape.interfaces < 16777216
  pub fields : front.shape.fields < 16777216
  pub slots : front.shape.slots < 16777216
  pub size : front.shape.size ≤ 1048576
  pub first_is : entry (form_number front.shape.form + 8 * front.shape.size) (Some front.canon) ≡ first
  pub second_is : entry (front.shape.args + 131072 * front.shape.slots) front.parent ≡ second
  pub third_is : entry front.shape.interfaces front.element ≡ third
  pub fourth_is : entry front.shape.fields None ≡ fourth

-- the words are a record's
pub record IsRead (words : List ℕ) (r : TypeRecord Handle) : Type 0 where
  pub is_record : IsRecord r
  pub has_numbers : HasNumbers r
  pub words_are : words_of r ≡ words

-- so many methods has the first of the interfaces that are left
pub record IsOwnCount (before : ℕ) (words : List ℕ) (methods n : ℕ) : Type 0 where
  pub within : n ≤ methods
  pub last : length words ≡ 1 → n ≡ methods
  pub next : 1 < length words → before + n ≡ number_in (slice_index words 1)
