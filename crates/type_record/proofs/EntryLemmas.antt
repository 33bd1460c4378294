-- The entries of a record have room in their words.
use Rattle.std.proofs.Common.{◌≡◌, ℕ, zero, suc, ◌+◌, ◌<◌, List, [], ◌∷◌, ◌++◌, map, length, Option, Some, refl, arith}
use Rattle.std.specs.Prelude.{slice_get}
use Rattle.std.specs.List.{flat_map, All}
use Rattle.std.proofs.lemmas.List.{length-append, length-map}
use Rattle.std.proofs.lemmas.List.Sums.{sum_by-cons}
use Rattle.std.proofs.lemmas.List.Elements.{All-from_recursion, All-nil, All-cons, All-head, All-tail, All-append, All-map, All-weaker}
use Rattle.clr_base.specs.declared.ids.Handle.{Handle}
use Rattle.type_record.specs.declared.entry.Entry.{Entry}
use Rattle.type_record.specs.declared.shape.Form.{Form}
use Rattle.type_record.specs.declared.shape.Form.TheVariants.{Class, Struct, Interface, Array, Method}
use Rattle.type_record.specs.declared.loaded.SlotOf.{SlotOf}
use Rattle.type_record.specs.declared.loaded.TypeRecord.{TypeRecord}
use Rattle.type_record.specs.Words.{word_of, FitsWord, IsHandle}
use Rattle.type_record.specs.Records.{entry, word_count, form_number, arg_entry, field_entry, slot_entry, choice_entry, interface_entries, front_entries, entries, method_count, IsRecord, HasNumbers, FieldHasNumber, SlotHasNumber, ChoiceHasNumber, FieldHasHandle, SlotHasHandle, ChoiceHasHandle}
use Rattle.type_record.specs.Room.{FieldFits, SlotFits, ChoiceFits, arg_room, field_room, slot_room, choice_room}

-- both of two facts of each item
pub all_both : {X : Type 0} (P Q : X → Type 0) (xs : List X) → All P xs → All Q xs → All (λ x. P x × Q x) xs
all_both P Q xs one other k d within = (one k d within, other k d within)

pub all_lists : (lists : List (List (Option (SlotOf Handle)))) → All (All ChoiceHasNumber) lists → All (All ChoiceHasHandle) lists → All (All ChoiceFits) lists
all_lists lists one other k d within = all_both ChoiceHasNumber ChoiceHasHandle _ (one k d within) (other k d within)

pub methods_of : {X : Type 0} (list : List X) (lists : List (List X)) → method_count (list ∷ lists) ≡ length list + method_count lists
methods_of list lists = sum_by-cons (λ x. x) (length list) (map length lists)

pub form_below : (f : Form) → form_number f < 5
form_below Class = omega arith
form_below Struct = omega arith
form_below Interface = omega arith
form_below Array = omega arith
form_below Method = omega arith

interfaces_room : (before : ℕ) (is : List Handle) (lists : List (List (Option (SlotOf Handle)))) → before + method_count lists < 1099511627776 → All IsHandle is → All FitsWord (interface_entries before is lists)
interfaces_room before [] lists small fits = All-nil FitsWord
interfaces_room before (i ∷ is) [] small fits =
    All-cons FitsWord (entry before (Some i)) (interface_entries before is []) (omega arith, All-head IsHandle i is fits) (interfaces_room before is [] small (All-tail IsHandle i is fits))
interfaces_room before (i ∷ is) (list ∷ lists) small fits =
    let more = methods_of list lists in
    All-cons FitsWord (entry before (Some i)) (interface_entries (before + length list) is lists) (omega arith, All-head IsHandle i is fits)
    (interfaces_room (before + length list) is lists (omega arith) (All-tail IsHandle i is fits))

lists_room : (lists : List (List (Option (SlotOf Handle)))) → All (All ChoiceFits) lists → All FitsWord (flat_map (map choice_entry) lists)
lists_room [] fits = All-nil FitsWord
lists_room (list ∷ lists) fits =
    All-append FitsWord (map choice_entry list) (flat_map (map choice_entry) lists)
    (All-map FitsWord choice_entry list (All-weaker ChoiceFits (λ c. FitsWord (choice_entry c)) choice_room list (All-head (All ChoiceFits) list lists fits)))
    (lists_room lists (All-tail (All ChoiceFits) list lists fits))

front_room : (r : TypeRecord Handle) → IsRecord r → All FitsWord (front_entries r.shape r.canon r.parent r.element)
front_room r is =
    let form = form_below r.shape.form in
    let counted = is.counted in
    let small = is.small in
    All-from_recursion FitsWord (front_entries r.shape r.canon r.parent r.element) (
      (omega arith, is.handles.canon),
      (
        (omega arith, is.handles.parent),
        (
          (omega arith, is.handles.element),
          (
            (omega arith, tt),
            ((omega arith, tt), ((omega arith, tt), ((omega arith, tt), ((omega arith, tt), tt)))),
          ),
        ),
      ),
    )

all_six : {X : Type 0} (P : X → Type 0) (xs bs cs ds es fs : List X) → All P xs → All P bs → All P cs → All P ds → All P es → All P fs → All P (xs ++ bs ++ cs ++ ds ++ es ++ fs)
all_six P xs bs cs ds es fs a b c d e f =
    All-append P (xs ++ bs ++ cs ++ ds ++ es) fs (All-append P (xs ++ bs ++ cs ++ ds) es (All-append P (xs ++ bs ++ cs) ds (All-append P (xs ++ bs) cs (All-append P xs bs a b) c) d) e) f

pub entries_room : (r : TypeRecord Handle) → IsRecord r → HasNumbers r → All FitsWord (entries r)
unfolding entries
entries_room r is numbers =
    all_six FitsWord (front_entries r.shape r.canon r.parent r.element) (map arg_entry r.args) (interface_entries 0 r.interfaces r.interface_slots)
    (map field_entry r.fields) (map slot_entry r.slots) (flat_map (map choice_entry) r.interface_slots)
    (front_room r is)
    (All-map FitsWord arg_entry r.args (All-weaker IsHandle (λ k. FitsWord (arg_entry k)) arg_room r.args is.handles.args))
    (interfaces_room 0 r.interfaces r.interface_slots (omega (arith, is.small.methods)) is.handles.interfaces)
    (All-map FitsWord field_entry r.fields (All-weaker FieldFits (λ f. FitsWord (field_entry f)) field_room r.fields (all_both FieldHasNumber FieldHasHandle r.fields numbers.fields is.handles.fields)))
    (All-map FitsWord slot_entry r.slots (All-weaker SlotFits (λ s. FitsWord (slot_entry s)) slot_room r.slots (all_both SlotHasNumber SlotHasHandle r.slots numbers.slots is.handles.slots)))
    (lists_room r.interface_slots (all_lists r.interface_slots numbers.interface_slots is.handles.interface_slots))

-- how many entries there are
pub interfaces_length : {K : Type 0} (before : ℕ) (is : List K) (lists : List (List (Option (SlotOf K)))) → length (interface_entries before is lists) ≡ length is
interfaces_length before [] lists = refl
interfaces_length before (i ∷ is) [] = let rest = interfaces_length before is [] in omega arith
interfaces_length before (i ∷ is) (list ∷ lists) = let rest = interfaces_length (before + length list) is lists in omega arith

pub lists_length : {K : Type 0} (lists : List (List (Option (SlotOf K)))) → length (flat_map (map choice_entry) lists) ≡ method_count lists
lists_length [] = refl
lists_length (list ∷ lists) =
    let here : length (map choice_entry list ++ flat_map (map choice_entry) lists) ≡ length (map choice_entry list) + length (flat_map (map choice_entry) lists) = length-append (map choice_entry list) (flat_map (map choice_entry) lists) in
    let one = length-map list choice_entry in
    let more = methods_of list lists in
    let same : length (flat_map (map choice_entry) (list ∷ lists)) ≡ length (map choice_entry list ++ flat_map (map choice_entry) lists) = refl in
    let rest = lists_length lists in
    omega arith

pub entries_length : {K : Type 0} (r : TypeRecord K) → length (entries r) ≡ word_count r
unfolding entries
entries_length r = simp (length-append, length-map) (omega (arith, interfaces_length 0 r.interfaces r.interface_slots, lists_length r.interface_slots))

-- none of the words of entries is 0
pub none_zero : (es : List (Entry Handle)) (i w : ℕ) → slice_get (map word_of es) i ≡ Some w → 0 < w
none_zero [] i w is = absurd cc
none_zero (e ∷ es) zero w is = let same : word_of e ≡ w = cc in omega arith
none_zero (e ∷ es) (suc i) w is = none_zero es i w is
