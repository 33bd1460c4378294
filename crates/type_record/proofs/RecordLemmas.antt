-- A record by the stretches of its words.
use Rattle.std.proofs.Common.{◌≡◌, ℕ, ◌+◌, ◌-◌, ◌<◌, ◌≤◌, List, ◌++◌, map, length, take, drop, Option, refl, sym, ap, ◌∙◌, subst, arith}
use Rattle.std.specs.List.{flat_map}
use Rattle.std.proofs.lemmas.List.{length-map, length-append, length-take-le, length-drop, map-append, append_assoc, take_at, drop_at, take-append-drop, drop-drop}
use Rattle.std.proofs.lemmas.Simd.{map-map}
use Rattle.clr_base.specs.declared.ids.Handle.{Handle}
use Rattle.type_record.specs.declared.entry.Entry.{Entry}
use Rattle.type_record.specs.declared.shape.Shape.{Shape}
use Rattle.type_record.specs.declared.loaded.FieldOf.{FieldOf}
use Rattle.type_record.specs.declared.loaded.SlotOf.{SlotOf}
use Rattle.type_record.specs.declared.front.Front.{Front}
use Rattle.type_record.specs.declared.loaded.TypeRecord.{TypeRecord}
use Rattle.type_record.specs.Words.{word_of, IsHandle}
use Rattle.type_record.specs.Room.{FieldFits, SlotFits}
use Rattle.type_record.specs.Records.{arg_entry, field_entry, slot_entry, choice_entry, interface_entries, front_entries, entries, words_of, method_count, FieldHasNumber, SlotHasNumber, FieldHasHandle, SlotHasHandle}
use Rattle.type_record.specs.Sections.{interfaces_at, fields_at, slots_at, interface_slots_at, AreWords, AreInterfaces, IsFront, IsRead}
use Rattle.type_record.proofs.EntryLemmas.{all_both, all_lists, interfaces_length, lists_length}

abbrev pub front_part : TypeRecord Handle → Front
front_part r = record { shape = r.shape; canon = r.canon; parent = r.parent; element = r.element }

-- the stretches that counts tell are those of the record
pub record AreAt (words : List ℕ) (s : Shape) (r : TypeRecord Handle) : Type 0 where
  pub long : interface_slots_at s ≤ length words
  pub few : length words - interface_slots_at s < 1099511627776
  pub args : AreWords IsHandle arg_entry (take s.args (drop 8 words)) r.args
  pub interfaces : AreInterfaces 0 (take s.interfaces (drop (interfaces_at s) words)) (drop (interface_slots_at s) words) r.interfaces r.interface_slots
  pub fields : AreWords FieldFits field_entry (take s.fields (drop (fields_at s) words)) r.fields
  pub slots : AreWords SlotFits slot_entry (take s.slots (drop (slots_at s) words)) r.slots

pub record AreSections (words : List ℕ) (r : TypeRecord Handle) : Type 0 where
  pub front : IsFront words (front_part r)
  pub at : AreAt words r.shape r

-- a stretch behind others
piece : (xs ys zs words : List ℕ) (n m : ℕ) → length xs ≡ n → length ys ≡ m → xs ++ ys ++ zs ≡ words → ys ≡ take m (drop n words)
piece xs ys zs words n m front own is =
    sym (take_at ys zs m own) ∙ ap (take m) (sym (drop_at xs (ys ++ zs) n front) ∙ ap (drop n) (sym (append_assoc xs ys zs) ∙ is))

tail : (xs ys words : List ℕ) (n : ℕ) → length xs ≡ n → xs ++ ys ≡ words → ys ≡ drop n words
tail xs ys words n front is = sym (drop_at xs ys n front) ∙ ap (drop n) is

-- a stretch and what is behind it
cut : (words : List ℕ) (n m : ℕ) → take m (drop n words) ++ drop (n + m) words ≡ drop n words
cut words n m = ap (λ xs. take m (drop n words) ++ xs) (sym (drop-drop m n words)) ∙ take-append-drop m (drop n words)

rejoined : (words : List ℕ) (a b c d e : ℕ)
    → take a words ++ take b (drop a words) ++ take c (drop (a + b) words) ++ take d (drop (a + b + c) words) ++ take e (drop (a + b + c + d) words) ++ drop (a + b + c + d + e) words ≡ words
rejoined words a b c d e =
    ap (λ xs. xs) (append_assoc (take a words ++ take b (drop a words) ++ take c (drop (a + b) words) ++ take d (drop (a + b + c) words)) (take e (drop (a + b + c + d) words)) (drop (a + b + c + d + e) words))
    ∙ ap (λ xs. take a words ++ take b (drop a words) ++ take c (drop (a + b) words) ++ take d (drop (a + b + c) words) ++ xs) (cut words (a + b + c + d) e)
    ∙ append_assoc (take a words ++ take b (drop a words) ++ take c (drop (a + b) words)) (take d (drop (a + b + c) words)) (drop (a + b + c + d) words)
    ∙ ap (λ xs. take a words ++ take b (drop a words) ++ take c (drop (a + b) words) ++ xs) (cut words (a + b + c) d)
    ∙ append_assoc (take a words ++ take b (drop a words)) (take c (drop (a + b) words)) (drop (a + b + c) words)
    ∙ ap (λ xs. take a words ++ take b (drop a words) ++ xs) (cut words (a + b) c)
    ∙ append_assoc (take a words) (take b (drop a words)) (drop (a + b) words)
    ∙ ap (λ xs. take a words ++ xs) (cut words a b)
    ∙ take-append-drop a words

same_six : {a b c d e f g h i j k l : List ℕ} → a ≡ g → b ≡ h → c ≡ i → d ≡ j → e ≡ k → f ≡ l → a ++ b ++ c ++ d ++ e ++ f ≡ g ++ h ++ i ++ j ++ k ++ l
same_six one two three four five six = cc

map_six : {X Y : Type 0} (w : X → Y) (a b c d e f : List X) → map w (a ++ b ++ c ++ d ++ e ++ f) ≡ map w a ++ map w b ++ map w c ++ map w d ++ map w e ++ map w f
map_six w a b c d e f =
    map-append w (a ++ b ++ c ++ d ++ e) f ∙ ap (λ xs. xs ++ map w f) (
    map-append w (a ++ b ++ c ++ d) e ∙ ap (λ xs. xs ++ map w e) (
    map-append w (a ++ b ++ c) d ∙ ap (λ xs. xs ++ map w d) (
    map-append w (a ++ b) c ∙ ap (λ xs. xs ++ map w c) (map-append w a b))))

-- the words of a record, stretch by stretch
six_words : (r : TypeRecord Handle) → words_of r
    ≡ map word_of (front_entries r.shape r.canon r.parent r.element) ++ map word_of (map arg_entry r.args) ++ map word_of (interface_entries 0 r.interfaces r.interface_slots)
    ++ map word_of (map field_entry r.fields) ++ map word_of (map slot_entry r.slots) ++ map word_of (flat_map (map choice_entry) r.interface_slots)
unfolding entries
six_words r = map_six word_of (front_entries r.shape r.canon r.parent r.element) (map arg_entry r.args) (interface_entries 0 r.interfaces r.interface_slots) (map field_entry r.fields)
    (map slot_entry r.slots) (flat_map (map choice_entry) r.interface_slots)

six_lengths : {X : Type 0} (told : X → Entry Handle) (xs : List X) → length (map word_of (map told xs)) ≡ length xs
six_lengths told xs = length-map (map told xs) word_of ∙ length-map xs told

interface_words_length : (r : TypeRecord Handle) → length (map word_of (interface_entries 0 r.interfaces r.interface_slots)) ≡ length r.interfaces
interface_words_length r = length-map (interface_entries 0 r.interfaces r.interface_slots) word_of ∙ interfaces_length 0 r.interfaces r.interface_slots

method_words_length : (r : TypeRecord Handle) → length (map word_of (flat_map (map choice_entry) r.interface_slots)) ≡ method_count r.interface_slots
method_words_length r = length-map (flat_map (map choice_entry) r.interface_slots) word_of ∙ lists_length r.interface_slots

module _ (a b c d e f words : List ℕ) (is : a ++ b ++ c ++ d ++ e ++ f ≡ words) where
  one_first : a ++ b ++ (c ++ (d ++ (e ++ f))) ≡ words
  one_first = let same : a ++ b ++ (c ++ (d ++ (e ++ f))) ≡ a ++ b ++ c ++ d ++ e ++ f = simp append_assoc in same ∙ is

  two_first : (a ++ b) ++ c ++ (d ++ (e ++ f)) ≡ words
  two_first = let same : (a ++ b) ++ c ++ (d ++ (e ++ f)) ≡ a ++ b ++ c ++ d ++ e ++ f = simp append_assoc in same ∙ is

  three_first : (a ++ b ++ c) ++ d ++ (e ++ f) ≡ words
  three_first = let same : (a ++ b ++ c) ++ d ++ (e ++ f) ≡ a ++ b ++ c ++ d ++ e ++ f = simp append_assoc in same ∙ is

  none_first : a ++ (b ++ (c ++ (d ++ (e ++ f)))) ≡ words
  none_first = let same : a ++ (b ++ (c ++ (d ++ (e ++ f)))) ≡ a ++ b ++ c ++ d ++ e ++ f = simp append_assoc in same ∙ is

pub sections : (words : List ℕ) (r : TypeRecord Handle) → IsRead words r → AreSections words r
sections words r read =
    let is = read.is_record in
    let counted = is.counted in
    let small = is.small in
    let handles = is.handles in
    let numbers = read.has_numbers in
    let a = map word_of (front_entries r.shape r.canon r.parent r.element) in
    let b = map word_of (map arg_entry r.args) in
    let c = map word_of (interface_entries 0 r.interfaces r.interface_slots) in
    let d = map word_of (map field_entry r.fields) in
    let e = map word_of (map slot_entry r.slots) in
    let f = map word_of (flat_map (map choice_entry) r.interface_slots) in
    let whole : map word_of (front_entries r.shape r.canon r.parent r.element) ++ map word_of (map arg_entry r.args) ++ map word_of (interface_entries 0 r.interfaces r.interface_slots)
    ++ map word_of (map field_entry r.fields) ++ map word_of (map slot_entry r.slots) ++ map word_of (flat_map (map choice_entry) r.interface_slots) ≡ words =
    sym (six_words r) ∙ read.words_are in
    let la : length (map word_of (front_entries r.shape r.canon r.parent r.element)) ≡ 8 = refl in
    let lb : length (map word_of (map arg_entry r.args)) ≡ r.shape.args = six_lengths arg_entry r.args ∙ sym counted.args in
    let lc : length (map word_of (interface_entries 0 r.interfaces r.interface_slots)) ≡ r.shape.interfaces = interface_words_length r ∙ sym counted.interfaces in
    let ld : length (map word_of (map field_entry r.fields)) ≡ r.shape.fields = six_lengths field_entry r.fields ∙ sym counted.fields in
    let le : length (map word_of (map slot_entry r.slots)) ≡ r.shape.slots = six_lengths slot_entry r.slots ∙ sym counted.slots in
    let lf = method_words_length r in
    let lab : length (a ++ b) ≡ interfaces_at r.shape = length-append a b ∙ omega arith in
    let labc : length (a ++ b ++ c) ≡ fields_at r.shape = length-append (a ++ b) c ∙ omega arith in
    let labcd : length (a ++ b ++ c ++ d) ≡ slots_at r.shape = length-append (a ++ b ++ c) d ∙ omega arith in
    let labcde : length (a ++ b ++ c ++ d ++ e) ≡ interface_slots_at r.shape = length-append (a ++ b ++ c ++ d) e ∙ omega arith in
    let total : length (a ++ b ++ c ++ d ++ e ++ f) ≡ interface_slots_at r.shape + method_count r.interface_slots = length-append (a ++ b ++ c ++ d ++ e) f ∙ omega arith in
    let all : length words ≡ interface_slots_at r.shape + method_count r.interface_slots = sym (ap length whole) ∙ total in
    record {
      front = record {
        long = omega arith;
        args = omega arith;
        interfaces = omega arith;
        fields = omega arith;
        slots = omega arith;
        size = small.size;
        canon_handle = handles.canon;
        parent_handle = handles.parent;
        element_handle = handles.element;
        words_are = sym (take_at a (b ++ (c ++ (d ++ (e ++ f)))) 8 la) ∙ ap (take 8) (none_first a b c d e f words whole);
      };
      at = record {
        long = omega arith;
        few = let m = small.methods in omega arith;
        args = (handles.args, sym (map-map word_of arg_entry r.args) ∙ piece a b (c ++ (d ++ (e ++ f))) words 8 r.shape.args la lb (one_first a b c d e f words whole));
        interfaces = record {
          one_list_each = counted.lists;
          handles = handles.interfaces;
          fits = all_lists r.interface_slots numbers.interface_slots handles.interface_slots;
          words_are = piece (a ++ b) c (d ++ (e ++ f)) words (interfaces_at r.shape) r.shape.interfaces lab lc (two_first a b c d e f words whole);
          methods_are = tail (a ++ b ++ c ++ d ++ e) f words (interface_slots_at r.shape) labcde whole;
        };
        fields = (
          all_both FieldHasNumber FieldHasHandle r.fields numbers.fields handles.fields,
          sym (map-map word_of field_entry r.fields) ∙ piece (a ++ b ++ c) d (e ++ f) words (fields_at r.shape) r.shape.fields labc ld (three_first a b c d e f words whole),
        );
        slots = (
          all_both SlotHasNumber SlotHasHandle r.slots numbers.slots handles.slots,
          sym (map-map word_of slot_entry r.slots) ∙ piece (a ++ b ++ c ++ d) e f words (slots_at r.shape) r.shape.slots labcd le whole,
        );
      };
    }

-- how many items stand in a stretch that lies in the words
own_length : {X : Type 0} (told : X → Entry Handle) (fits : X → Type 0) (words : List ℕ) (n m : ℕ) (xs : List X) → n + m ≤ length words → AreWords fits told (take m (drop n words)) xs → m ≡ length xs
own_length told fits words n m xs within are =
    let behind = length-drop n words in
    sym (length-take-le m (drop n words) (omega arith)) ∙ sym (ap length are.1) ∙ length-map xs (λ x. word_of (told x))

pub read_of_sections : (words : List ℕ) (r : TypeRecord Handle) → AreSections words r → IsRead words r
read_of_sections words r both =
    let s = both.at in
    let long = s.long in
    let front = both.front in
    let s_args : 8 + r.shape.args ≤ length words = omega arith in
    let args = own_length arg_entry IsHandle words 8 r.shape.args r.args s_args s.args in
    let fields = own_length field_entry FieldFits words (fields_at r.shape) r.shape.fields r.fields (omega arith) s.fields in
    let slots = own_length slot_entry SlotFits words (slots_at r.shape) r.shape.slots r.slots (omega arith) s.slots in
    let behind = length-drop (interfaces_at r.shape) words in
    let interfaces : r.shape.interfaces ≡ length r.interfaces =
    sym (length-take-le r.shape.interfaces (drop (interfaces_at r.shape) words) (omega arith)) ∙ sym (ap length s.interfaces.words_are) ∙ interface_words_length r in
    let methods : method_count r.interface_slots ≡ length words - interface_slots_at r.shape =
    sym (method_words_length r) ∙ ap length s.interfaces.methods_are ∙ length-drop (interface_slots_at r.shape) words in
    let few = s.few in
    let front_args = front.args in
    let front_interfaces = front.interfaces in
    let front_fields = front.fields in
    let front_slots = front.slots in
    record {
      is_record = record {
        counted = record { args = args; interfaces = interfaces; fields = fields; slots = slots; lists = s.interfaces.one_list_each };
        small = record { args = omega arith; interfaces = omega arith; fields = omega arith; slots = omega arith; methods = omega arith; size = front.size };
        handles = record {
          canon = front.canon_handle;
          parent = front.parent_handle;
          element = front.element_handle;
          args = s.args.0;
          interfaces = s.interfaces.handles;
          fields = λ k x low. (s.fields.0 k x low).1;
          slots = λ k x low. (s.slots.0 k x low).1;
          interface_slots = λ k x low j y below. (s.interfaces.fits k x low j y below).1;
        };
      };
      has_numbers = record {
        fields = λ k x low. (s.fields.0 k x low).0;
        slots = λ k x low. (s.slots.0 k x low).0;
        interface_slots = λ k x low j y below. (s.interfaces.fits k x low j y below).0;
      };
      words_are =
          six_words r
          ∙ same_six front.words_are (map-map word_of arg_entry r.args ∙ s.args.1) s.interfaces.words_are (map-map word_of field_entry r.fields ∙ s.fields.1)
          (map-map word_of slot_entry r.slots ∙ s.slots.1) s.interfaces.methods_are
          ∙ rejoined words 8 r.shape.args r.shape.interfaces r.shape.fields r.shape.slots;
    }

-- the same stretches, by the counts that the front tells
pub at_front : (words : List ℕ) (front : Front) → ((x : Front) → IsFront words x → x ≡ front) → (r : TypeRecord Handle) → IsRead words r → AreAt words front.shape r
at_front words front one r read =
    let s = sections words r read in
    subst (λ (shape : Shape). AreAt words shape r) (ap (λ (x : Front). x.shape) (one (front_part r) s.front)) s.at

pub moved_words : {X : Type 0} (fits : X → Type 0) (told : X → Entry Handle) (ws vs : List ℕ) (xs : List X) → ws ≡ vs → AreWords fits told vs xs → AreWords fits told ws xs
moved_words fits told ws vs xs same are = (are.0, are.1 ∙ sym same)

pub moved_back : {X : Type 0} (fits : X → Type 0) (told : X → Entry Handle) (ws vs : List ℕ) (xs : List X) → ws ≡ vs → AreWords fits told ws xs → AreWords fits told vs xs
moved_back fits told ws vs xs same are = (are.0, are.1 ∙ same)

pub moved_interfaces : (ws vs ms ns : List ℕ) (is : List Handle) (ls : List (List (Option (SlotOf Handle)))) → ws ≡ vs → ms ≡ ns → AreInterfaces 0 ws ms is ls → AreInterfaces 0 vs ns is ls
moved_interfaces ws vs ms ns is ls one other are = record {
  one_list_each = are.one_list_each;
  handles = are.handles;
  fits = are.fits;
  words_are = are.words_are ∙ one;
  methods_are = are.methods_are ∙ other;
}

pub record_same : (x y : TypeRecord Handle) → front_part x ≡ front_part y → x.args ≡ y.args → x.interfaces ≡ y.interfaces → x.fields ≡ y.fields → x.slots ≡ y.slots
    → x.interface_slots ≡ y.interface_slots → x ≡ y
record_same x y front args interfaces fields slots lists =
    let made : Front → List Handle → List Handle → List (FieldOf Handle) → List (SlotOf Handle) → List (List (Option (SlotOf Handle))) → TypeRecord Handle =
    λ f a i d s l. record { shape = f.shape; parent = f.parent; canon = f.canon; element = f.element; args = a; interfaces = i; fields = d; slots = s; interface_slots = l } in
    ap (λ (f : Front). made f x.args x.interfaces x.fields x.slots x.interface_slots) front
    ∙ ap (λ a. made (front_part y) a x.interfaces x.fields x.slots x.interface_slots) args
    ∙ ap (λ i. made (front_part y) y.args i x.fields x.slots x.interface_slots) interfaces
    ∙ ap (λ d. made (front_part y) y.args y.interfaces d x.slots x.interface_slots) fields
    ∙ ap (λ s. made (front_part y) y.args y.interfaces y.fields s x.interface_slots) slots
    ∙ ap (λ l. made (front_part y) y.args y.interfaces y.fields y.slots l) lists
