-- Where the parts of a record stand among its entries.
use Rattle.std.proofs.Common.{◌≡◌, ℕ, zero, suc, ◌+◌, List, [], ◌∷◌, ◌++◌, map, length, take, Option, Some, slice_get, refl, sym, ap, ◌∙◌, arith}
use Rattle.std.specs.Prelude.{option_map}
use Rattle.std.specs.List.{flat_map}
use Rattle.std.proofs.lemmas.List.{length-map, length-append}
use Rattle.std.proofs.lemmas.Option.{slice_get-map}
use Rattle.type_record.specs.declared.loaded.FieldOf.{FieldOf}
use Rattle.type_record.specs.declared.loaded.SlotOf.{SlotOf}
use Rattle.type_record.specs.declared.loaded.TypeRecord.{TypeRecord}
use Rattle.type_record.specs.Records.{entry, entries, front_entries, arg_entry, field_entry, slot_entry, choice_entry, interface_entries, method_count, IsCounted}
use Rattle.type_record.specs.Sections.{interfaces_at, fields_at, slots_at, interface_slots_at}
use Rattle.type_record.proofs.EntryLemmas.{methods_of, interfaces_length}

in_left : {X : Type 0} (xs ys : List X) (k : ℕ) (e : X) → slice_get xs k ≡ Some e → slice_get (xs ++ ys) k ≡ Some e
in_left [] ys k e is = absurd cc
in_left (x ∷ xs) ys zero e is = is
in_left (x ∷ xs) ys (suc k) e is = in_left xs ys k e is

in_right : {X : Type 0} (xs ys : List X) (k m : ℕ) → m ≡ length xs + k → slice_get (xs ++ ys) m ≡ slice_get ys k
in_right [] ys k m is = let same : m ≡ k = omega arith in ap (slice_get ys) same
in_right (x ∷ xs) ys k zero is = absurd (omega arith)
in_right (x ∷ xs) ys k (suc m) is = in_right xs ys k m (omega arith)

in_map : {X Y : Type 0} (f : X → Y) (xs : List X) (k : ℕ) (x : X) → slice_get xs k ≡ Some x → slice_get (map f xs) k ≡ Some (f x)
in_map f xs k x is = slice_get-map f xs k ∙ ap (option_map f) is

-- behind some lists, and before others
behind : {X : Type 0} (xs ys : List X) (n k m : ℕ) (e : X) → length xs ≡ n → m ≡ n + k → slice_get ys k ≡ Some e → slice_get (xs ++ ys) m ≡ Some e
behind xs ys n k m e long at is = in_right xs ys k m (omega arith) ∙ is

interface_at : {K : Type 0} (before : ℕ) (is : List K) (lists : List (List (Option (SlotOf K)))) (n : ℕ) (k : K) → length lists ≡ length is → slice_get is n ≡ Some k
    → slice_get (interface_entries before is lists) n ≡ Some (entry (before + method_count (take n lists)) (Some k))
interface_at before [] lists n k same is = absurd cc
interface_at before (i ∷ is) [] n k same at = absurd (omega arith)
interface_at before (i ∷ is) (l ∷ lists) zero k same at =
    let here : i ≡ k = cc in
    ap (λ j. Some (entry before (Some j))) here ∙ ap (λ b. Some (entry b (Some k))) (omega arith)
interface_at before (i ∷ is) (l ∷ lists) (suc n) k same at =
    let more = methods_of l (take n lists) in
    interface_at (before + length l) is lists n k (omega arith) at ∙ ap (λ b. Some (entry b (Some k))) (omega arith)

choice_at : {K : Type 0} (lists : List (List (Option (SlotOf K)))) (i n m : ℕ) (list : List (Option (SlotOf K))) (c : Option (SlotOf K)) → slice_get lists i ≡ Some list → slice_get list n ≡ Some c
    → m ≡ method_count (take i lists) + n → slice_get (flat_map (map choice_entry) lists) m ≡ Some (choice_entry c)
choice_at [] i n m list c at is same = absurd cc
choice_at (l ∷ lists) zero n m list c at is same =
    let here : l ≡ list = cc in
    let low : m ≡ n = omega arith in
    in_left (map choice_entry l) (flat_map (map choice_entry) lists) m (choice_entry c)
    (in_map choice_entry l m c (ap (λ x. slice_get x m) here ∙ ap (slice_get list) low ∙ is))
choice_at (l ∷ lists) (suc i) n m list c at is same =
    let more = methods_of l (take i lists) in
    let long = length-map l choice_entry in
    in_right (map choice_entry l) (flat_map (map choice_entry) lists) (method_count (take i lists) + n) m (omega arith)
    ∙ choice_at lists i n (method_count (take i lists) + n) list c at is refl

-- the second to the sixth of six lists
second_of : {X : Type 0} (a b c d e f : List X) (n k m : ℕ) (x : X) → length a ≡ n → m ≡ n + k → slice_get b k ≡ Some x → slice_get (a ++ b ++ c ++ d ++ e ++ f) m ≡ Some x
second_of a b c d e f n k m x la at is =
    in_left (a ++ b ++ c ++ d ++ e) f m x (in_left (a ++ b ++ c ++ d) e m x (in_left (a ++ b ++ c) d m x (in_left (a ++ b) c m x (behind a b n k m x la at is))))

third_of : {X : Type 0} (a b c d e f : List X) (n k m : ℕ) (x : X) → length (a ++ b) ≡ n → m ≡ n + k → slice_get c k ≡ Some x → slice_get (a ++ b ++ c ++ d ++ e ++ f) m ≡ Some x
third_of a b c d e f n k m x la at is =
    in_left (a ++ b ++ c ++ d ++ e) f m x (in_left (a ++ b ++ c ++ d) e m x (in_left (a ++ b ++ c) d m x (behind (a ++ b) c n k m x la at is)))

fourth_of : {X : Type 0} (a b c d e f : List X) (n k m : ℕ) (x : X) → length (a ++ b ++ c) ≡ n → m ≡ n + k → slice_get d k ≡ Some x → slice_get (a ++ b ++ c ++ d ++ e ++ f) m ≡ Some x
fourth_of a b c d e f n k m x la at is =
    in_left (a ++ b ++ c ++ d ++ e) f m x (in_left (a ++ b ++ c ++ d) e m x (behind (a ++ b ++ c) d n k m x la at is))

fifth_of : {X : Type 0} (a b c d e f : List X) (n k m : ℕ) (x : X) → length (a ++ b ++ c ++ d) ≡ n → m ≡ n + k → slice_get e k ≡ Some x → slice_get (a ++ b ++ c ++ d ++ e ++ f) m ≡ Some x
fifth_of a b c d e f n k m x la at is = in_left (a ++ b ++ c ++ d ++ e) f m x (behind (a ++ b ++ c ++ d) e n k m x la at is)

-- how long the first lists are together
record Lengths {X : Type 0} (a b c d e : List X) (nb nc nd ne : ℕ) : Type 0 where
  pub two : length (a ++ b) ≡ length a + nb
  pub three : length (a ++ b ++ c) ≡ length a + nb + nc
  pub four : length (a ++ b ++ c ++ d) ≡ length a + nb + nc + nd
  pub five : length (a ++ b ++ c ++ d ++ e) ≡ length a + nb + nc + nd + ne

lengths : {X : Type 0} (a b c d e : List X) (nb nc nd ne : ℕ) → length b ≡ nb → length c ≡ nc → length d ≡ nd → length e ≡ ne → Lengths a b c d e nb nc nd ne
lengths a b c d e nb nc nd ne lb lc ld le =
    let two : length (a ++ b) ≡ length a + nb = length-append a b ∙ omega arith in
    let three : length (a ++ b ++ c) ≡ length a + nb + nc = length-append (a ++ b) c ∙ omega arith in
    let four : length (a ++ b ++ c ++ d) ≡ length a + nb + nc + nd = length-append (a ++ b ++ c) d ∙ omega arith in
    record { two = two; three = three; four = four; five = length-append (a ++ b ++ c ++ d) e ∙ omega arith }

record_lengths : {K : Type 0} (r : TypeRecord K) → IsCounted r
    → Lengths (front_entries r.shape r.canon r.parent r.element) (map arg_entry r.args) (interface_entries 0 r.interfaces r.interface_slots) (map field_entry r.fields) (map slot_entry r.slots)
    r.shape.args r.shape.interfaces r.shape.fields r.shape.slots
record_lengths r is =
    lengths (front_entries r.shape r.canon r.parent r.element) (map arg_entry r.args) (interface_entries 0 r.interfaces r.interface_slots) (map field_entry r.fields) (map slot_entry r.slots)
    r.shape.args r.shape.interfaces r.shape.fields r.shape.slots
    (length-map r.args arg_entry ∙ sym is.args) (interfaces_length 0 r.interfaces r.interface_slots ∙ sym is.interfaces)
    (length-map r.fields field_entry ∙ sym is.fields) (length-map r.slots slot_entry ∙ sym is.slots)

pub argument_place : {K : Type 0} (r : TypeRecord K) → IsCounted r → (n : ℕ) (k : K) → slice_get r.args n ≡ Some k → slice_get (entries r) (8 + n) ≡ Some (arg_entry k)
unfolding entries
argument_place r is n k at =
    second_of (front_entries r.shape r.canon r.parent r.element) (map arg_entry r.args) (interface_entries 0 r.interfaces r.interface_slots) (map field_entry r.fields) (map slot_entry r.slots)
    (flat_map (map choice_entry) r.interface_slots) 8 n (8 + n) (arg_entry k) refl refl (in_map arg_entry r.args n k at)

pub interface_place : {K : Type 0} (r : TypeRecord K) → IsCounted r → (n : ℕ) (k : K) → slice_get r.interfaces n ≡ Some k
    → slice_get (entries r) (interfaces_at r.shape + n) ≡ Some (entry (method_count (take n r.interface_slots)) (Some k))
unfolding entries
interface_place r is n k at =
    let none : 0 + method_count (take n r.interface_slots) ≡ method_count (take n r.interface_slots) = omega arith in
    third_of (front_entries r.shape r.canon r.parent r.element) (map arg_entry r.args) (interface_entries 0 r.interfaces r.interface_slots) (map field_entry r.fields) (map slot_entry r.slots)
    (flat_map (map choice_entry) r.interface_slots) (interfaces_at r.shape) n (interfaces_at r.shape + n) (entry (method_count (take n r.interface_slots)) (Some k))
    (record_lengths r is).two refl
    (interface_at 0 r.interfaces r.interface_slots n k is.lists at ∙ ap (λ b. Some (entry b (Some k))) none)

pub field_place : {K : Type 0} (r : TypeRecord K) → IsCounted r → (n : ℕ) (f : FieldOf K) → slice_get r.fields n ≡ Some f → slice_get (entries r) (fields_at r.shape + n) ≡ Some (field_entry f)
unfolding entries
field_place r is n f at =
    fourth_of (front_entries r.shape r.canon r.parent r.element) (map arg_entry r.args) (interface_entries 0 r.interfaces r.interface_slots) (map field_entry r.fields) (map slot_entry r.slots)
    (flat_map (map choice_entry) r.interface_slots) (fields_at r.shape) n (fields_at r.shape + n) (field_entry f) (record_lengths r is).three refl (in_map field_entry r.fields n f at)

pub slot_place : {K : Type 0} (r : TypeRecord K) → IsCounted r → (n : ℕ) (s : SlotOf K) → slice_get r.slots n ≡ Some s → slice_get (entries r) (slots_at r.shape + n) ≡ Some (slot_entry s)
unfolding entries
slot_place r is n s at =
    fifth_of (front_entries r.shape r.canon r.parent r.element) (map arg_entry r.args) (interface_entries 0 r.interfaces r.interface_slots) (map field_entry r.fields) (map slot_entry r.slots)
    (flat_map (map choice_entry) r.interface_slots) (slots_at r.shape) n (slots_at r.shape + n) (slot_entry s) (record_lengths r is).four refl (in_map slot_entry r.slots n s at)

pub interface_slot_place : {K : Type 0} (r : TypeRecord K) → IsCounted r → (i n : ℕ) (list : List (Option (SlotOf K))) (c : Option (SlotOf K))
    → slice_get r.interface_slots i ≡ Some list → slice_get list n ≡ Some c
    → slice_get (entries r) (interface_slots_at r.shape + method_count (take i r.interface_slots) + n) ≡ Some (choice_entry c)
unfolding entries
interface_slot_place r is i n list c at in' =
    behind (front_entries r.shape r.canon r.parent r.element ++ map arg_entry r.args ++ interface_entries 0 r.interfaces r.interface_slots ++ map field_entry r.fields ++ map slot_entry r.slots)
    (flat_map (map choice_entry) r.interface_slots) (interface_slots_at r.shape) (method_count (take i r.interface_slots) + n) (interface_slots_at r.shape + method_count (take i r.interface_slots) + n)
    (choice_entry c) (record_lengths r is).five (omega arith) (choice_at r.interface_slots i n (method_count (take i r.interface_slots) + n) list c at in' refl)
