-- What the places of new objects are: those of an array's elements are as those of one element.
use Rattle.std.proofs.Common.{◌≡◌, ◌⊎◌, inl, inr, ℕ, zero, suc, ◌+◌, ◌-◌, ◌*◌, ◌/◌, ◌%◌, ◌<◌, ◌≤◌, ◌==◌, nat_lt, eqb-true, Bool, true, false, ◌||◌, IsTrue, List, [], ◌∷◌, ◌++◌, length, replicate, slice_index_or, refl, sym, ap₂, ◌∙◌, arith, length-append}
use Rattle.std.specs.List.{repeat, flat_map}
use Rattle.byteorder.specs.Endian.{little_bytes}
use Rattle.std.proofs.lemmas.Bool.{cases_lt, le-ltb}
use Rattle.std.proofs.lemmas.List.{get_or-replicate, get_or_past, get_or-append_right, get_or_append_left, get_or-append-add, length-replicate}
use Rattle.std.proofs.Math.Nat.{mul-le-mul_left, mul_assoc}
use Rattle.obj_heap.specs.declared.address.PlaceKind.TheVariants.{Numbers}
use Rattle.obj_heap.specs.Objects.{words, is_ref, any_ref, kind_in, filled, blank, array_size, array_refs, string_size, string_bytes, string_object}
use Rattle.obj_heap.specs.Calls.{are_whole, kind_of}
use Rattle.obj_heap.proofs.Repeats.{repeat-nil, mul_more, length_units}

false_at : (m i : ℕ) → slice_index_or (replicate m false) i false ≡ false
false_at m i = go (cases_lt i m)
  where
    go : (i < m) ⊎ (m ≤ i) → slice_index_or (replicate m false) i false ≡ false
    go (inl h) = get_or-replicate m i false false h
    go (inr h) = get_or_past (replicate m false) i false (omega (arith, h, length-replicate {A = Bool} m false))

-- numbers behind the marks change none
filled_at : (n : ℕ) (refs : List Bool) (i : ℕ) → slice_index_or (filled n refs) i false ≡ slice_index_or refs i false
filled_at n refs i = go (cases_lt i (length refs))
  where
    go : (i < length refs) ⊎ (length refs ≤ i) → slice_index_or (filled n refs) i false ≡ slice_index_or refs i false
    go (inl h) = get_or_append_left refs (replicate (n - length refs) false) false i h
    go (inr h) = get_or-append_right refs (replicate (n - length refs) false) (length refs) i false refl h ∙ false_at (n - length refs) (i - length refs) ∙ sym (get_or_past refs i false h)

-- the marks of an element among those of many
repeat_at : (refs : List Bool) (n k j : ℕ) → k < n → j < length refs → slice_index_or (repeat n refs) (length refs * k + j) false ≡ slice_index_or refs j false
repeat_at refs zero k j low inside = absurd (omega (arith, low))
repeat_at refs (suc n) zero j low inside =
    let place : length refs * zero + j ≡ j = omega arith in
    rw place (get_or_append_left refs (repeat n refs) false j inside)
repeat_at refs (suc n) (suc k) j low inside =
    let place : length refs * suc k + j ≡ length refs + (length refs * k + j) = go (length refs) in
    rw (place, get_or-append-add refs (repeat n refs) (length refs * k + j) false) (repeat_at refs n k j (omega (arith, low)) inside)
  where
    go : (m : ℕ) → m * suc k + j ≡ m + (m * k + j)
    go m = grind arith

-- places whose bytes are as others are as those
any_same : (xs ys : List Bool) (a b n : ℕ) → ((i : ℕ) → i < n → is_ref xs (a + i) ≡ is_ref ys (b + i)) → any_ref xs a n ≡ any_ref ys b n
any_same xs ys a b zero h = refl
any_same xs ys a b (suc n) h =
    let first : is_ref xs a ≡ is_ref ys b = start (h 0 (omega arith)) in
    let rest = any_same xs ys (suc a) (suc b) n (λ i low. next i (h (suc i) (omega (arith, low)))) in
    ap₂ (λ x y. x || y) first rest
  where
    start : is_ref xs (a + 0) ≡ is_ref ys (b + 0) → is_ref xs a ≡ is_ref ys b
    start e = let pa : a + 0 ≡ a = omega arith in let pb : b + 0 ≡ b = omega arith in rw (pa, pb) at e

    next : (i : ℕ) → is_ref xs (a + suc i) ≡ is_ref ys (b + suc i) → is_ref xs (suc a + i) ≡ is_ref ys (suc b + i)
    next i e = let pa : a + suc i ≡ suc a + i = omega arith in let pb : b + suc i ≡ suc b + i = omega arith in rw (pa, pb) at e

kind_same : (xs ys : List Bool) (a b n : ℕ) → any_ref xs a n ≡ any_ref ys b n → a % 8 ≡ b % 8 → kind_in xs a n ≡ kind_in ys b n
unfolding kind_in
kind_same xs ys a b n any same = rw (any, same) refl

none_in : (xs : List Bool) (a n : ℕ) → ((i : ℕ) → slice_index_or xs i false ≡ false) → any_ref xs a n ≡ false
none_in xs a zero h = refl
none_in xs a (suc n) h = rw (h (a / 8)) (none_in xs (suc a) n h)

kind_none : (xs ys : List Bool) (a b n : ℕ) → ((i : ℕ) → slice_index_or xs i false ≡ false) → ((i : ℕ) → slice_index_or ys i false ≡ false) → kind_in xs a n ≡ kind_in ys b n
unfolding kind_in
kind_none xs ys a b n hx hy = rw (none_in xs a n hx, none_in ys b n hy) refl

-- an object's places are what was said of them
pub blank_kinds : {H : Type 0} (h : H) (count size offset width : ℕ) (refs : List Bool) → offset + width ≤ size → kind_of (blank h count size refs) offset width ≡ kind_in refs offset width
unfolding blank
blank_kinds h count size offset width refs inside =
    let room : nat_lt (length (replicate {A = ℕ} (8 * words size) 0)) (offset + width) ≡ false = le-ltb _ _ (omega (arith, inside, length-replicate {A = ℕ} (8 * words size) 0)) in
    rw room (kind_same (filled (words size) refs) refs offset offset width (any_same _ _ offset offset width (λ i low. filled_at (words size) refs ((offset + i) / 8))) refl)

-- the marks of an array
marks_at : (refs : List Bool) (n k j : ℕ) → k < n → j < length refs → slice_index_or (array_refs refs n) (2 + (length refs * k + j)) false ≡ slice_index_or refs j false
marks_at refs n k j low inside = get_or-append-add (false ∷ false ∷ []) (repeat n refs) (length refs * k + j) false ∙ repeat_at refs n k j low inside

-- an element's byte
element_byte : (refs : List Bool) (n k b : ℕ) → k < n → b < 8 * length refs → is_ref (array_refs refs n) (16 + 8 * length refs * k + b) ≡ is_ref refs b
element_byte refs n k b low inside =
    let assoc : 8 * length refs * k ≡ 8 * (length refs * k) = mul_assoc 8 (length refs) k in
    let place : (16 + 8 * length refs * k + b) / 8 ≡ 2 + (length refs * k + b / 8) = omega (arith, assoc) in
    rw place (marks_at refs n k (b / 8) low (omega (arith, inside)))

-- so are the places of an element, in whichever
pub element_kinds : {H : Type 0} (h : H) (element n : ℕ) (refs : List Bool) (k offset width : ℕ) → IsTrue (are_whole element refs) → k < n → offset + width ≤ element
    → kind_of (blank h n (array_size element n) (array_refs refs n)) (16 + element * k + offset) width ≡ kind_in refs offset width
element_kinds h element n refs k offset width whole low inside =
    let more : element * (k + 1) ≤ element * n = mul-le-mul_left element (omega (arith, low)) in
    blank_kinds h n (array_size element n) (16 + element * k + offset) width (array_refs refs n) (omega (arith, more, mul_more element k, inside))
    ∙ go (length refs == 0) (8 * length refs == element) refl refl whole
  where
    go : (x y : Bool) → (length refs == 0) ≡ x → (8 * length refs == element) ≡ y → IsTrue (x || y) → kind_in (array_refs refs n) (16 + element * k + offset) width ≡ kind_in refs offset width
    go true y e f t = none refs (eqb-true (length refs) 0 e)
      where
        none : (rs : List Bool) → length rs ≡ 0 → kind_in (array_refs rs n) (16 + element * k + offset) width ≡ kind_in rs offset width
        none [] z = rw repeat-nil (kind_none (false ∷ false ∷ []) [] (16 + element * k + offset) offset width (λ i. false_at 2 i) (λ i. refl))
        none (x ∷ rs) z = absurd (omega (arith, z))
    go false true e f t = rest element (eqb-true (8 * length refs) element f) inside
      where
        rest : (size : ℕ) → 8 * length refs ≡ size → offset + width ≤ size → kind_in (array_refs refs n) (16 + size * k + offset) width ≡ kind_in refs offset width
        rest size z fits =
            let assoc : 8 * length refs * k ≡ 8 * (length refs * k) = mul_assoc 8 (length refs) k in
            rw (← z) (kind_same (array_refs refs n) refs (16 + 8 * length refs * k + offset) offset width
            (any_same (array_refs refs n) refs (16 + 8 * length refs * k + offset) offset width (λ i small. byte i (omega (arith, fits, z, small))))
            (omega (arith, assoc)))
          where
            byte : (i : ℕ) → offset + i < 8 * length refs → is_ref (array_refs refs n) (16 + 8 * length refs * k + offset + i) ≡ is_ref refs (offset + i)
            byte i small =
                let place : 16 + 8 * length refs * k + offset + i ≡ 16 + 8 * length refs * k + (offset + i) = omega arith in
                rw place (element_byte refs n k (offset + i) low small)
    go false false e f t = absurd (cc)

-- a string has numbers alone
pub string_kinds : {H : Type 0} (h : H) (units : List ℕ) (offset width : ℕ) → offset + width ≤ string_size units → kind_of (string_object h units) offset width ≡ Numbers
unfolding string_object kind_in
string_kinds h units offset width inside =
    let rest = replicate {A = ℕ} (8 * words (string_size units) - string_size units) 0 in
    let size : string_size units ≤ length (string_bytes units ++ rest) =
    omega (arith, length-append (string_bytes units) rest, length-append (replicate 16 0) (flat_map (little_bytes 2) units), length_units units) in
    let room : nat_lt (length (string_bytes units ++ rest)) (offset + width) ≡ false = le-ltb _ _ (omega (arith, inside, size)) in
    rw (room, none_in (filled (words (string_size units)) []) offset width (λ i. filled_at (words (string_size units)) [] i)) refl
