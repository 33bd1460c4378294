-- Lists that repeat.
use Rattle.std.proofs.Common.{◌≡◌, ℕ, zero, suc, ◌+◌, ◌-◌, ◌*◌, ◌<◌, ◌≤◌, ◌==◌, eqb-true, Bool, true, false, ◌||◌, IsTrue, List, [], ◌∷◌, ◌++◌, length, replicate, refl, sym, ap, ap₂, ◌∙◌, append_assoc, arith, length-append, add-one}
use Rattle.std.proofs.lemmas.List.{length-replicate, append-nil}
use Rattle.std.proofs.Math.Nat.{mul-le-mul_left, mul-le-mul_right, mul_assoc}
use Rattle.obj_heap.specs.Calls.{are_whole}
use Rattle.std.specs.List.{repeat, flat_map}
use Rattle.byteorder.specs.Endian.{little_bytes}
use Rattle.obj_heap.specs.Objects.{filled}

module _ {A : Type 0} where
  pub length-repeat : (n : ℕ) (xs : List A) → length (repeat n xs) ≡ length xs * n
  length-repeat zero xs = omega arith
  length-repeat (suc n) xs = let more = length-repeat n xs in rw (length-append xs (repeat n xs), more) (grind arith)

  pub repeat-nil : (n : ℕ) → repeat {A = A} n [] ≡ []
  repeat-nil zero = refl
  repeat-nil (suc n) = repeat-nil n

  repeat_behind : (n : ℕ) (xs : List A) → repeat n xs ++ xs ≡ xs ++ repeat n xs
  repeat_behind zero xs = sym (append-nil xs)
  repeat_behind (suc n) xs = append_assoc xs (repeat n xs) xs ∙ ap (λ ys. xs ++ ys) (repeat_behind n xs)

  -- one more at the end
  pub repeat_more : (n : ℕ) (xs : List A) → repeat n xs ++ xs ≡ repeat (n + 1) xs
  repeat_more n xs = rw add-one (repeat_behind n xs)

pub filled_by : (refs element : List Bool) (lead times words : ℕ)
    → ((refs ++ replicate lead false) ++ repeat times element) ++ replicate (words - lead - length element * times) false
    ≡ refs ++ filled words (replicate lead false ++ repeat times element)
filled_by refs element lead times words =
    let n : length (replicate lead false ++ repeat times element) ≡ lead + length element * times =
    length-append (replicate lead false) (repeat times element) ∙ ap₂ (λ a b. a + b) (length-replicate lead false) (length-repeat times element) in
    let left : words - lead - length element * times ≡ words - (lead + length element * times) = omega arith in
    rw (n, left) (simp append_assoc)

pub more_elements : (old now new element : List Bool) (i : ℕ) → now ≡ old ++ repeat i element → new ≡ now ++ element → new ≡ old ++ repeat (i + 1) element
more_elements old now new element i before step =
    step ∙ ap (λ xs. xs ++ element) before ∙ append_assoc old (repeat i element) element ∙ ap (λ xs. old ++ xs) (repeat_more i element)

pub mul_more : (a i : ℕ) → a * (i + 1) ≡ a * i + a
mul_more a i = grind arith

-- there is room for one more
pub room_for_one : (a i n len capacity old : ℕ) → i < n → len ≡ old + a * i → old + a * n ≤ capacity → len + a ≤ capacity
room_for_one a i n len capacity old h e room = let m : a * (i + 1) ≤ a * n = mul-le-mul_left a (omega arith) in omega (arith, mul_more a i, m)

-- the product of two numbers of 32 bits leaves room for a header
pub product_fits : (a b : ℕ) → a < 0x100000000 → b < 0x100000000 → a * b ≤ 18446744065119617025
product_fits a b ha hb = let m : a * b ≤ 4294967295 * b = mul-le-mul_right b (omega arith) in omega (arith, m)

-- the elements' marks are inside the elements
pub marks_inside : (element n : ℕ) (refs : List Bool) → IsTrue (are_whole element refs) → 8 * (2 + length refs * n) ≤ 16 + element * n
marks_inside element n refs h = go (length refs == 0) (8 * length refs == element) refl refl h
  where
    go : (x y : Bool) → (length refs == 0) ≡ x → (8 * length refs == element) ≡ y → IsTrue (x || y) → 8 * (2 + length refs * n) ≤ 16 + element * n
    go true y e f t = let z = eqb-true (length refs) 0 e in rw z (omega arith)
    go false true e f t = let z = eqb-true (8 * length refs) element f in rw (← z) (let m = mul_assoc 8 (length refs) n in omega (arith, m))
    go false false e f t = absurd (cc)

pub length-filled : (n : ℕ) (xs : List Bool) → length xs ≤ n → length (filled n xs) ≡ n
length-filled n xs h = omega (arith, length-append xs (replicate (n - length xs) false), length-replicate (n - length xs) false)

pub length_marks : (lead n : ℕ) (xs : List Bool) → length (replicate lead false ++ repeat n xs) ≡ lead + length xs * n
length_marks lead n xs = length-append (replicate lead false) (repeat n xs) ∙ ap₂ (λ a b. a + b) (length-replicate lead false) (length-repeat n xs)

pub string_by : (bs zeros units rest : List ℕ) → ((bs ++ zeros) ++ units) ++ rest ≡ bs ++ ((zeros ++ units) ++ rest)
string_by bs zeros units rest = simp append_assoc

pub length_units : (units : List ℕ) → length (flat_map (little_bytes 2) units) ≡ 2 * length units
length_units [] = refl
length_units (u ∷ us) = let more = length_units us in omega (arith, more)
