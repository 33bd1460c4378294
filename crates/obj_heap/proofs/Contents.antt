-- What the bytes of new objects are.
use Rattle.std.proofs.Common.{◌≡◌, ◌⊎◌, inl, inr, ℕ, zero, suc, ◌+◌, ◌-◌, ◌*◌, ◌^◌, ◌<◌, ◌≤◌, Bool, List, [], ◌∷◌, ◌++◌, drop, replicate, slice_index, Some, slice_get, refl, append_assoc, arith}
use Rattle.std.specs.List.{flat_map}
use Rattle.std.proofs.lemmas.Bool.{cases_lt}
use Rattle.std.proofs.lemmas.List.{get_or-replicate, get_or_past, drop-replicate, drop-drop, length-replicate}
use Rattle.byteorder.specs.Endian.{little_bytes, little_from, little_number}
use Rattle.byteorder.specs.Numbers.{little_number-reads_back}
use Rattle.obj_heap.specs.Objects.{words, blank, string_size, string_object}

zero_at : (m i : ℕ) → slice_index (replicate m 0) i ≡ 0
zero_at m i = go (cases_lt i m)
  where
    go : (i < m) ⊎ (m ≤ i) → slice_index (replicate m 0) i ≡ 0
    go (inl h) = get_or-replicate m i 0 0 h
    go (inr h) = get_or_past (replicate m 0) i 0 (omega (arith, length-replicate {A = ℕ} m 0))

little_zero : (i n m : ℕ) → little_from i n (replicate m 0) ≡ 0
little_zero i zero m = refl
little_zero i (suc n) m = rw (zero_at m i, little_zero (suc i) n m) refl

-- every place of a blank object reads 0
pub blank_reads : {H : Type 0} (h : H) (count size offset width : ℕ) (refs : List Bool) → little_number width (drop offset (blank h count size refs).bytes) ≡ 0
unfolding blank
blank_reads h count size offset width refs = rw (drop-replicate {X = ℕ} offset (8 * words size) 0) (little_zero 0 width (8 * words size - offset))

-- a unit, and what is behind it
unit_behind : (units rest : List ℕ) (k u : ℕ) → slice_get units k ≡ Some u → (behind : List ℕ) × (drop (2 * k) (flat_map (little_bytes 2) units ++ rest) ≡ little_bytes 2 u ++ behind)
unit_behind [] rest k u e = absurd (cc)
unit_behind (x ∷ units) rest zero u e =
    let same : x ≡ u = cc in
    rw (← same) (flat_map (little_bytes 2) units ++ rest, append_assoc (little_bytes 2 x) (flat_map (little_bytes 2) units) rest)
unit_behind (x ∷ units) rest (suc k) u e =
    let more = unit_behind units rest k u e in
    let two : 2 * suc k ≡ suc (suc (2 * k)) = omega arith in
    (more.0, rw two more.1)

-- a place of a string reads its unit
pub unit_reads : {H : Type 0} (h : H) (units : List ℕ) (k u : ℕ) → slice_get units k ≡ Some u → u < 2 ^ 16 → little_number 2 (drop (16 + 2 * k) (string_object h units).bytes) ≡ u
unfolding string_object
unit_reads h units k u e small =
    let pad : List ℕ = replicate (8 * words (string_size units) - string_size units) 0 in
    let there = unit_behind units pad k u e in
    let whole = append_assoc (replicate 16 0) (flat_map (little_bytes 2) units) pad in
    let header : drop 16 (replicate 16 0 ++ (flat_map (little_bytes 2) units ++ pad)) ≡ flat_map (little_bytes 2) units ++ pad = refl in
    rw (whole, ← drop-drop (2 * k) 16 (replicate 16 0 ++ (flat_map (little_bytes 2) units ++ pad)), header, there.1) (little_number-reads_back 2 u there.0 (omega (arith, small)))
