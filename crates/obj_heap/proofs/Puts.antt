-- Lists with others in the place of some of their elements.
use Rattle.std.proofs.Common.{rules, ◌≡◌, ℕ, ◌+◌, ◌-◌, ◌%◌, ◌^◌, ◌≤◌, List, [], ◌++◌, length, take, drop, refl, arith, length-drop}
use Rattle.std.proofs.lemmas.List.{append-nil, drop_all, same_lists, places, take_rest}
use Rattle.std.proofs.lemmas.Slice.{take-put_mid_below, drop-put_mid}
use borrow.Rule.Slice.PartMut.{put_mid}
use Rattle.byteorder.specs.Endian.{little_bytes}
use Rattle.byteorder.specs.Numbers.{length-bytes_low_first}
use Rattle.obj_heap.specs.Objects.{put}

module _ (at : ℕ) (ys xs : List ℕ) where
  pub length-put : at + length ys ≤ length xs → length (put at ys xs) ≡ length xs
  length-put h = search (rules, places)

  -- a front that has all of them
  pub take-put : (n : ℕ) → at + length ys ≤ n → n ≤ length xs → take n (put at ys xs) ≡ put at ys (take n xs)
  take-put n low high = same_lists _ _ (search (rules, places)) (λ k d h. grind (arith, places))

  -- what is behind a front that has none
  pub drop-put : (n : ℕ) → n ≤ at → at ≤ length xs → drop n (put at ys xs) ≡ put (at - n) ys (drop n xs)
  drop-put n low high = same_lists _ _ (search (rules, places)) (λ k d h. grind (arith, places))

  -- a front that has none
  pub take-put_behind : (n : ℕ) → n ≤ at → at ≤ length xs → take n (put at ys xs) ≡ take n xs
  take-put_behind n low high = take-put_mid_below at (length ys) xs ys n low high

  -- what is behind all of them
  pub drop-put_before : (n : ℕ) → at + length ys ≤ n → at ≤ length xs → drop n (put at ys xs) ≡ drop n xs
  drop-put_before n low high = drop-put_mid at (length ys) xs ys n low high refl

  -- a write at the front of what begins at a place
  pub put_mid-put : (k : ℕ) (zs : List ℕ) → k ≡ length xs - at → zs ≡ ys ++ drop (length ys) (drop at xs) → put_mid at k xs zs ≡ put at ys xs
  put_mid-put k zs e w =
      let nothing : drop k (drop at xs) ≡ [] = drop_all k (drop at xs) (omega (arith, length-drop at xs)) in
      rw (nothing, append-nil, w) refl

-- the same of the lowest bytes of a number
pub put_number : (at width w v x k : ℕ) (xs zs : List ℕ) → width ≡ w → x ≡ v % 256 ^ w → k ≡ length xs - at
    → zs ≡ little_bytes w x ++ drop w (take (length xs - at) (drop at xs)) → put_mid at k xs zs ≡ put at (little_bytes width (v % 256 ^ width)) xs
put_number at width w v x k xs zs same low e written =
    let n : length (little_bytes w x) ≡ w = length-bytes_low_first 0 w x in
    let there : zs ≡ little_bytes w x ++ drop (length (little_bytes w x)) (drop at xs) = rw n (rw take_rest at written) in
    rw (same, ← low) (put_mid-put at (little_bytes w x) xs k zs e there)
