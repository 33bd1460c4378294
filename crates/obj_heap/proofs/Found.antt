-- Where an object stands that is noted.
use Rattle.std.proofs.Common.{rules, ◌≡◌, ℕ, zero, suc, ◌+◌, ◌-◌, ◌*◌, ◌≤◌, nat_le, Bool, true, false, List, [], ◌∷◌, length, take, drop, Option, Some, None, is_some, IsSome, slice_get, slice_set, refl, sym, ap, ◌∙◌, arith, length-drop}
use Rattle.std.specs.Option.{option_map_or}
use Rattle.std.proofs.lemmas.Bool.{leb-true}
use Rattle.std.proofs.lemmas.List.{drop-drop, length-take, drop-take, take-append-drop}
use Rattle.byteorder.specs.Endian.{little_number}
use Rattle.byteorder.specs.Numbers.{little_from-append}
use Rattle.obj_heap.specs.declared.made.Made.{Made}
use Rattle.obj_heap.specs.Objects.{Object, put}
use Rattle.obj_heap.specs.Calls.{object_at, object_set}
use Rattle.obj_heap.specs.Laying.{object_of, objects_of, are_laid, noted_at, IsLaid}
use Rattle.obj_heap.proofs.Puts.{take-put, drop-put, take-put_behind, drop-put_before}
use Rattle.obj_heap.proofs.Laid.{first_is, end_behind}

module _ {H : Type 0} where
  -- it begins behind the first word, and ends before the end
  pub record IsPlaced (first : ℕ) (m : Made H) (end : ℕ) : Type 0 where
    pub low : first ≤ m.first
    pub high : m.first + m.words ≤ end

  pub placed : (first : ℕ) (ms : List (Made H)) (end k : ℕ) (m : Made H) → are_laid first ms end ≡ true → slice_get ms k ≡ Some m → IsPlaced first m end
  placed first [] end k m h e = absurd (cc)
  placed first (n ∷ ms) end zero m h e =
      let same : n ≡ m = cc in
      let f = first_is first n ms end h in
      let behind = end_behind (first + n.words) ms end f.rest in
      rw (← same) (record { low = omega (arith, f.begins); high = omega (arith, f.begins, behind) })
  placed first (n ∷ ms) end (suc k) m h e =
      let f = first_is first n ms end h in
      let p = placed (first + n.words) ms end k m f.rest e in
      record { low = omega (arith, p.low); high = p.high }

  pub found : (first : ℕ) (ms : List (Made H)) (bs : List ℕ) (rs : List Bool) (end k at : ℕ) (m : Made H) → are_laid first ms end ≡ true → slice_get ms k ≡ Some m → m.first ≡ first + at
      → slice_get (objects_of ms bs rs) k ≡ Some (object_of m (drop (8 * at) bs) (drop at rs))
  unfolding objects_of
  found first [] bs rs end k at m h e f = absurd (cc)
  found first (n ∷ ms) bs rs end zero at m h e f =
      let same : n ≡ m = cc in
      let b = (first_is first n ms end h).begins in
      let begin : n.first ≡ first + at = rw same f in
      let none : at ≡ 0 = omega (arith, b, begin) in
      rw (same, none) refl
  found first (n ∷ ms) bs rs end (suc k) at m h e f =
      let one = first_is first n ms end h in
      let p = placed (first + n.words) ms end k m one.rest e in
      let more = found (first + n.words) ms (drop (8 * n.words) bs) (drop n.words rs) end k (at - n.words) m one.rest e (omega (arith, f, p.low)) in
      let bytes : 8 * n.words + 8 * (at - n.words) ≡ 8 * at = omega (arith, f, p.low) in
      let marks : n.words + (at - n.words) ≡ at = omega (arith, f, p.low) in
      rw (drop-drop (8 * (at - n.words)) (8 * n.words) bs, drop-drop (at - n.words) n.words rs, bytes, marks) at more

  pub lost : (ms : List (Made H)) (bs : List ℕ) (rs : List Bool) (k : ℕ) → slice_get ms k ≡ None → slice_get (objects_of ms bs rs) k ≡ None
  unfolding objects_of
  lost [] bs rs k e = refl
  lost (n ∷ ms) bs rs zero e = absurd (cc)
  lost (n ∷ ms) bs rs (suc k) e = lost ms (drop (8 * n.words) bs) (drop n.words rs) k e

  -- a write to some bytes of an object leaves all others
  pub objects_of-put : (first : ℕ) (ms : List (Made H)) (bs : List ℕ) (rs : List Bool) (end k at : ℕ) (m : Made H) → are_laid first ms end ≡ true → first + length rs ≡ end → length bs ≡ 8 * length rs
      → slice_get ms k ≡ Some m → m.first ≡ first + at → (offset : ℕ) (ys : List ℕ) → offset + length ys ≤ 8 * m.words
      → objects_of ms (put (8 * at + offset) ys bs) rs
      ≡ slice_set (objects_of ms bs rs) k (record { of = m.of; count = m.count; bytes = put offset ys (take (8 * m.words) (drop (8 * at) bs)); refs = take m.words (drop at rs) })
  unfolding objects_of
  objects_of-put first [] bs rs end k at m h whole eights e f offset ys fits = absurd (cc)
  objects_of-put first (n ∷ ms) bs rs end zero at m h whole eights e f offset ys fits =
      let same : n ≡ m = cc in
      let one = first_is first n ms end h in
      let begin : n.first ≡ first + at = rw same f in
      let none : at ≡ 0 = omega (arith, one.begins, begin) in
      let behind = end_behind (first + n.words) ms end one.rest in
      let room : offset + length ys ≤ 8 * n.words = rw same fits in
      let inside : 8 * n.words ≤ length bs = omega (arith, behind, whole, eights) in
      let place : 8 * at + offset ≡ offset = omega (arith, none) in
      rw (place, none, ← same, take-put offset ys bs (8 * n.words) room inside, drop-put_before offset ys bs (8 * n.words) room (omega (arith, room, inside))) refl
  objects_of-put first (n ∷ ms) bs rs end (suc k) at m h whole eights e f offset ys fits =
      let one = first_is first n ms end h in
      let p = placed (first + n.words) ms end k m one.rest e in
      let behind = end_behind (first + n.words) ms end one.rest in
      let low : n.words ≤ at = omega (arith, f, p.low) in
      let inside : 8 * at + offset ≤ length bs = omega (arith, p.high, f, whole, eights, fits) in
      let more = objects_of-put (first + n.words) ms (drop (8 * n.words) bs) (drop n.words rs) end k (at - n.words) m one.rest
      (omega (arith, whole, behind, length-drop n.words rs)) (omega (arith, eights, length-drop n.words rs, length-drop (8 * n.words) bs, behind, whole)) e (omega (arith, f, p.low)) offset ys fits in
      let bytes : 8 * n.words + 8 * (at - n.words) ≡ 8 * at = omega (arith, low) in
      let marks : n.words + (at - n.words) ≡ at = omega (arith, low) in
      let place : 8 * at + offset - 8 * n.words ≡ 8 * (at - n.words) + offset = omega (arith, low) in
      let there = rw (drop-drop (8 * (at - n.words)) (8 * n.words) bs, drop-drop (at - n.words) n.words rs, bytes, marks) at more in
      rw (take-put_behind (8 * at + offset) ys bs (8 * n.words) (omega (arith, low)) inside, drop-put (8 * at + offset) ys bs (8 * n.words) (omega (arith, low)) inside, place, there) refl

-- The same of a heap whose notes were read: s is what contracts see, and n the number of an object.
module _ {H : Type 0} (now ms : List (Made H)) (bs : List ℕ) (rs : List Bool) (s : List (Object H)) (same : now ≡ ms) (view : objects_of ms bs rs ≡ s) (laid : IsLaid H ms bs rs) (n : ℕ) (o : Option (Made H)) (noted : o ≡ noted_at now n) where
  noted_then : o ≡ noted_at ms n
  noted_then = noted ∙ ap (λ xs. noted_at xs n) same

  pub seen_some : (m : Made H) → o ≡ Some m → object_at s n ≡ Some (object_of m (drop (8 * m.first) bs) (drop m.first rs))
  seen_some m e = go n (sym e ∙ noted_then)
    where
      go : (k : ℕ) → Some m ≡ noted_at ms k → object_at s k ≡ Some (object_of m (drop (8 * m.first) bs) (drop m.first rs))
      go zero h = absurd (cc)
      go (suc k) h = ap (λ xs. slice_get xs k) (sym view) ∙ found 0 ms bs rs (length rs) k m.first m laid.laid (sym h) (omega arith)

  pub seen_none : o ≡ None → object_at s n ≡ None
  seen_none e = go n (sym e ∙ noted_then)
    where
      go : (k : ℕ) → None ≡ noted_at ms k → object_at s k ≡ None
      go zero h = refl
      go (suc k) h = ap (λ xs. slice_get xs k) (sym view) ∙ lost ms bs rs k (sym h)

  pub seen_place : (m : Made H) → o ≡ Some m → m.first + m.words ≤ length rs
  seen_place m e = go n (sym e ∙ noted_then)
    where
      go : (k : ℕ) → Some m ≡ noted_at ms k → m.first + m.words ≤ length rs
      go zero h = absurd (cc)
      go (suc k) h = (placed 0 ms (length rs) k m laid.laid (sym h)).high

  pub seen_length : (m : Made H) → o ≡ Some m → length (take (8 * m.words) (drop (8 * m.first) bs)) ≡ 8 * m.words
  seen_length m e = omega (arith, seen_place m e, laid.eights, length-take (8 * m.words) (drop (8 * m.first) bs), length-drop (8 * m.first) bs)

  -- a write to some of its bytes
  pub seen_put : (m : Made H) → o ≡ Some m → (offset : ℕ) (ys : List ℕ) → offset + length ys ≤ 8 * m.words
      → objects_of ms (put (8 * m.first + offset) ys bs) rs
      ≡ option_map_or (λ x. object_set s n (record { of = x.of; count = x.count; bytes = put offset ys x.bytes; refs = x.refs })) (object_at s n) s
  seen_put m e offset ys fits = rw (seen_some m e) (go n (sym e ∙ noted_then))
    where
      go : (k : ℕ) → Some m ≡ noted_at ms k → objects_of ms (put (8 * m.first + offset) ys bs) rs
          ≡ object_set s k (record { of = m.of; count = m.count; bytes = put offset ys (take (8 * m.words) (drop (8 * m.first) bs)); refs = take m.words (drop m.first rs) })
      go zero h = absurd (cc)
      go (suc k) h = objects_of-put 0 ms bs rs (length rs) k m.first m laid.laid (omega arith) laid.eights (sym h) (omega arith) offset ys fits
          ∙ ap (λ xs. slice_set xs k (record { of = m.of; count = m.count; bytes = put offset ys (take (8 * m.words) (drop (8 * m.first) bs)); refs = take m.words (drop m.first rs) })) view

  pub seen_made : is_some (object_at s n) ≡ true → IsSome o
  seen_made h = go o refl
    where
      go : (p : Option (Made H)) → o ≡ p → IsSome p
      go (Some m) e = search rules
      go None e = let x = seen_none e in let y = rw x at h in absurd (cc)

  -- so many bytes from a place on are inside
  pub seen_inside : (offset width : ℕ) → option_map_or (λ x. nat_le (offset + width) (length x.bytes)) (object_at s n) false ≡ true → (m : Made H) → o ≡ Some m
      → (offset + width ≤ 8 * m.words) × (8 * m.first + 8 * m.words ≤ length bs)
  seen_inside offset width h m e =
      let x = rw (seen_some m e) at h in
      let p = seen_place m e in
      let y : offset + width ≤ length (take (8 * m.words) (drop (8 * m.first) bs)) = leb-true _ _ x in
      (omega (arith, y, length-take (8 * m.words) (drop (8 * m.first) bs)), omega (arith, p, laid.eights))

  pub seen_is_made : (offset width : ℕ) → option_map_or (λ x. nat_le (offset + width) (length x.bytes)) (object_at s n) false ≡ true → IsSome o
  seen_is_made offset width h = seen_made (go (object_at s n) h)
    where
      go : (x : Option (Object H)) → option_map_or (λ x. nat_le (offset + width) (length x.bytes)) x false ≡ true → is_some x ≡ true
      go (Some x) h = refl
      go None h = absurd (cc)

-- a number in an object's bytes, read among those of all
pub number_within : (first words offset width : ℕ) (bs : List ℕ) → offset + width ≤ 8 * words → 8 * first + 8 * words ≤ length bs
    → little_number width (drop (8 * first + offset) bs) ≡ little_number width (drop offset (take (8 * words) (drop (8 * first) bs)))
number_within first words offset width bs fits inside =
    let zs : List ℕ = drop (8 * first + offset) bs in
    let front : drop offset (take (8 * words) (drop (8 * first) bs)) ≡ take (8 * words - offset) zs =
    ap (λ k. drop offset (take k (drop (8 * first) bs))) (omega arith) ∙ drop-take offset (8 * words - offset) (drop (8 * first) bs) ∙ ap (take (8 * words - offset)) (drop-drop offset (8 * first) bs) in
    let long : width ≤ length (take (8 * words - offset) zs) = omega (arith, length-take (8 * words - offset) zs, length-drop (8 * first + offset) bs) in
    rw front (ap (little_number width) (sym (take-append-drop (8 * words - offset) zs)) ∙ little_from-append width (take (8 * words - offset) zs) (drop (8 * words - offset) zs) long)
