-- What a write to a place of an object leaves.
use Rattle.std.proofs.Common.{◌≡◌, ◌≢◌, ◌⊎◌, inl, inr, ℕ, zero, suc, ◌+◌, ◌-◌, ◌%◌, ◌^◌, ◌<◌, ◌≤◌, nat_le, true, false, List, [], ◌∷◌, length, take, drop, Option, Some, None, slice_get, slice_set, refl, sym, ap, ◌∙◌, arith}
use Rattle.std.specs.Option.{option_map, option_map_or}
use Rattle.std.proofs.Math.Nat.{mod-lt, one-le-pow}
use Rattle.std.proofs.lemmas.Bool.{cases_eq, leb-true}
use Rattle.std.proofs.lemmas.List.{drop-take}
use Rattle.byteorder.specs.Endian.{little_bytes, little_number}
use Rattle.byteorder.specs.Numbers.{little_from-take, little_number-reads_back, length-bytes_low_first}
use Rattle.obj_heap.specs.declared.address.Address.{Address}
use Rattle.obj_heap.specs.declared.address.ObjRef.{ObjRef}
use Rattle.obj_heap.specs.declared.address.PlaceKind.TheVariants.{Outside}
use Rattle.obj_heap.specs.Objects.{Object, put}
use Rattle.obj_heap.specs.Calls.{object_at, object_set, find, handle_of, length_of, is_inside, kind_of, kind_at, read_at, write_at, written}
use Rattle.obj_heap.specs.Laws.{AreApart}
use Rattle.obj_heap.proofs.Puts.{length-put, drop-put, drop-put_before, take-put_behind}

-- a number is that of its own bytes alone
little_same : (n : ℕ) (xs ys : List ℕ) → take n xs ≡ take n ys → little_number n xs ≡ little_number n ys
little_same n xs ys e = sym (little_from-take 0 n n xs (omega arith)) ∙ ap (little_number n) e ∙ little_from-take 0 n n ys (omega arith)

-- the number that was put at a place
number_own : (at width v : ℕ) (xs : List ℕ) → v < 256 ^ width → at ≤ length xs → little_number width (drop at (put at (little_bytes width v) xs)) ≡ v
number_own at width v xs small inside =
    let none : at - at ≡ 0 = omega arith in
    let self : at ≤ at = omega arith in
    rw (drop-put at (little_bytes width v) xs at self inside, none) (little_number-reads_back width v _ small)

-- the number beside it
number_other : (at q n : ℕ) (ys xs : List ℕ) → at ≤ length xs → (at + length ys ≤ q) ⊎ (q + n ≤ at) → little_number n (drop q (put at ys xs)) ≡ little_number n (drop q xs)
number_other at q n ys xs inside (inl h) = ap (little_number n) (drop-put_before at ys xs q h inside)
number_other at q n ys xs inside (inr h) = little_same n _ _ (sym (drop-take q n (put at ys xs)) ∙ ap (drop q) (take-put_behind at ys xs (q + n) h inside) ∙ drop-take q n xs)

module _ {H : Type 0} where
  got_set : (s : List (Object H)) (k : ℕ) (o x : Object H) → slice_get s k ≡ Some x → slice_get (slice_set s k o) k ≡ Some o
  got_set [] k o x e = absurd (cc)
  got_set (y ∷ s) zero o x e = refl
  got_set (y ∷ s) (suc k) o x e = got_set s k o x e

  got_other : (s : List (Object H)) (k j : ℕ) (o : Object H) → j ≢ k → slice_get (slice_set s k o) j ≡ slice_get s j
  got_other [] k j o d = refl
  got_other (y ∷ s) zero zero o d = absurd (d refl)
  got_other (y ∷ s) zero (suc j) o d = refl
  got_other (y ∷ s) (suc k) zero o d = refl
  got_other (y ∷ s) (suc k) (suc j) o d = got_other s k j o (λ e. d (ap suc e))

  at_set : (s : List (Object H)) (n : ℕ) (o x : Object H) → object_at s n ≡ Some x → object_at (object_set s n o) n ≡ Some o
  at_set s zero o x e = absurd (cc)
  at_set s (suc k) o x e = got_set s k o x e

  at_other : (s : List (Object H)) (n j : ℕ) (o : Object H) → j ≢ n → object_at (object_set s n o) j ≡ object_at s j
  at_other s zero j o d = refl
  at_other s (suc k) zero o d = refl
  at_other s (suc k) (suc j) o d = got_other s k j o (λ e. d (ap suc e))

  -- what is known where bytes are inside
  pub record IsIn (s : List (Object H)) (p : Address) (width : ℕ) : Type 0 where
    pub object : Object H
    pub stands : object_at s p.object.0 ≡ Some object
    pub fits : p.offset + width ≤ length object.bytes

  pub is_in : (s : List (Object H)) (p : Address) (width : ℕ) → is_inside s p width ≡ true → IsIn s p width
  is_in s p width = go (object_at s p.object.0) refl
    where
      go : (o : Option (Object H)) → object_at s p.object.0 ≡ o → option_map_or (λ x. nat_le (p.offset + width) (length x.bytes)) o false ≡ true → IsIn s p width
      go None e h = absurd (cc)
      go (Some x) e h = record { object = x; stands = e; fits = leb-true _ _ h }

  module _ (s : List (Object H)) (p : Address) (width value : ℕ) (inside : is_inside s p width ≡ true) where
    -- the written object, and the others as they were
    pub here : (i : IsIn s p width) → object_at (write_at s p width value) p.object.0 ≡ Some (written i.object p.offset width value)
    here i = rw i.stands (at_set s p.object.0 (written i.object p.offset width value) i.object i.stands)

    pub there : (j : ℕ) → j ≢ p.object.0 → object_at (write_at s p width value) j ≡ object_at s j
    there j d = let i = is_in s p width inside in rw i.stands (at_other s p.object.0 j (written i.object p.offset width value) d)

    -- what a write doesn't change in its object is told as before, of each object
    looked : {X : Type 0} (look : Option (Object H) → X) → ((o : Object H) → p.offset + width ≤ length o.bytes → look (Some (written o p.offset width value)) ≡ look (Some o))
        → (j : ℕ) → look (object_at (write_at s p width value) j) ≡ look (object_at s j)
    looked look same j = go (cases_eq j p.object.0)
      where
        go : (j ≡ p.object.0) ⊎ (j ≢ p.object.0) → look (object_at (write_at s p width value) j) ≡ look (object_at s j)
        go (inl e) =
            let i = is_in s p width inside in
            rw e (ap look (here i) ∙ same i.object i.fits ∙ ap look (sym i.stands))
        go (inr d) = ap look (there j d)

    long : (o : Object H) → p.offset + width ≤ length o.bytes → length (written o p.offset width value).bytes ≡ length o.bytes
    long o fits = length-put p.offset (little_bytes width (value % 256 ^ width)) o.bytes (rw (length-bytes_low_first 0 width (value % 256 ^ width)) fits)

    pub find-written : (n : ℕ) → find (write_at s p width value) n ≡ find s n
    find-written n = looked (option_map (λ o. record { 0 = n })) (λ o fits. refl) n

    pub handle_of-written : (r : ObjRef) → handle_of (write_at s p width value) r ≡ handle_of s r
    handle_of-written r = looked (option_map (λ o. o.of)) (λ o fits. refl) r.0

    pub length_of-written : (r : ObjRef) → length_of (write_at s p width value) r ≡ length_of s r
    length_of-written r = looked (λ o. option_map_or (λ x. x.count) o 0) (λ o fits. refl) r.0

    pub is_inside-written : (q : Address) (n : ℕ) → is_inside (write_at s p width value) q n ≡ is_inside s q n
    is_inside-written q n = looked (λ o. option_map_or (λ x. nat_le (q.offset + n) (length x.bytes)) o false) (λ o fits. rw (long o fits) refl) q.object.0

    pub kind_at-written : (q : Address) (n : ℕ) → kind_at (write_at s p width value) q n ≡ kind_at s q n
    kind_at-written q n = looked (λ o. option_map_or (λ x. kind_of x q.offset n) o Outside) (λ o fits. rw (long o fits) refl) q.object.0

    -- what was written is read
    pub read_own : read_at (write_at s p width value) p width ≡ value % 256 ^ width
    read_own =
        let i = is_in s p width inside in
        let small : value % 256 ^ width < 256 ^ width = mod-lt value (one-le-pow width 256 (omega arith)) in
        rw (here i) (number_own p.offset width (value % 256 ^ width) i.object.bytes small (omega (arith, i.fits)))

    -- what was not written to is read as before
    pub read_other : (q : Address) (n : ℕ) → AreApart p width q n → read_at (write_at s p width value) q n ≡ read_at s q n
    read_other q n apart = go (cases_eq q.object.0 p.object.0) apart
      where
        beside : (o : Object H) → p.offset + width ≤ length o.bytes → (p.offset + width ≤ q.offset) ⊎ (q.offset + n ≤ p.offset)
            → little_number n (drop q.offset (written o p.offset width value).bytes) ≡ little_number n (drop q.offset o.bytes)
        beside o fits h = number_other p.offset q.offset n (little_bytes width (value % 256 ^ width)) o.bytes (omega arith) (rw (length-bytes_low_first 0 width (value % 256 ^ width)) h)

        go : (q.object.0 ≡ p.object.0) ⊎ (q.object.0 ≢ p.object.0) → AreApart p width q n → read_at (write_at s p width value) q n ≡ read_at s q n
        go (inr d) h = ap (λ o. option_map_or (λ x. little_number n (drop q.offset x.bytes)) o 0) (there q.object.0 d)
        go (inl e) (inl d) = absurd (d (sym e))
        go (inl e) (inr h) = let i = is_in s p width inside in rw (e, here i, i.stands) (beside i.object i.fits h)
