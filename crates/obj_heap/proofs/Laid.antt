-- Objects that stand one behind the other in one list of bytes.
use Rattle.std.proofs.Common.{◌≡◌, ℕ, suc, ◌+◌, ◌*◌, ◌<◌, ◌≤◌, eqb-true, Bool, true, List, [], ◌∷◌, ◌++◌, length, drop, refl, ap, arith, length-drop}
use Rattle.std.proofs.lemmas.Bool.{and_parts}
use Rattle.std.proofs.lemmas.Grind.{common_steps}
use Rattle.std.proofs.lemmas.List.{take-append-le, drop-append-le, take_all, nil_from_length, length-take}
use borrow.Author.Tests.{ltb-true}
use Rattle.obj_heap.specs.declared.made.Made.{Made}
use Rattle.obj_heap.specs.Calls.{total}
use Rattle.obj_heap.specs.Laying.{objects_of, are_laid}

pub none_is : (H : Type 0) (first end : ℕ) → are_laid {H = H} first [] end ≡ true → first ≡ end
unfolding are_laid
none_is H first end h = eqb-true first end h

module _ {H : Type 0} where
  -- the first object begins at the first word, and the others are laid behind it
  pub record IsFirst (first : ℕ) (m : Made H) (ms : List (Made H)) (end : ℕ) : Type 0 where
    pub begins : m.first ≡ first
    pub some : 0 < m.words
    pub rest : are_laid (first + m.words) ms end ≡ true

  pub first_is : (first : ℕ) (m : Made H) (ms : List (Made H)) (end : ℕ) → are_laid first (m ∷ ms) end ≡ true → IsFirst first m ms end
  unfolding are_laid
  first_is first m ms end h =
      let a = and_parts _ _ h in
      let b = and_parts _ _ a.1 in
      record { begins = eqb-true m.first first a.0; some = ltb-true 0 m.words b.0; rest = b.1 }

  -- the end is behind the beginning, and each object takes a word at least
  pub end_behind : (first : ℕ) (ms : List (Made H)) (end : ℕ) → are_laid first ms end ≡ true → first + length ms ≤ end
  end_behind first [] end h = let e = none_is H first end h in omega (arith, e)
  end_behind first (m ∷ ms) end h =
      let f = first_is first m ms end h in
      let more = end_behind (first + m.words) ms end f.rest in
      omega (arith, f.some, more)

  -- one more at the end
  pub laid_more : (first : ℕ) (ms : List (Made H)) (end : ℕ) (m : Made H) → are_laid first ms end ≡ true → m.first ≡ end → 0 < m.words → are_laid first (ms ++ m ∷ []) (end + m.words) ≡ true
  unfolding are_laid
  laid_more first [] end m h e some = let s = none_is H first end h in grind (arith, common_steps)
  laid_more first (n ∷ ms) end m h e some =
      let f = first_is first n ms end h in
      let more = laid_more (first + n.words) ms end m f.rest e some in
      let begins = f.begins in
      let one = f.some in
      grind (arith, common_steps, more)

  pub length-objects_of : (ms : List (Made H)) (bs : List ℕ) (rs : List Bool) → length (objects_of ms bs rs) ≡ length ms
  unfolding objects_of
  length-objects_of [] bs rs = refl
  length-objects_of (m ∷ ms) bs rs = ap suc (length-objects_of ms (drop (8 * m.words) bs) (drop m.words rs))

  -- ---- what a new object changes

  pub total-objects_of : (first : ℕ) (ms : List (Made H)) (bs : List ℕ) (rs : List Bool) → are_laid first ms (first + length rs) ≡ true → length bs ≡ 8 * length rs → total (objects_of ms bs rs) ≡ length bs
  unfolding objects_of total
  total-objects_of first [] bs rs h eights = let e = none_is H first (first + length rs) h in omega (arith, e, eights)
  total-objects_of first (m ∷ ms) bs rs h eights =
      let f = first_is first m ms (first + length rs) h in
      let behind = end_behind (first + m.words) ms (first + length rs) f.rest in
      let low : m.words ≤ length rs = omega (arith, behind) in
      let end : first + length rs ≡ first + m.words + length (drop m.words rs) = omega (arith, length-drop m.words rs, low) in
      let more = total-objects_of (first + m.words) ms (drop (8 * m.words) bs) (drop m.words rs) (rw end at f.rest) (omega (arith, length-drop m.words rs, length-drop (8 * m.words) bs, eights, low)) in
      omega (arith, more, length-take (8 * m.words) bs, length-drop (8 * m.words) bs, eights, low)

  pub objects_of-append : (first : ℕ) (ms : List (Made H)) (bs : List ℕ) (rs : List Bool) (m : Made H) (b : List ℕ) (r : List Bool)
      → are_laid first ms (first + length rs) ≡ true → length bs ≡ 8 * length rs → length b ≡ 8 * m.words → length r ≡ m.words
      → objects_of (ms ++ m ∷ []) (bs ++ b) (rs ++ r) ≡ objects_of ms bs rs ++ record { of = m.of; count = m.count; bytes = b; refs = r } ∷ []
  unfolding objects_of
  objects_of-append first [] bs rs m b r h eights lb lr =
      let e = none_is H first (first + length rs) h in
      let nrs : rs ≡ [] = nil_from_length rs (omega (arith, e)) in
      let nbs : bs ≡ [] = nil_from_length bs (omega (arith, e, eights)) in
      rw (nrs, nbs, take_all (8 * m.words) b (omega (arith, lb)), take_all m.words r (omega (arith, lr))) refl
  objects_of-append first (n ∷ ms) bs rs m b r h eights lb lr =
      let f = first_is first n ms (first + length rs) h in
      let behind = end_behind (first + n.words) ms (first + length rs) f.rest in
      let low : n.words ≤ length rs = omega (arith, behind) in
      let end : first + length rs ≡ first + n.words + length (drop n.words rs) = omega (arith, length-drop n.words rs, low) in
      let more = objects_of-append (first + n.words) ms (drop (8 * n.words) bs) (drop n.words rs) m b r (rw end at f.rest) (omega (arith, length-drop n.words rs, length-drop (8 * n.words) bs, eights, low)) lb lr in
      let long : 8 * n.words ≤ length bs = omega (arith, low, eights) in
      rw (take-append-le (8 * n.words) bs b, take-append-le n.words rs r, drop-append-le (8 * n.words) bs b, drop-append-le n.words rs r, more) refl
