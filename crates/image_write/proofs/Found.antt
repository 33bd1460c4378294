-- A part stands at a place of a list, and numbers are read back where they stand.
use Rattle.std.proofs.Common.{◌≡◌, ℕ, zero, suc, ◌+◌, ◌-◌, ◌^◌, ◌<◌, ◌≤◌, List, [], ◌∷◌, ◌++◌, length, take, drop, get_or, slice_range, Bool, true, ◌&&◌, nat_le, refl, sym, ◌∙◌, ap, ap₂, subst, arith, append_assoc, length-append, ◌⊎◌, inl, inr}
use Rattle.std.proofs.lemmas.Bool.{leb-true}
use Rattle.std.proofs.lemmas.List.{append-nil, take_at, drop_at, take_rest}
use Rattle.byteorder.specs.Endian.{little_number}
use Rattle.byteorder.specs.Numbers.{little_number-reads_back}
use Rattle.clr_base.specs.LittleEndian.{number_at}
use Rattle.clr_base.proofs.Numbers.{number_behind}
use Rattle.cli_tables.specs.Layout.{sum_below}
use Rattle.cli_tables.proofs.SchemaFacts.{first_of_both, last_of_both}
use Rattle.image_write.specs.declared.pieces.Field.{Field}
use Rattle.image_write.specs.Pieces.{bytes_of, zeros, structure, joined}
use Rattle.image_write.proofs.WrittenLengths.{length-joined, length-bytes_of, length-zeros}

pub record At (whole : List ℕ) (place : ℕ) (part : List ℕ) : Type 0 where
  pub before : List ℕ
  pub rest : List ℕ
  pub is : whole ≡ before ++ (part ++ rest)
  pub at : length before ≡ place

pub at_whole : (xs : List ℕ) → At xs 0 xs
at_whole xs = record { before = []; rest = []; is = sym (append-nil xs); at = refl }

pub at_front : (xs more : List ℕ) → At (xs ++ more) 0 xs
at_front xs more = record { before = []; rest = more; is = refl; at = refl }

pub at_more : (whole part more : List ℕ) (p : ℕ) → At whole p part → At (whole ++ more) p part
at_more whole part more p a = record {
  before = a.before;
  rest = a.rest ++ more;
  is = ap (λ (z : List ℕ). z ++ more) a.is ∙ append_assoc a.before (part ++ a.rest) more ∙ ap (λ (z : List ℕ). a.before ++ z) (append_assoc part a.rest more);
  at = a.at;
}

pub at_behind : (front whole part : List ℕ) (p : ℕ) → At whole p part → At (front ++ whole) (length front + p) part
at_behind front whole part p a = record {
  before = front ++ a.before;
  rest = a.rest;
  is = ap (λ (z : List ℕ). front ++ z) a.is ∙ sym (append_assoc front a.before (part ++ a.rest));
  at = length-append front a.before ∙ ap (λ (n : ℕ). length front + n) a.at;
}

pub at_inside : (whole part small : List ℕ) (p q : ℕ) → At whole p part → At part q small → At whole (p + q) small
at_inside whole part small p q a b = record {
  before = a.before ++ b.before;
  rest = b.rest ++ a.rest;
  is =
      a.is
      ∙ ap (λ (z : List ℕ). a.before ++ (z ++ a.rest)) b.is
      ∙ ap (λ (z : List ℕ). a.before ++ z) (append_assoc b.before (small ++ b.rest) a.rest ∙ ap (λ (z : List ℕ). b.before ++ z) (append_assoc small b.rest a.rest))
      ∙ sym (append_assoc a.before b.before (small ++ (b.rest ++ a.rest)));
  at = length-append a.before b.before ∙ ap₂ (λ (m n : ℕ). m + n) a.at b.at;
}

pub at_place : (whole part : List ℕ) (p q : ℕ) → p ≡ q → At whole p part → At whole q part
at_place whole part p q e a = subst (λ (n : ℕ). At whole n part) e a

below_or_last : (k n : ℕ) → k < suc n → (k < n) ⊎ (k ≡ n)
below_or_last k n h = grind arith

pub at_joined : (f : ℕ → List ℕ) (n k : ℕ) → k < n → At (joined n f) (sum_below (λ j. length (f j)) k) (f k)
unfolding joined
at_joined f zero k within = absurd (omega arith)
at_joined f (suc n) k within =
    elim (below_or_last k n within) [
      | inl below ↦ at_more (joined n f) (f k) (f n) _ (at_joined f n k below)
      | inr last ↦
          let here = at_behind (joined n f) (f n) (f n) 0 (at_whole (f n)) in
          let place : length (joined n f) + 0 ≡ sum_below (λ j. length (f j)) n = omega (arith, length-joined f n) in
          subst (λ (m : ℕ). At (joined n f ++ f n) (sum_below (λ j. length (f j)) m) (f m)) (sym last)
          (at_place (joined n f ++ f n) (f n) _ _ place here)
    ]

-- what stands at a place is what is left of the list there
pub rest_at : (whole part : List ℕ) (p : ℕ) (a : At whole p part) → drop p whole ≡ part ++ a.rest
rest_at whole part p a = ap (λ (z : List ℕ). drop p z) a.is ∙ drop_at a.before (part ++ a.rest) p a.at

pub number_found : (whole : List ℕ) (p n x : ℕ) → At whole p (bytes_of n x) → x < 256 ^ n → number_at n whole p ≡ x
unfolding bytes_of
number_found whole p n x a fits =
    sym (number_behind n p whole)
    ∙ ap (little_number n) (take_rest whole p ∙ rest_at whole (bytes_of n x) p a)
    ∙ little_number-reads_back n x a.rest fits

pub at_within : (whole part : List ℕ) (p : ℕ) → At whole p part → p + length part ≤ length whole
at_within whole part p a =
    let all = ap (λ (z : List ℕ). length z) a.is in
    let front = length-append a.before (part ++ a.rest) in
    let back = length-append part a.rest in
    omega (arith, all, front, back, a.at)

pub range_found : (whole part : List ℕ) (p n : ℕ) → At whole p part → length part ≡ n → slice_range whole p (p + n) ≡ part
range_found whole part p n a len =
    let count : p + n - p ≡ n = omega arith in
    ap (λ (m : ℕ). take m (drop p whole)) count ∙ ap (take n) (rest_at whole part p a) ∙ take_at part a.rest n len

-- the fields of a structure stand one behind the other
unfoldable pub ordered : ℕ → List Field → Bool
ordered from [] = true
ordered from (f ∷ fs) = nat_le from f.at && ordered (f.at + f.width) fs

ordered_from : (from : ℕ) (fs : List Field) (i : ℕ) (d : Field) → ordered from fs ≡ true → i < length fs → from ≤ (get_or fs i d).at
unfolding ordered
ordered_from from [] i d order within = absurd (omega arith)
ordered_from from (f ∷ fs) zero d order within = leb-true _ _ (first_of_both (nat_le from f.at) (ordered (f.at + f.width) fs) order)
ordered_from from (f ∷ fs) (suc i) d order within =
    let here = leb-true _ _ (first_of_both (nat_le from f.at) (ordered (f.at + f.width) fs) order) in
    let later = ordered_from (f.at + f.width) fs i d (last_of_both (nat_le from f.at) (ordered (f.at + f.width) fs) order) (omega arith) in
    omega arith

at_field_from : (from end : ℕ) (fs : List Field) (i : ℕ) (d : Field) → ordered from fs ≡ true → i < length fs
    → At (structure from end fs) ((get_or fs i d).at - from) (bytes_of (get_or fs i d).width (get_or fs i d).value)
unfolding ordered structure
at_field_from from end [] i d order within = absurd (omega arith)
at_field_from from end (f ∷ fs) zero d order within =
    let rest : List ℕ = structure (f.at + f.width) end fs in
    let gap : List ℕ = zeros (f.at - from) in
    let place : length gap + 0 ≡ f.at - from = omega (arith, length-zeros (f.at - from)) in
    at_place _ _ _ _ place (at_behind gap (bytes_of f.width f.value ++ rest) (bytes_of f.width f.value) 0 (at_front (bytes_of f.width f.value) rest))
at_field_from from end (f ∷ fs) (suc i) d order within =
    let rest : List ℕ = structure (f.at + f.width) end fs in
    let gap : List ℕ = zeros (f.at - from) in
    let g : Field = get_or fs i d in
    let here = leb-true _ _ (first_of_both (nat_le from f.at) (ordered (f.at + f.width) fs) order) in
    let order' = last_of_both (nat_le from f.at) (ordered (f.at + f.width) fs) order in
    let within' : i < length fs = omega arith in
    let later = ordered_from (f.at + f.width) fs i d order' within' in
    let inner = at_field_from (f.at + f.width) end fs i d order' within' in
    let place : length gap + (length (bytes_of f.width f.value) + (g.at - (f.at + f.width))) ≡ g.at - from =
    omega (arith, length-zeros (f.at - from), length-bytes_of f.width f.value, later, here) in
    at_place _ _ _ _ place
    (at_behind gap (bytes_of f.width f.value ++ rest) (bytes_of g.width g.value) _
    (at_behind (bytes_of f.width f.value) rest (bytes_of g.width g.value) _ inner))

pub at_field : (end : ℕ) (fs : List Field) (i : ℕ) (d : Field) → ordered 0 fs ≡ true → i < length fs
    → At (structure 0 end fs) (get_or fs i d).at (bytes_of (get_or fs i d).width (get_or fs i d).value)
at_field end fs i d order within =
    let place : (get_or fs i d).at - 0 ≡ (get_or fs i d).at = omega arith in
    at_place _ _ _ _ place (at_field_from 0 end fs i d order within)
