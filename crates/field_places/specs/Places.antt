-- Where fields stand, given what each takes (ECMA-335 II.10.1.2, II.10.7), as numbers that can be reckoned.
use Rattle.std.specs.Prelude.{◌≡◌, ℕ, zero, suc, ◌+◌, ◌-◌, ◌*◌, ◌/◌, ◌%◌, ◌≤◌, max, Bool, true, not, ◌&&◌, ◌||◌, ◌==◌, nat_lt, nat_le, if◌then◌else◌, List, [], ◌∷◌, Option, None, Some}
use Rattle.std.specs.List.{list_all}
use Rattle.field_places.specs.declared.shape.Arrangement.{Arrangement}
use Rattle.field_places.specs.declared.shape.Shape.{Shape}
use Rattle.field_places.specs.declared.explicit.Span.{Span}
use Rattle.field_places.specs.Shapes.{limit, has_refs, rank}

-- the least multiple of `align` that is not below `from`
pub record IsLeast (align from place : ℕ) : Type 0 where
  pub aligned : place % align ≡ 0
  pub above : from ≤ place
  pub least : (m : ℕ) → from ≤ m → m % align ≡ 0 → place ≤ m

-- it, as a number
unfoldable pub least_at : ℕ → ℕ → ℕ
least_at align from = (from + (align - 1)) / align * align

-- ---- in an order

-- where a field ends that has the least place from `at`
abbrev pub end_at : ℕ → Shape → ℕ
end_at at s = least_at s.align at + s.size

-- The chosen fields, in declared order: each has the least place that is aligned and not below the end
-- of the one before, the first not below `at`. Where the last ends.
abbrev pub end_of : (Shape → Bool) → ℕ → List Shape → ℕ
end_of chosen at [] = at
end_of chosen at (s ∷ ss) = if chosen s then end_of chosen (end_at at s) ss else end_of chosen at ss

-- their places among those of all fields; the others keep theirs
abbrev pub placed : (Shape → Bool) → ℕ → List Shape → List ℕ → List ℕ
placed chosen at (s ∷ ss) (p ∷ ps) =
    if chosen s then least_at s.align at ∷ placed chosen (end_at at s) ss ps else p ∷ placed chosen at ss ps
placed chosen at ss ps = ps

abbrev pub has_rank : Arrangement → ℕ → Shape → Bool
has_rank kind r s = rank kind s == r

-- the ranks from r down to 1, one after the other
unfoldable pub end_in_order : Arrangement → ℕ → ℕ → List Shape → ℕ
end_in_order kind zero at ss = at
end_in_order kind (suc r) at ss = end_in_order kind r (end_of (has_rank kind (suc r)) at ss) ss

unfoldable pub in_order : Arrangement → ℕ → ℕ → List Shape → List ℕ → List ℕ
in_order kind zero at ss ps = ps
in_order kind (suc r) at ss ps =
    in_order kind r (end_of (has_rank kind (suc r)) at ss) ss (placed (has_rank kind (suc r)) at ss ps)

-- what is known where the fields of one rank have been placed
pub record PlacesRank (kind : Arrangement) (r begin : ℕ) (ss : List Shape) (old new : List ℕ) (end : ℕ) : Type 0 where
  pub ends : end ≡ end_of (has_rank kind r) begin ss
  pub places : new ≡ placed (has_rank kind r) begin ss old
  pub within : end ≤ 1048576

-- what is known where all fields have been placed
pub record PlacesAll (kind : Arrangement) (begin : ℕ) (ss : List Shape) (old new : List ℕ) (end : ℕ) : Type 0 where
  pub ends : end ≡ end_in_order kind 9 begin ss
  pub places : new ≡ in_order kind 9 begin ss old
  pub within : end ≤ 1048576

-- ---- at places that are given

-- the bytes of a field, and whether it is or holds a reference
abbrev pub span : ℕ → Shape → Span
span p s = record { start = p; end = p + s.size; has_refs = has_refs s }

-- a field at its own place, counted from the begin; None where it has none, or ends past the limit
abbrev pub one_given : ℕ → Option ℕ → Shape → Option Span
one_given begin None s = None
one_given begin (Some p) s = if nat_lt limit (begin + p + s.size) then None else Some (span (begin + p) s)

abbrev pub joined : Option Span → Option (List Span) → Option (List Span)
joined (Some x) (Some more) = Some (x ∷ more)
joined None more = None
joined x None = None

-- each field at its own place, where all have one
abbrev pub given : ℕ → List (Option ℕ) → List Shape → Option (List Span)
given begin (p ∷ ps) (s ∷ ss) = joined (one_given begin p s) (given begin ps ss)
given begin ps ss = Some []

-- a field takes a byte
abbrev pub some_bytes : Span → Bool
some_bytes x = nat_lt x.start x.end

-- two fields share no byte, or neither is or holds a reference
abbrev pub apart : Span → Span → Bool
apart x y = nat_le x.end y.start || nat_le y.end x.start || not (x.has_refs || y.has_refs)

abbrev pub all_apart : List Span → Bool
all_apart [] = true
all_apart (x ∷ xs) = list_all (apart x) xs && all_apart xs

-- A field begins no earlier than these ends: that of the fields before with references and, where it
-- has references itself, that of all before.
abbrev pub free : ℕ → ℕ → Span → Bool
free end end_of_refs x = not (nat_lt x.start end_of_refs || (x.has_refs && nat_lt x.start end))

-- what is or holds a reference stands at a multiple of 8
abbrev pub is_aligned : Span → Bool
is_aligned x = not x.has_refs || x.start % 8 == 0

-- the greatest end, and at least `from`
abbrev pub last_end : ℕ → List Span → ℕ
last_end from [] = from
last_end from (x ∷ xs) = last_end (max from x.end) xs
