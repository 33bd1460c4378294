-- The layout of an own part as it is told (ECMA-335 II.10.1.2, II.10.7): which place each field has, and why no other.
use Rattle.std.specs.Prelude.{◌≡◌, ◌≢◌, ℕ, ◌+◌, ◌≤◌, ◌<◌, ◌%◌, ◌⊎◌, max, true, if◌then◌else◌, List, length, Option, Some, slice_get}
use Rattle.field_places.specs.declared.shape.Shape.{Shape}
use Rattle.field_places.specs.declared.shape.Arrangement.{Arrangement}
use Rattle.field_places.specs.declared.shape.Arrangement.TheVariants.{Sequential, Explicit}
use Rattle.field_places.specs.declared.layout.Layout.{Layout}
use Rattle.field_places.specs.declared.layout.Rules.{Rules}
use Rattle.field_places.specs.Shapes.{has_refs, any_refs, arrangement, packed, falling}
use Rattle.field_places.specs.Places.{least_at}
use Rattle.field_places.specs.Layouts.{greatest_align}

-- the i-th field stands at p and takes s
pub record Stands (places : List ℕ) (ss : List Shape) (i p : ℕ) (s : Shape) : Type 0 where
  pub at : slice_get places i ≡ Some p
  pub takes : slice_get ss i ≡ Some s

-- one ends before the other begins
abbrev pub Behind : ℕ → Shape → ℕ → Shape → Type 0
Behind p s q t = (p + s.size ≤ q) ⊎ (q + t.size ≤ p)

-- ---- in the kind's order

-- The i-th field, which takes s, comes before the j-th, which takes t: in declared order where it is sequential;
-- else references come first, then fields by falling alignment, and those that are alike in declared order.
abbrev pub Before : Arrangement → ℕ → Shape → ℕ → Shape → Type 0
Before Sequential i s j t = i < j
Before _ i s j t = (falling t < falling s) ⊎ ((falling s ≡ falling t) × (i < j))

-- a place that is aligned for the j-th field, and not below the begin nor below the end of any field before it
pub record IsFree (kind : Arrangement) (begin : ℕ) (places : List ℕ) (ss : List Shape) (j : ℕ) (t : Shape) (place : ℕ) : Type 0 where
  pub aligned : place % t.align ≡ 0
  pub above : begin ≤ place
  pub behind : (i p : ℕ) (s : Shape) → Stands places ss i p s → Before kind i s j t → p + s.size ≤ place

-- each field stands at the least of these
pub record StandLeast (kind : Arrangement) (begin : ℕ) (ss : List Shape) (places : List ℕ) : Type 0 where
  pub as_long : length places ≡ length ss
  pub free : (j q : ℕ) (t : Shape) → Stands places ss j q t → IsFree kind begin places ss j t q
  pub least : (j q m : ℕ) (t : Shape) → Stands places ss j q t → IsFree kind begin places ss j t m → q ≤ m

-- ---- at offsets that are given

-- no field that is or holds a reference shares a byte with another
abbrev pub RefsApart : List ℕ → List Shape → Type 0
RefsApart places ss = (i j p q : ℕ) (s t : Shape) → i ≢ j → Stands places ss i p s → Stands places ss j q t → has_refs s ≡ true → Behind p s q t

-- what is or holds a reference stands at a multiple of 8
abbrev pub RefsAligned : List ℕ → List Shape → Type 0
RefsAligned places ss = (i p : ℕ) (s : Shape) → Stands places ss i p s → has_refs s ≡ true → p % 8 ≡ 0

-- the i-th field has an offset, and p is as far behind the begin
abbrev pub IsGiven : ℕ → List (Option ℕ) → ℕ → ℕ → Type 0
IsGiven begin offsets i p = (offset : ℕ) × (slice_get offsets i ≡ Some (Some offset)) × (p ≡ begin + offset)

-- each field stands at its own offset
pub record StandGiven (begin : ℕ) (offsets : List (Option ℕ)) (ss : List Shape) (places : List ℕ) : Type 0 where
  pub as_long : length places ≡ length ss
  pub given : (i p : ℕ) (s : Shape) → Stands places ss i p s → IsGiven begin offsets i p
  pub apart : RefsApart places ss
  pub aligned : RefsAligned places ss

-- ---- the own part

abbrev pub StandBy : Arrangement → ℕ → List (Option ℕ) → List Shape → List ℕ → Type 0
StandBy Explicit begin offsets ss places = StandGiven begin offsets ss places
StandBy kind begin offsets ss places = StandLeast kind begin ss places

-- the least number that is not below `from` nor below the end of a field
pub record IsEnd (from : ℕ) (places : List ℕ) (ss : List Shape) (end : ℕ) : Type 0 where
  pub above : from ≤ end
  pub covers : (i p : ℕ) (s : Shape) → Stands places ss i p s → p + s.size ≤ end
  pub least : (m : ℕ) → from ≤ m → ((i p : ℕ) (s : Shape) → Stands places ss i p s → p + s.size ≤ m) → end ≤ m

-- the shapes as they are placed, with alignments that the packing limits
abbrev pub placed_shapes : Rules → List Shape → List Shape
placed_shapes rules ss = packed (arrangement (any_refs ss) rules.arrangement) rules.packing ss

-- The layout of an own part that begins at `begin`. There is none where a field has no offset, where one that is or
-- holds a reference shares a byte with another or stands unaligned, and where the end or the size passes the limit.
pub record IsOwnPart (rules : Rules) (begin : ℕ) (offsets : List (Option ℕ)) (ss : List Shape) (l : Layout) : Type 0 where
  pub places : StandBy (arrangement (any_refs ss) rules.arrangement) begin offsets (placed_shapes rules ss) l.offsets
  pub end : IsEnd (begin + rules.least_size) l.offsets (placed_shapes rules ss) l.end
  pub align : l.align ≡ (if rules.value then greatest_align (placed_shapes rules ss) else 8)
  pub size : l.size ≡ max (least_at l.align l.end) (if rules.value then 1 else 0)
  pub refs : l.has_refs ≡ any_refs ss
  pub few : l.size ≤ 1048576
