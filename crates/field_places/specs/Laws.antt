-- What users of layouts rely on.
use Rattle.std.specs.Prelude.{◌≡◌, ◌≢◌, ℕ, ◌+◌, ◌≤◌, ◌%◌, Bool, true, false, List, Option, Some}
use Rattle.field_places.specs.declared.shape.Shape.{Shape}
use Rattle.field_places.specs.declared.shape.Arrangement.{Arrangement}
use Rattle.field_places.specs.declared.shape.Arrangement.TheVariants.{Explicit}
use Rattle.field_places.specs.declared.layout.Layout.{Layout}
use Rattle.field_places.specs.declared.layout.Rules.{Rules}
use Rattle.field_places.specs.Layouts.{own_part}
pub use Rattle.field_places.specs.Standing.{Stands, Behind, RefsApart, RefsAligned, IsOwnPart, placed_shapes}

-- no two fields share a byte
abbrev pub Apart : List ℕ → List Shape → Type 0
Apart places ss = (i j p q : ℕ) (s t : Shape) → i ≢ j → Stands places ss i p s → Stands places ss j q t → Behind p s q t

-- each field stands at a multiple of its alignment
abbrev pub Aligned : List ℕ → List Shape → Type 0
Aligned places ss = (i p : ℕ) (s : Shape) → Stands places ss i p s → p % s.align ≡ 0

-- each field stands at or past the begin, and ends by the end
abbrev pub Covered : ℕ → ℕ → List ℕ → List Shape → Type 0
Covered begin end places ss = (i p : ℕ) (s : Shape) → Stands places ss i p s → (begin ≤ p) × (p + s.size ≤ end)

-- ---- of layouts

-- each layout of an own part is so
abbrev pub EachLaid : Rules → ℕ → List (Option ℕ) → List Shape → (Layout → Type 0) → Type 0
EachLaid rules begin offsets ss P = (l : Layout) → own_part rules begin offsets ss ≡ Some l → P l

abbrev pub is_explicit : Arrangement → Bool
is_explicit Explicit = true
is_explicit _ = false

-- the own part begins at `begin`, where a parent ends, and each field lies in it
pub record IsCovered (rules : Rules) (begin : ℕ) (ss : List Shape) (l : Layout) : Type 0 where
  pub fields : Covered begin l.end l.offsets ss
  pub own : begin + rules.least_size ≤ l.end
  pub size : l.end ≤ l.size
  pub few : l.size ≤ 1048576
