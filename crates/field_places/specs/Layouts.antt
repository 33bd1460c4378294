-- The own part of a type as a number for each field: where its own instance fields stand, where they end, and how large
-- it is. `Standing` says what a layout is, and the law `fields_stand_least` that this is it and nothing else.
use Rattle.std.specs.Prelude.{ℕ, ◌+◌, max, Bool, ◌&&◌, nat_lt, if◌then◌else◌, List, [], ◌∷◌, map, length, replicate, Option, None, Some}
use Rattle.std.specs.List.{list_all}
use Rattle.field_places.specs.declared.shape.Shape.{Shape}
use Rattle.field_places.specs.declared.shape.Arrangement.{Arrangement}
use Rattle.field_places.specs.declared.shape.Arrangement.TheVariants.{Explicit}
use Rattle.field_places.specs.declared.explicit.Span.{Span}
use Rattle.field_places.specs.declared.layout.Layout.{Layout}
use Rattle.field_places.specs.declared.layout.Places.{Places}
use Rattle.field_places.specs.declared.layout.Rules.{Rules}
use Rattle.field_places.specs.Shapes.{limit, any_refs, arrangement, packed}
use Rattle.field_places.specs.Places.{least_at, in_order, end_in_order, given, all_apart, is_aligned, last_end}

-- references share no byte with another field and are aligned
abbrev pub judged : ℕ → Option (List Span) → Option Places
judged begin None = None
judged begin (Some xs) =
    if all_apart xs && list_all is_aligned xs then Some (record { offsets = map (λ x. x.start) xs; end = last_end begin xs }) else None

-- None where the last ends past the limit
abbrev pub ordered : Arrangement → ℕ → List Shape → Option Places
ordered kind begin ss =
    if nat_lt limit (end_in_order kind 9 begin ss) then None
    else Some (record { offsets = in_order kind 9 begin ss (replicate (length ss) 0); end = end_in_order kind 9 begin ss })

abbrev pub own_places : Arrangement → ℕ → List (Option ℕ) → List Shape → Option Places
own_places Explicit begin places ss = judged begin (given begin places ss)
own_places kind begin places ss = ordered kind begin ss

-- the greatest alignment of fields, and at least 1
abbrev pub greatest_align : List Shape → ℕ
greatest_align [] = 1
greatest_align (s ∷ ss) = max s.align (greatest_align ss)

-- A value type is aligned to the greatest alignment of its fields, and takes at least 1 byte. A class
-- is aligned to 8. The size is the end rounded up; there is no layout where it passes the limit, and
-- the end is never past it.
abbrev pub sized : Bool → List ℕ → ℕ → ℕ → Bool → Option Layout
sized value places end align refs =
    let size = max (least_at align end) (if value then 1 else 0) in
    if nat_lt limit size then None else Some (record { offsets = places; end = end; size = size; align = align; has_refs = refs })

abbrev pub kind_of : Rules → List Shape → Arrangement
kind_of rules ss = arrangement (any_refs ss) rules.arrangement

abbrev pub finished : Rules → ℕ → Bool → List Shape → Option Places → Option Layout
finished rules begin refs ss None = None
finished rules begin refs ss (Some p) =
    sized rules.value p.offsets (max p.end (begin + rules.least_size)) (if rules.value then greatest_align ss else 8) refs

-- the own part of a type that begins at `begin`, which goes on at least as far as its class size tells
unfoldable pub own_part : Rules → ℕ → List (Option ℕ) → List Shape → Option Layout
own_part rules begin places ss =
    let kind = arrangement (any_refs ss) rules.arrangement in
    let fields = packed kind rules.packing ss in
    finished rules begin (any_refs ss) fields (own_places kind begin places fields)
