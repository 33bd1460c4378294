use Rattle.std.proofs.Common.{◌≡◌, ◌∙◌, ap, slice_get, Some}
use Rattle.type_tree.specs.Whole.{IsWhole}
use Rattle.type_tree.proofs.WholeLemmas.{bodies_many, place_fits_at}
use Rattle.type_tree.proofs.world.World.body.Goals as goal

pub nth-place-requires : goal.nth-place-requires
nth-place-requires c =
    let whole : IsWhole c.args.self.now = rw c.self.view_is at c.self.invariant in
    rw (c.as_slice.ensures, c.self.view_is, bodies_many c.args.self.now whole) c.requires

pub bytes_at-requires : goal.bytes_at-requires
bytes_at-requires c =
    let here : slice_get c.self.inside.parts.bodies c.args.id.0 ≡ Some (Some c.in-Some.place) = rw (← c.as_slice.ensures) (c.nth-place.ensures ∙ ap Some c.in-Some.is) in
    rw c.as_slice-in-Some.ensures (place_fits_at c.self.inside.parts c.args.id.0 _ c.self.invariant here)
