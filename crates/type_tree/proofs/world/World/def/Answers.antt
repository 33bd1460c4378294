use Rattle.std.proofs.Common.{◌≡◌, slice_get, Some}
use Rattle.type_tree.specs.Whole.{IsWhole}
use Rattle.type_tree.proofs.WholeLemmas.{def_fits_at}
use Rattle.type_tree.proofs.world.World.def.Goals as goal

pub returns-clause-fits : goal.returns-clause-fits
returns-clause-fits c =
    let whole : IsWhole c.args.self.now = rw c.self.view_is at c.self.invariant in
    let here : slice_get c.args.self.now.defs c.args.id.0 ≡ Some c.nth.result.now = rw (← c.self.view_is, ← c.as_slice.ensures) c.nth.ensures in
    def_fits_at c.args.self.now c.args.id.0 _ whole here
