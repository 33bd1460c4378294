use Rattle.std.proofs.Common.{◌≡◌, sym, Some}
use Rattle.type_tree.specs.Tokens.{file_at}
use Rattle.type_tree.specs.Whole.{IsWhole}
use Rattle.type_tree.proofs.TokenLemmas.{locals_good}
use Rattle.type_tree.proofs.world.World.locals.Goals as goal

pub returns-clause-fits : goal.returns-clause-fits
returns-clause-fits c =
    let whole : IsWhole c.args.self.now = rw c.self.view_is at c.self.invariant in
    let here : file_at c.args.self.now.files c.args.file ≡ Some c.in_ok-file.file.now = rw (← c.self.view_is, ← c.as_slice.ensures) (sym c.in_ok-file.ensures) in
    rw c.row_locals.ensures (locals_good c.args.self.now c.args.file c.args.row _ whole here)
