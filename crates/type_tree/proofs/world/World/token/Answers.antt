use Rattle.std.proofs.Common.{◌≡◌, ◌/◌, ◌%◌, sym, Some}
use Rattle.type_tree.specs.Tokens.{file_at}
use Rattle.type_tree.specs.Whole.{IsWhole}
use Rattle.type_tree.proofs.TokenLemmas.{token_good}
use Rattle.type_tree.proofs.WholeLemmas.{file_fits_at, numbered}
use Rattle.type_tree.proofs.world.World.token.Goals as goal

pub row_token-requires : goal.row_token-requires
row_token-requires c =
    let whole : IsWhole c.args.self.now = rw c.self.view_is at c.self.invariant in
    let here : file_at c.args.self.now.files c.args.file ≡ Some c.in_ok-file.file.now = rw (← c.self.view_is, ← c.as_slice.ensures) (sym c.in_ok-file.ensures) in
    numbered c.args.self.now _ whole (file_fits_at c.args.self.now c.args.file _ whole here)

pub returns-clause-fits : goal.returns-clause-fits
returns-clause-fits c =
    let whole : IsWhole c.args.self.now = rw c.self.view_is at c.self.invariant in
    let here : file_at c.args.self.now.files c.args.file ≡ Some c.in_ok-file.file.now = rw (← c.self.view_is, ← c.as_slice.ensures) (sym c.in_ok-file.ensures) in
    rw c.row_token.ensures (token_good c.args.self.now c.args.file (c.args.token / 16777216) (c.args.token % 16777216) _ whole here)
