use Rattle.std.proofs.Common.{◌≡◌, ℕ, List, true, Ok, is_some, sym, ◌∙◌, ap, subst}
use Rattle.cli_tables.specs.Layout.{are_tables}
use Rattle.cli_tables.specs.Metadata.{part}
use Rattle.cli_tables.proofs.Reading.{read_whole, same_contents}
use Rattle.cli_tables.proofs.tables.Tables.read.Goals as goal

pub returns : goal.returns
returns c =
    let meta = c.args.meta.now in
    let s = c.in_ok-streams.streams in
    let there : is_some s.tables ≡ true = ap is_some c.in-Some.is in
    let whole : are_tables (part meta s.tables) ≡ true =
    subst (λ (bytes : List ℕ). are_tables bytes ≡ true) c.part_of-tables.ensures (sym c.in-Some-read_layout.ensures.exact) in
    ap Ok (same_contents _ _ _ _ _ _ _ _ c.part_of-tables.ensures c.part_of.ensures c.part_of-2.ensures c.part_of-3.ensures)
    ∙ read_whole meta s (sym c.in_ok-streams.ensures.exact) there whole
