use Rattle.std.proofs.Common.{Ok, sym, ap, ◌∙◌}
use Rattle.cli_tables.specs.Heaps.{text_of}
use Rattle.cli_tables.proofs.Texts.{good_text, bad_text}
use Rattle.cli_tables.proofs.heaps.string_in.Goals as goal

pub returns-in-Ok : goal.returns-in-Ok
returns-in-Ok c =
    ap text_of (sym c.in-Some.ensures) ∙ good_text c.in-Some.bytes.now c.in-Ok.ensures.cases.1 ∙ ap Ok (sym c.in-Ok.ensures.cases.0)

pub returns-in-Err : goal.returns-in-Err
returns-in-Err c = ap text_of (sym c.in-Some.ensures) ∙ bad_text c.in-Some.bytes.now c.in-Err.ensures.cases.0
