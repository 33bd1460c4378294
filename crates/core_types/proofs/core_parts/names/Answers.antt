use Rattle.std.proofs.Common.{◌≡◌, ℕ, ◌∙◌, ap, ap₂, map, length, arith}
use Rattle.std.specs.Str.{bytes_eq}
use Rattle.std.specs.List.{range_with_len}
use Rattle.std.proofs.lemmas.List.FromFn.{length-map-range_with_len}
use Rattle.core_types.specs.CoreTable.{text}
use Rattle.core_types.specs.Names.{with_one}
use Rattle.core_types.proofs.CoreNames.{names_listed, name_more}
use Rattle.core_types.proofs.core_parts.names.Goals as goal

pub number-requires : goal.number-requires
number-requires c =
    let few = ap length c.loop-number.invariant ∙ length-map-range_with_len text 0 c.loop-number.number in omega arith

pub loop-number-preserved : goal.loop-number-preserved
loop-number-preserved c =
    c.in_ok-_number.ensures.kept ∙ ap₂ (with_one bytes_eq) c.loop-number.invariant c.core_name.ensures
    ∙ name_more c.loop-number.number (omega arith)

pub returns : goal.returns
returns c =
    let all : c.loop-number.number ≡ 52 = omega arith in
    c.loop-number.invariant ∙ ap (λ (n : ℕ). map text (range_with_len 0 n)) all ∙ names_listed
