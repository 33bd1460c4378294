use Rattle.std.proofs.Common.{◌∙◌, ap}
use Rattle.std.specs.List.{slice_get}
use Rattle.std.specs.Option.{unwrap_or}
use Rattle.std.proofs.lemmas.Option.{unwrap_or-slice_get}
use Rattle.type_members.proofs.member_index.generic_count.Goals as goal

pub returns : goal.returns
returns c =
    c.unwrap_or.ensures
    ∙ ap (λ count. unwrap_or count 0) (c.copied.ensures ∙ c.at.ensures ∙ ap (λ counts. slice_get counts c.args.method) c.as_slice.ensures)
    ∙ unwrap_or-slice_get c.args.members.now.generics c.args.method 0
