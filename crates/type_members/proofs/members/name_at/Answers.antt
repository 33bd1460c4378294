use Rattle.std.proofs.Common.{◌-◌, ◌∙◌, ap}
use Rattle.std.specs.List.{slice_get}
use Rattle.std.specs.Option.{unwrap_or}
use Rattle.std.proofs.lemmas.Option.{unwrap_or-slice_get}
use Rattle.type_members.specs.Trees.{empty_name}
use Rattle.type_members.proofs.members.name_at.Goals as goal

pub returns : goal.returns
returns c =
    c.unwrap_or.ensures
    ∙ ap (λ name. unwrap_or name empty_name) (c.copied-name.ensures ∙ c.at.ensures ∙ ap (slice_get c.args.names.now) c.saturating_sub.ensures)
    ∙ unwrap_or-slice_get c.args.names.now (c.args.row - 1) empty_name
