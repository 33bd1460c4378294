use Rattle.std.proofs.Common.{ℕ, ◌+◌, ◌∙◌, sym, ap}
use Rattle.clr_base.specs.declared.ids.NameId.{NameId}
use Rattle.core_types.proofs.CoreNames.{member_named}
use Rattle.core_types.proofs.core_parts.member_name.Goals as goal

pub returns : goal.returns
returns c =
    ap (λ (k : ℕ). let id : NameId = record { 0 = 36 + k } in id) c.number.ensures.exact ∙ sym (member_named c.args.name)
