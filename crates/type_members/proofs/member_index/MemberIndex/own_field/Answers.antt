use Rattle.std.proofs.Common.{◌≡◌, ℕ, List, Some, slice_get, sym, ap, ◌∙◌}
use Rattle.std.specs.List.{find}
use Rattle.std.specs.Option.{option_map}
use Rattle.type_members.specs.MemberIndexes.{has_type, field_names}
use Rattle.type_members.specs.MemberTable.{field_id}
use Rattle.type_members.proofs.MemberGroupLists.{groups_at}
use Rattle.type_members.proofs.MemberFinds.{field_found, field_of_run, field_of_none}
use Rattle.type_members.proofs.member_index.MemberIndex.own_field.Goals as goal

pub returns-in-None : goal.returns-in-None
returns-in-None c = field_of_none c.args.members.now c.args.def c.args.name c.args.ty.now (sym c.in-None.ensures.value)

pub returns-in-Some-Some : goal.returns-in-Some-Some
returns-in-Some-Some c =
    let w = c.args.members.now in
    let r = c.in-Some.run'.now in
    let g = c.in-Some-Some.groups in
    let run : slice_get w.runs c.args.def ≡ Some r = sym c.in-Some.ensures.value in
    let own : slice_get c.args.self.now.fields c.args.def ≡ Some (Some g) = sym c.in-Some-Some.ensures.value ∙ ap Some c.in-Some-Some.field-0-is in
    c.first_field.ensures
    ∙ ap (λ (xs : List ℕ). option_map field_id (find (has_type w c.args.ty.now) xs)) c.named.ensures
    ∙ ap (option_map field_id) (field_found w r g (groups_at (λ r. r.first_field) (λ r. r.fields) (field_names w) w.runs c.args.self.now.fields c.requires.fields c.args.def r g run own) c.args.name c.args.ty.now)
    ∙ field_of_run w c.args.def r c.args.name c.args.ty.now run

pub returns-in_default : goal.returns-in_default
returns-in_default c =
    c.field_in_run.ensures
    ∙ field_of_run c.args.members.now c.args.def c.in-Some.run'.now c.args.name c.args.ty.now (sym c.in-Some.ensures.value)
