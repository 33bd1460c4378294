use Rattle.std.proofs.Common.{◌≡◌, ℕ, List, Some, slice_get, sym, ap, ◌∙◌}
use Rattle.std.specs.List.{find}
use Rattle.std.specs.Option.{option_map}
use Rattle.type_members.specs.MemberIndexes.{is_wanted, method_names}
use Rattle.type_members.specs.MemberTable.{method_id}
use Rattle.type_members.proofs.MemberGroupLists.{groups_at}
use Rattle.type_members.proofs.MemberFinds.{method_found, method_of_run, method_of_none}
use Rattle.type_members.proofs.member_index.MemberIndex.own_method.Goals as goal

pub returns-in-None : goal.returns-in-None
returns-in-None c = method_of_none c.args.members.now c.args.def c.args.name c.args.wanted.now (sym c.in-None.ensures.value)

pub returns-in-Some-Some : goal.returns-in-Some-Some
returns-in-Some-Some c =
    let w = c.args.members.now in
    let r = c.in-Some.run'.now in
    let g = c.in-Some-Some.groups in
    let run : slice_get w.runs c.args.def ≡ Some r = sym c.in-Some.ensures.value in
    let own : slice_get c.args.self.now.methods c.args.def ≡ Some (Some g) = sym c.in-Some-Some.ensures.value ∙ ap Some c.in-Some-Some.field-0-is in
    c.first_method.ensures
    ∙ ap (λ (xs : List ℕ). option_map method_id (find (is_wanted w c.args.wanted.now) xs)) c.named.ensures
    ∙ ap (option_map method_id) (method_found w r g (groups_at (λ r. r.first_method) (λ r. r.methods) (method_names w) w.runs c.args.self.now.methods c.requires.methods c.args.def r g run own) c.args.name c.args.wanted.now)
    ∙ method_of_run w c.args.def r c.args.name c.args.wanted.now run

pub returns-in_default : goal.returns-in_default
returns-in_default c =
    c.method_in_run.ensures
    ∙ method_of_run c.args.members.now c.args.def c.in-Some.run'.now c.args.name c.args.wanted.now (sym c.in-Some.ensures.value)
