use Rattle.std.proofs.Common.{◌≡◌, None, sym, ap, subst, rules}
use Rattle.clr_base.specs.declared.ids.Handle.{Handle}
use Rattle.type_record.specs.declared.entry.Entry.{Entry}
use Rattle.type_record.specs.TheOne.{IsTheOne}
use Rattle.type_record.specs.Sections.{IsFrontOf}
use Rattle.type_record.proofs.front.front_of.Goals as goal

pub returns-in_err-form : goal.returns-in_err-form
returns-in_err-form c =
    let none : c.from_residual.result ≡ None = first_of (search rules, cc) in
    subst (IsTheOne (IsFrontOf c.args.first c.args.second c.args.third c.args.fourth)) (sym none)
    (λ x is. c.in_err-form.ensures (x.shape.form, x.shape.size) (is.size, ap (λ (e : Entry Handle). e.number) is.first_is))

pub returns-in_err-args : goal.returns-in_err-args
returns-in_err-args c =
    let none : c.from_residual-in_err-args.result ≡ None = first_of (search rules, cc) in
    subst (IsTheOne (IsFrontOf c.args.first c.args.second c.args.third c.args.fourth)) (sym none)
    (λ x is. c.in_err-args.ensures (x.shape.args, x.shape.slots) (is.args, is.slots, ap (λ (e : Entry Handle). e.number) is.second_is))
