use Rattle.std.proofs.Common.{◌≡◌, ◌+◌, ◌*◌, ◌<◌, None, Some, sym, subst, rules, arith}
use Rattle.type_record.specs.TheOne.{IsTheOne}
use Rattle.type_record.specs.Words.{word_of, IsHandle}
use Rattle.type_record.specs.Records.{entry}
use Rattle.type_record.proofs.interfaces.interface_in.Goals as goal

pub returns-in_err-told : goal.returns-in_err-told
returns-in_err-told c =
    let none : c.from_residual.result ≡ None = first_of (search rules, cc) in
    subst (IsTheOne (λ h. IsHandle h × (word_of (entry c.args.before (Some h)) ≡ c.args.word))) (sym none)
    (λ h is.
    let word_is : 1 + (h.0 + 1) + 524288 * c.args.before ≡ c.args.word = is.1 in
    let fits : c.args.word < 18446744073709551616 = omega arith in
    c.in_err-told.ensures (entry c.args.before (Some h)) ((omega arith, is.0), is.1))
