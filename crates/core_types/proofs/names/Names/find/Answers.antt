use Rattle.std.proofs.Common.{ℕ, ◌∙◌, ap}
use Rattle.clr_base.specs.declared.ids.NameId.{NameId}
use Rattle.core_types.specs.Names.{number_in}
use Rattle.core_types.proofs.NameLemmas.{found, absent}
use Rattle.core_types.proofs.names.Names.find.Goals as goal

pub returns-in-Some : goal.returns-in-Some
returns-in-Some c =
    ap (λ (n : ℕ). let id : NameId = record { 0 = n } in id)
    (found c.args.text.now c.self.inside.set.keys c.in-Some.index c.in-Some.ensures.index
    ∙ ap (λ names. number_in names c.args.text.now) c.self.view_is)

pub returns-in-None : goal.returns-in-None
returns-in-None c =
    ap (λ (n : ℕ). let id : NameId = record { 0 = n } in id)
    (absent c.args.text.now c.self.inside.set.keys c.len.result c.in-None.ensures.index c.len.ensures.len
    ∙ ap (λ names. number_in names c.args.text.now) c.self.view_is)
