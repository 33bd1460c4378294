use Rattle.std.proofs.Common.{ap, sym, ◌∙◌, arith}
use Rattle.std.specs.Option.{option_copied}
use Rattle.type_names.proofs.FindDefs.{def_few, def_there, def_missing, def_outside}
use Rattle.type_names.proofs.type_finder.TypeFinder.def_in.Goals as goal

pub overflow_add-result : goal.overflow_add-result
overflow_add-result c =
    let f = c.args.self.now in
    let there = sym c.get.ensures.value ∙ ap option_copied c.in-Some.is in
    let few = def_few f.names f.files.now f.defs c.requires.defs c.args.file c.in-Some.places.now c.args.key there c.in-Some-first.place
    (sym c.first.ensures ∙ c.in-Some-first.is) in
    omega (arith, few)

pub returns-in-Some-first : goal.returns-in-Some-first
returns-in-Some-first c = λ s t is.
    let f = c.args.self.now in
    let there = sym c.get.ensures.value ∙ ap option_copied c.in-Some.is in
    def_there f.names f.files.now f.defs c.requires.defs c.args.file c.in-Some.places.now c.args.key there c.in-Some-first.place s t
    (sym c.first.ensures ∙ c.in-Some-first.is) is

pub returns-in-None-first : goal.returns-in-None-first
returns-in-None-first c = λ s t is.
    let f = c.args.self.now in
    let there = sym c.get.ensures.value ∙ ap option_copied c.in-Some.is in
    def_missing f.names f.files.now f.defs c.requires.defs c.args.file c.in-Some.places.now c.args.key there s t
    (sym c.first.ensures ∙ c.in-None-first.is) is

pub returns-in-None : goal.returns-in-None
returns-in-None c = λ s t is.
    let f = c.args.self.now in
    def_outside f.names f.files.now f.defs c.requires.defs c.args.file c.args.key s t (sym c.get.ensures.value ∙ ap option_copied c.in-None.is) is
