use Rattle.std.proofs.Common.{[], ap, sym, ◌∙◌}
use Rattle.std.specs.Option.{option_copied}
use Rattle.core_types.specs.Names.{id_in}
use Rattle.type_names.proofs.AssemblyNames.{ref_named, ref_unnamed, texts_there}
use Rattle.type_names.proofs.Settled.{settled_now}
use Rattle.type_names.proofs.type_finder.TypeFinder.assembly_at.Goals as goal

pub returns-in-Some-get : goal.returns-in-Some-get
returns-in-Some-get c = λ m there.
    let f = c.args.self.now in
    let texts = c.requires.finder.texts.each c.args.file m c.in-Some.texts.now there (sym c.get.ensures.value ∙ ap option_copied c.in-Some.is) in
    ref_named f.names m c.in-Some.texts.now c.args.row c.in-Some-get.name.now texts c.requires.first
    (sym c.get-in-Some.ensures.value ∙ ap option_copied c.in-Some-get.is)

pub returns-in-None-get : goal.returns-in-None-get
returns-in-None-get c = λ m there.
    let f = c.args.self.now in
    let texts = c.requires.finder.texts.each c.args.file m c.in-Some.texts.now there (sym c.get.ensures.value ∙ ap option_copied c.in-Some.is) in
    ref_unnamed f.names m c.in-Some.texts.now c.args.row f.core.empty texts c.requires.first
    (sym c.get-in-Some.ensures.value ∙ ap option_copied c.in-None-get.is)
    (settled_now (λ ns. id_in ns []) f.names f.core.empty c.requires.finder.core.empty)

pub returns-in-None : goal.returns-in-None
returns-in-None c = λ m there.
    let f = c.args.self.now in
    absurd (texts_there f.names f.files.now f.texts c.args.file m c.requires.finder.texts there (sym c.get.ensures.value ∙ ap option_copied c.in-None.is))
