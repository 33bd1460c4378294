use Rattle.std.proofs.Common.{ap, sym, ◌∙◌}
use Rattle.type_names.specs.TypeFinders.{key_in}
use Rattle.type_names.proofs.AssemblyNames.{core_among, from_core, from_file, from_none}
use Rattle.type_names.proofs.type_finder.TypeFinder.in_assembly.Goals as goal

pub returns-then-is_core : goal.returns-then-is_core
returns-then-is_core c = λ a s t is called.
    let f = c.args.self.now in
    let among = core_among f.names f.core.assemblies c.args.assembly a c.requires.finder.core.assemblies is in
    from_core f.files.now a s t c.core_type.result (sym among ∙ sym c.is_core.ensures ∙ c.if-is_core.true) (c.core_type.ensures s t called)

pub returns-in-Some : goal.returns-in-Some
returns-in-Some c = λ a s t is called.
    let f = c.args.self.now in
    let among = core_among f.names f.core.assemblies c.args.assembly a c.requires.finder.core.assemblies is in
    from_file f.files.now a s t c.in-Some.file c.args.key.around c.def_in.result (sym among ∙ sym c.is_core.ensures ∙ c.if-is_core.false)
    (sym (c.file_named.ensures a is) ∙ c.in-Some.is) c.requires.around
    (c.def_in.ensures s t (called ∙ ap (λ x. key_in f.names x s t) (sym c.requires.around)))

pub returns-in-None : goal.returns-in-None
returns-in-None c = λ a s t is called.
    let f = c.args.self.now in
    let among = core_among f.names f.core.assemblies c.args.assembly a c.requires.finder.core.assemblies is in
    from_none f.files.now a s t (sym among ∙ sym c.is_core.ensures ∙ c.if-is_core.false) (sym (c.file_named.ensures a is) ∙ c.in-None.is)
