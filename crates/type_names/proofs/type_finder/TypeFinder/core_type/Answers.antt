use Rattle.std.proofs.Common.{ap, sym, ◌∙◌}
use Rattle.std.specs.Option.{option_map}
use Rattle.type_names.specs.declared.resolution.DefPlace.TheVariants.{InCore}
use Rattle.type_names.proofs.FindDefs.{core_found}
use Rattle.type_names.proofs.type_finder.TypeFinder.core_type.Goals as goal

pub returns-in-Some : goal.returns-in-Some
returns-in-Some c = λ s t is.
    ap (option_map InCore) (sym c.in-Some.is ∙ c.first.ensures ∙ core_found c.args.self.now.names c.args.self.now.core_types c.args.key s t c.requires.core_types is)

pub returns-in-None : goal.returns-in-None
returns-in-None c = λ s t is.
    ap (option_map InCore) (sym c.in-None.is ∙ c.first.ensures ∙ core_found c.args.self.now.names c.args.self.now.core_types c.args.key s t c.requires.core_types is)
