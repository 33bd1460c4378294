use Rattle.std.proofs.Common.{ap, ◌∙◌}
use Rattle.interface_maps.specs.Inherited.{choice_at}
use Rattle.interface_maps.proofs.InheritedLemmas.{finds-inherited}
use Rattle.interface_maps.proofs.inherited.inherited_choice.Goals as goal

pub returns : goal.returns
returns c = finds-inherited c.args.pool.now c.each_once.ensures c.args.places.now c.args.found.now c.args.tree c.args.j c.choice_at.result c.requires
    (c.choice_at.ensures ∙ ap (choice_at c.args.found.now c.args.j) c.noted.ensures)
