use Rattle.std.proofs.Common.{◌∙◌, ap, map, refl, sym}
use Rattle.type_tree.specs.declared.definition.Def.{Def}
use Rattle.interface_maps.specs.Choices.{Answered}
use Rattle.interface_maps.proofs.ChainLemmas.{above-root, list-root}
use Rattle.interface_maps.proofs.walk.at_root.Goals as goal

pub with_above-requires-clause-above : goal.with_above-requires-clause-above
with_above-requires-clause-above c =
    let w = c.args.world.now in
    let d : Def = c.args.def.now in
    let none = above-root w d c.requires.parent in
    record {
      below = refl;
      list = list-root w c.args.id.0 d c.requires.base.here c.requires.base.within c.requires.parent;
      trees = ap (map (λ (a : Answered). a.interface)) none.0 ∙ sym none.1;
      choices = sym (ap (map (λ (a : Answered). a.choices)) none.0);
    }
