use Rattle.std.proofs.Common.{◌∙◌, length, sym, ap, subst, arith}
use Rattle.type_tree.specs.declared.parts.WorldParts.{WorldParts}
use Rattle.type_tree.specs.Whole.{IsWhole}
use Rattle.image_files.specs.Images.{bytes_of_each}
use Rattle.world_build.specs.World.{world}
use Rattle.world_build.proofs.FewFiles.{few_files}
use Rattle.world_build.proofs.WholeWorld.{world_is_whole}
use Rattle.world_build.proofs.building.build.Goals as goal

pub new-requires : goal.new-requires
new-requires c =
    let bytes = bytes_of_each c.args.files.now in
    let read = c.in-Ok.ensures in
    subst (λ (p : WorldParts). IsWhole p) (sym c.in_ok-parts.ensures) (world_is_whole bytes (few_files bytes c.in-Ok.tables read.all read.rows read.few))

pub with_roots-requires : goal.with_roots-requires
unfolding world
with_roots-requires c =
    let none = ap (λ (p : WorldParts). length p.roots) (c.new.ensures ∙ c.in_ok-parts.ensures) in
    record { few = omega (arith, none, c.requires.roots) }
