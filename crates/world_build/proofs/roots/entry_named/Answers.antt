use Rattle.std.proofs.Common.{◌∙◌, sym}
use Rattle.type_tree.specs.declared.tree.Ty.{Ty}
use Rattle.type_tree.specs.ReadTexts.{Reads}
use Rattle.world_build.specs.Entries.{IsParted}
use Rattle.world_build.proofs.RootLemmas.{no_owner, no_entry}
use Rattle.world_build.proofs.roots.entry_named.Goals as goal

pub returns-in_default-2-clause-none : goal.returns-in_default-2-clause-none
returns-in_default-2-clause-none c =
    let parted : IsParted c.args.word.now c.in-Some.owner.now c.in-Some.name.now = c.in-Some.ensures.parts in
    let never : (t : Ty) → ¬ (Reads c.args.world.now c.in-Some.owner.now t) = rw c.in_default-2.is at c.in_ok-ty.ensures.refused in
    no_owner c.args.world.now c.args.word.now c.in-Some.owner.now c.in-Some.name.now parted never

pub returns-in-None-clause-none : goal.returns-in-None-clause-none
returns-in-None-clause-none c =
    let parted : IsParted c.args.word.now c.in-Some.owner.now c.in-Some.name.now = c.in-Some.ensures.parts in
    let reads : Reads c.args.world.now c.in-Some.owner.now c.in-Some-2.ty = rw c.in-Some-2.is at c.in_ok-ty.ensures.named in
    no_entry c.args.world.now c.args.word.now c.in-Some.owner.now c.in-Some.name.now c.in-Some-2.ty parted reads (sym c.entry_of.ensures ∙ c.in-None.is)
