use Rattle.std.proofs.Common.{◌≡◌, List, length, map, ap, ap₂, ◌∙◌, sym, subst, arith}
use Rattle.std.proofs.lemmas.List.{length-map}
use Rattle.type_tree.specs.declared.definition.Def.{Def}
use Rattle.type_tree.specs.declared.tree.Ty.{Ty}
use Rattle.type_pool.specs.declared.nodes.Id.{Id}
use Rattle.type_pool.specs.Trees.{at, at_all}
use Rattle.method_slots.specs.Chains as chains
use Rattle.slot_chains.specs.Levels.{Stand}
use Rattle.slot_chains.specs.Puts.{put_all, replace_all}
use Rattle.slot_chains.proofs.ClassLemmas.{stands}
use Rattle.slot_chains.proofs.ShortLemmas.{parents-short, numbers-short, mapped_ok}
use Rattle.slot_chains.proofs.walk.put_class.Goals as goal

pub overflow_cast-owner : goal.overflow_cast-owner
overflow_cast-owner c =
    let short = parents-short c.args.world.now c.args.id.0 in
    let ids : List Id = c.args.parents.now in
    let count : length ids ≡ length (chains.parents chains.longest_chain c.args.world.now c.args.id.0) = sym (length-map ids (at c.args.pool.now)) ∙ ap length c.requires.parents.are in
    omega (arith, short, count)

pub put_own-requires : goal.put_own-requires
put_own-requires c =
    let short = numbers-short c.args.world.now c.args.id.0 c.args.def.now c.requires.def c.requires.class in
    let count = ap length c.requires.numbers in
    omega (arith, short, count)

pub put_rows-requires-clause-short : goal.put_rows-requires-clause-short
put_rows-requires-clause-short c =
    let short = parents-short c.args.world.now c.args.id.0 in
    let ids : List Id = c.args.parents.now in
    let count : length ids ≡ length (chains.parents chains.longest_chain c.args.world.now c.args.id.0) = sym (length-map ids (at c.args.pool.now)) ∙ ap length c.requires.parents.are in
    omega (arith, short, count)

pub returns-clause-stand : goal.returns-clause-stand
returns-clause-stand c =
    let w = c.args.world.now in
    let n = c.args.id.0 in
    let d : Def = c.args.def.now in
    let es = c.args.entries.now in
    let ids : List Id = c.args.parents.now in
    let trees : List Ty = at_all c.args.pool.now ids in
    let all = stands w n d es c.requires.def c.requires.class c.requires.before trees c.requires.parents.are in
    let own = c.in_ok-put_own.ensures ∙ ap₂ (λ l ns. put_all es (chains.own_takes l d.first_method ns)) (sym (length-map ids (at c.args.pool.now))) c.requires.numbers in
    let rows = ap (map (chains.row_take w n trees)) c.as_slice.ensures in
    mapped_ok c.put_rows.result c.put_rows.ensures.put (λ put. subst (λ es. Stand es (chains.slots chains.longest_chain w n)) (sym (put ∙ ap₂ (λ before takes. replace_all before takes) own rows)) all)
