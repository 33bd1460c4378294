use Rattle.std.proofs.Common.{◌≡◌, ◌+◌, ◌++◌, ◌∷◌, [], List, ℕ, filter, length, ap, ap₂, ◌∙◌, sym, arith}
use Rattle.std.proofs.lemmas.List.Elements.{filter-append}
use Rattle.std.specs.List.{range_with_len}
use Rattle.type_tree.specs.declared.definition.Def.{Def}
use Rattle.type_tree.specs.declared.tree.Ty.{Ty}
use Rattle.type_tree.specs.Context.{arguments}
use Rattle.type_tree.proofs.Bounds.{methods_few}
use Rattle.type_pool.specs.Trees.{at}
use Rattle.type_pool.proofs.JobLemmas.{at-grown, at_all-grown, below-grown, grown_length, grows_trans}
use Rattle.method_slots.proofs.VirtualLemmas.{opens_trans}
use Rattle.interface_maps.specs.Choices.{each, is_method}
use Rattle.interface_maps.specs.Maps.{above_of, each_of, own_of}
use Rattle.interface_maps.proofs.FoundLemmas.{range_more}
use Rattle.interface_maps.proofs.MapLemmas.{each-after, each-long, known-grown}
use Rattle.interface_maps.proofs.choices.choices_in.Goals as goal

pub overflow_add-first : goal.overflow_add-first
overflow_add-first c = let few = methods_few c.args.world.now c.whole.ensures in omega (arith, few, c.requires.within, c.loop-i-test.true)

pub add_choice-requires-clause-known : goal.add_choice-requires-clause-known
add_choice-requires-clause-known c =
    let w = c.args.world.now in
    let d : Def = c.args.def.now in
    let k = c.loop-i in
    known-grown c.args.pool.now k.pool k.invariant.grows c.args.set.now k.set k.invariant.set_grows w c.args.id.0 d (own_of w d) (above_of w d) c.args.known.now c.args.found.now c.requires.known

pub add_choice-requires-clause-tree : goal.add_choice-requires-clause-tree
add_choice-requires-clause-tree c = let l = grown_length c.args.pool.now c.loop-i.pool c.loop-i.invariant.grows in omega (arith, l, c.requires.tree)

pub add_choice-requires-clause-types : goal.add_choice-requires-clause-types
add_choice-requires-clause-types c = below-grown c.args.pool.now c.loop-i.pool c.loop-i.invariant.grows c.args.types.now c.requires.types

pub add_choice-requires-clause-arguments : goal.add_choice-requires-clause-arguments
add_choice-requires-clause-arguments c =
    let p0 = c.args.pool.now in
    let k = c.loop-i in
    ap arguments (at-grown p0 k.pool k.invariant.grows c.args.tree c.requires.tree) ∙ c.requires.arguments ∙ sym (at_all-grown p0 k.pool k.invariant.grows c.args.types.now c.requires.types)

pub loop-i-preserved : goal.loop-i-preserved
loop-i-preserved c =
    let w = c.args.world.now in
    let d : Def = c.args.def.now in
    let k = c.loop-i in
    let i = k.i in
    let first = c.args.first in
    let p0 = c.args.pool.now in
    let made = c.in_ok-add_choice.ensures in
    let p = is_method w in
    let f = each_of w c.args.id.0 d (at p0 c.args.tree) in
    let before : List ℕ = filter p (range_with_len first i) in
    let next : List ℕ = filter p ((first + i) ∷ []) in
    let more : filter p (range_with_len first (i + 1)) ≡ before ++ next = ap (filter p) (range_more first i) ∙ filter-append p (range_with_len first i) ((first + i) ∷ []) in
    let long : length k.done ≡ length before = ap length k.invariant.done ∙ each-long f 0 before in
    let same = at-grown p0 k.pool k.invariant.grows c.args.tree c.requires.tree in
    let added : c.add_choice.new.done ≡ k.done ++ each f (length k.done) next = made.added ∙ ap (λ (t : Ty). k.done ++ each (each_of w c.args.id.0 d t) (length k.done) next) same in
    record {
      grows = grows_trans p0 k.pool c.add_choice.new.pool k.invariant.grows made.grows;
      set_grows = opens_trans c.args.set.now k.set c.add_choice.new.set k.invariant.set_grows made.set_grows;
      done = added ∙ ap₂ (λ l n. l ++ each f n next) k.invariant.done long ∙ sym (ap (each f 0) more ∙ each-after f before next);
    }
