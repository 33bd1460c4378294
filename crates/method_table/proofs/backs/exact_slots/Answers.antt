use Rattle.std.proofs.Common.{[], length, List, map, Some, ap, ◌∙◌, arith}
use Rattle.std.proofs.lemmas.Option.{slice_get_within}
use Rattle.std.proofs.lemmas.Result.{IfOk-weaker}
use Rattle.type_tree.specs.declared.tree.Key.TheVariants as made
use Rattle.type_tree.specs.declared.tree.Ty.{Ty}
use Rattle.type_tree.specs.Subst.{subst_all}
use Rattle.type_pool.specs.Trees.{at, at_all, ids_below}
use Rattle.method_slots.specs.Chains.{longest_chain, slots}
use Rattle.slot_chains.specs.Levels.{IsLevel}
use Rattle.slot_chains.proofs.NoteLemmas.{level-read}
use Rattle.method_table.specs.Named.{NamesTypes}
use Rattle.method_table.specs.Tables.{exact_chain}
use Rattle.method_table.proofs.Growing.{key_more}
use Rattle.method_table.proofs.SlotNaming.{standing_named}
use Rattle.method_table.proofs.backs.exact_slots.Goals as goal

pub bounds-as_slice-place : goal.bounds-as_slice-place
bounds-as_slice-place c =
    let found = c.requires.notes.all c.args.def.0 c.args.place c.requires.place in
    let inside = slice_get_within c.args.notes.now.levels c.args.place found.level found.here in
    let same = ap length c.as_slice.ensures in
    omega (arith, inside, same)

pub exact_numbers-requires-clause-trees : goal.exact_numbers-requires-clause-trees
exact_numbers-requires-clause-trees c =
    let is = level-read c.args.world.now c.args.pool.now c.args.notes.now c.requires.notes c.args.def.0 c.args.place c.requires.place c.as_slice.result.now c.as_slice.ensures c.index-as_slice-place.result c.index-as_slice-place.is in
    ap (ids_below (length c.args.pool.now)) c.as_slice-2.ensures ∙ is.chain.within

pub returns-clause-named : goal.returns-clause-named
returns-clause-named c =
    let w = c.args.world.now in let n = c.args.def.0 in let ts = c.args.pool.now in let us = c.exact_numbers.new.pool in
    let ks = c.number_of.new.keys in let ls = c.exact_numbers.new.keys in
    let level = c.index-as_slice-place.result in
    let is : IsLevel w ts c.args.notes.now.set n level = level-read w ts c.args.notes.now c.requires.notes n c.args.place c.requires.place c.as_slice.result.now c.as_slice.ensures level c.index-as_slice-place.is in
    let own = at ts c.args.id in let args = at_all ts c.args.args.now in
    let named = key_more ts us ks ls c.in_ok-own.ensures.grows.within c.in_ok-chain.ensures.grows c.in_ok-own.own (made.Tree own) c.in_ok-own.ensures.named in
    let chained : NamesTypes us ls c.in_ok-chain.chain (exact_chain w args n) =
    c.in_ok-chain.ensures.named ∙ ap (λ (l : List Ty). map Some (map made.Tree (subst_all args [] l))) (ap (at_all ts) c.as_slice-2.ensures ∙ is.chain.are) in
    IfOk-weaker c.slots_of.result _ _ (λ ss e. standing_named us ls c.in_ok-own.own own c.in_ok-chain.chain c.as_slice-3.result.now (exact_chain w args n) level.entries c.as_slice-4.result.now (slots longest_chain w n) ss
    named chained c.as_slice-3.ensures c.as_slice-4.ensures is.entries e) c.slots_of.ensures
