use Rattle.std.proofs.Common.{length, ap, ◌∙◌, sym, subst, arith}
use Rattle.std.proofs.lemmas.Option.{slice_get_within}
use Rattle.type_tree.specs.declared.definition.Def.{Def}
use Rattle.type_pool.specs.Trees.{at_all}
use Rattle.slot_chains.proofs.DefLemmas.{methods_within}
use Rattle.interface_maps.specs.Publics.{GainPublics}
use Rattle.interface_maps.proofs.MemberLemmas.{own-short, in-def, numbers-read}
use Rattle.interface_maps.proofs.PublicLemmas.{ok_then}
use Rattle.interface_maps.proofs.members.add_own.Goals as goal

pub bounds-as_slice-place : goal.bounds-as_slice-place
bounds-as_slice-place c =
    let place = c.in-Some.place in
    let found = c.requires.noted c.args.def.0 place (sym c.in-Some.ensures) in
    let inside = slice_get_within c.args.notes.now.levels place found.level found.here in
    let same = ap length c.as_slice.ensures in
    omega (arith, inside, same)

pub add_publics-requires-clause-within : goal.add_publics-requires-clause-within
add_publics-requires-clause-within c =
    let w = c.args.world.now in
    let d : Def = c.def.result.now in
    let short = own-short w c.args.def.0 d c.def.ensures.value in
    let within = methods_within w d c.def.ensures.fits in
    let same = ap length (c.as_slice-given.ensures ∙ numbers-read w c.args.notes.now c.requires.noted c.args.def.0 c.in-Some.place (sym c.in-Some.ensures) c.as_slice.result.now c.as_slice.ensures c.index-as_slice-place.result c.index-as_slice-place.is) in
    omega (arith, short, within, same)

pub returns-in-Some-clause-gains : goal.returns-in-Some-clause-gains
returns-in-Some-clause-gains c =
    let w = c.args.world.now in
    let types = at_all c.args.pool.now c.args.types.now in
    let is = in-def w types c.args.def.0 c.def.result.now c.def.ensures.value c.as_slice-given.result.now (c.as_slice-given.ensures ∙ numbers-read w c.args.notes.now c.requires.noted c.args.def.0 c.in-Some.place (sym c.in-Some.ensures) c.as_slice.result.now c.as_slice.ensures c.index-as_slice-place.result c.index-as_slice-place.is) in
    ok_then c.add_publics.result
    (λ gains. subst (GainPublics c.args.pool.now c.args.set.now c.args.numbers.now c.add_publics.new.pool c.add_publics.new.set c.add_publics.new.numbers) is gains) c.add_publics.ensures.gains
