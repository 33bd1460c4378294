use Rattle.std.proofs.Common.{◌≡◌, length, get_or, ap, ◌∙◌, sym, arith}
use Rattle.std.proofs.lemmas.Option.{slice_get_within, unwrap_or-slice_get}
use Rattle.std.specs.Option.{option_and_then}
use Rattle.std.specs.Prelude.{unwrap_or}
use Rattle.type_tree.specs.declared.definition.Def.{Def}
use Rattle.method_slots.specs.Chains as chains
use Rattle.slot_chains.specs.declared.levels.Level.{Level}
use Rattle.slot_chains.proofs.rows.number_in.Goals as goal

pub bounds-as_slice-place : goal.bounds-as_slice-place
bounds-as_slice-place c =
    let place = c.in-Some.place in
    let found = c.requires.numbers c.args.def.0 place (sym c.in-Some.ensures) in
    let inside = slice_get_within c.args.notes.now.levels place found.level found.here in
    let same = ap length c.as_slice.ensures in
    omega (arith, inside, same)

pub returns-in-Some : goal.returns-in-Some
returns-in-Some c =
    let w = c.args.world.now in
    let place = c.in-Some.place in
    let found = c.requires.numbers c.args.def.0 place (sym c.in-Some.ensures) in
    let levels = c.args.notes.now.levels in
    let d : Def = c.def.result.now in
    let level : Level = c.index-as_slice-place.result in
    let is : level ≡ found.level = c.index-as_slice-place.is ∙ ap (λ l. get_or l place level) c.as_slice.ensures ∙ sym (unwrap_or-slice_get levels place level) ∙ ap (λ o. unwrap_or o level) found.here in
    let numbers : c.as_slice-in-Some.result.now ≡ chains.numbers chains.longest_chain w c.args.def.0 = c.as_slice-in-Some.ensures ∙ ap (λ (l : Level). l.numbers) is ∙ found.numbers in
    c.number_at.ensures ∙ ap (λ ns. chains.at_own d.first_method ns c.args.method) numbers
    ∙ sym (ap (λ o. option_and_then (λ (d : Def). chains.at_own d.first_method (chains.numbers chains.longest_chain w c.args.def.0) c.args.method) o) c.def.ensures.value)
