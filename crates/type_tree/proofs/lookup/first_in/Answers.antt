use Rattle.std.proofs.Common.{◌≡◌, ◌∙◌, true, false, sym, ap, option_map}
use Rattle.type_tree.specs.Lookup.{is_named, def_id}
use Rattle.type_tree.proofs.LookupLemmas.{stops_at, passes_over}
use Rattle.type_tree.proofs.lookup.first_in.Goals as goal

pub returns-then-is_named : goal.returns-then-is_named
returns-then-is_named c =
    let w = c.args.world.now in
    let passes : is_named w c.args.place c.args.name.now c.def.result.now ≡ true = sym c.is_named.ensures ∙ c.if-is_named.true in
    sym (ap (option_map def_id) (sym c.loop-number.invariant ∙ stops_at (is_named w c.args.place c.args.name.now) w.defs c.loop-number.number c.def.result.now c.def.ensures.value passes))

pub loop-number-preserved : goal.loop-number-preserved
loop-number-preserved c =
    let w = c.args.world.now in
    let passes : is_named w c.args.place c.args.name.now c.def.result.now ≡ false = sym c.is_named.ensures ∙ c.if-is_named.false in
    sym (passes_over (is_named w c.args.place c.args.name.now) w.defs c.loop-number.number c.def.result.now c.def.ensures.value passes) ∙ c.loop-number.invariant
