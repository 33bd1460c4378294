use Rattle.std.proofs.Common.{◌≡◌, suc, ◌+◌, ◌-◌, None, slice_get, ap, ◌∙◌, sym, arith}
use Rattle.std.proofs.lemmas.Option.{slice_get_past}
use Rattle.type_tree.specs.declared.definition.Def.{Def}
use Rattle.method_slots.specs.Chains.{chain_within}
use Rattle.slot_chains.proofs.ChainLemmas.{Extends, within-past, within-root, within-next, within-none}
use Rattle.slot_chains.proofs.chains.chain_within.Goals as goal

pub returns-then-at-def_count : goal.returns-then-at-def_count
returns-then-at-def_count c =
    let k = c.loop-i in
    let w = c.args.world.now in
    let count : 64 - k.i ≡ suc (63 - k.i) = omega arith in
    let past : slice_get w.defs k.at.0 ≡ None = slice_get_past w.defs k.at.0 (omega arith) in
    sym (ap (λ m. chain_within m w k.at.0) count ∙ within-past w (63 - k.i) k.at.0 past) ∙ k.invariant

pub returns-in-None : goal.returns-in-None
returns-in-None c =
    let k = c.loop-i in
    let w = c.args.world.now in
    let d : Def = c.def.result.now in
    let count : 64 - k.i ≡ suc (63 - k.i) = omega arith in
    sym (ap (λ m. chain_within m w k.at.0) count ∙ within-root w (63 - k.i) k.at.0 d c.def.ensures.value (sym c.in-None.ensures)) ∙ k.invariant

pub loop-i-preserved : goal.loop-i-preserved
loop-i-preserved c =
    let k = c.loop-i in
    let w = c.args.world.now in
    let d : Def = c.def.result.now in
    let p = c.in-Some.parent in
    let count : 64 - k.i ≡ suc (63 - k.i) = omega arith in
    let less : 64 - (k.i + 1) ≡ 63 - k.i = omega arith in
    let e : Extends w k.at.0 p.0 = record { def = d; here = c.def.ensures.value; parent = sym c.in-Some.ensures } in
    ap (λ m. chain_within m w p.0) less ∙ sym (ap (λ m. chain_within m w k.at.0) count ∙ within-next w (63 - k.i) k.at.0 p.0 e) ∙ k.invariant

pub returns : goal.returns
returns c =
    let k = c.loop-i in
    let w = c.args.world.now in
    let none : 64 - k.i ≡ 0 = omega arith in
    sym (ap (λ m. chain_within m w k.at.0) none ∙ within-none w k.at.0) ∙ k.invariant
