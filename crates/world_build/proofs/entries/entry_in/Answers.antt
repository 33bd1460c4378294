use Rattle.std.proofs.Common.{◌≡◌, ◌∙◌, ◌+◌, ◌-◌, ℕ, true, false, sym, ap, arith, slice_get}
use Rattle.std.specs.List.{find, range_with_len}
use Rattle.std.specs.Option.{option_map}
use Rattle.world_build.specs.Entries.{is_entry_at, entry_in}
use Rattle.world_build.proofs.EntryLemmas.{methods_small, methods_inside, entry_where, looked_at, passed_over, all_looked, name_there}
use Rattle.world_build.proofs.entries.entry_in.Goals as goal
use Rattle.type_members.specs.MemberTable.{method_id}

pub loop-own-init : goal.loop-own-init
loop-own-init c =
    let w = c.args.world.now in
    let d = c.def-def.result.now in
    let p = λ (n : ℕ). is_entry_at w c.args.name.now (slice_get w.methods n) in
    let first : d.first_method + 0 ≡ d.first_method = omega arith in
    let all : d.methods - 0 ≡ d.methods = omega arith in
    ap (λ (k : ℕ). find p (range_with_len k (d.methods - 0))) first ∙ ap (λ (k : ℕ). find p (range_with_len d.first_method k)) all
    ∙ sym (entry_where w c.args.name.now c.args.id d c.def-def.ensures.value)

pub overflow_add-id : goal.overflow_add-id
overflow_add-id c =
    let small = methods_small c.args.world.now c.whole.ensures c.def-def.result.now c.def-def.ensures.fits in
    omega (arith, small, c.loop-own-test.true)

pub method-requires : goal.method-requires
method-requires c =
    let inside = methods_inside c.args.world.now c.whole.ensures c.def-def.result.now c.def-def.ensures.fits in
    omega (arith, inside, c.loop-own-test.true)

pub is_entry-requires : goal.is_entry-requires
is_entry-requires c = name_there c.args.world.now c.method.result.now c.method.ensures.fits

pub returns-then-is_entry : goal.returns-then-is_entry
returns-then-is_entry c =
    let w = c.args.world.now in
    let d = c.def-def.result.now in
    let p = λ (n : ℕ). is_entry_at w c.args.name.now (slice_get w.methods n) in
    let passes : p (d.first_method + c.loop-own.own) ≡ true = ap (is_entry_at w c.args.name.now) c.method.ensures.value ∙ sym c.is_entry.ensures ∙ c.if-is_entry.true in
    sym (ap (option_map method_id) (looked_at p d.first_method d.methods c.loop-own.own (entry_in w c.args.name.now c.args.id) c.loop-own-test.true c.loop-own.invariant passes))

pub loop-own-preserved : goal.loop-own-preserved
loop-own-preserved c =
    let w = c.args.world.now in
    let d = c.def-def.result.now in
    let p = λ (n : ℕ). is_entry_at w c.args.name.now (slice_get w.methods n) in
    let fails : p (d.first_method + c.loop-own.own) ≡ false = ap (is_entry_at w c.args.name.now) c.method.ensures.value ∙ sym c.is_entry.ensures ∙ c.if-is_entry.false in
    passed_over p d.first_method d.methods c.loop-own.own (entry_in w c.args.name.now c.args.id) c.loop-own-test.true c.loop-own.invariant fails

pub returns : goal.returns
returns c =
    let w = c.args.world.now in
    let d = c.def-def.result.now in
    let p = λ (n : ℕ). is_entry_at w c.args.name.now (slice_get w.methods n) in
    let past : d.methods - c.loop-own.own ≡ 0 = omega (arith, c.loop-own-test.false) in
    sym (ap (option_map method_id) (all_looked p d.first_method d.methods c.loop-own.own (entry_in w c.args.name.now c.args.id) c.loop-own-test.false c.loop-own.invariant))
