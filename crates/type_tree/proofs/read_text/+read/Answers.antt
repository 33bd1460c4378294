use Rattle.std.proofs.Common.{◌≡◌, suc, ◌∷◌, ◌+◌, ◌-◌, ◌<◌, ◌≤◌, true, false, length, sym, subst, ap, ◌∙◌, arith}
use Rattle.std.proofs.lemmas.Result.{err_from_is_err_and}
use Rattle.type_tree.specs.Measure.{depth_of_all}
use Rattle.type_tree.specs.Reading as spec
use Rattle.type_tree.proofs.ReadingLemmas.{begins_one, begins_shorter}
use Rattle.type_tree.proofs.ListLoop.{goes_on, ends, no_mark}
use Rattle.type_tree.proofs.TreeReading.{pass_on, in_brackets, behind-some, behind-none, arguments_shallow, no_levels, no_definition, no_arguments, no_end, too_deep, found}
use Rattle.type_tree.proofs.read_text.+read.Goals as goal

pub arguments-returns-in-Some : goal.arguments-returns-in-Some
arguments-returns-in-Some t c =
    let One = spec.Begins c.args.world.now c.args.levels in
    in_brackets One c.args.text.now c.in-Some.inner.now (sym c.in-Some.ensures) (λ x. x.0) (λ x. x.1.now) c.list.result c.list.ensures

pub arguments-returns-in-None : goal.arguments-returns-in-None
arguments-returns-in-None t c = rw c.new.ensures (spec.none c.args.text.now (sym c.in-None.ensures))

pub list-loop-done-smaller : goal.list-loop-done-smaller
list-loop-done-smaller t c =
    let after = c.in_ok-one.after.now in
    let others = c.in-Some.others.now in
    let comma : after ≡ 44 ∷ others = behind-some 44 after others (sym c.in-Some.ensures) in
    let shorter : length after ≤ length c.loop-done.rest.now = begins_shorter c.args.world.now c.args.levels c.loop-done.rest.now c.in_ok-one.one after c.in_ok-one.ensures in
    let smaller : length others < length c.loop-done.rest.now = omega (arith, shorter, ap length comma) in
    smaller

pub list-loop-done-preserved : goal.list-loop-done-preserved
list-loop-done-preserved t c =
    let w = c.args.world.now in
    let n = c.args.levels in
    let rest = c.loop-done.rest.now in
    let others = c.in-Some.others.now in
    let one = c.in_ok-one.one in
    let comma : c.in_ok-one.after.now ≡ 44 ∷ others = behind-some 44 c.in_ok-one.after.now others (sym c.in-Some.ensures) in
    rw c.in_ok-push.ensures.ok (goes_on (spec.Begins w n) (begins_one w n) one others c.loop-done.invariant (subst (λ r. spec.Begins w n rest one r) comma c.in_ok-one.ensures))

pub list-returns-in-Some-behind : goal.list-returns-in-Some-behind
list-returns-in-Some-behind t c =
    let w = c.args.world.now in
    let n = c.args.levels in
    let rest = c.loop-done.rest.now in
    let end = c.in-Some-behind.end.now in
    let one = c.in_ok-one.one in
    let bracket : c.in_ok-one.after.now ≡ 93 ∷ end = behind-some 93 c.in_ok-one.after.now end (sym c.in-Some-behind.ensures) in
    rw c.in_ok-push.ensures.ok (ends (spec.Begins w n) (begins_one w n) one end c.loop-done.invariant (subst (λ r. spec.Begins w n rest one r) bracket c.in_ok-one.ensures))

pub list-returns-in-None-behind : goal.list-returns-in-None-behind
list-returns-in-None-behind t c =
    let w = c.args.world.now in
    let n = c.args.levels in
    let after = c.in_ok-one.after.now in
    no_mark (spec.Begins w n) (begins_one w n) c.in_ok-one.one after c.loop-done.invariant c.in_ok-one.ensures
    (behind-none 93 after (sym c.in-None-behind.ensures)) (behind-none 44 after (sym c.in-None.ensures))

pub tree-returns-then-levels-eq0 : goal.tree-returns-then-levels-eq0
tree-returns-then-levels-eq0 t c = no_levels c.args.world.now c.args.levels c.if-levels-eq0.true c.args.text.now

pub tree-returns-in_err-def : goal.tree-returns-in_err-def
tree-returns-in_err-def t c =
    let n = c.args.levels - 1 in
    let is : c.args.levels ≡ suc (c.args.levels - 1) = omega arith in
    let p = err_from_is_err_and c.from_residual.result c.from_residual.ensures.1 in
    rw (p.1, p.2) (pass_on c.in_err-def.field-0.0 c.in_err-def.ensures (no_definition c.args.world.now c.args.levels n is c.split_name.ensures))

pub tree-returns-in_err-args : goal.tree-returns-in_err-args
tree-returns-in_err-args t c =
    let n = c.args.levels - 1 in
    let is : c.args.levels ≡ suc (c.args.levels - 1) = omega arith in
    let p = err_from_is_err_and c.from_residual-in_err-args.result c.from_residual-in_err-args.ensures.1 in
    rw (p.1, p.2) (pass_on c.in_err-args.field-0.0 c.in_err-args.ensures (no_arguments c.args.world.now c.args.levels n is c.split_name.ensures))

pub tree-returns-then-not-is_end : goal.tree-returns-then-not-is_end
tree-returns-then-not-is_end t c =
    let n = c.args.levels - 1 in
    let is : c.args.levels ≡ suc (c.args.levels - 1) = omega arith in
    let open_end : spec.is_end c.split_arrays-count.result.1.now ≡ false = sym c.is_end.ensures ∙ c.if-not-is_end.true in
    no_end c.args.world.now c.args.levels n is c.split_name.ensures c.in_ok-args.ensures c.split_arrays-count.ensures open_end

pub tree-overflow_sub-levels-2 : goal.tree-overflow_sub-levels-2
tree-overflow_sub-levels-2 t c =
    let low : depth_of_all c.in_ok-args.args ≤ c.args.levels - 1 = arguments_shallow c.args.world.now (c.args.levels - 1) c.in_ok-args.ensures in
    omega (arith, low, c.depth_of_all.ensures, ap depth_of_all c.as_slice.ensures)

pub tree-returns-then-count-levels : goal.tree-returns-then-count-levels
tree-returns-then-count-levels t c =
    let n = c.args.levels - 1 in
    let is : c.args.levels ≡ suc (c.args.levels - 1) = omega arith in
    let low : depth_of_all c.in_ok-args.args ≤ c.args.levels - 1 = arguments_shallow c.args.world.now (c.args.levels - 1) c.in_ok-args.ensures in
    let over : c.args.levels ≤ c.split_arrays-count.result.0 + depth_of_all c.in_ok-args.args = omega (arith, low, c.depth_of_all.ensures, ap depth_of_all c.as_slice.ensures) in
    too_deep c.args.world.now c.args.levels n is c.split_name.ensures c.in_ok-args.ensures c.split_arrays-count.ensures over

pub tree-returns : goal.tree-returns
tree-returns t c =
    let n = c.args.levels - 1 in
    let is : c.args.levels ≡ suc (c.args.levels - 1) = omega arith in
    let low : depth_of_all c.in_ok-args.args ≤ c.args.levels - 1 = arguments_shallow c.args.world.now (c.args.levels - 1) c.in_ok-args.ensures in
    let under : c.split_arrays-count.result.0 + depth_of_all c.in_ok-args.args < c.args.levels = omega (arith, low, c.depth_of_all.ensures, ap depth_of_all c.as_slice.ensures) in
    let end : spec.is_end c.split_arrays-count.result.1.now ≡ true = sym c.is_end.ensures ∙ c.if-not-is_end.false in
    rw c.in_ok-in_arrays.ensures (found c.args.world.now c.args.levels n is c.split_name.ensures c.in_ok-args.ensures c.split_arrays-count.ensures c.in_ok-def.ensures end under)
