use Rattle.std.proofs.Common.{◌+◌, ◌++◌, ◌∷◌, [], drop, None, Some, sym, subst}
use Rattle.type_record.specs.TheOne.{IsTheOne}
use Rattle.type_record.specs.Sections.{IsFirst}
use Rattle.type_record.proofs.InterfaceLemmas.{GoesOn, none_here, goes_on, one_end, no_more, ends, first_moved, interfaces_same}
use Rattle.type_record.proofs.interfaces.read_interfaces.Goals as goal

pub returns-in_default : goal.returns-in_default
returns-in_default c x are =
    let left : IsTheOne (IsFirst c.loop-i.before (drop c.loop-i.i c.args.words.now) (drop c.loop-i.before c.args.methods.now)) None =
    subst (IsTheOne (IsFirst c.loop-i.before (drop c.loop-i.i c.args.words.now) (drop c.loop-i.before c.args.methods.now))) c.in_default.is
    (first_moved c.loop-i.before c.in_ok-first.field-0 c.words_from.ensures c.words_from-behind.ensures c.in_ok-first.ensures) in
    none_here c.args.words.now c.args.methods.now c.loop-i.all c.loop-i.slots c.loop-i.before c.loop-i.i c.loop-i-test.true c.loop-i.invariant left x.all x.slots are

pub loop-i-preserved : goal.loop-i-preserved
loop-i-preserved c =
    let words = c.args.words.now in
    let methods = c.args.methods.now in
    let f = c.in-Some.first in
    let some : IsTheOne (IsFirst c.loop-i.before (drop c.loop-i.i c.args.words.now) (drop c.loop-i.before c.args.methods.now)) (Some c.in-Some.first) =
    subst (IsTheOne (IsFirst c.loop-i.before (drop c.loop-i.i c.args.words.now) (drop c.loop-i.before c.args.methods.now))) c.in-Some.is
    (first_moved c.loop-i.before c.in_ok-first.field-0 c.words_from.ensures c.words_from-behind.ensures c.in_ok-first.ensures) in
    let on = goes_on words methods c.loop-i.all c.loop-i.slots c.loop-i.before c.loop-i.i c.loop-i-test.true c.loop-i.invariant f some.0 some.1 in
    subst (λ xs. GoesOn words methods xs c.push-in-loop-i.new.self (c.loop-i.before + c.len-before.result) (c.loop-i.i + 1)) (sym c.in_ok-push.ensures.ok)
    (subst (λ ys. GoesOn words methods (c.loop-i.all ++ f.interface ∷ []) ys (c.loop-i.before + c.len-before.result) (c.loop-i.i + 1)) (sym c.in_ok-push-2.ensures.ok)
    (subst (λ n. GoesOn words methods (c.loop-i.all ++ f.interface ∷ []) (c.loop-i.slots ++ f.slots ∷ []) (c.loop-i.before + n) (c.loop-i.i + 1)) (sym c.len-before.ensures) on))

pub returns-then-before-methods : goal.returns-then-before-methods
returns-then-before-methods c =
    let words = c.args.words.now in
    let methods = c.args.methods.now in (
      ends words methods c.loop-i.all c.loop-i.slots c.loop-i.before c.loop-i.i c.loop-i-test.false c.loop-i.invariant c.if-before-methods.true,
      λ x are. interfaces_same x c.loop-i.all c.loop-i.slots
          (one_end words methods c.loop-i.all c.loop-i.slots c.loop-i.before c.loop-i.i c.loop-i-test.false c.loop-i.invariant x.all x.slots are),
    )

pub returns-else-before-methods : goal.returns-else-before-methods
returns-else-before-methods c x are =
    c.if-before-methods.false
    (no_more c.args.words.now c.args.methods.now c.loop-i.all c.loop-i.slots c.loop-i.before c.loop-i.i c.loop-i-test.false c.loop-i.invariant x.all x.slots are)
