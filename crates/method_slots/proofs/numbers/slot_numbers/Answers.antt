use Rattle.std.proofs.Common.{◌≡◌, ℕ, ◌<◌, ◌∷◌, ◌++◌, [], None, Some, Option, nat_eq, cond, suc, length, get_or, drop, drop-cons, add-one, arith, ap, subst, ◌∙◌, List}
use Rattle.method_slots.specs.declared.numbers.Virtual.{Virtual}
use Rattle.method_slots.specs.Numbers.{last_place}
use Rattle.method_slots.specs.Virtuals.{numbers, opened}
use Rattle.method_slots.proofs.Steps.{Left, home, shorter, virtual_left, other_left}
use Rattle.method_slots.proofs.numbers.slot_numbers.Goals as goal
use Rattle.method_slots.proofs.numbers.slot_numbers.Goals.{in-Some+in_ok-number-in-Some+in_ok-push-in-Some, in-None+in_ok-push-in-None}

pub loop-method-preserved : goal.loop-method-preserved
loop-method-preserved c =
    let k = c.loop-method in
    let i = k.method-index in
    let ms : List (Option Virtual) = c.args.methods.now in
    let before : List ℕ = c.args.keys.now in
    let inside : i < length ms = omega arith in
    let rest : List (Option Virtual) = drop (suc i) ms in
    let row : drop i ms ≡ get_or ms i None ∷ rest = drop-cons ms i None inside in
    let all = opened before ms in
    let wanted = numbers before ms in
    let few = k.invariant.few in
    elim c.match-method.branch [
      | in-Some+in_ok-number-in-Some+in_ok-push-in-Some w ↦
          let v : Virtual = w.in-Some.method in
          let found : Option ℕ = w.slot_of.result in
          let is : found ≡ home before v = w.slot_of.ensures ∙ ap (cond v.newslot None) (c.in_ok-places.ensures v.key ∙ ap (last_place (nat_eq v.key)) c.as_slice.ensures) in
          let head : drop i ms ≡ Some v ∷ rest = row ∙ ap (λ m. m ∷ rest) w.in-Some.is in
          let left = virtual_left before k.done k.keys v rest wanted all found is (subst (λ l. Left before k.done k.keys l wanted all) head k.invariant.left) in
          let longer = shorter before k.keys v.key found in
          let keys = w.keys-is ∙ w.in_ok-number-in-Some.ensures.opened in
          let done = w.done-is ∙ w.in_ok-push-in-Some.ensures.ok ∙ ap (λ n. k.done ++ Some n ∷ []) w.in_ok-number-in-Some.ensures.number in
          rw (keys, done, add-one) (record { few = omega (arith, few, longer); left = left })
      | in-None+in_ok-push-in-None w ↦
          let head : drop i ms ≡ None ∷ rest = row ∙ ap (λ m. m ∷ rest) w.in-None.is in
          let left = other_left before k.done k.keys rest wanted all (subst (λ l. Left before k.done k.keys l wanted all) head k.invariant.left) in
          let done = w.done-is ∙ w.in_ok-push-in-None.ensures.ok in
          rw (w.keys-is, done, add-one) (record { few = omega (arith, few); left = left })
    ]
