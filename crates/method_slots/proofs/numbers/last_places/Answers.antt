use Rattle.std.proofs.Common.{◌≡◌, ◌<◌, ◌+◌, ◌++◌, ◌∷◌, [], Some, nat_eq, length, take, get_or, add-one, arith, subst, sym}
use Rattle.std.proofs.Math.Seq.{take-suc}
use Rattle.std.proofs.lemmas.List.{length-take-le}
use Rattle.std.specs.HashMap.{Updates}
use Rattle.method_slots.specs.Virtuals.{AreLast}
use Rattle.method_slots.proofs.LastPlaces.{last_noted}
use Rattle.method_slots.proofs.numbers.last_places.Goals as goal

pub loop-i-preserved : goal.loop-i-preserved
loop-i-preserved c =
    let k = c.loop-i in
    let all = c.args.inherited.now in
    let x = get_or all k.i 0 in
    let inside : k.i < length all = omega arith in
    let row : take (k.i + 1) all ≡ take k.i all ++ x ∷ [] = rw add-one (take-suc all k.i 0 inside) in
    let count : length (take k.i all) ≡ k.i = length-take-le k.i all (omega arith) in
    let updates : Updates nat_eq k.places c.note_last.new.places x (Some (length (take k.i all))) =
    subst (λ n. Updates nat_eq k.places c.note_last.new.places x (Some n)) (sym count) c.in_ok-note_last.ensures in
    subst (AreLast c.note_last.new.places) (sym row) (last_noted k.places c.note_last.new.places (take k.i all) x k.invariant updates)
