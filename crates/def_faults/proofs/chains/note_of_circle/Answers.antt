use Rattle.std.proofs.Common.{◌≡◌, ◌∙◌, ◌-◌, Some, length, take, drop, sym, ap, subst, length-drop}
use Rattle.std.proofs.Math.Seq.{take-length}
use Rattle.def_faults.specs.Marks.{IsNote, round_note}
use Rattle.def_faults.proofs.Noting.{circle_is}
use Rattle.def_faults.proofs.chains.note_of_circle.Goals as goal

pub returns : goal.returns
returns c =
    let w = c.args.world.now in
    let path = c.args.path.now in
    let place = c.place_on-place.result in
    let all : take (length path - place) (drop place path) ≡ drop place path = ap (λ n. take n (drop place path)) (sym (length-drop place path)) ∙ take-length (drop place path) in
    rw c.note_of_members.ensures
    (subst (λ ids. IsNote w (Some c.args.id) (round_note w ids)) (sym all) (circle_is w path c.args.id place c.requires.leads c.place_on-place.ensures))
