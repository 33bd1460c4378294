use Rattle.std.proofs.Common.{◌≡◌, ap, ◌∙◌, arith, length}
use Rattle.type_names.specs.TypeKeys.{first_of}
use Rattle.type_names.proofs.FirstKeys.{first_step}
use Rattle.type_names.proofs.type_keys.FirstPlaces.new.Goals as goal

pub loop-place-preserved : goal.loop-place-preserved
loop-place-preserved c =
    first_step c.loop-place.places c.note.new.places c.args.keys.now c.loop-place.place _ (omega arith) c.loop-place.invariant (λ k. c.in_ok-note.ensures k)

pub returns : goal.returns
returns c = record {
  few = c.requires;
  each = λ key.
      let all : c.loop-place.place ≡ length c.args.keys.now = omega arith in
      c.loop-place.invariant key ∙ ap (first_of c.args.keys.now key) all;
}
