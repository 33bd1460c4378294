use Rattle.std.proofs.Common.{◌≡◌, ◌∙◌, ◌++◌, ◌∷◌, ◌+◌, suc, sym, ap, arith, length, Some}
use Rattle.type_tree.specs.Reading.{array_at, arrays}
use Rattle.type_tree.proofs.TreeReading.{arrays-more, array_at-some}
use Rattle.type_tree.proofs.read_text.split_arrays.Goals as goal

pub loop-more-preserved : goal.loop-more-preserved
loop-more-preserved c =
    let count = c.loop-more.count in
    let more = c.in-Some.more.now in
    let found : array_at c.loop-more.rest.now ≡ Some more = sym c.in-Some.ensures in
    let is : c.loop-more.rest.now ≡ 91 ∷ 93 ∷ more = array_at-some c.loop-more.rest.now more found in
    let next : suc count ≡ count + 1 = omega arith in
    record {
      whole = c.loop-more.invariant.whole ∙ ap (λ s. arrays count ++ s) is ∙ arrays-more count more ∙ ap (λ k. arrays k ++ more) next;
      room = omega (arith, ap length is);
    }
