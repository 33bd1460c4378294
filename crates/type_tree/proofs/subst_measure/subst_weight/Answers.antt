use Rattle.std.proofs.Common.{◌≡◌, ap, ap₂, ◌∙◌}
use Rattle.type_tree.specs.SubstMeasure.{held, held_weights, put_weight_of_key}
use Rattle.type_tree.proofs.SubstMeasureLemmas.{key_heavy}
use Rattle.type_tree.proofs.subst_measure.subst_weight.Goals as goal

pub returns : goal.returns
returns c =
    let types = c.args.types.now in
    let methods = c.args.methods.now in
    let types_are : c.as_slice-3.result.now ≡ held_weights types = c.as_slice-3.ensures ∙ c.in_ok-types.ensures ∙ ap held_weights c.as_slice.ensures in
    let methods_are : c.as_slice-4.result.now ≡ held_weights methods = c.as_slice-4.ensures ∙ c.in_ok-methods.ensures ∙ ap held_weights c.as_slice-2.ensures in
    c.key_weight.ensures ∙ ap₂ (λ ts ms. held (put_weight_of_key ts ms c.args.key.now)) types_are methods_are ∙ key_heavy types methods c.args.key.now
