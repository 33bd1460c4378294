use Rattle.std.proofs.Common.{◌≡◌, Some, None, slice_get, length, ap, ◌∙◌, sym, arith}
use Rattle.std.specs.Option.{option_copied}
use Rattle.std.proofs.lemmas.List.{length-map}
use Rattle.type_tree.specs.declared.definition.Formal.{Formal}
use Rattle.type_tree.specs.declared.tree.Ty.{Ty}
use Rattle.type_pool.specs.Trees.{at, at_all}
use Rattle.type_pool.proofs.JobLemmas.{below-grown, grown_length, grows_trans}
use Rattle.type_subs.specs.Constraints.{fails}
use Rattle.type_subs.proofs.PairLoops.{pairs_short, pairs_found, pairs_next, pairs_last}
use Rattle.type_subs.proofs.PutLemmas.{fails_same, none_past, below_get, arg_within, arg_is}
use Rattle.type_subs.proofs.constraints.any_fails.Goals as goal

pub returns-in_default-clause-is : goal.returns-in_default-clause-is
returns-in_default-clause-is c =
    let ts = c.args.pool.now in let was = c.loop-i in let w = c.args.world.now in
    let p = λ (x : Formal × Ty). fails w (at_all ts c.args.types.now) (at_all ts c.args.methods.now) x.0 x.1 in
    let none : slice_get c.args.args.now was.i ≡ None = sym c.at.ensures ∙ ap option_copied c.in_default.is in
    let past = none_past c.args.args.now was.i none in
    let long = length-map c.args.args.now (at ts) in
    pairs_short p c.args.formals.now (at_all ts c.args.args.now) was.i was.invariant.left (omega (arith, past, long))

pub fails-requires-clause-arg : goal.fails-requires-clause-arg
fails-requires-clause-arg c =
    let here : slice_get c.args.args.now c.loop-i.i ≡ Some c.in-Some.arg.now = sym c.at.ensures ∙ ap option_copied c.in-Some.is in
    let low = below_get (length c.args.pool.now) c.args.args.now c.loop-i.i c.in-Some.arg.now c.requires.args here in
    let longer = grown_length c.args.pool.now c.loop-i.pool c.loop-i.invariant.grows in
    omega (arith, low, longer)

pub fails-requires-clause-types : goal.fails-requires-clause-types
fails-requires-clause-types c = below-grown c.args.pool.now c.loop-i.pool c.loop-i.invariant.grows c.args.types.now c.requires.types

pub fails-requires-clause-methods : goal.fails-requires-clause-methods
fails-requires-clause-methods c = below-grown c.args.pool.now c.loop-i.pool c.loop-i.invariant.grows c.args.methods.now c.requires.methods

pub returns-then-branch-clause-is : goal.returns-then-branch-clause-is
returns-then-branch-clause-is c =
    let ts = c.args.pool.now in let was = c.loop-i in let w = c.args.world.now in let a = c.in-Some.arg.now in let formal = c.index-formals-i.result in
    let p = λ (x : Formal × Ty). fails w (at_all ts c.args.types.now) (at_all ts c.args.methods.now) x.0 x.1 in
    let here : slice_get c.args.args.now was.i ≡ Some a = sym c.at.ensures ∙ ap option_copied c.in-Some.is in
    let low = below_get (length ts) c.args.args.now was.i a c.requires.args here in
    let is = fails_same ts was.pool was.invariant.grows c.args.types.now c.args.methods.now c.requires.types c.requires.methods w formal a c.in_ok-fails.field-0 low c.in_ok-fails.ensures.is in
    pairs_found p c.args.formals.now (at_all ts c.args.args.now) was.i formal (at ts a) was.invariant.left (omega (arith, c.loop-i-test.true)) (sym c.index-formals-i.is)
    (arg_within ts c.args.args.now was.i a here) (arg_is ts c.args.args.now was.i a here) (sym is ∙ c.if-branch.true)

pub loop-i-preserved : goal.loop-i-preserved
loop-i-preserved c =
    let ts = c.args.pool.now in let was = c.loop-i in let w = c.args.world.now in let a = c.in-Some.arg.now in let formal = c.index-formals-i.result in
    let p = λ (x : Formal × Ty). fails w (at_all ts c.args.types.now) (at_all ts c.args.methods.now) x.0 x.1 in
    let here : slice_get c.args.args.now was.i ≡ Some a = sym c.at.ensures ∙ ap option_copied c.in-Some.is in
    let low = below_get (length ts) c.args.args.now was.i a c.requires.args here in
    let is = fails_same ts was.pool was.invariant.grows c.args.types.now c.args.methods.now c.requires.types c.requires.methods w formal a c.in_ok-fails.field-0 low c.in_ok-fails.ensures.is in record {
      grows = grows_trans ts was.pool c.fails.new.pool was.invariant.grows c.fails.ensures.grows;
      left = pairs_next p c.args.formals.now (at_all ts c.args.args.now) was.i formal (at ts a) was.invariant.left (omega (arith, c.loop-i-test.true)) (sym c.index-formals-i.is)
          (arg_within ts c.args.args.now was.i a here) (arg_is ts c.args.args.now was.i a here) (sym is ∙ c.if-branch.false);
    }

pub returns-clause-is : goal.returns-clause-is
returns-clause-is c =
    let ts = c.args.pool.now in let w = c.args.world.now in
    let p = λ (x : Formal × Ty). fails w (at_all ts c.args.types.now) (at_all ts c.args.methods.now) x.0 x.1 in
    pairs_last p c.args.formals.now (at_all ts c.args.args.now) c.loop-i.i c.loop-i.invariant.left c.loop-i-test.false
