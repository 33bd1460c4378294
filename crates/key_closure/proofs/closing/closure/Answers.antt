use Rattle.std.proofs.Common.{◌≡◌, ◌+◌, ◌∙◌, Some, length, ap, sym, slice_get}
use Rattle.type_pool.specs.Keys.{key_at, key_below}
use Rattle.type_pool.proofs.JobLemmas.{grows_trans}
use Rattle.key_closure.specs.Bounds.{keys_at}
use Rattle.key_closure.proofs.ListSteps.{all_in, contains_at}
use Rattle.key_closure.proofs.NodeTurns.{keys_below-grown, next_listed, next_within}
use Rattle.key_closure.proofs.closing.closure.Goals as goal

pub direct-requires-clause-within : goal.direct-requires-clause-within
direct-requires-clause-within g c =
    let was = c.loop-turn in
    let here : slice_get was.members was.turn ≡ Some c.in_ok-taken.taken = c.get.ensures ∙ ap Some (sym c.in_ok-taken.ensures) in
    all_in (key_below (length was.pool)) was.members c.in_ok-taken.taken was.invariant.below (contains_at was.members was.turn c.in_ok-taken.taken here)

pub add_all-requires-clause-members : goal.add_all-requires-clause-members
add_all-requires-clause-members g c = keys_below-grown c.loop-turn.pool c.direct.new.pool c.direct.ensures.grows c.loop-turn.members c.loop-turn.invariant.below

pub returns-then-not-is_within-clause-none : goal.returns-then-not-is_within-clause-none
returns-then-not-is_within-clause-none g c =
    let was = c.loop-turn in let taken = c.in_ok-taken.taken in
    let here : slice_get was.members was.turn ≡ Some taken = c.get.ensures ∙ ap Some (sym c.in_ok-taken.ensures) in
    let spells = ap (keys_at c.direct.new.pool) c.as_slice.ensures ∙ c.in_ok-more.ensures.spells in
    let needs = g.N.Needs.needs c.args.graph.now c.args.world.now in let root = key_at c.args.pool.now c.args.key in (
      was.turn + 1,
      keys_at c.direct.new.pool c.add_all.new.members,
      next_listed was.pool c.direct.new.pool c.direct.ensures.grows needs root was.turn was.members c.as_slice.result.now c.add_all.new.members taken was.invariant.below here spells
          c.in_ok-fit.ensures.adds was.invariant.listed,
      next_within was.pool c.direct.new.pool c.direct.ensures.grows needs root was.turn was.members c.as_slice.result.now c.add_all.new.members taken was.invariant.below here spells
          c.in_ok-fit.ensures.adds c.in_ok-fit.fit c.is_within.result was.invariant.inside c.in_ok-fit.ensures.fit c.is_within.ensures ∙ search,
    )

pub loop-turn-preserved : goal.loop-turn-preserved
loop-turn-preserved g c =
    let was = c.loop-turn in let taken = c.in_ok-taken.taken in
    let here : slice_get was.members was.turn ≡ Some taken = c.get.ensures ∙ ap Some (sym c.in_ok-taken.ensures) in
    let spells = ap (keys_at c.direct.new.pool) c.as_slice.ensures ∙ c.in_ok-more.ensures.spells in
    let needs = g.N.Needs.needs c.args.graph.now c.args.world.now in let root = key_at c.args.pool.now c.args.key in record {
      grows = grows_trans c.args.pool.now was.pool c.direct.new.pool was.invariant.grows c.direct.ensures.grows;
      noted = c.in_ok-more.ensures.noted;
      below = c.in_ok-fit.ensures.below;
      listed = next_listed was.pool c.direct.new.pool c.direct.ensures.grows needs root was.turn was.members c.as_slice.result.now c.add_all.new.members taken was.invariant.below here
          spells c.in_ok-fit.ensures.adds was.invariant.listed;
      inside = next_within was.pool c.direct.new.pool c.direct.ensures.grows needs root was.turn was.members c.as_slice.result.now c.add_all.new.members taken was.invariant.below here
          spells c.in_ok-fit.ensures.adds c.in_ok-fit.fit c.is_within.result was.invariant.inside c.in_ok-fit.ensures.fit c.is_within.ensures ∙ search;
    }
