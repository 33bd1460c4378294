use Rattle.std.proofs.Common.{◌<◌, ◌||◌, List, length, get_or, drop, suc, ap, ◌∙◌, sym, add-one, arith, true≢false}
use Rattle.std.specs.List.{list_any}
use Rattle.type_pool.specs.declared.nodes.Id.{Id}
use Rattle.type_pool.specs.Trees.{at, at_all}
use Rattle.type_pool.proofs.JobLemmas.{below_next}
use Rattle.method_slots.specs.Slots.{same_tree}
use Rattle.slot_chains.proofs.RowLemmas.{alike, unlike, any-step}
use Rattle.slot_chains.proofs.rows.has_tree.Goals as goal

pub returns-then-same : goal.returns-then-same
returns-then-same c =
    let k = c.loop-other in
    let ts = c.args.pool.now in
    let ids : List Id = c.args.ids.now in
    let d : Id = record { 0 = 0 } in
    let t = at ts c.args.id in
    let inside : k.other-index < length ids = omega arith in
    let one = get_or ids k.other-index d in
    let is = alike t (at ts one) (c.same.ensures.0 c.if-same.true) in
    sym (any-step t ts ids k.other-index d inside ∙ ap (λ b. b || list_any (same_tree t) (at_all ts (drop (suc k.other-index) ids))) is) ∙ k.invariant.left

pub loop-other-preserved : goal.loop-other-preserved
loop-other-preserved c =
    let k = c.loop-other in
    let ts = c.args.pool.now in
    let ids : List Id = c.args.ids.now in
    let d : Id = record { 0 = 0 } in
    let t = at ts c.args.id in
    let inside : k.other-index < length ids = omega arith in
    let one = get_or ids k.other-index d in
    let isnt = unlike t (at ts one) (λ e. true≢false (sym (c.same.ensures.1 e) ∙ c.if-same.false)) in
    record {
      within = below_next (length ts) ids k.other-index d inside k.invariant.within;
      left = rw add-one (sym (any-step t ts ids k.other-index d inside ∙ ap (λ b. b || list_any (same_tree t) (at_all ts (drop (suc k.other-index) ids))) isnt) ∙ k.invariant.left);
    }
