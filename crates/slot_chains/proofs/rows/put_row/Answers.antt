use Rattle.std.proofs.Common.{◌≡◌, ◌&&◌, true, false, cond, List, None, length, ap, ap₂, ◌∙◌, sym, subst}
use Rattle.std.proofs.lemmas.Bool.{and_parts}
use Rattle.std.proofs.lemmas.List.{length-map}
use Rattle.std.specs.List.{list_any}
use Rattle.std.specs.Option.{option_map, option_and_then}
use Rattle.clr_base.specs.declared.ids.MethId.{MethId}
use Rattle.type_tree.specs.declared.tree.Ty.{Ty}
use Rattle.type_pool.specs.declared.nodes.Id.{Id}
use Rattle.type_pool.specs.Trees.{at, at_all}
use Rattle.type_pool.proofs.JobLemmas.{at_all-grown, below-grown}
use Rattle.method_slots.specs.Chains as spec
use Rattle.method_slots.specs.Slots.{same_tree}
use Rattle.slot_chains.specs.Puts.{replace}
use Rattle.slot_chains.proofs.RowLemmas.{owner-noted}
use Rattle.slot_chains.proofs.rows.put_row.Goals as goal

pub row_fits-requires-clause-within : goal.row_fits-requires-clause-within
row_fits-requires-clause-within c = below-grown c.args.pool.now c.from_tree.new.pool c.in_ok-owner.ensures.grows c.args.parents.now c.requires.parents

pub declared_number-number-requires-clause-noted : goal.declared_number-number-requires-clause-noted
declared_number-number-requires-clause-noted c = λ p e.
    let w = c.args.world.now in
    let ids : List Id = c.args.parents.now in
    let row = c.args.row.now in
    let same = at_all-grown c.args.pool.now c.from_tree.new.pool c.in_ok-owner.ensures.grows ids c.requires.parents in
    let fits = sym c.row_fits.ensures ∙ c.if-row_fits.true in
    let declared = (and_parts _ _ fits).1 in
    let among : list_any (same_tree row.owner) (at_all c.from_tree.new.pool ids) ≡ true = (and_parts _ _ declared).0 in
    owner-noted c.args.notes.now.places (at_all c.args.pool.now ids) row.owner p c.requires.owners (subst (λ l. list_any (same_tree row.owner) l ≡ true) same among) e

pub returns-then-row_fits-clause-put : goal.returns-then-row_fits-clause-put
returns-then-row_fits-clause-put c =
    let w = c.args.world.now in
    let n = c.args.def.0 in
    let ids : List Id = c.args.parents.now in
    let trees : List Ty = at_all c.args.pool.now ids in
    let row = c.args.row.now in
    let same = at_all-grown c.args.pool.now c.from_tree.new.pool c.in_ok-owner.ensures.grows ids c.requires.parents in
    let fits : (spec.owns w n row.body && spec.is_declared w trees row) ≡ true =
    subst (λ l. (spec.owns w n row.body && spec.is_declared w l row) ≡ true) same (sym c.row_fits.ensures ∙ c.if-row_fits.true) in
    let take = option_and_then (λ (m : MethId). option_map (spec.take_of (length trees) m.0) (spec.declared_number w row)) row.body in
    let long : length ids ≡ length trees = sym (length-map ids (at c.args.pool.now)) in
    let put : c.put_body.new.entries ≡ replace c.args.entries.now take =
    c.put_body.ensures ∙ ap₂ (λ l number. replace c.args.entries.now (option_and_then (λ (m : MethId). option_map (spec.take_of l m.0) number) row.body)) long c.declared_number-number.ensures in
    put ∙ ap (λ b. replace c.args.entries.now (cond b take None)) (sym fits)

pub returns-else-row_fits-clause-put : goal.returns-else-row_fits-clause-put
returns-else-row_fits-clause-put c =
    let w = c.args.world.now in
    let n = c.args.def.0 in
    let ids : List Id = c.args.parents.now in
    let trees : List Ty = at_all c.args.pool.now ids in
    let row = c.args.row.now in
    let same = at_all-grown c.args.pool.now c.from_tree.new.pool c.in_ok-owner.ensures.grows ids c.requires.parents in
    let fails : (spec.owns w n row.body && spec.is_declared w trees row) ≡ false =
    subst (λ l. (spec.owns w n row.body && spec.is_declared w l row) ≡ false) same (sym c.row_fits.ensures ∙ c.if-row_fits.false) in
    let take = option_and_then (λ (m : MethId). option_map (spec.take_of (length trees) m.0) (spec.declared_number w row)) row.body in
    ap (λ b. replace c.args.entries.now (cond b take None)) (sym fails)
