use Rattle.std.proofs.Common.{◌≡◌, ◌+◌, [], ◌∷◌, ◌++◌, length, map, ap, ap₂, ◌∙◌}
use Rattle.std.proofs.lemmas.List.{map-append}
use Rattle.type_tree.specs.declared.tree.Ty.TheVariants as ty
use Rattle.type_pool.proofs.JobLemmas.{below-one, grows_trans, spell_all-grown}
use Rattle.type_pool.specs.Trees.{at}
use Rattle.method_slots.specs.Slots as slots
use Rattle.slot_chains.proofs.ListLemmas.{range-more}
use Rattle.slot_chains.proofs.own.variables.Goals as goal

pub loop-i-preserved : goal.loop-i-preserved
loop-i-preserved c =
    let k = c.loop-i in
    let new = c.intern.new.self in
    let made = c.in_ok-intern.ensures in
    let one = c.in_ok-intern.field-0 in
    let was = spell_all-grown k.pool new made.grows k.done (slots.variables k.i) k.invariant.spells in
    let more : slots.variables (k.i + 1) ≡ slots.variables k.i ++ ty.Var k.i ∷ [] = ap (map ty.Var) (range-more k.i) ∙ map-append ty.Var _ (k.i ∷ []) in
    rw (c.in_ok-push.ensures.ok, more) (record {
      grows = grows_trans c.args.pool.now k.pool new k.invariant.grows made.grows;
      spells = record {
        within = below-one (length new) k.done one was.within made.spells.within;
        are = map-append (at new) k.done (one ∷ []) ∙ ap₂ (λ us u. us ++ u ∷ []) was.are made.spells.is;
      };
    })
