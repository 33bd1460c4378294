use Rattle.std.proofs.Common.{◌≡◌, eqb-true, length, List, [], map, ap, ◌∙◌, sym, subst}
use Rattle.type_pool.specs.declared.nodes.Id.{Id}
use Rattle.type_pool.specs.Trees.{at_all}
use Rattle.method_slots.specs.Keyed.{AreNamed}
use Rattle.method_slots.specs.Opens.{put_open}
use Rattle.slot_chains.proofs.HandedLemmas.{no_items, opens_kept}
use Rattle.slot_chains.proofs.handing.hand_keys.Goals as goal

pub returns-then-is_empty-clause-hands_on : goal.returns-then-is_empty-clause-hands_on
returns-then-is_empty-clause-hands_on c = λ slots named.
    let ts = c.args.pool.now in
    let os = c.args.set.now in
    let types : List Id = c.args.types.now in
    let none : types ≡ [] = no_items types (eqb-true (length types) 0 (sym c.is_empty.ensures ∙ c.if-is_empty.true)) in
    let put : map (put_open (at_all ts types)) slots ≡ slots = ap (λ us. map (put_open (at_all ts us)) slots) none ∙ opens_kept slots in
    let kept : AreNamed ts os c.in_ok-from_slice.field-0 slots = subst (λ ks. AreNamed ts os ks slots) (sym c.in_ok-from_slice.ensures) named in
    subst (λ ss. AreNamed ts os c.in_ok-from_slice.field-0 ss) (sym put) kept
