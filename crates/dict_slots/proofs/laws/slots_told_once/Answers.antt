use Rattle.std.proofs.Common.{◌≡◌, ℕ, subst}
use Rattle.clr_base.specs.declared.ids.SigId.{SigId}
use Rattle.node_set.proofs.Probes.{one_cell}
use Rattle.dict_slots.specs.Slots.{HasSlot, has_slot_on}
use Rattle.dict_slots.proofs.Signatures.{one_signature, one_slot}
use Rattle.dict_slots.proofs.laws.slots_told_once.Goals as goal

pub returns : goal.returns
returns g c = λ page v paged known h m n s t a b.
    let cells = g.P.Page.cell_count page in let all = known.sound.0 in let lawful = known.sound.1.0 page paged in let within = known.sound.1.1 in
    let one = one_cell (g.P.Meaning.may page) cells (λ l x may low. (g.met.P.Nodes.node_rule page l x may low).1) all lawful in
    let a' = has_slot_on cells v.seen all within h m s a in let b' = has_slot_on cells v.seen all within h n t b in (
      λ (e : m ≡ n). one_signature cells all lawful.1 one h n s t (subst (λ (x : ℕ). HasSlot cells all h x s) e a') b',
      λ (e : s ≡ t). one_slot cells all lawful.1 (λ x has inside. g.met.P.Slots.slot_rule page all x (lawful.0 x has) inside) one h m n t (subst (λ (x : SigId). HasSlot cells all h m x) e a') b',
    )
