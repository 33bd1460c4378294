use Rattle.std.proofs.Common.{◌≡◌, true, length, List, sym, subst, refl}
use Rattle.type_pool.specs.declared.key_nodes.KeyNode.{KeyNode}
use Rattle.type_pool.specs.Keys.{keys_below}
use Rattle.key_desk.proofs.work.no_work.Goals as goal

pub returns-clause-right : goal.returns-clause-right
returns-clause-right c = λ w. record {
  within = subst (λ (l : List KeyNode). keys_below (length c.new.result) l ≡ true) (sym c.new-2.ensures) refl;
  forms = c.no_notes.ensures.canonical w c.new.result;
  noted = c.no_notes.ensures.notes w c.new.result;
}
