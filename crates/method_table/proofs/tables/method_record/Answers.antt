use Rattle.std.proofs.Common.{◌∙◌, Some, ap, subst, sym}
use Rattle.std.proofs.lemmas.Result.{IfOk-weaker}
use Rattle.type_pool.specs.Trees.{at, at_all}
use Rattle.method_table.specs.declared.parts.Front.{Front}
use Rattle.method_table.specs.Named.{Tells}
use Rattle.method_table.specs.Tables.{method_record}
use Rattle.method_table.proofs.Growing.{key_more, keys_trans}
use Rattle.method_table.proofs.Records.{method_tells}
use Rattle.method_table.proofs.tables.method_record.Goals as goal

pub returns-clause-tells : goal.returns-clause-tells
returns-clause-tells c k named =
    let ts = c.args.pool.now in let ks = c.args.keys.now in let ls = c.number_of.new.keys in let ms = c.numbers_of.new.keys in
    let g = c.in_ok-parent.ensures.grows in let h = c.in_ok-args.ensures.grows in
    let owner = at ts c.args.owner in let args = at_all ts c.args.args.now in
    let f : Front = record { parent = Some c.in_ok-parent.parent; args = c.in_ok-args.args; fields = c.new.result } in
    let up = ap Some (key_more ts ts ls ms g.within h c.in_ok-parent.parent _ c.in_ok-parent.ensures.named) in
    let canon = key_more ts ts ks ms c.requires.keys (keys_trans ts ts ts ks ls ms g h) c.args.canon k named in
    let whole = method_tells ts ms c.args.canon k owner args f c.plain_back-back.result canon up c.in_ok-args.ensures.named c.new.ensures c.plain_back-back.ensures.interfaces (c.plain_back-back.ensures.slots ∙ c.new-2.ensures) c.plain_back-back.ensures.interface_slots in
    IfOk-weaker c.record_of.result _ _ (λ r e. subst (λ x. Tells ts ms x (method_record owner args k)) (sym e) whole) c.record_of.ensures
