use Rattle.std.proofs.Common.{◌≡◌, ◌∙◌, true, length, List, None, Some, ap, subst, sym, arith}
use Rattle.std.proofs.lemmas.Result.{IfOk-weaker}
use Rattle.type_tree.specs.declared.tree.Ty.{Ty}
use Rattle.type_tree.specs.declared.tree.Key.TheVariants.{Tree}
use Rattle.type_pool.specs.declared.nodes.Id.{Id}
use Rattle.type_pool.specs.declared.nodes.Node.TheVariants.{Inst, Array}
use Rattle.type_pool.specs.declared.key_nodes.KeyId.{KeyId}
use Rattle.type_pool.specs.Keys.{arguments_of}
use Rattle.type_pool.specs.Trees.{at, at_all, tree_of, ids_below}
use Rattle.type_pool.proofs.KeyLemmas.{arguments-below}
use Rattle.type_pool.proofs.Levels.{parts_below-more}
use Rattle.type_record.specs.declared.loaded.TypeRecord.{TypeRecord}
use Rattle.type_record.specs.Naming.{record_in}
use Rattle.method_table.specs.Named.{Tells, bare}
use Rattle.method_table.specs.Tables.{type_table, bare_table, inst_table}
use Rattle.method_table.proofs.Records.{bare_tells, inst_level, array_level, other_level, some_at}
use Rattle.method_table.proofs.types.type_record.Goals as goal

pub returns-then-not-is_told-clause-tells : goal.returns-then-not-is_told-clause-tells
returns-then-not-is_told-clause-tells c =
    let w = c.args.world.now in let ts = c.args.pool.now in let ks = c.args.keys.now in let t = at ts c.args.id in
    let is : tree_of ts (Inst c.in-Inst.def c.in-Inst.args) ≡ t = ap (tree_of ts) (sym c.in-Inst.is ∙ c.in_ok-node.ensures) ∙ c.node.ensures.level in
    let level : type_table w t ≡ bare_table w t = inst_level w ts t c.in-Inst.def c.in-Inst.args None is (c.is_told.ensures.none c.if-not-is_told.true) in
    let told : Tells ts ks (bare c.args.canon) (record_in Tree (type_table w t)) =
    subst (λ (x : TypeRecord Ty). Tells ts ks (bare c.args.canon) (record_in Tree x)) (sym level) (bare_tells ts ks c.args.canon w t c.requires.canon) in
    IfOk-weaker c.bare_record.result _ _ (λ r e. subst (λ (x : TypeRecord KeyId). Tells ts ks x (record_in Tree (type_table w t))) (sym e) told) c.bare_record.ensures

pub inst_record-requires-clause-args : goal.inst_record-requires-clause-args
inst_record-requires-clause-args c =
    let ts = c.args.pool.now in
    let node : Inst c.in-Inst.def c.in-Inst.args ≡ c.node.result.now = sym c.in-Inst.is ∙ c.in_ok-node.ensures in
    let below : ids_below (length ts) (arguments_of c.node.result.now) ≡ true = arguments-below (length ts) c.node.result.now (parts_below-more c.args.id.0 (length ts) c.node.result.now (omega (arith, c.requires.tree)) c.node.ensures.below) in
    subst (λ (ids : List Id). ids_below (length ts) ids ≡ true) (sym (ap arguments_of node) ∙ sym c.as_slice-args.ensures) below

pub returns-else-not-is_told-clause-tells : goal.returns-else-not-is_told-clause-tells
returns-else-not-is_told-clause-tells c =
    let w = c.args.world.now in let ts = c.args.pool.now in let us = c.inst_record.new.pool in let ls = c.inst_record.new.keys in let t = at ts c.args.id in
    let is : tree_of ts (Inst c.in-Inst.def c.in-Inst.args) ≡ t = ap (tree_of ts) (sym c.in-Inst.is ∙ c.in_ok-node.ensures) ∙ c.node.ensures.level in
    let d = some_at w.defs c.in-Inst.def.0 (c.is_told.ensures.exists c.if-not-is_told.false) in
    let level : type_table w t ≡ inst_table w t c.in-Inst.def (at_all ts c.in-Inst.args) d.0 = inst_level w ts t c.in-Inst.def c.in-Inst.args (Some d.0) is (c.is_told.ensures.told d.0 d.1 c.if-not-is_told.false) in
    let same : inst_table w t c.in-Inst.def (at_all ts c.as_slice-args.result.now) d.0 ≡ type_table w t =
    ap (λ (ids : List Id). inst_table w t c.in-Inst.def (at_all ts ids) d.0) c.as_slice-args.ensures ∙ sym level in
    IfOk-weaker c.inst_record.result _ _ (λ r e. subst (λ (x : TypeRecord Ty). Tells us ls r (record_in Tree x)) same e) (c.inst_record.ensures.tells d.0 d.1)

pub returns-in-Array-clause-tells : goal.returns-in-Array-clause-tells
returns-in-Array-clause-tells c =
    let w = c.args.world.now in let ts = c.args.pool.now in let us = c.array_record.new.pool in let ls = c.array_record.new.keys in let t = at ts c.args.id in
    let is : tree_of ts (Array c.in-Array.part) ≡ t = ap (tree_of ts) (sym c.in-Array.is ∙ c.in_ok-node.ensures) ∙ c.node.ensures.level in
    IfOk-weaker c.array_record.result _ _ (λ r e. subst (λ (x : TypeRecord Ty). Tells us ls r (record_in Tree x)) (sym (array_level w ts t c.in-Array.part is)) e) c.array_record.ensures.tells

pub returns-in_default-clause-tells : goal.returns-in_default-clause-tells
returns-in_default-clause-tells c =
    let w = c.args.world.now in let ts = c.args.pool.now in let ks = c.args.keys.now in let t = at ts c.args.id in
    let is : tree_of ts c.in_ok-node.node ≡ t = ap (tree_of ts) c.in_ok-node.ensures ∙ c.node.ensures.level in
    let level : type_table w t ≡ bare_table w t = other_level w ts t c.in_ok-node.node c.in_default.not-Inst c.in_default.not-Array is in
    let told : Tells ts ks (bare c.args.canon) (record_in Tree (type_table w t)) =
    subst (λ (x : TypeRecord Ty). Tells ts ks (bare c.args.canon) (record_in Tree x)) (sym level) (bare_tells ts ks c.args.canon w t c.requires.canon) in
    IfOk-weaker c.bare_record-in_default.result _ _ (λ r e. subst (λ (x : TypeRecord KeyId). Tells ts ks x (record_in Tree (type_table w t))) (sym e) told) c.bare_record-in_default.ensures
