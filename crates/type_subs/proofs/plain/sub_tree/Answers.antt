use Rattle.std.proofs.Common.{◌≡◌, Bool}
use Rattle.std.proofs.lemmas.Result.{IfOk-weaker}
use Rattle.type_pool.specs.Trees.{at}
use Rattle.type_subs.specs.Subs.{is_sub}
use Rattle.type_subs.proofs.SubLemmas.{sub_over}
use Rattle.type_subs.proofs.plain.sub_tree.Goals as goal

pub returns : goal.returns
returns c =
    let w = c.args.world.now in let ts = c.from_tree.new.pool in let us = c.from_tree-2.new.pool in
    let a = c.in_ok-first.first in let b = c.in_ok-second.second in
    IfOk-weaker c.sub.result (λ (r : Bool). r ≡ is_sub w (at us a) (at us b)) (λ (r : Bool). r ≡ is_sub w c.args.tree.now c.args.other.now)
    (λ found is. sub_over w ts us c.from_tree-2.ensures.grows a b c.args.tree.now c.args.other.now found c.in_ok-first.ensures.spells c.in_ok-second.ensures.spells is)
    c.sub.ensures.is
