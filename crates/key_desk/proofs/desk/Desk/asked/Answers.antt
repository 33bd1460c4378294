use Rattle.std.proofs.Common.{◌≡◌, Some, slice_get, subst}
use Rattle.std.specs.Result.{IfOk}
use Rattle.type_tree.specs.declared.tree.Key.{Key}
use Rattle.type_tree.specs.Context.{key_of}
use Rattle.key_desk.specs.Desks.{DeskView, context_with, key_with, keys_of}
use Rattle.key_desk.proofs.desk.Desk.asked.Goals as goal

pub returns-clause-key : goal.returns-clause-key
returns-clause-key c =
    subst (λ (v : DeskView). IfOk c.asked.result (λ n. (s : Key) → slice_get c.args.world.now.sigs c.args.sig.0 ≡ Some s
    → key_with (keys_of c.asked.new.work) n ≡ Some (key_of (context_with v.keys c.args.context) s)))
    c.self.view_is c.asked.ensures.named
