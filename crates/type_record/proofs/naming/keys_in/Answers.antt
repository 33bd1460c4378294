use Rattle.std.proofs.Common.{Some, ◌∙◌}
use Rattle.type_record.proofs.NamingLemmas.{none_in}
use Rattle.type_record.proofs.naming.keys_in.Goals as goal

pub returns-in_default : goal.returns-in_default
returns-in_default g c =
    none_in (g.H.Handles.handle_of c.args.names.now) Some c.args.keys.now c.loop-key.key-index c.key-item.result c.loop-key-test.true c.key-item.is
    (λ h e. c.in_default.not-Some h (c.handle.ensures ∙ e))
