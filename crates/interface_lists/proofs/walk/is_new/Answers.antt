use Rattle.std.proofs.Common.{not, ◌&&◌, ap, ap₂, ◌∙◌, sym}
use Rattle.interface_lists.proofs.Ids.{listed_test}
use Rattle.interface_lists.proofs.walk.is_new.Goals as goal

pub returns-then-names_interface-clause-test : goal.returns-then-names_interface-clause-test
returns-then-names_interface-clause-test c =
    let listed = c.has.ensures ∙ listed_test c.args.pool.now c.each_once.ensures c.args.id c.requires.id c.args.found.now.keys c.requires.found in
    ap (λ b. b && not c.has.result) (sym c.if-names_interface.true) ∙ ap₂ (λ a b. a && not b) c.names_interface.ensures listed
