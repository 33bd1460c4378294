use Rattle.std.proofs.Common.{◌≡◌, ◌∷◌, ◌++◌, [], cond, List, None, Some, ap, ◌∙◌, sym, subst}
use Rattle.type_tree.specs.declared.tree.Ty.{Ty}
use Rattle.type_pool.specs.Trees.{at_all}
use Rattle.method_slots.specs.Opens.{open_of, put_open}
use Rattle.interface_maps.specs.Choices.{Public, listed, public_of}
use Rattle.interface_maps.specs.Publics.{ArePublics}
use Rattle.interface_maps.proofs.PublicLemmas.{publics-one, ok_then}
use Rattle.interface_maps.proofs.publics.add_public.Goals as goal

pub returns-clause-gains : goal.returns-clause-gains
returns-clause-gains c =
    let p0 = c.args.pool.now in
    let p1 = c.key_of.new.pool in
    let s0 = c.args.set.now in
    let s1 = c.key_of.new.set in
    let types : List Ty = at_all p0 c.args.types.now in
    let m = c.args.method.now in
    let old = c.args.numbers.now in
    let new = c.note_first.new.numbers in
    let p : Public = record { signature = put_open types (open_of m); number = c.args.number } in
    let may = sym c.may_answer.ensures ∙ c.if-not-may_answer.false in
    let one : listed (public_of types m (Some c.args.number)) [] ≡ p ∷ [] = ap (λ b. listed (cond b (Some p) None) []) may in
    let done = c.in_ok-key.ensures in
    ok_then c.note_first.result (λ adds. λ ps are. subst (λ l. ArePublics p1 s1 new (ps ++ l)) (sym one)
    (publics-one p0 p1 s0 s1 done.grows done.set_grows old new ps c.in_ok-key.key p done.named adds are)) c.note_first.ensures
