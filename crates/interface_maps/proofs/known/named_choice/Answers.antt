use Rattle.std.proofs.Common.{◌≡◌, cond, None, true, ap, ◌∙◌, sym}
use Rattle.std.specs.List.{list_any}
use Rattle.std.specs.Option.{option_map}
use Rattle.type_pool.specs.Trees.{at, at_all}
use Rattle.method_slots.specs.Opens.{open_of, put_open}
use Rattle.method_slots.specs.Slots.{matches, same_tree}
use Rattle.interface_maps.specs.Choices.{Public, first_of, publics}
use Rattle.interface_maps.proofs.KnownLemmas.{publics-grown}
use Rattle.interface_maps.proofs.known.named_choice.Goals as goal

pub returns-clause-named : goal.returns-clause-named
returns-clause-named c = λ w n d own above known.
    let p0 = c.args.pool.now in
    let s0 = c.args.set.now in
    let p1 = c.key_of.new.pool in
    let s1 = c.key_of.new.set in
    let made = c.in_ok-key.ensures in
    let o = put_open (at_all p0 c.args.types.now) (open_of c.args.method.now) in
    let grown = publics-grown p0 p1 s0 s1 made.grows made.set_grows c.args.known.now.publics (publics w n) known.publics in
    let listed : list_any (same_tree (at p0 c.args.tree)) own ≡ true = sym (c.is_listed.ensures known.declared own known.owned known.spelled) ∙ c.if-not-is_listed.false in
    let named = c.find_public.ensures (publics w n) o grown made.named in
    let answer = option_map (λ (p : Public). p.number) (first_of (λ (p : Public). matches p.signature o) (publics w n)) in
    named ∙ sym (ap (λ b. cond b answer None) listed)
