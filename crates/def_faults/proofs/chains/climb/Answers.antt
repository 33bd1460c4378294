use Rattle.std.proofs.Common.{◌∙◌, sym, ap, subst, Some}
use Rattle.def_faults.specs.Chains.{parent}
use Rattle.def_faults.specs.Marks.{Leads, first_or, IsNote, mark_at}
use Rattle.def_faults.proofs.Noting.{known_is}
use Rattle.def_faults.proofs.Paths.{longer, first_last}
use Rattle.def_faults.proofs.chains.climb.Goals as goal

pub returns-in-Known-clause-climbed : goal.returns-in-Known-clause-climbed
returns-in-Known-clause-climbed c =
    let w = c.args.world.now in
    let k = c.loop-next in
    record {
      top = Some c.in-Some.id;
      leads = subst (λ o. Leads (parent w) o k.path) c.in-Some.is k.invariant.leads;
      first = ap (first_or k.path) (sym c.in-Some.is) ∙ k.invariant.first;
      note = known_is w k.marks k.path k.invariant.marked c.in-Some.id c.in-Known.note (ap (λ ms. mark_at ms c.in-Some.id.0) (sym c.as_slice.ensures) ∙ sym c.in-Known.ensures);
    }

pub loop-next-preserved : goal.loop-next-preserved
loop-next-preserved c =
    let w = c.args.world.now in
    let k = c.loop-next in
    let path = c.in_ok-enter-in-Unknown.ensures.longer in
    let leads = subst (λ o. Leads (parent w) o k.path) c.in-Some.is k.invariant.leads in
    record {
      marked = c.in_ok-enter-in-Unknown.ensures.marked;
      leads = rw (c.parent_of-next.ensures, path) (longer (parent w) k.path c.in-Some.id leads);
      first = rw path (first_last k.path c.in-Some.id c.parent_of-next.result ∙ ap (first_or k.path) (sym c.in-Some.is) ∙ k.invariant.first);
    }

pub returns-clause-climbed : goal.returns-clause-climbed
returns-clause-climbed c =
    let w = c.args.world.now in
    let k = c.loop-next in
    record {
      top = k.next;
      leads = k.invariant.leads;
      first = k.invariant.first;
      note = subst (λ o. IsNote w o c.no_chain.result) (sym c.in_default.is) (c.no_chain.ensures w);
    }
