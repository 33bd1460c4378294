use Rattle.std.proofs.Common.{◌≡◌, ◌≤◌, ◌-◌, length, reverse, take, drop, arith, ap, sym, ◌∙◌, subst}
use Rattle.std.proofs.lemmas.List.{length-reverse}
use Rattle.cil_state.proofs.Piles.{end_taken, end_dropped}
use Rattle.cil_state.proofs.pile.Pile.split_top.Goals as goal

pub returns : goal.returns
returns g c =
    let v = c.self.inside.items.items in
    let n = c.args.n in
    let r : n ≤ length (reverse v) = subst (λ l. n ≤ length l) (sym c.self.view_is) c.requires in
    let h : n ≤ length v = omega (arith, length-reverse v) in
    let e : c.len.result ≡ length v = c.len.ensures ∙ c.self.inside.items.ok.0 in (
      c.from_vec.ensures ∙ c.in_ok-split_off.ensures.tail ∙ ap (λ k. drop (k - n) v) e ∙ end_taken n v h ∙ ap (λ z. reverse (take n z)) c.self.view_is,
      ap reverse c.in_ok-split_off.ensures.items ∙ ap (λ k. reverse (take (k - n) v)) e ∙ end_dropped n v h ∙ ap (drop n) c.self.view_is,
    )
