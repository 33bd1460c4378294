-- Verdicts that are told apart.
use Rattle.std.proofs.Common.{◌≡◌, inl, inr, List, Option, Some, None, ap, ◌∙◌, sym, subst}
use Rattle.type_tree.specs.declared.tree.Key.{Key}
use Rattle.type_tree.specs.World.{Facts}
use Rattle.load_events.specs.declared.load_fault.LoadFault.{LoadFault}
use Rattle.key_closure.specs.Bounds.{IsClosure, IsTooLarge}
use Rattle.key_verdicts.specs.declared.verdict.Verdict.{Verdict}
use Rattle.key_verdicts.specs.declared.verdict.Verdict.TheVariants.{Good, Refused}
use Rattle.key_verdicts.specs.Verdicts.{direct, first_refused, IsVerdict, IsSaid}

abbrev pub Once : Type 0
Once = (needs : Key → List Key) (key : Key) (members others : List Key) → IsClosure needs key members → IsClosure needs key others → members ≡ others

abbrev pub NotBoth : Type 0
NotBoth = (needs : Key → List Key) (key : Key) (members : List Key) → IsClosure needs key members → IsTooLarge needs key → ⊥

module _ (once : Once) (not_both : NotBoth) (local : Key → Option LoadFault) (w : Facts) (key : Key) where
  pub one : (v u : Verdict) → IsVerdict local w key v → IsVerdict local w key u → v ≡ u
  one (Good ms) (Good ns) a b = ap Good (once (direct local w) key ms ns a.closure b.closure)
  one (Good ms) (Refused k f) a (inl b) = absurd (not_both (direct local w) key ms a.closure b.none)
  one (Good ms) (Refused k f) a (inr b) =
      let same = once (direct local w) key ms b.members a.closure b.closure in
      let clash : ◌≡◌ {A = Option (Key × LoadFault)} None (Some (k, f)) = sym a.none ∙ ap (first_refused local) same ∙ b.first in
      absurd (cc)
  one (Refused k f) (Good ms) (inl a) b = absurd (not_both (direct local w) key ms b.closure a.none)
  one (Refused k f) (Good ms) (inr a) b =
      let same = once (direct local w) key ms a.members b.closure a.closure in
      let clash : ◌≡◌ {A = Option (Key × LoadFault)} None (Some (k, f)) = sym b.none ∙ ap (first_refused local) same ∙ a.first in
      absurd (cc)
  one (Refused k f) (Refused l g) (inl a) (inl b) = λ i. Refused ((a.itself ∙ sym b.itself) i) ((a.large ∙ sym b.large) i)
  one (Refused k f) (Refused l g) (inl a) (inr b) = absurd (not_both (direct local w) key b.members b.closure a.none)
  one (Refused k f) (Refused l g) (inr a) (inl b) = absurd (not_both (direct local w) key a.members a.closure b.none)
  one (Refused k f) (Refused l g) (inr a) (inr b) =
      let same = once (direct local w) key a.members b.members a.closure b.closure in
      ap by_pair (sym a.first ∙ ap (first_refused local) same ∙ b.first)
    where
      by_pair : Option (Key × LoadFault) → Verdict
      by_pair None = Refused k f
      by_pair (Some r) = Refused r.0 r.1

-- what is said of the members of the closure is the verdict
pub said_verdict : (local : Key → Option LoadFault) (w : Facts) (key : Key) (members : List Key) → IsClosure (direct local w) key members → (v : Verdict) → IsSaid local members v → IsVerdict local w key v
said_verdict local w key members closure (Good ms) s = record {
  closure = subst (λ (l : List Key). IsClosure (direct local w) key l) (sym s.0) closure;
  none = ap (first_refused local) s.0 ∙ s.1;
}
said_verdict local w key members closure (Refused k f) s = inr (record { members = members; closure = closure; first = s })
