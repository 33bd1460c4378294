-- What the last event of a legal history says.
use Rattle.std.proofs.Common.{◌≡◌, ℕ, Bool, ◌↔◌, IsTrue, List, [], ◌∷◌, ◌++◌, Option, Some, None, subst, sym, ◌∙◌, ap}
use Rattle.clr_base.specs.declared.ids.Handle.{Handle}
use Rattle.clr_base.specs.declared.ids.SigId.{SigId}
use Rattle.type_tree.specs.declared.tree.Key.{Key}
use Rattle.type_tree.specs.World.{Facts}
use Rattle.type_tree.specs.Context.{key_of}
use Rattle.load_events.specs.declared.event.Answer.TheVariants.{Loaded}
use Rattle.load_events.specs.declared.event.Event.{Event}
use Rattle.load_events.specs.declared.event.Event.TheVariants.{Done, Find}
use Rattle.load_events.specs.Histories.{Loads}
use Rattle.load_legal.specs.Names.{AsksKey}
use Rattle.load_legal.specs.Legal.{MayFollow}
use Rattle.load_legal.proofs.WiderNames.{legal_event}
use Rattle.loader_api.specs.Verdicts.{IsGood, IsRefused}
use Rattle.loader_api.specs.Histories.{Pairs, Stands, IsLegal, IsLegalBy}

module _ (w : Facts) (known : Handle → Key → Type 0) (front : List Event) (legal : IsLegal w known front) where
  by : Handle → Key → Type 0
  by = Stands legal.pairs

  last : (before : List Event) (e : Event) → front ≡ before ++ e ∷ [] → MayFollow w.sigs (IsGood w) (IsRefused w) (Stands legal.pairs) before e
  last before e is = legal_event w.sigs (IsGood w) (IsRefused w) (Stands legal.pairs) before e [] (subst (λ (es : List Event). IsLegalBy w (Stands legal.pairs) es) is legal.legal)

  pub first_of : (before : List Event) (n : ℕ) (h : Handle) (first : Bool) → front ≡ before ++ Done n (Loaded h first) ∷ [] → IsTrue first ↔ (Loads before h → ⊥)
  first_of before n h first is = let m = last before (Done n (Loaded h first)) is in m.5.2

  -- a key is asked for once
  one_asked : (context : Option Handle) (sig : SigId) (k l : Key) → AsksKey w.sigs known context sig k → AsksKey w.sigs (Stands legal.pairs) context sig l → k ≡ l
  one_asked None sig k l a b =
      let same : a.0 ≡ b.0 = some_same a.0 b.0 (sym a.1 ∙ b.1) in
      a.2 ∙ (ap (λ (s : Key). key_of None s) same ∙ sym b.2)
    where
      some_same : (x y : Key) → Some x ≡ Some y → x ≡ y
      some_same x y e = cc
  one_asked (Some h) sig k l a b =
      let same : a.0 ≡ b.0 = some_same a.0 b.0 (sym a.2 ∙ b.2) in
      let context : a.1 ≡ b.1 = legal.legal.one.one_key h a.1 b.1 (legal.has h a.1 a.3) b.3 in
      a.4 ∙ (ap (λ (s : Key). key_of (Some a.1) s) same ∙ (ap (λ (c : Key). key_of (Some c) b.0) context ∙ sym b.4))
    where
      some_same : (x y : Key) → Some x ≡ Some y → x ≡ y
      some_same x y e = cc

  pub found_of : (before : List Event) (n : ℕ) (context : Option Handle) (sig : SigId) (found : Bool) → front ≡ before ++ Find n context sig found ∷ []
      → (k : Key) (h : Handle) → AsksKey w.sigs known context sig k → known h k → Loads before h → IsTrue found
  found_of before n context sig found is k h asks names loaded =
      let m = last before (Find n context sig found) is in
      let same : k ≡ m.1.0 = one_asked context sig k m.1.0 asks m.1.1 in
      m.1.2.1 (h, subst (λ (l : Key). Stands legal.pairs h l) same (legal.has h k names), loaded)
