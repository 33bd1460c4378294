-- The members of the closure of a good key: none has a fault, and what a member needs directly is a member.
use Rattle.std.proofs.Common.{◌≡◌, if◌then◌else◌, inl, inr, List, [], ◌∷◌, ◌++◌, map, Option, None, Some, refl, ap, ◌∙◌, sym, subst, arith}
use Rattle.std.specs.List.{Contains}
use Rattle.std.proofs.lemmas.Option.{none-some}
use Rattle.std.proofs.lemmas.List.Elements.{Contains-append_left, Contains-append_right}
use Rattle.type_tree.specs.declared.tree.Key.{Key}
use Rattle.type_tree.specs.declared.tree.Key.TheVariants.{Tree}
use Rattle.type_tree.specs.declared.tree.Ty.{Ty}
use Rattle.type_tree.specs.World.{Facts}
use Rattle.type_tree.specs.Canon.{canon}
use Rattle.type_tree.specs.Context.{arguments}
use Rattle.load_events.specs.declared.load_fault.LoadFault.{LoadFault}
use Rattle.load_events.specs.declared.load_fault.LoadFault.TheVariants as fault
use Rattle.key_closure.specs.Bounds.{IsClosure}
use Rattle.key_closure.specs.Closures.{IsLeast}
use Rattle.type_relations.specs.Relations.{bases, contents, stands_on}
use Rattle.key_verdicts.specs.Verdicts.{is_fault, or_later, first_refused, direct}
use Rattle.key_verdicts.specs.declared.verdict.Verdict.TheVariants as verdict
use Rattle.type_judge.specs.declared.table.TheConstants.{ORDER}
use Rattle.type_judge.specs.Judging.{IsJudged}
use Rattle.type_judge.specs.Table.{Holds, IsFirst, IsLocal}
use Rattle.good_types.proofs.Elements.{none_in, in_cases, map_in}

-- ---- of a list in which none is refused

none_refused-at : (k : Key) (o : Option LoadFault) (later : Option (Key × LoadFault)) → or_later k o later ≡ None → (o ≡ None) × (later ≡ None)
none_refused-at k None later h = (refl, h)
none_refused-at k (Some f) later h = absurd (none-some (k, f) (sym h))

none_refused : (local : Key → Option LoadFault) (keys : List Key) → first_refused local keys ≡ None → (k : Key) → Contains keys k → local k ≡ None
none_refused local [] h k c = absurd (none_in k c)
none_refused local (x ∷ xs) h k c =
    let parts = none_refused-at x (local x) (first_refused local xs) h in
    elim (in_cases x xs k c) [ inl e ↦ ap local (sym e) ∙ parts.0 | inr later ↦ none_refused local xs parts.1 k later ]

-- ---- where no fault is the first, none holds

none_holds : (H : LoadFault → Type 0) (fs : List LoadFault) → IsFirst H fs None → (f : LoadFault) → Contains fs f → H f → ⊥
none_holds H [] h f c = λ x. none_in f c
none_holds H (g ∷ gs) h f c = elim h [
  | inl first ↦ absurd (none-some g first.1)
  | inr rest ↦ elim (in_cases g gs f c) [ inl e ↦ λ x. rest.0 (subst H (sym e) x) | inr later ↦ none_holds H gs rest.1 f later ]
]

module _ (w : Facts) (root : Key) (members : List Key) (judged : IsJudged w root (verdict.Good members)) where
  no_local : (k : Key) → Contains members k → judged.local k ≡ None
  no_local = none_refused judged.local members judged.verdict.none

  pub none_local : (k : Key) → Contains members k → IsLocal w k None
  none_local k c = subst (IsLocal w k) (no_local k c) (judged.is k)

  -- no fault holds
  pub no_fault : (k : Key) → Contains members k → (f : LoadFault) → Holds w k f → ⊥
  no_fault k c fault.NotFound = none_holds (Holds w k) ORDER (none_local k c) fault.NotFound (0, omega arith, refl)
  no_fault k c fault.Arity = none_holds (Holds w k) ORDER (none_local k c) fault.Arity (1, omega arith, refl)
  no_fault k c fault.BadArgument = none_holds (Holds w k) ORDER (none_local k c) fault.BadArgument (2, omega arith, refl)
  no_fault k c fault.BaseCycle = none_holds (Holds w k) ORDER (none_local k c) fault.BaseCycle (3, omega arith, refl)
  no_fault k c fault.Expanding = none_holds (Holds w k) ORDER (none_local k c) fault.Expanding (4, omega arith, refl)
  no_fault k c fault.BadParent = none_holds (Holds w k) ORDER (none_local k c) fault.BadParent (5, omega arith, refl)
  no_fault k c fault.BadInterface = none_holds (Holds w k) ORDER (none_local k c) fault.BadInterface (6, omega arith, refl)
  no_fault k c fault.BadOverride = none_holds (Holds w k) ORDER (none_local k c) fault.BadOverride (7, omega arith, refl)
  no_fault k c fault.NoMethod = none_holds (Holds w k) ORDER (none_local k c) fault.NoMethod (8, omega arith, refl)
  no_fault k c fault.LayoutDeep = none_holds (Holds w k) ORDER (none_local k c) fault.LayoutDeep (9, omega arith, refl)
  no_fault k c fault.BadLayout = none_holds (Holds w k) ORDER (none_local k c) fault.BadLayout (10, omega arith, refl)
  no_fault k c fault.Constraint = none_holds (Holds w k) ORDER (none_local k c) fault.Constraint (11, omega arith, refl)
  no_fault k c fault.TooLarge = λ x. x
  no_fault k c fault.NotInProfile = none_holds (Holds w k) ORDER (none_local k c) fault.NotInProfile (12, omega arith, refl)

module _ (least : (needs : Key → List Key) (key : Key) (keys : List Key) → IsClosure needs key keys → IsLeast needs key keys)
    (w : Facts) (root : Key) (members : List Key) (judged : IsJudged w root (verdict.Good members)) where
  set : IsLeast (direct judged.local w) root members
  set = least (direct judged.local w) root members judged.verdict.closure

  -- what a member needs directly
  pub stands : (k m : Key) → Contains members k → Contains (map Tree (stands_on w k) ++ canon w k ∷ []) m → Contains members m
  stands k m c d = set.closed k m c (subst (λ (o : Option LoadFault). Contains (if is_fault o then [] else map Tree (stands_on w k) ++ canon w k ∷ []) m) (sym (no_local w root members judged k c)) d)

  tree_stands : (k : Key) (t : Ty) → Contains members k → Contains (stands_on w k) t → Contains members (Tree t)
  tree_stands k t c d = stands k (Tree t) c (Contains-append_left (map Tree (stands_on w k)) (canon w k ∷ []) (Tree t) (map_in Tree (stands_on w k) t d))

  pub argument_in : (t u : Ty) → Contains members (Tree t) → Contains (arguments t) u → Contains members (Tree u)
  argument_in t u c d = tree_stands (Tree t) u c (Contains-append_left (arguments t) (bases w t ++ contents w t) u d)

  pub base_in : (t u : Ty) → Contains members (Tree t) → Contains (bases w t) u → Contains members (Tree u)
  base_in t u c d = tree_stands (Tree t) u c (Contains-append_right (arguments t) (bases w t ++ contents w t) u (Contains-append_left (bases w t) (contents w t) u d))

  pub content_in : (t u : Ty) → Contains members (Tree t) → Contains (contents w t) u → Contains members (Tree u)
  content_in t u c d = tree_stands (Tree t) u c (Contains-append_right (arguments t) (bases w t ++ contents w t) u (Contains-append_right (bases w t) (contents w t) u d))
