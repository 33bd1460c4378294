-- The interfaces of a definition, and its choices, by those of its parent.
use Rattle.std.proofs.Common.{◌≡◌, ℕ, suc, List, [], ◌∷◌, map, unwrap_or, Option, None, Some, slice_get, refl, ap, ◌∙◌, sym}
use Rattle.std.specs.Option.{option_map, option_map_or, option_and_then}
use Rattle.type_tree.specs.declared.definition.Def.{Def}
use Rattle.type_tree.specs.declared.tree.Ty.{Ty}
use Rattle.type_tree.specs.Context.{arguments}
use Rattle.type_tree.specs.Kinds.{head_of}
use Rattle.type_tree.specs.Subst.{subst_all, subst_ty}
use Rattle.type_tree.specs.World.{Facts}
use Rattle.method_slots.specs.Chains.{longest_chain, IsWithin, handed_on}
use Rattle.slot_chains.proofs.ChainLemmas.{Extends, handed-same, same_above}
use Rattle.interface_lists.specs.Lists.{from_parent, inherited_list, interfaces, list_at, with_own}
use Rattle.interface_maps.specs.Choices.{Answered, answered, answers, answers_at, put_answered}
use Rattle.interface_maps.specs.Maps.{above_of, interfaces_of, own_of}

abbrev trees : List Answered → List Ty
trees all = map (λ (a : Answered). a.interface) all

trees-put : (types : List Ty) (all : List Answered) → trees (map (put_answered types) all) ≡ subst_all types [] (trees all)
trees-put types [] = refl
trees-put types (a ∷ all) = ap (λ l. subst_ty types [] a.interface ∷ l) (trees-put types all)

choices-put : (types : List Ty) (all : List Answered) → map (λ (a : Answered). a.choices) (map (put_answered types) all) ≡ map (λ (a : Answered). a.choices) all
choices-put types [] = refl
choices-put types (a ∷ all) = ap (λ l. a.choices ∷ l) (choices-put types all)

module _ (w : Facts) where
  extends : (n p : ℕ) (d : Def) → slice_get w.defs n ≡ Some d → head_of d.parent ≡ Some p → Extends w n p
  extends n p d here e = record { def = d; here = here; parent = e }

  answers-unrolls : (k n : ℕ) → answers (suc k) w n ≡ answers_at (answers k w) w n (slice_get w.defs n)
  unfolding answers
  answers-unrolls k n = refl

  lists-unroll : (k n : ℕ) → interfaces (suc k) w n ≡ list_at (interfaces k w) w (slice_get w.defs n)
  unfolding interfaces
  lists-unroll k n = refl

  answers-local : (f g : ℕ → List Answered) (n : ℕ) → ((p : ℕ) → Extends w n p → f p ≡ g p) → answers_at f w n (slice_get w.defs n) ≡ answers_at g w n (slice_get w.defs n)
  answers-local f g n same = through (slice_get w.defs n) refl
    where
      through : (o : Option Def) → slice_get w.defs n ≡ o → answers_at f w n o ≡ answers_at g w n o
      through None e = refl
      through (Some d) e = ap (λ above. map (answered w n d (own_of w d) above) (interfaces_of w n)) (handed-same put_answered f g d.parent (λ p h. same p (extends n p d e h)))

  inherited-same : (f g : ℕ → Option (List Ty)) (o : Option Ty) → ((p : ℕ) → head_of o ≡ Some p → f p ≡ g p) → inherited_list f o ≡ inherited_list g o
  inherited-same f g o same = through (head_of o) refl
    where
      through : (h : Option ℕ) → head_of o ≡ h → option_map (from_parent o) (option_map_or f (head_of o) (Some [])) ≡ option_map (from_parent o) (option_map_or g (head_of o) (Some []))
      through None e = rw e refl
      through (Some p) e = rw e (ap (option_map (from_parent o)) (same p e))

  lists-local : (f g : ℕ → Option (List Ty)) (n : ℕ) → ((p : ℕ) → Extends w n p → f p ≡ g p) → list_at f w (slice_get w.defs n) ≡ list_at g w (slice_get w.defs n)
  lists-local f g n same = through (slice_get w.defs n) refl
    where
      through : (o : Option Def) → slice_get w.defs n ≡ o → list_at f w o ≡ list_at g w o
      through None e = refl
      through (Some d) e = ap (option_and_then (with_own w d)) (inherited-same f g d.parent (λ p h. same p (extends n p d e h)))

  -- the trees of answers are the interfaces
  trees-at : (f : ℕ → List Answered) (g : ℕ → Option (List Ty)) (n : ℕ) (o : Option Def) → interfaces_of w n ≡ unwrap_or (list_at g w o) [] → trees (answers_at f w n o) ≡ interfaces_of w n
  trees-at f g n None is = sym is
  trees-at f g n (Some d) is = each (interfaces_of w n)
    where
      each : (ts : List Ty) → trees (map (answered w n d (own_of w d) (handed_on put_answered f d.parent)) ts) ≡ ts
      each [] = refl
      each (t ∷ ts) = ap (λ l. t ∷ l) (each ts)

  pub answers-trees : (n : ℕ) → trees (answers longest_chain w n) ≡ interfaces_of w n
  answers-trees n = ap trees (answers-unrolls 63 n) ∙ trees-at (answers 63 w) (interfaces 63 w) n (slice_get w.defs n) (ap (λ o. unwrap_or o []) (lists-unroll 63 n))

  module _ (n : ℕ) (d : Def) (here : slice_get w.defs n ≡ Some d) (within : IsWithin w n) where
    answers-above : (p : ℕ) → Extends w n p → answers 63 w p ≡ answers longest_chain w p
    answers-above p e = same_above w (λ k n. answers k w n) (λ f n. answers_at f w n (slice_get w.defs n)) answers-unrolls answers-local n p within e

    lists-above : (p : ℕ) → Extends w n p → interfaces 63 w p ≡ interfaces longest_chain w p
    lists-above p e = same_above w (λ k n. interfaces k w n) (λ f n. list_at f w (slice_get w.defs n)) lists-unroll lists-local n p within e

    pub answers-are : answers longest_chain w n ≡ map (answered w n d (own_of w d) (above_of w d)) (interfaces_of w n)
    answers-are = answers-unrolls 63 n ∙ ap (answers_at (answers 63 w) w n) here
        ∙ ap (λ above. map (answered w n d (own_of w d) above) (interfaces_of w n)) (handed-same put_answered (answers 63 w) (answers longest_chain w) d.parent (λ p h. answers-above p (extends n p d here h)))

    list-is : interfaces longest_chain w n ≡ option_and_then (with_own w d) (inherited_list (interfaces longest_chain w) d.parent)
    list-is = lists-unroll 63 n ∙ ap (list_at (interfaces 63 w) w) here
        ∙ ap (option_and_then (with_own w d)) (inherited-same (interfaces 63 w) (interfaces longest_chain w) d.parent (λ p h. lists-above p (extends n p d here h)))

    pub list-child : (p : ℕ) (above : Option (List Ty)) → head_of d.parent ≡ Some p → interfaces longest_chain w p ≡ above → interfaces longest_chain w n ≡ option_and_then (with_own w d) (option_map (from_parent d.parent) above)
    list-child p above e is = list-is ∙ ap (λ o. option_and_then (with_own w d) (option_map (from_parent d.parent) (option_map_or (interfaces longest_chain w) o (Some [])))) e
        ∙ ap (λ o. option_and_then (with_own w d) (option_map (from_parent d.parent) o)) is

    pub list-root : head_of d.parent ≡ None → interfaces longest_chain w n ≡ with_own w d (from_parent d.parent [])
    list-root e = list-is ∙ ap (λ o. option_and_then (with_own w d) (option_map (from_parent d.parent) (option_map_or (interfaces longest_chain w) o (Some [])))) e

  -- what a parent hands on
  pub above-child : (d : Def) (p : ℕ) → head_of d.parent ≡ Some p → (trees (above_of w d) ≡ from_parent d.parent (interfaces_of w p)) × (map (λ (a : Answered). a.choices) (above_of w d) ≡ map (λ (a : Answered). a.choices) (answers longest_chain w p))
  above-child d p e = by d.parent e
    where
      by : (o : Option Ty) → head_of o ≡ Some p
          → (trees (handed_on put_answered (answers longest_chain w) o) ≡ from_parent o (interfaces_of w p)) × (map (λ (a : Answered). a.choices) (handed_on put_answered (answers longest_chain w) o) ≡ map (λ (a : Answered). a.choices) (answers longest_chain w p))
      by None e = absurd cc
      by (Some t) e =
          let all = answers longest_chain w p in
          let is : handed_on put_answered (answers longest_chain w) (Some t) ≡ map (put_answered (arguments t)) all = ap (λ o. map (put_answered (arguments t)) (option_map_or (answers longest_chain w) o [])) e in
          (ap trees is ∙ trees-put (arguments t) all ∙ ap (subst_all (arguments t) []) (answers-trees p), ap (map (λ (a : Answered). a.choices)) is ∙ choices-put (arguments t) all)

  pub above-root : (d : Def) → head_of d.parent ≡ None → (above_of w d ≡ []) × (from_parent d.parent [] ≡ [])
  above-root d e = by d.parent e
    where
      by : (o : Option Ty) → head_of o ≡ None → (handed_on put_answered (answers longest_chain w) o ≡ []) × (from_parent o [] ≡ [])
      by None e = (refl, refl)
      by (Some t) e = (ap (λ o. map (put_answered (arguments t)) (option_map_or (answers longest_chain w) o [])) e, refl)
