-- The chain of parents, the interfaces and the supers of a type in the closure of a good key.
use Rattle.std.proofs.Common.{◌≡◌, ◌↔◌, ◌⊎◌, ℕ, ◌<◌, true, List, [], ◌∷◌, ◌++◌, length, Option, None, Some, slice_get, refl, ap, ◌∙◌, subst}
use Rattle.std.specs.List.{Contains}
use Rattle.std.proofs.lemmas.List.{map-append}
use Rattle.std.proofs.lemmas.Option.{slice_get_within}
use Rattle.type_tree.specs.declared.definition.Def.{Def}
use Rattle.type_tree.specs.declared.tree.Key.{Key}
use Rattle.type_tree.specs.declared.tree.Key.TheVariants.{Tree}
use Rattle.type_tree.specs.declared.tree.Ty.{Ty}
use Rattle.type_tree.specs.declared.tree.Ty.TheVariants as ty
use Rattle.type_tree.specs.Context.{arguments}
use Rattle.type_tree.specs.Kinds.{head_of}
use Rattle.type_tree.specs.Subst.{subst_ty, subst_all}
use Rattle.type_tree.specs.Whole.{IsWhole}
use Rattle.type_tree.specs.World.{Facts}
use Rattle.key_closure.specs.Bounds.{IsClosure}
use Rattle.key_closure.specs.Closures.{IsLeast}
use Rattle.key_verdicts.specs.declared.verdict.Verdict.TheVariants as verdict
use Rattle.type_judge.specs.Judging.{IsJudged}
use Rattle.method_slots.specs.Chains.{chain, chain_at, handed_on, longest_chain}
use Rattle.method_slots.specs.Slots.{in_own}
use Rattle.slot_chains.proofs.ChainLemmas.{Extends, handed-same, same_above}
use Rattle.interface_lists.specs.Lists.{interfaces, list_at, names_interface}
use Rattle.type_relations.specs.Relations.{supers_of}
use Rattle.type_subs.specs.Supers.{extends, with_supers}
use Rattle.good_types.specs.Exact.{inst, exact_chain, IsSuper}
use Rattle.good_types.proofs.Chains.{put_tree, chain-next, chain_kept, own_is, alone, behind}
use Rattle.good_types.proofs.Elements.{map_from}
use Rattle.good_types.proofs.Faultless.{P, sound, short, some_list}
use Rattle.good_types.proofs.Joined.{lists-next}
use Rattle.good_types.proofs.Lists.{lists_kept}
use Rattle.good_types.proofs.Sound.{IsSound, put_headed}
use Rattle.good_types.proofs.Supers.{of_inst, of_array}
use Rattle.good_types.proofs.Whole.{settled}

-- a parent's chain stays the same one member nearer the bound
module _ (w : Facts) where
  chain-local : (f g : ℕ → List Ty) (n : ℕ) → ((p : ℕ) → Extends w n p → f p ≡ g p) → chain_at f n (slice_get w.defs n) ≡ chain_at g n (slice_get w.defs n)
  chain-local f g n same = through (slice_get w.defs n) refl
    where
      through : (o : Option Def) → slice_get w.defs n ≡ o → chain_at f n o ≡ chain_at g n o
      through None e = refl
      through (Some d) e = ap (λ above. above ++ in_own n d ∷ []) (handed-same put_tree f g d.parent (λ p h. same p (record { def = d; here = e; parent = h })))

-- ---- the list of a definition

module _ (w : Facts) (root : Key) (members : List Key) (judged : IsJudged w root (verdict.Good members)) where
  list-at : (n : ℕ) (args : List Ty) → P w root members judged (inst n args) → (o : Option Def) → slice_get w.defs n ≡ o → (list : List Ty) × (interfaces longest_chain w n ≡ Some list)
  list-at n args at None here = ([], lists-next w 63 n ∙ ap (list_at (interfaces 63 w) w) here)
  list-at n args at (Some d) here = some_list w root members judged n d args at here

  pub list_some : (n : ℕ) (args : List Ty) → P w root members judged (inst n args) → (list : List Ty) × (interfaces longest_chain w n ≡ Some list)
  list_some n args at = list-at n args at (slice_get w.defs n) refl

module _ (least : (needs : Key → List Key) (key : Key) (keys : List Key) → IsClosure needs key keys → IsLeast needs key keys) where
  module _ (w : Facts) (root : Key) (members : List Key) (judged : IsJudged w root (verdict.Good members)) where
    abbrev At : Ty → Type 0
    At = P w root members judged

    sound_here : IsSound w At
    sound_here = sound least w root members judged

    pub chain_in : (n : ℕ) (args : List Ty) → At (inst n args) → (c : Ty) → Contains (exact_chain w n args) c → At c
    chain_in n args at c there =
        let from = map_from (subst_ty args []) (chain longest_chain w n) c there in
        subst At from.2 (chain_kept w At sound_here longest_chain n args at from.0 from.1)

    pub list_in : (n : ℕ) (args list : List Ty) → At (inst n args) → interfaces longest_chain w n ≡ Some list → (u : Ty) → Contains list u → At (subst_ty args [] u) × (names_interface w u ≡ true)
    list_in n args list at is u there = lists_kept w At sound_here longest_chain n args at list is u there

    module _ (n : ℕ) (d : Def) (args : List Ty) (at : At (inst n args)) (here : slice_get w.defs n ≡ Some d) where
      pub chain_last : (above : List Ty) × (exact_chain w n args ≡ above ++ inst n args ∷ [])
      chain_last = (
        subst_all args [] (handed_on put_tree (chain 63 w) d.parent),
        ap (subst_all args []) (chain-next w 63 n ∙ ap (chain_at (chain 63 w) n) here)
            ∙ map-append (subst_ty args []) (handed_on put_tree (chain 63 w) d.parent) (in_own n d ∷ [])
            ∙ ap (λ t. subst_all args [] (handed_on put_tree (chain 63 w) d.parent) ++ t ∷ []) (own_is w At sound_here n d args at here),
      )

      pub chain_alone : d.parent ≡ None → exact_chain w n args ≡ inst n args ∷ []
      chain_alone none = alone w At sound_here 63 n d args at here (ap head_of none)

      pub chain_behind : IsWhole w → (p : Ty) → d.parent ≡ Some p
          → (m : ℕ) × (above : List Ty) × (m < length w.defs) × (subst_ty args [] p ≡ inst m above) × (exact_chain w n args ≡ exact_chain w m above ++ inst n args ∷ [])
      chain_behind whole p e =
          let there = (settled least w root members judged whole).extended n d args p at here e in
          let above = subst_all args [] (arguments p) in
          let up : Extends w n there.number = record { def = d; here = here; parent = ap head_of e ∙ there.head } in
          let same : chain 63 w there.number ≡ chain longest_chain w there.number =
          same_above w (λ k n. chain k w n) (λ f n. chain_at f n (slice_get w.defs n)) (λ k n. chain-next w k n) (chain-local w) n there.number (short w root members judged n d args at here) up in (
            there.number,
            above,
            slice_get_within w.defs there.number there.def there.here,
            put_headed args p there.number there.head,
            behind w At sound_here 63 n d args at here p there.number e there.head ∙ ap (λ l. subst_all above [] l ++ inst n args ∷ []) same,
          )

  module _ (by_closure : (w : Facts) (t : Ty) (keys : List Key) → IsClosure (supers_of w) (Tree t) keys → with_supers w t ≡ keys)
      (w : Facts) (root : Key) (members : List Key) (judged : IsJudged w root (verdict.Good members)) (whole : IsWhole w) where
    pub supers_of_inst : (n : ℕ) (d : Def) (args list : List Ty) → P w root members judged (inst n args) → slice_get w.defs n ≡ Some d → interfaces longest_chain w n ≡ Some list
        → (g : Ty) → (extends w (inst n args) g ≡ true) ↔ IsSuper w n args list g
    supers_of_inst n d args list at here is g =
        of_inst w members judged.verdict.closure.within least by_closure (settled least w root members judged whole) n d args list at here (short w root members judged n d args at here) is g

    pub supers_of_array : (t : Ty) (d : Def) (list : List Ty) → P w root members judged (ty.Array t) → slice_get w.defs 19 ≡ Some d → interfaces longest_chain w 19 ≡ Some list
        → (g : Ty) → (extends w (ty.Array t) g ≡ true) ↔ ((g ≡ ty.Array t) ⊎ IsSuper w 19 [] list g)
    supers_of_array t d list at here is g =
        of_array w members judged.verdict.closure.within least by_closure (settled least w root members judged whole) t d list at here (λ above. short w root members judged 19 d [] above here) is g
