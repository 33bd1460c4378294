-- What a type extends, where it and its supers are among the keys of a list.
use Rattle.std.proofs.Common.{◌≡◌, ◌↔◌, ℕ, true, ◌⊎◌, inl, inr, List, [], ◌∷◌, Some, slice_get, refl, ap, ◌∙◌, sym, subst}
use Rattle.std.specs.List.{Contains}
use Rattle.type_tree.specs.declared.definition.Def.{Def}
use Rattle.type_tree.specs.declared.tree.Key.{Key}
use Rattle.type_tree.specs.declared.tree.Key.TheVariants.{Tree, Meth}
use Rattle.type_tree.specs.declared.tree.Ty.{Ty}
use Rattle.type_tree.specs.declared.tree.Ty.TheVariants as ty
use Rattle.type_tree.specs.contracts.tree.Key as row-of-key
use Rattle.type_tree.specs.Same.{same}
use Rattle.type_tree.specs.Subst.{subst_ty}
use Rattle.type_tree.specs.World.{Facts}
use Rattle.key_closure.specs.Bounds.{is_within, IsClosure}
use Rattle.key_closure.specs.Closures.{IsLeast}
use Rattle.type_relations.specs.Relations.{bases, bases_at, supers_of, system_array}
use Rattle.method_slots.specs.Chains.{longest_chain, IsWithin}
use Rattle.interface_lists.specs.Lists.{interfaces}
use Rattle.type_subs.specs.Listing.{has}
use Rattle.type_subs.specs.Supers.{extends, with_supers}
use Rattle.good_types.specs.Exact.{inst, IsSuper}
use Rattle.good_types.proofs.Chains.{chain_kept}
use Rattle.good_types.proofs.Elements.{first_in, none_in, in_cases, map_in, map_from, same_in, in_same}
use Rattle.good_types.proofs.Lists.{lists_kept}
use Rattle.good_types.proofs.Reached.{listed_each, closure_among}
use Rattle.good_types.proofs.Settled.{IsSettled, itself_in, set_closed}
use Rattle.good_types.proofs.Sound.{IsSound}

module _ (w : Facts) (members : List Key) (within : is_within members ≡ true)
    (least : (needs : Key → List Key) (key : Key) (keys : List Key) → IsClosure needs key keys → IsLeast needs key keys)
    (by_closure : (w : Facts) (t : Ty) (keys : List Key) → IsClosure (supers_of w) (Tree t) keys → with_supers w t ≡ keys) where
  abbrev P : Ty → Type 0
  P t = Contains members (Tree t)

  module _ (settled : IsSettled w P) where
    supers_in : (y z : Key) → Contains members y → Contains (supers_of w y) z → Contains members z
    supers_in (Tree t) z c b = let from = map_from Tree (bases w t) z b in subst (λ (k : Key). Contains members k) from.2 (settled.sound.based t from.0 c from.1)
    supers_in (Meth k) z c b = absurd (none_in z b)

    module _ (t : Ty) (at : P t) where
      closure : (keys : List Key) × IsClosure (supers_of w) (Tree t) keys
      closure = closure_among (supers_of w) (Tree t) members within at supers_in

      abbrev reached : List Key
      reached = closure.0

      set : IsLeast (supers_of w) (Tree t) reached
      set = least (supers_of w) (Tree t) reached closure.1

      extends_is : (g : Ty) → extends w t g ≡ has reached (Tree g)
      extends_is g = ap (λ keys. has keys (Tree g)) (by_closure w t reached closure.1)

      extends_from : (g : Ty) → Contains reached (Tree g) → extends w t g ≡ true
      extends_from g c = extends_is g ∙ in_same row-of-key.the_row.coded (Tree g) reached c

      -- what it extends is in each set that has the type, and what the types of the set extend or implement
      module _ (S : Ty → Type 0) (itself : S t) (closed : (g v : Ty) → S g → Contains (bases w g) v → S v) where
        abbrev OfKey : Key → Type 0
        OfKey (Tree g) = S g
        OfKey (Meth k) = ⊥

        step : (y z : Key) → OfKey y → Contains (supers_of w y) z → OfKey z
        step (Tree g) z s b = let from = map_from Tree (bases w g) z b in subst OfKey from.2 (closed g from.0 s from.1)
        step (Meth k) z s b = absurd s

        extends_in : (g : Ty) → extends w t g ≡ true → S g
        extends_in g h = listed_each (supers_of w) (Tree t) OfKey itself step closure.1.whole.turns reached closure.1.whole.listed (Tree g)
            (same_in row-of-key.the_row.coded (Tree g) reached (sym (extends_is g) ∙ h))

      abbrev Reached : Ty → Type 0
      Reached g = P g × Contains reached (Tree g)

      reached_sound : IsSound w Reached
      reached_sound = record {
        based = λ g u r b. (settled.sound.based g u r.0 b, set.closed (Tree g) (Tree u) r.1 (map_in Tree (bases w g) u b));
        bare = λ g r. settled.sound.bare g r.0;
        arity = λ n d args r here. settled.sound.arity n d args r.0 here;
      }

      super_reached : (n : ℕ) (args list : List Ty) → interfaces longest_chain w n ≡ Some list → Reached (inst n args) → (g : Ty) → IsSuper w n args list g → Contains reached (Tree g)
      super_reached n args list e r g s = elim s [
        | inl on ↦ let from = map_from (subst_ty args []) _ g on in subst (λ v. Contains reached (Tree v)) from.2 (chain_kept w Reached reached_sound longest_chain n args r from.0 from.1).1
        | inr listed ↦ let from = map_from (subst_ty args []) list g listed in subst (λ v. Contains reached (Tree v)) from.2 (lists_kept w Reached reached_sound longest_chain n args r list e from.0 from.1).0.1
      ]

    -- ---- an instantiation

    pub of_inst : (n : ℕ) (d : Def) (args list : List Ty) → P (inst n args) → slice_get w.defs n ≡ Some d → IsWithin w n → interfaces longest_chain w n ≡ Some list
        → (g : Ty) → (extends w (inst n args) g ≡ true) ↔ IsSuper w n args list g
    of_inst n d args list at here short e g = (
      extends_in (inst n args) at (IsSuper w n args list) (inl (itself_in w P settled longest_chain n d args at here short)) (set_closed w P settled longest_chain n args at short list e) g,
      λ s. extends_from (inst n args) at g (super_reached (inst n args) at n args list e (at, (set (inst n args) at).root) g s),
    )

    -- ---- an array

    pub of_array : (t : Ty) (d : Def) (list : List Ty) → P (ty.Array t) → slice_get w.defs 19 ≡ Some d → (P (inst 19 []) → IsWithin w 19) → interfaces longest_chain w 19 ≡ Some list
        → (g : Ty) → (extends w (ty.Array t) g ≡ true) ↔ ((g ≡ ty.Array t) ⊎ IsSuper w 19 [] list g)
    of_array t d list at here within_at e g = (
      extends_in (ty.Array t) at (λ v. (v ≡ ty.Array t) ⊎ IsSuper w 19 [] list v) (inl refl) closed g,
      λ s. extends_from (ty.Array t) at g (elim s [
        | inl same ↦ subst (λ v. Contains (reached (ty.Array t) at) (Tree v)) (sym same) (set (ty.Array t) at).root
        | inr super ↦ super_reached (ty.Array t) at 19 [] list e (above, (set (ty.Array t) at).closed (Tree (ty.Array t)) (Tree system_array) (set (ty.Array t) at).root (map_in Tree (bases w (ty.Array t)) system_array base)) g super
      ]),
    )
      where
        bases_are : bases w (ty.Array t) ≡ system_array ∷ []
        bases_are = ap (bases_at w) (ty.outs-Array t)

        base : Contains (bases w (ty.Array t)) system_array
        base = subst (λ (l : List Ty). Contains l system_array) (sym bases_are) (first_in system_array [])

        above : P system_array
        above = settled.sound.based (ty.Array t) system_array at base

        short : IsWithin w 19
        short = within_at above

        closed : (u v : Ty) → (u ≡ ty.Array t) ⊎ IsSuper w 19 [] list u → Contains (bases w u) v → (v ≡ ty.Array t) ⊎ IsSuper w 19 [] list v
        closed u v s b = elim s [
          | inl same ↦ elim (in_cases system_array [] v (subst (λ (l : List Ty). Contains l v) (ap (bases w) same ∙ bases_are) b)) [
            | inl is ↦ inr (subst (IsSuper w 19 [] list) is (inl (itself_in w P settled longest_chain 19 d [] above here short)))
            | inr none ↦ absurd (none_in v none)
          ]
          | inr super ↦ inr (set_closed w P settled longest_chain 19 [] above short list e u v super b)
        ]
