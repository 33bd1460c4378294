-- The members of a chain whose last member is noted are noted.
use Rattle.std.proofs.Common.{◌≡◌, ℕ, zero, suc, List, [], ◌∷◌, ◌++◌, map, Option, None, Some, slice_get, refl, ap, ◌∙◌, sym}
use Rattle.std.specs.Option.{option_map_or}
use Rattle.type_tree.specs.declared.definition.Def.{Def}
use Rattle.type_tree.specs.declared.tree.Ty.{Ty}
use Rattle.type_tree.specs.declared.tree.Ty.TheOpen.{Ty-F}
use Rattle.type_tree.specs.declared.tree.Ty.TheVariants as ty
use Rattle.type_tree.specs.declared.tree.Ty.TheViews.{out-roll-Ty, roll-Ty}
use Rattle.type_tree.specs.Context.{arguments}
use Rattle.type_tree.specs.Kinds.{head, head_at, head_of}
use Rattle.type_tree.specs.Subst.{subst_ty, subst_step}
use Rattle.type_tree.specs.World.{Facts}
use Rattle.type_tree.proofs.Folds.{trees, by_variants, fold-Inst}
use Rattle.type_tree.proofs.Trees.{out-Inst}
use Rattle.method_slots.specs.Chains.{chain, chain_at, handed_on}
use Rattle.method_slots.specs.Slots.{in_own}
use Rattle.slot_chains.specs.Levels.{Places, IsNoted, IsOwner, OwnersNoted, AreChains}

-- the head of an instantiation
pub head-Inst : (t : Ty) (p : ℕ) (d : ℕ) (ts : List Ty) → t ≡ ty.Inst (record { 0 = d }) ts → head t ≡ Some d
head-Inst t p d ts e = ap head e ∙ ap head_at (out-Inst (record { 0 = d }) ts)

abbrev HeadStays : List Ty → Ty → Type 0
HeadStays us t = (p : ℕ) → head t ≡ Some p → head (subst_ty us [] t) ≡ Some p

pub no-head : (t : Ty) (f : Ty-F Ty) (p : ℕ) → roll-Ty f ≡ t → head_at f ≡ None → head t ≡ Some p → ⊥
no-head t f p is none e = let n : head t ≡ None = ap head (sym is) ∙ ap head_at (out-roll-Ty f) ∙ none in let s : None ≡ Some p = sym n ∙ e in cc

pub head-stays : (us : List Ty) (t : Ty) → HeadStays us t
head-stays us = by_variants (HeadStays us) (record {
  inst = λ d ps p e. ap head (fold-Inst Ty (subst_step us []) d (trees (HeadStays us) ps)) ∙ ap head_at (out-Inst d (map (subst_ty us []) (trees (HeadStays us) ps))) ∙ sym (ap head_at (out-Inst d (trees (HeadStays us) ps))) ∙ e;
  array = λ t h p e. absurd (no-head (ty.Array t) (Ty-F.Array t) p (ty.rolls-Array t) refl e);
  by_ref = λ t h p e. absurd (no-head (ty.ByRef t) (Ty-F.ByRef t) p (ty.rolls-ByRef t) refl e);
  ptr = λ t h p e. absurd (no-head (ty.Ptr t) (Ty-F.Ptr t) p (ty.rolls-Ptr t) refl e);
  var = λ n p e. absurd (no-head (ty.Var n) (Ty-F.Var n) p (ty.rolls-Var n) refl e);
  mvar = λ n p e. absurd (no-head (ty.MVar n) (Ty-F.MVar n) p (ty.rolls-MVar n) refl e);
  missing = λ name value p e. absurd (no-head (ty.Missing name value) (Ty-F.Missing name value) p (ty.rolls-Missing name value) refl e);
  odd = λ code p e. absurd (no-head (ty.Odd code) (Ty-F.Odd code) p (ty.rolls-Odd code) refl e);
})

put_owners : (places : Places) (us : List Ty) (ts : List Ty) → OwnersNoted places ts → OwnersNoted places (map (λ t. subst_ty us [] t) ts)
put_owners places us [] h = tt
put_owners places us (t ∷ ts) h = (record { def = h.0.def; head = head-stays us t h.0.def h.0.head; noted = h.0.noted }, put_owners places us ts h.1)

one_more : (places : Places) (ts : List Ty) (t : Ty) → OwnersNoted places ts → IsOwner places t → OwnersNoted places (ts ++ t ∷ [])
one_more places [] t h o = (o, tt)
one_more places (u ∷ us) t h o = (h.0, one_more places us t h.1 o)

-- what a definition has of a parent whose chain is noted
pub handed-owners : (places : Places) (above : ℕ → List Ty) (o : Option Ty) → ((p : ℕ) → head_of o ≡ Some p → OwnersNoted places (above p)) → OwnersNoted places (handed_on (λ types t. subst_ty types [] t) above o)
handed-owners places above None each = tt
handed-owners places above (Some t) each = through (head t) refl
  where
    through : (h : Option ℕ) → head t ≡ h → OwnersNoted places (map (λ u. subst_ty (arguments t) [] u) (option_map_or above (head t) []))
    through None e = rw e tt
    through (Some p) e = rw e (put_owners places (arguments t) (above p) (each p e))

chain-step : (w : Facts) (places : Places) (above : ℕ → List Ty) (n : ℕ) → IsNoted places n → ((d : Def) (p : ℕ) → slice_get w.defs n ≡ Some d → head_of d.parent ≡ Some p → OwnersNoted places (above p))
    → OwnersNoted places (chain_at above n (slice_get w.defs n))
chain-step w places above n noted each = through (slice_get w.defs n) refl
  where
    through : (o : Option Def) → slice_get w.defs n ≡ o → OwnersNoted places (chain_at above n o)
    through None e = tt
    through (Some d) e = one_more places _ (in_own n d) (handed-owners places above d.parent (λ p h. each d p e h))
        (record { def = n; head = ap head_at (out-Inst (record { 0 = n }) _); noted = noted })

pub chain-owners : (w : Facts) (places : Places) → AreChains w places → (k n : ℕ) → IsNoted places n → OwnersNoted places (chain k w n)
unfolding chain
chain-owners w places chains zero n noted = tt
chain-owners w places chains (suc k) n noted = chain-step w places (chain k w) n noted (λ d p here e. chain-owners w places chains k p (chains n p d noted here e))
