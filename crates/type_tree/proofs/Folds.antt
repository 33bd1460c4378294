-- A definition by one step at each variant, and induction over trees.
use Rattle.std.proofs.Common.{◌≡◌, ℕ, Bool, List, map, ap, ◌∙◌, sym, subst}
use Rattle.clr_base.specs.declared.ids.DefId.{DefId}
use Rattle.clr_base.specs.declared.ids.NameId.{NameId}
use Rattle.type_tree.specs.declared.tree.Ty.{Ty}
use Rattle.type_tree.specs.declared.tree.Ty.TheOpen.{Ty-F}
use Rattle.type_tree.specs.declared.tree.Ty.TheVariants as ty
use Rattle.type_tree.specs.declared.tree.Ty.TheViews.{roll-Ty}
use Rattle.type_tree.specs.declared.tree.Ty.TheFolds.{map-Ty, fold-Ty, fold-roll-Ty, ind-Ty}

module _ (A : Type 0) (s : Ty-F A → A) where
  pub fold-Inst : (d : DefId) (ts : List Ty) → fold-Ty A s (ty.Inst d ts) ≡ s (Ty-F.Inst d (map (fold-Ty A s) ts))
  fold-Inst d ts = ap (fold-Ty A s) (sym (ty.rolls-Inst d ts)) ∙ fold-roll-Ty A s (Ty-F.Inst d ts)

  pub fold-Array : (t : Ty) → fold-Ty A s (ty.Array t) ≡ s (Ty-F.Array (fold-Ty A s t))
  fold-Array t = ap (fold-Ty A s) (sym (ty.rolls-Array t)) ∙ fold-roll-Ty A s (Ty-F.Array t)

  pub fold-ByRef : (t : Ty) → fold-Ty A s (ty.ByRef t) ≡ s (Ty-F.ByRef (fold-Ty A s t))
  fold-ByRef t = ap (fold-Ty A s) (sym (ty.rolls-ByRef t)) ∙ fold-roll-Ty A s (Ty-F.ByRef t)

  pub fold-Ptr : (t : Ty) → fold-Ty A s (ty.Ptr t) ≡ s (Ty-F.Ptr (fold-Ty A s t))
  fold-Ptr t = ap (fold-Ty A s) (sym (ty.rolls-Ptr t)) ∙ fold-roll-Ty A s (Ty-F.Ptr t)

  pub fold-Var : (n : ℕ) → fold-Ty A s (ty.Var n) ≡ s (Ty-F.Var n)
  fold-Var n = ap (fold-Ty A s) (sym (ty.rolls-Var n)) ∙ fold-roll-Ty A s (Ty-F.Var n)

  pub fold-MVar : (n : ℕ) → fold-Ty A s (ty.MVar n) ≡ s (Ty-F.MVar n)
  fold-MVar n = ap (fold-Ty A s) (sym (ty.rolls-MVar n)) ∙ fold-roll-Ty A s (Ty-F.MVar n)

  pub fold-Missing : (name : NameId) (value : Bool) → fold-Ty A s (ty.Missing name value) ≡ s (Ty-F.Missing name value)
  fold-Missing name value = ap (fold-Ty A s) (sym (ty.rolls-Missing name value)) ∙ fold-roll-Ty A s (Ty-F.Missing name value)

  pub fold-Odd : (code : ℕ) → fold-Ty A s (ty.Odd code) ≡ s (Ty-F.Odd code)
  fold-Odd code = ap (fold-Ty A s) (sym (ty.rolls-Odd code)) ∙ fold-roll-Ty A s (Ty-F.Odd code)

-- a tree of which a fact is known
abbrev pub Known : (Ty → Type 0) → Type 0
Known P = (t : Ty) × P t

abbrev pub trees : (P : Ty → Type 0) → List (Known P) → List Ty
trees P ps = map (λ e. e.0) ps

-- a fact for each variant, from that of its parts
pub record Cases (P : Ty → Type 0) : Type 0 where
  pub inst : (d : DefId) (ps : List (Known P)) → P (ty.Inst d (trees P ps))
  pub array : (t : Ty) → P t → P (ty.Array t)
  pub by_ref : (t : Ty) → P t → P (ty.ByRef t)
  pub ptr : (t : Ty) → P t → P (ty.Ptr t)
  pub var : (n : ℕ) → P (ty.Var n)
  pub mvar : (n : ℕ) → P (ty.MVar n)
  pub missing : (name : NameId) (value : Bool) → P (ty.Missing name value)
  pub odd : (code : ℕ) → P (ty.Odd code)

module _ (P : Ty → Type 0) (of : Cases P) where
  level : (y : Ty-F (Known P)) → P (roll-Ty (map-Ty (Known P) Ty (λ e. e.0) y))
  level (Ty-F.Inst d ps) = subst P (sym (ty.rolls-Inst d (trees P ps))) (of.inst d ps)
  level (Ty-F.Array e) = subst P (sym (ty.rolls-Array e.0)) (of.array e.0 e.1)
  level (Ty-F.ByRef e) = subst P (sym (ty.rolls-ByRef e.0)) (of.by_ref e.0 e.1)
  level (Ty-F.Ptr e) = subst P (sym (ty.rolls-Ptr e.0)) (of.ptr e.0 e.1)
  level (Ty-F.Var n) = subst P (sym (ty.rolls-Var n)) (of.var n)
  level (Ty-F.MVar n) = subst P (sym (ty.rolls-MVar n)) (of.mvar n)
  level (Ty-F.Missing name value) = subst P (sym (ty.rolls-Missing name value)) (of.missing name value)
  level (Ty-F.Odd code) = subst P (sym (ty.rolls-Odd code)) (of.odd code)

  -- induction over trees
  pub by_variants : (t : Ty) → P t
  by_variants = ind-Ty P (λ x y is. subst (λ z. P (roll-Ty z)) is (level y))
