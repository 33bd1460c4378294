-- A definition by one step at each variant of a signature's type, and induction over these types.
use Rattle.std.proofs.Common.{◌≡◌, ℕ, Bool, List, map, ap, ◌∙◌, sym, subst}
use Rattle.cli_sigs.specs.declared.signature.SigTy.{SigTy}
use Rattle.cli_sigs.specs.declared.signature.SigTy.TheOpen.{SigTy-F}
use Rattle.cli_sigs.specs.declared.signature.SigTy.TheVariants as sig
use Rattle.cli_sigs.specs.declared.signature.SigTy.TheViews.{roll-SigTy}
use Rattle.cli_sigs.specs.declared.signature.SigTy.TheFolds.{map-SigTy, fold-SigTy, fold-roll-SigTy, ind-SigTy}

module _ (A : Type 0) (s : SigTy-F A → A) where
  pub fold-BuiltIn : (code : ℕ) → fold-SigTy A s (sig.BuiltIn code) ≡ s (SigTy-F.BuiltIn code)
  fold-BuiltIn code = ap (fold-SigTy A s) (sym (sig.rolls-BuiltIn code)) ∙ fold-roll-SigTy A s (SigTy-F.BuiltIn code)

  pub fold-Inst : (i : ℕ) (v : Bool) (ts : List SigTy) → fold-SigTy A s (sig.Inst i v ts) ≡ s (SigTy-F.Inst i v (map (fold-SigTy A s) ts))
  fold-Inst i v ts = ap (fold-SigTy A s) (sym (sig.rolls-Inst i v ts)) ∙ fold-roll-SigTy A s (SigTy-F.Inst i v ts)

  pub fold-Array : (t : SigTy) → fold-SigTy A s (sig.Array t) ≡ s (SigTy-F.Array (fold-SigTy A s t))
  fold-Array t = ap (fold-SigTy A s) (sym (sig.rolls-Array t)) ∙ fold-roll-SigTy A s (SigTy-F.Array t)

  pub fold-ByRef : (t : SigTy) → fold-SigTy A s (sig.ByRef t) ≡ s (SigTy-F.ByRef (fold-SigTy A s t))
  fold-ByRef t = ap (fold-SigTy A s) (sym (sig.rolls-ByRef t)) ∙ fold-roll-SigTy A s (SigTy-F.ByRef t)

  pub fold-Ptr : (t : SigTy) → fold-SigTy A s (sig.Ptr t) ≡ s (SigTy-F.Ptr (fold-SigTy A s t))
  fold-Ptr t = ap (fold-SigTy A s) (sym (sig.rolls-Ptr t)) ∙ fold-roll-SigTy A s (SigTy-F.Ptr t)

  pub fold-Var : (n : ℕ) → fold-SigTy A s (sig.Var n) ≡ s (SigTy-F.Var n)
  fold-Var n = ap (fold-SigTy A s) (sym (sig.rolls-Var n)) ∙ fold-roll-SigTy A s (SigTy-F.Var n)

  pub fold-MVar : (n : ℕ) → fold-SigTy A s (sig.MVar n) ≡ s (SigTy-F.MVar n)
  fold-MVar n = ap (fold-SigTy A s) (sym (sig.rolls-MVar n)) ∙ fold-roll-SigTy A s (SigTy-F.MVar n)

  pub fold-Odd : (code : ℕ) → fold-SigTy A s (sig.Odd code) ≡ s (SigTy-F.Odd code)
  fold-Odd code = ap (fold-SigTy A s) (sym (sig.rolls-Odd code)) ∙ fold-roll-SigTy A s (SigTy-F.Odd code)

-- a type of which a fact is known
abbrev pub Known : (SigTy → Type 0) → Type 0
Known P = (t : SigTy) × P t

abbrev pub types : (P : SigTy → Type 0) → List (Known P) → List SigTy
types P ps = map (λ e. e.0) ps

-- a fact for each variant, from that of its parts
pub record Cases (P : SigTy → Type 0) : Type 0 where
  pub built_in : (code : ℕ) → P (sig.BuiltIn code)
  pub inst : (i : ℕ) (v : Bool) (ps : List (Known P)) → P (sig.Inst i v (types P ps))
  pub array : (t : SigTy) → P t → P (sig.Array t)
  pub by_ref : (t : SigTy) → P t → P (sig.ByRef t)
  pub ptr : (t : SigTy) → P t → P (sig.Ptr t)
  pub var : (n : ℕ) → P (sig.Var n)
  pub mvar : (n : ℕ) → P (sig.MVar n)
  pub odd : (code : ℕ) → P (sig.Odd code)

module _ (P : SigTy → Type 0) (of : Cases P) where
  level : (y : SigTy-F (Known P)) → P (roll-SigTy (map-SigTy (Known P) SigTy (λ e. e.0) y))
  level (SigTy-F.BuiltIn code) = subst P (sym (sig.rolls-BuiltIn code)) (of.built_in code)
  level (SigTy-F.Inst i v ps) = subst P (sym (sig.rolls-Inst i v (types P ps))) (of.inst i v ps)
  level (SigTy-F.Array e) = subst P (sym (sig.rolls-Array e.0)) (of.array e.0 e.1)
  level (SigTy-F.ByRef e) = subst P (sym (sig.rolls-ByRef e.0)) (of.by_ref e.0 e.1)
  level (SigTy-F.Ptr e) = subst P (sym (sig.rolls-Ptr e.0)) (of.ptr e.0 e.1)
  level (SigTy-F.Var n) = subst P (sym (sig.rolls-Var n)) (of.var n)
  level (SigTy-F.MVar n) = subst P (sym (sig.rolls-MVar n)) (of.mvar n)
  level (SigTy-F.Odd code) = subst P (sym (sig.rolls-Odd code)) (of.odd code)

  -- induction over types of signatures
  pub by_variants : (t : SigTy) → P t
  by_variants = ind-SigTy P (λ x y is. subst (λ z. P (roll-SigTy z)) is (level y))
