-- What equal trees have in common.
use Rattle.std.proofs.Common.{◌≡◌, ◌↔◌, IsTrue, Bool, List, ap, ◌∙◌, sym}
use Rattle.clr_base.specs.declared.ids.DefId.{DefId}
use Rattle.type_tree.specs.declared.tree.Ty.{Ty}
use Rattle.type_tree.specs.declared.tree.Ty.TheOpen.{Ty-F}
use Rattle.type_tree.specs.declared.tree.Ty.TheVariants.{Inst, rolls-Inst}
use Rattle.type_tree.specs.declared.tree.Ty.TheViews.{out-Ty, out-roll-Ty}

pub out-Inst : (d : DefId) (xs : List Ty) → out-Ty (Inst d xs) ≡ Ty-F.Inst d xs
out-Inst d xs = ap out-Ty (sym (rolls-Inst d xs)) ∙ out-roll-Ty (Ty-F.Inst d xs)

pub Inst-args : (d e : DefId) (xs ys : List Ty) → Inst d xs ≡ Inst e ys → xs ≡ ys
Inst-args d e xs ys p = let q : Ty-F.Inst d xs ≡ Ty-F.Inst e ys = sym (out-Inst d xs) ∙ ap out-Ty p ∙ out-Inst e ys in cc

pub same_Inst : (a b : Ty) (d e : DefId) (xs ys : List Ty) (r : Bool) → a ≡ Inst d xs → b ≡ Inst e ys → d ≡ e → (IsTrue r ↔ (xs ≡ ys)) → IsTrue r ↔ (a ≡ b)
same_Inst a b d e xs ys r p q same_head both =
    ((λ h. let parts = both.0 h in cc), (λ h. let arms : Inst d xs ≡ Inst e ys = cc in both.1 (Inst-args d e xs ys arms)))
