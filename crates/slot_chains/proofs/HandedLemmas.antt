-- What stays where a parent has no arguments.
use Rattle.std.proofs.Common.{◌≡◌, List, [], ◌∷◌, map, length, refl, ap₂, arith}
use Rattle.type_tree.specs.declared.tree.Ty.{Ty}
use Rattle.type_tree.specs.Subst.{subst_all}
use Rattle.type_tree.proofs.SubstLemmas.{kept}
use Rattle.method_slots.specs.Opens.{Open, put_open}

all_kept : (ts : List Ty) → subst_all [] [] ts ≡ ts
all_kept [] = refl
all_kept (t ∷ ts) = ap₂ ◌∷◌ (kept t) (all_kept ts)

open_kept : (o : Open) → put_open [] o ≡ o
open_kept o = let ret = kept o.ret in let params = all_kept o.params in
    λ i. record { name = o.name; has_this = o.has_this; vararg = o.vararg; formals = o.formals; ret = ret i; params = params i }

pub opens_kept : (os : List Open) → map (put_open []) os ≡ os
opens_kept [] = refl
opens_kept (o ∷ os) = ap₂ ◌∷◌ (open_kept o) (opens_kept os)

pub no_items : {A : Type 0} → (xs : List A) → length xs ≡ 0 → xs ≡ []
no_items [] e = refl
no_items (x ∷ xs) e = absurd (omega (arith, e))
