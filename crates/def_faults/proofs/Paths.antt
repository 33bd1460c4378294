-- Paths along chains of parents, longer and shorter by one.
use Rattle.std.proofs.Common.{◌≡◌, List, [], ◌∷◌, ◌++◌, Option, Some, refl, ◌∙◌, sym}
use Rattle.def_faults.specs.Marks.{first_or, Leads}

module _ {X : Type 0} where
  pub first_last : (xs : List X) (x : X) (top : Option X) → first_or (xs ++ x ∷ []) top ≡ first_or xs (Some x)
  first_last [] x top = refl
  first_last (y ∷ ys) x top = refl

  module _ (up : X → Option X) where
    pub longer : (xs : List X) (x : X) → Leads up (Some x) xs → Leads up (up x) (xs ++ x ∷ [])
    longer [] x l = (refl, tt)
    longer (y ∷ ys) x l = (l.0 ∙ sym (first_last ys x (up x)), longer ys x l.1)

    pub shorter : (top : Option X) (xs : List X) (x : X) → Leads up top (xs ++ x ∷ []) → (up x ≡ top) × Leads up (Some x) xs
    shorter top [] x l = (l.0, tt)
    shorter top (y ∷ ys) x l = let s = shorter top ys x l.1 in (s.0, (l.0 ∙ first_last ys x top, s.1))
