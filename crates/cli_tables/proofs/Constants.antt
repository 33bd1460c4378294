-- What stands behind the references of a constant list.
use Rattle.std.proofs.Common.{◌≡◌, ℕ, zero, suc, ◌<◌, List, [], ◌∷◌, length, map, get_or, refl, ◌∙◌, ap, arith}
use Rattle.std.specs.Borrow.{Bor}

behind : {X : Type 0} (xs : List (Bor X)) (i : ℕ) (d : Bor X) (e : X) → i < length xs → (get_or xs i d).now ≡ get_or (map (λ x. x.now) xs) i e
behind [] i d e within = absurd (omega arith)
behind (x ∷ xs) zero d e within = refl
behind (x ∷ xs) (suc i) d e within = behind xs i d e (omega arith)

-- the same of the list of these values
pub now_at : {X : Type 0} (xs : List (Bor X)) (values : List X) (i : ℕ) (d : Bor X) (e : X) → map (λ x. x.now) xs ≡ values → i < length xs
    → (get_or xs i d).now ≡ get_or values i e
now_at xs values i d e same within = behind xs i d e within ∙ ap (λ l. get_or l i e) same
