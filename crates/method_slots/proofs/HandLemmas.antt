-- Names and signatures of slots, one by one.
use Rattle.std.proofs.Common.{◌≡◌, ℕ, zero, suc, ◌<◌, List, [], ◌∷◌, ◌++◌, length, get_or, refl, ap, arith}
use Rattle.type_tree.specs.declared.tree.Ty.{Ty}
use Rattle.method_slots.specs.declared.opens.OpenMethod.{OpenMethod}
use Rattle.method_slots.specs.Keyed.{IsNamed, AreNamed}
use Rattle.method_slots.specs.Opens.{Open}

module _ (ts : List Ty) (os : List OpenMethod) where
  pub named-at : (ks : List ℕ) (slots : List Open) → AreNamed ts os ks slots → (i : ℕ) → i < length ks → (s : Open) × IsNamed ts os (get_or ks i 0) s
  named-at [] [] h i inside = absurd (omega (arith, inside))
  named-at [] (s ∷ slots) h i inside = absurd h
  named-at (k ∷ ks) [] h i inside = absurd h
  named-at (k ∷ ks) (s ∷ slots) h zero inside = (s, h.0)
  named-at (k ∷ ks) (s ∷ slots) h (suc i) inside = named-at ks slots h.1 i (omega (arith, inside))

  -- the last of some
  pub record IsLast (ks : List ℕ) (k : ℕ) (slots : List Open) : Type 0 where
    pub front : List Open
    pub last : Open
    pub is : slots ≡ front ++ last ∷ []
    pub named : AreNamed ts os ks front
    pub one : IsNamed ts os k last

  pub split : (ks : List ℕ) (k : ℕ) (slots : List Open) → AreNamed ts os (ks ++ k ∷ []) slots → IsLast ks k slots
  split [] k [] h = absurd h
  split [] k (s ∷ []) h = record { front = []; last = s; is = refl; named = tt; one = h.0 }
  split [] k (s ∷ (t ∷ slots)) h = absurd h.1
  split (l ∷ ks) k [] h = absurd h
  split (l ∷ ks) k (s ∷ slots) h = let p = split ks k slots h.1 in record { front = s ∷ p.front; last = p.last; is = ap (λ r. s ∷ r) p.is; named = (h.0, p.named); one = p.one }

  pub named-one : (ks : List ℕ) (slots : List Open) (k : ℕ) (s : Open) → AreNamed ts os ks slots → IsNamed ts os k s → AreNamed ts os (ks ++ k ∷ []) (slots ++ s ∷ [])
  named-one [] [] k s h one = (one, tt)
  named-one [] (t ∷ slots) k s h one = absurd h
  named-one (l ∷ ks) [] k s h one = absurd h
  named-one (l ∷ ks) (t ∷ slots) k s h one = (h.0, named-one ks slots k s h.1 one)
