-- Chains of parents, and those that run in a circle.
use Rattle.std.proofs.Common.{◌≡◌, ℕ, zero, suc, Bool, true, false, ◌||◌, List, [], ◌∷◌, drop, Option, Some, None, inl, inr, refl, ap, ◌∙◌, sym, ◌⊎◌}
use Rattle.std.proofs.lemmas.Bool.{or_cases}
use Rattle.std.proofs.Math.Bool.{or-true}
use Rattle.std.specs.List.{list_any}
use Rattle.std.specs.Option.{option_and_then, option_map_or}
use Rattle.def_faults.specs.Chains.{chain_within, member, OnChain}
use Rattle.def_faults.specs.Marks.{On, Leads}

abbrev pub Each : {X : Type 0} → (X → Type 0) → List X → Type 0
Each P [] = Unit {0}
Each P (x ∷ xs) = P x × Each P xs

pub each_of : {X : Type 0} (P : X → Type 0) → ((x : X) → P x) → (xs : List X) → Each P xs
each_of P f [] = tt
each_of P f (x ∷ xs) = (f x, each_of P f xs)

pub each_map : {X : Type 0} (P Q : X → Type 0) → ((x : X) → P x → Q x) → (xs : List X) → Each P xs → Each Q xs
each_map P Q f [] h = tt
each_map P Q f (x ∷ xs) h = (f x h.0, each_map P Q f xs h.1)

each_any : {X : Type 0} (p : X → Bool) (xs : List X) → Each (λ x. p x ≡ true → list_any p xs ≡ true) xs
each_any p [] = tt
each_any p (x ∷ xs) = (
  λ h. ap (λ b. b || list_any p xs) h,
  each_map (λ y. p y ≡ true → list_any p xs ≡ true) (λ y. p y ≡ true → (p x || list_any p xs) ≡ true) (λ y f h. ap (λ b. p x || b) (f h) ∙ or-true (p x)) xs (each_any p xs),
)

module _ {X : Type 0} (up : X → Option X) where
  module _ (p : X → Bool) where
    pub here : (x : X) → p x ≡ true → OnChain up p x
    here x h = record { parents = 0; it = x; there = refl; passes = h }

    pub above : (x : X) (o : Option X) → up x ≡ o → On up p o → OnChain up p x
    above x None e h = absurd h
    above x (Some y) e h = record { parents = suc h.parents; it = h.it; there = ap (option_and_then (member up h.parents)) e ∙ h.there; passes = h.passes }

    pub either : (x : X) → OnChain up p x → (p x ≡ true) ⊎ On up p (up x)
    either x h = go h.parents h.there
      where
        later : (n : ℕ) (o : Option X) → option_and_then (member up n) o ≡ Some h.it → (p x ≡ true) ⊎ On up p o
        later n None e = absurd (cc)
        later n (Some y) e = inr (record { parents = n; it = h.it; there = e; passes = h.passes })

        go : (n : ℕ) → member up n x ≡ Some h.it → (p x ≡ true) ⊎ On up p (up x)
        go zero e = let same : x ≡ h.it = cc in inl (ap p same ∙ h.passes)
        go (suc n) e = later n (up x) e

    -- what stands on a path is on the chain that begins with it
    pub on_path : (top : Option X) (x : X) (xs : List X) → Leads up top (x ∷ xs) → list_any p (x ∷ xs) ≡ true → OnChain up p x
    on_path top x [] l h = elim (or_cases (p x) false h) [ inl a ↦ here x a | inr b ↦ absurd (cc) ]
    on_path top x (y ∷ ys) l h = elim (or_cases (p x) (list_any p (y ∷ ys)) h) [ inl a ↦ here x a | inr b ↦ above x (Some y) l.0 (on_path top y ys l.1 b) ]

  -- what of a path is left leads to the same
  pub leads_drop : (top : Option X) (n : ℕ) (xs : List X) → Leads up top xs → Leads up top (drop n xs)
  leads_drop top zero xs l = l
  leads_drop top (suc n) [] l = tt
  leads_drop top (suc n) (x ∷ xs) l = leads_drop top n xs l.1

  -- a path that leads back to where it begins
  module _ (x : X) (xs : List X) (round : Leads up (Some x) (x ∷ xs)) where
    abbrev Next : (X → Type 0) → X → Type 0
    Next Q y = (z : X) × (up y ≡ Some z) × Q z

    nexts : (Q : X → Type 0) (ys : List X) → Leads up (Some x) ys → Each Q ys → Q x → Each (Next Q) ys
    nexts Q [] l e q = tt
    nexts Q (y ∷ []) l e q = ((x, l.0, q), tt)
    nexts Q (y ∷ (z ∷ zs)) l e q = ((z, l.0, e.1.0), nexts Q (z ∷ zs) l.1 e.1 q)

    all_next : (Q : X → Type 0) → Each Q (x ∷ xs) → Each (Next Q) (x ∷ xs)
    all_next Q e = nexts Q (x ∷ xs) round e e.0

    abbrev Endless : ℕ → X → Type 0
    Endless n y = chain_within up n y ≡ false

    all_endless : (n : ℕ) → Each (Endless n) (x ∷ xs)
    unfolding chain_within
    all_endless zero = each_of (Endless zero) (λ y. refl) (x ∷ xs)
    all_endless (suc n) =
        each_map (Next (Endless n)) (Endless (suc n)) (λ y h. ap (λ o. option_map_or (chain_within up n) o true) h.1 ∙ h.2) (x ∷ xs) (all_next (Endless n) (all_endless n))

    pub endless : (n : ℕ) → chain_within up n x ≡ false
    endless n = (all_endless n).0

    module _ (p : X → Bool) where
      abbrev Stays : ℕ → X → Type 0
      Stays n y = (z : X) → member up n y ≡ Some z → p z ≡ true → list_any p (x ∷ xs) ≡ true

      all_stay : (n : ℕ) → Each (Stays n) (x ∷ xs)
      all_stay zero =
          each_map (λ y. p y ≡ true → list_any p (x ∷ xs) ≡ true) (Stays zero) (λ y f z e h. let same : y ≡ z = cc in f (ap p same ∙ h)) (x ∷ xs) (each_any p (x ∷ xs))
      all_stay (suc n) =
          each_map (Next (Stays n)) (Stays (suc n)) (λ y f z e h. f.2 z (sym (ap (option_and_then (member up n)) f.1) ∙ e) h) (x ∷ xs) (all_next (Stays n) (all_stay n))

      -- the chain has no other members
      pub stays : OnChain up p x → list_any p (x ∷ xs) ≡ true
      stays h = (all_stay h.parents).0 h.it h.there h.passes
