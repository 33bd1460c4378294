-- Public virtual methods that are found by their names and signatures, over a pool and a set.
use Rattle.std.specs.Prelude.{◌≡◌, ℕ, nat_eq, cond, List, [], ◌∷◌, ◌++◌, map, Option, None, Some}
use Rattle.std.specs.declared.hash.FoldHasher.{FoldHasher}
use Rattle.std.specs.declared.hash.BuildHasherDefault.{BuildHasherDefault}
use Rattle.std.specs.HashMap.{get, HashMap}
use Rattle.std.specs.Option.{option_map, option_or}
use Rattle.type_tree.specs.declared.tree.Ty.{Ty}
use Rattle.method_slots.specs.declared.opens.OpenMethod.{OpenMethod}
use Rattle.method_slots.specs.Keyed.{AreNamed, IsNamed}
use Rattle.method_slots.specs.Opens.{Open}
use Rattle.method_slots.specs.Slots.{matches}
use Rattle.interface_maps.specs.Choices.{Public, first_of}

abbrev pub Numbers : Type 0
Numbers = HashMap ℕ ℕ (BuildHasherDefault FoldHasher)

-- the number is noted for k where nothing is noted for it yet
abbrev pub AddsFirst : Numbers → Numbers → ℕ → ℕ → Type 0
AddsFirst old new k n = (q : ℕ) → get nat_eq new q ≡ option_or (get nat_eq old q) (cond (nat_eq k q) (Some n) None)

-- the number at the first of some keys that is k
abbrev pub first_number : ℕ → List ℕ → List Public → Option ℕ
first_number k [] ps = None
first_number k (key ∷ keys) [] = None
first_number k (key ∷ keys) (p ∷ ps) = cond (nat_eq key k) (Some p.number) (first_number k keys ps)

-- for each name and signature the number of the first of these methods is noted
pub record ArePublics (ts : List Ty) (os : List OpenMethod) (numbers : Numbers) (ps : List Public) : Type 0 where
  pub keys : List ℕ
  pub named : AreNamed ts os keys (map (λ (p : Public). p.signature) ps)
  pub firsts : (k : ℕ) → get nat_eq numbers k ≡ first_number k keys ps

-- with these after them
abbrev pub GainPublics : List Ty → List OpenMethod → Numbers → List Ty → List OpenMethod → Numbers → List Public → Type 0
GainPublics ts os old us xs new more = (ps : List Public) → ArePublics ts os old ps → ArePublics us xs new (ps ++ more)

-- the number of the first of these methods that has the name and signature of the key k
abbrev pub FindsPublic : List Ty → List OpenMethod → Numbers → ℕ → Option ℕ → Type 0
FindsPublic ts os numbers k found = (ps : List Public) (o : Open) → ArePublics ts os numbers ps → IsNamed ts os k o
    → found ≡ option_map (λ (p : Public). p.number) (first_of (λ (p : Public). matches p.signature o) ps)
