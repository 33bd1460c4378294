-- Numbers of names and signatures, over a set and a pool.
use Rattle.std.specs.Prelude.{◌≡◌, ℕ, true, false, List, [], ◌∷◌, map, Option, None, Some, slice_get}
use Rattle.type_tree.specs.declared.definition.Def.{Def}
use Rattle.type_tree.specs.declared.definition.Method.{Method}
use Rattle.type_tree.specs.declared.tree.Ty.{Ty}
use Rattle.type_tree.specs.World.{Facts}
use Rattle.method_slots.specs.declared.numbers.Virtual.{Virtual}
use Rattle.method_slots.specs.declared.opens.OpenMethod.{OpenMethod}
use Rattle.method_slots.specs.Opens.{Open, open_of, put_open, SpellsOpen}
use Rattle.method_slots.specs.Slots.{takes_slot, has_newslot, own_methods, own_numbers, own_opened}

-- the number is that of this name and signature
pub record IsNamed (ts : List Ty) (os : List OpenMethod) (k : ℕ) (o : Open) : Type 0 where
  pub node : OpenMethod
  pub here : slice_get os k ≡ Some node
  pub spells : SpellsOpen ts node o

-- each is
abbrev pub AreNamed : List Ty → List OpenMethod → List ℕ → List Open → Type 0
AreNamed ts os [] [] = Unit {0}
AreNamed ts os [] (s ∷ slots) = ⊥
AreNamed ts os (k ∷ ks) [] = ⊥
AreNamed ts os (k ∷ ks) (s ∷ slots) = IsNamed ts os k s × AreNamed ts os ks slots

-- what is known of a virtual instance method
pub record IsVirtual (ts : List Ty) (os : List OpenMethod) (v : Virtual) (m : Method) : Type 0 where
  pub takes : takes_slot m ≡ true
  pub named : IsNamed ts os v.key (open_of m)
  pub newslot : v.newslot ≡ has_newslot m

-- what is known of a method
abbrev pub IsOwn : List Ty → List OpenMethod → Option Virtual → Method → Type 0
IsOwn ts os None m = takes_slot m ≡ false
IsOwn ts os (Some v) m = IsVirtual ts os v m

abbrev pub AreOwn : List Ty → List OpenMethod → List (Option Virtual) → List Method → Type 0
AreOwn ts os [] [] = Unit {0}
AreOwn ts os [] (m ∷ ms) = ⊥
AreOwn ts os (v ∷ vs) [] = ⊥
AreOwn ts os (v ∷ vs) (m ∷ ms) = IsOwn ts os v m × AreOwn ts os vs ms

-- the numbers that own methods take, and the slots with those that they open, by the numbers of names and signatures
pub record AreSlots (ts : List Ty) (os : List OpenMethod) (slots : List Open) (ms : List Method) (keys : List ℕ) (given : List (Option ℕ)) : Type 0 where
  pub numbers : given ≡ own_numbers slots ms
  pub opened : AreNamed ts os keys (own_opened slots ms)

-- they are those of a definition whose parent has the slots that the keys name
abbrev pub OwnNumbers : Facts → ℕ → List Ty → List OpenMethod → List ℕ → List Ty → List OpenMethod → List ℕ → List (Option ℕ) → Type 0
OwnNumbers w n ts os keys us ps new given = (d : Def) (slots : List Open) → slice_get w.defs n ≡ Some d → AreNamed ts os keys slots
    → AreSlots us ps slots (own_methods w d) new given

-- each number is that of some name and signature
abbrev pub AreKeys : List Ty → List OpenMethod → List ℕ → Type 0
AreKeys ts os keys = (slots : List Open) × AreNamed ts os keys slots

-- a number becomes that of the name and signature with the arguments put in
abbrev pub HandsOn : List Ty → List OpenMethod → List Ty → List OpenMethod → List Ty → ℕ → ℕ → Type 0
HandsOn ts os us ps types k given = (s : Open) → IsNamed ts os k s → IsNamed us ps given (put_open types s)

-- each of them does
abbrev pub HandOn : List Ty → List OpenMethod → List Ty → List OpenMethod → List Ty → List ℕ → List ℕ → Type 0
HandOn ts os us ps types keys given = (slots : List Open) → AreNamed ts os keys slots → AreNamed us ps given (map (put_open types) slots)
