-- The numbers of slots where names and signatures are numbers themselves.
use Rattle.std.specs.Prelude.{◌≡◌, ℕ, nat_eq, Bool, false, true, List, length, Option, None, Some}
use Rattle.std.specs.declared.hash.FoldHasher.{FoldHasher}
use Rattle.std.specs.declared.hash.BuildHasherDefault.{BuildHasherDefault}
use Rattle.std.specs.HashMap.{get, HashMap}
use Rattle.method_slots.specs.declared.numbers.Virtual.{Virtual}
use Rattle.method_slots.specs.Numbers as spec

-- methods, each as a virtual instance method; none for any other
abbrev pub key_of : Option Virtual → ℕ
key_of None = 0
key_of (Some v) = v.key

abbrev pub is_virtual : Option Virtual → Bool
is_virtual None = false
is_virtual (Some v) = true

abbrev pub is_new : Option Virtual → Bool
is_new None = false
is_new (Some v) = v.newslot

-- the numbers that the methods of a definition take, where its parent has these slots
abbrev pub numbers : List ℕ → List (Option Virtual) → List (Option ℕ)
numbers inherited methods = spec.numbers_from nat_eq key_of is_virtual is_new inherited (length inherited) methods

-- the slots of the definition
abbrev pub opened : List ℕ → List (Option Virtual) → List ℕ
opened inherited methods = spec.opened nat_eq key_of is_virtual is_new inherited methods

-- each number is found where it stands last
abbrev pub AreLast : HashMap ℕ ℕ (BuildHasherDefault FoldHasher) → List ℕ → Type 0
AreLast places opens = (k : ℕ) → get nat_eq places k ≡ spec.last_place (nat_eq k) opens
