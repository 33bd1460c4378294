-- What is known of what was found of definitions.
use Rattle.std.specs.Prelude.{◌≡◌, ◌≤◌, ◌+◌, ℕ, nat_eq, List, [], ◌∷◌, ◌++◌, length, map, Option, None, Some, slice_get}
use Rattle.std.specs.declared.hash.FoldHasher.{FoldHasher}
use Rattle.std.specs.declared.hash.BuildHasherDefault.{BuildHasherDefault}
use Rattle.std.specs.HashMap.{get, HashMap, Updates}
use Rattle.type_tree.specs.declared.definition.Def.{Def}
use Rattle.type_tree.specs.declared.tree.Ty.{Ty}
use Rattle.type_tree.specs.Kinds.{head, head_of}
use Rattle.type_tree.specs.World.{Facts}
use Rattle.type_pool.specs.Jobs.{SpellAll}
use Rattle.method_slots.specs.declared.entries.SlotEntry.{SlotEntry}
use Rattle.method_slots.specs.declared.opens.OpenMethod.{OpenMethod}
use Rattle.method_slots.specs.Chains as chains
use Rattle.method_slots.specs.Faults.{finals}
use Rattle.method_slots.specs.Keyed.{AreNamed}
use Rattle.slot_chains.specs.declared.levels.Handed.{Handed}
use Rattle.slot_chains.specs.declared.levels.Level.{Level}
use Rattle.slot_chains.specs.declared.notes.Notes.{Notes}

-- something stands in each slot
abbrev pub Stand : List SlotEntry → List (Option SlotEntry) → Type 0
Stand entries slots = map Some entries ≡ slots

-- what was found of the definition n is so
pub record IsLevel (w : Facts) (ts : List Ty) (os : List OpenMethod) (n : ℕ) (l : Level) : Type 0 where
  pub chain : SpellAll ts l.chain (chains.chain chains.longest_chain w n)
  pub keys : AreNamed ts os l.keys (chains.openers chains.longest_chain w n)
  pub entries : Stand l.entries (chains.slots chains.longest_chain w n)
  pub numbers : l.numbers ≡ chains.numbers chains.longest_chain w n
  pub finals : l.finals ≡ finals chains.longest_chain w n

-- what the definition n, which is d, has of its parent
pub record IsHanded (w : Facts) (ts : List Ty) (os : List OpenMethod) (n : ℕ) (d : Def) (h : Handed) : Type 0 where
  pub chain : SpellAll ts h.chain (chains.parents chains.longest_chain w n)
  pub keys : AreNamed ts os h.keys (chains.inherited (chains.openers chains.longest_chain w) d)
  pub entries : Stand h.entries (chains.above_slots (chains.slots chains.longest_chain w) (Some d))

abbrev pub Places : Type 0
Places = HashMap ℕ ℕ (BuildHasherDefault FoldHasher)

-- what was found of the definition n stands at i
pub record IsAt (w : Facts) (ts : List Ty) (os : List OpenMethod) (levels : List Level) (n i : ℕ) : Type 0 where
  pub level : Level
  pub here : slice_get levels i ≡ Some level
  pub is : IsLevel w ts os n level

-- it is found where its place is noted
abbrev pub AllNoted : Facts → List Ty → Notes → Type 0
AllNoted w ts notes = (n i : ℕ) → get nat_eq notes.places n ≡ Some i → IsAt w ts notes.set notes.levels n i

pub record IsNoted (places : Places) (n : ℕ) : Type 0 where
  pub place : ℕ
  pub here : get nat_eq places n ≡ Some place

-- the parent of each definition that is noted is noted
abbrev pub AreChains : Facts → Places → Type 0
AreChains w places = (n p : ℕ) (d : Def) → IsNoted places n → slice_get w.defs n ≡ Some d → head_of d.parent ≡ Some p → IsNoted places p

pub record AreNotes (w : Facts) (ts : List Ty) (notes : Notes) : Type 0 where
  pub all : AllNoted w ts notes
  pub chains : AreChains w notes.places

-- what was found stays where it stands, and what was noted stays noted
pub record NotesGrow (old new : Notes) : Type 0 where
  pub levels : (more : List Level) × (new.levels ≡ old.levels ++ more)
  pub noted : (n : ℕ) → IsNoted old.places n → IsNoted new.places n

-- ---- what rows ask of the notes

-- what was found of the definition n
pub record Found (w : Facts) (levels : List Level) (n i : ℕ) : Type 0 where
  pub level : Level
  pub here : slice_get levels i ≡ Some level
  pub numbers : level.numbers ≡ chains.numbers chains.longest_chain w n

-- the numbers that the own methods of each noted definition take
abbrev pub NumbersNoted : Facts → Notes → Type 0
NumbersNoted w notes = (n i : ℕ) → get nat_eq notes.places n ≡ Some i → Found w notes.levels n i

-- the definition that a tree instantiates is noted
pub record IsOwner (places : Places) (t : Ty) : Type 0 where
  pub def : ℕ
  pub head : head t ≡ Some def
  pub noted : IsNoted places def

-- each of these trees instantiates a definition that is noted
abbrev pub OwnersNoted : Places → List Ty → Type 0
OwnersNoted places [] = Unit {0}
OwnersNoted places (t ∷ ts) = IsOwner places t × OwnersNoted places ts

-- one more level is noted, last
pub record IsKept (old new : Notes) (n : ℕ) (level : Level) (place : ℕ) : Type 0 where
  pub set : new.set ≡ old.set
  pub levels : new.levels ≡ old.levels ++ level ∷ []
  pub here : place ≡ length old.levels
  pub places : Updates nat_eq old.places new.places n (Some place)

-- ---- what the walk asks

-- d is the definition n, its chain of parents is within the bound, and its methods are within the world's
pub record IsDef (w : Facts) (n : ℕ) (d : Def) : Type 0 where
  pub here : slice_get w.defs n ≡ Some d
  pub within : chains.IsWithin w n
  pub few : d.first_method + d.methods ≤ 16777215

-- what was found of the parent of d stands here; d has no parent where nothing is told
abbrev pub IsAbove : Facts → List Ty → Notes → Def → Option ℕ → Type 0
IsAbove w ts notes d None = head_of d.parent ≡ None
IsAbove w ts notes d (Some place) = (p : ℕ) × (head_of d.parent ≡ Some p) × IsAt w ts notes.set notes.levels p place

-- the same levels at the same places
pub record SameNotes (old new : Notes) : Type 0 where
  pub levels : new.levels ≡ old.levels
  pub places : new.places ≡ old.places
