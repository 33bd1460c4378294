-- Methods of one definition: which take slots, how they match, and the numbers that they take (ECMA-335 II.10.3, II.12.2).
use Rattle.std.specs.Prelude.{ℕ, Bool, true, false, not, ◌&&◌, ◌==◌, bit_and, List, [], ◌∷◌, length, map, take, drop, Option}
use Rattle.std.specs.List.{range_with_len}
use Rattle.type_tree.specs.declared.definition.Def.{Def}
use Rattle.type_tree.specs.declared.definition.Method.{Method}
use Rattle.type_tree.specs.declared.tree.Ty.{Ty}
use Rattle.type_tree.specs.declared.tree.Ty.TheVariants as ty
use Rattle.type_tree.specs.contracts.tree.Ty as row-of-ty
use Rattle.type_tree.specs.Same.{same}
use Rattle.type_tree.specs.World.{Facts}
use Rattle.method_slots.specs.Numbers as numbers
use Rattle.method_slots.specs.Opens.{Open, open_of}

-- ---- flags (II.23.1.10, II.23.1.15)

abbrev pub has : ℕ → ℕ → Bool
has flags bit = not (bit_and flags bit == 0)

-- a virtual instance method
abbrev pub takes_slot : Method → Bool
takes_slot m = has m.flags 0x40 && not (has m.flags 0x10)

abbrev pub has_newslot : Method → Bool
has_newslot m = has m.flags 0x100

abbrev pub is_final : Method → Bool
is_final m = has m.flags 0x20

abbrev pub is_abstract : Method → Bool
is_abstract m = has m.flags 0x400

abbrev pub is_interface : Def → Bool
is_interface d = has d.flags 0x20

abbrev pub is_abstract_type : Def → Bool
is_abstract_type d = has d.flags 0x80

-- ---- equality

abbrev pub same_tree : Ty → Ty → Bool
same_tree = same row-of-ty.the_row.coded

abbrev pub same_trees : List Ty → List Ty → Bool
same_trees [] [] = true
same_trees (t ∷ ts) (u ∷ us) = same_tree t u && same_trees ts us
same_trees _ _ = false

abbrev pub same_bool : Bool → Bool → Bool
same_bool true b = b
same_bool false b = not b

-- methods match where names and signatures are equal
abbrev pub matches : Open → Open → Bool
matches a b = a.name.0 == b.name.0 && (same_bool a.has_this b.has_this && (same_bool a.vararg b.vararg && (a.formals == b.formals
    && (same_tree a.ret b.ret && same_trees a.params b.params))))

-- ---- the methods of a definition

-- methods that stand one after the other
abbrev pub run : Facts → ℕ → ℕ → List Method
run w first count = take count (drop first w.methods)

abbrev pub own_methods : Facts → Def → List Method
own_methods w d = run w d.first_method d.methods

-- a definition in its own generic parameters
abbrev pub variables : ℕ → List Ty
variables n = map ty.Var (range_with_len 0 n)

abbrev pub in_own : ℕ → Def → Ty
in_own n d = ty.Inst (record { 0 = n }) (variables (length d.formals))

-- The parent's slots are named by the names and signatures of the methods that opened them, in the definition's own generic
-- parameters.

-- the slot of the parent that a method overrides, none where it has newslot or matches none
abbrev pub overridden : List Open → Method → Option ℕ
overridden slots = numbers.overrides matches open_of takes_slot has_newslot slots

-- the numbers that the own methods take, in order; none for a method that isn't virtual or is static
abbrev pub own_numbers : List Open → List Method → List (Option ℕ)
own_numbers slots = numbers.numbers_from matches open_of takes_slot has_newslot slots (length slots)

-- the slots of the definition: the parent's, and then those that the own methods open
abbrev pub own_opened : List Open → List Method → List Open
own_opened slots = numbers.opened matches open_of takes_slot has_newslot slots
