-- Virtual slots along the chain of parents: which slot each method takes, and what stands there (ECMA-335 II.10.3, II.12.2).
use Rattle.std.specs.Prelude.{◌≡◌, ℕ, ◌+◌, ◌-◌, zero, suc, Bool, true, false, ◌&&◌, ◌==◌, nat_le, nat_lt, cond, List, [], ◌∷◌, ◌++◌, length, map, Option, None, Some, slice_get}
use Rattle.std.specs.List.{filter_map, list_any, range_with_len}
use Rattle.std.specs.Option.{option_map, option_map_or, option_and_then}
use Rattle.clr_base.specs.declared.ids.MethId.{MethId}
use Rattle.type_tree.specs.declared.definition.Def.{Def}
use Rattle.type_tree.specs.declared.definition.Impl.{Impl}
use Rattle.type_tree.specs.declared.definition.Method.{Method}
use Rattle.type_tree.specs.declared.tree.Ty.{Ty}
use Rattle.type_tree.specs.Context.{arguments}
use Rattle.type_tree.specs.Kinds.{head, head_of}
use Rattle.type_tree.specs.Subst.{subst_ty}
use Rattle.type_tree.specs.World.{Facts}
use Rattle.method_slots.specs.declared.entries.SlotEntry.{SlotEntry}
use Rattle.method_slots.specs.Opens.{Open, put_open}
use Rattle.method_slots.specs.Slots.{takes_slot, is_interface, same_tree, own_methods, in_own, own_numbers, own_opened}

-- ---- chains of parents

-- The chain of a definition: the definition, its parent, the parent's parent, and so on up to one whose parent is none or is no
-- instantiation. It has at most so many members.
abbrev pub longest_chain : ℕ
longest_chain = 64

-- of a definition whose parent is this, where `above` tells it of the parent
abbrev pub within_at : (ℕ → Bool) → Option Def → Bool
within_at above None = true
within_at above (Some d) = option_map_or above (head_of d.parent) true

-- whether the chain has at most so many members
unfoldable pub chain_within : ℕ → Facts → ℕ → Bool
chain_within zero w n = false
chain_within (suc k) w n = within_at (chain_within k w) (slice_get w.defs n)

abbrev pub IsWithin : Facts → ℕ → Type 0
IsWithin w n = chain_within longest_chain w n ≡ true

-- what the parent has, where `above` tells it of a definition; `put` puts the parent's arguments in
abbrev pub handed_on : {A : Type 0} → (List Ty → A → A) → (ℕ → List A) → Option Ty → List A
handed_on put above None = []
handed_on put above (Some t) = map (put (arguments t)) (option_map_or above (head t) [])

-- The chain as trees in the definition's own generic parameters: the root first, the definition last. A place on it stays the
-- same in every definition that extends this one.
abbrev pub chain_at : (ℕ → List Ty) → ℕ → Option Def → List Ty
chain_at above n None = []
chain_at above n (Some d) = handed_on (λ types t. subst_ty types [] t) above d.parent ++ in_own n d ∷ []

unfoldable pub chain : ℕ → Facts → ℕ → List Ty
chain zero w n = []
chain (suc k) w n = chain_at (chain k w) n (slice_get w.defs n)

-- the parents alone, the root first
abbrev pub parents_of : (ℕ → List Ty) → Option Def → List Ty
parents_of above None = []
parents_of above (Some d) = handed_on (λ types t. subst_ty types [] t) above d.parent

unfoldable pub parents : ℕ → Facts → ℕ → List Ty
parents zero w n = []
parents (suc k) w n = parents_of (chain k w) (slice_get w.defs n)

-- ---- the slots of a chain, and the numbers that methods take

-- the slots of the parent, by the names and signatures of the methods that opened them, in the definition's own generic parameters
abbrev pub inherited : (ℕ → List Open) → Def → List Open
inherited above d = handed_on put_open above d.parent

-- An interface has no slots.
abbrev pub openers_at : (ℕ → List Open) → Facts → Option Def → List Open
openers_at above w None = []
openers_at above w (Some d) = cond (is_interface d) [] (own_opened (inherited above d) (own_methods w d))

-- the slots of a definition in the order of their numbers, each by the name and signature of the method that opened it
unfoldable pub openers : ℕ → Facts → ℕ → List Open
openers zero w n = []
openers (suc k) w n = openers_at (openers k w) w (slice_get w.defs n)

abbrev pub numbers_at : (ℕ → List Open) → Facts → Option Def → List (Option ℕ)
numbers_at above w None = []
numbers_at above w (Some d) = cond (is_interface d) [] (own_numbers (inherited above d) (own_methods w d))

-- the numbers that a definition's own methods take, in order: matched in the definition's own generic parameters
unfoldable pub numbers : ℕ → Facts → ℕ → List (Option ℕ)
numbers zero w n = []
numbers (suc k) w n = numbers_at (openers k w) w (slice_get w.defs n)

abbrev pub flat : {A : Type 0} → Option (Option A) → Option A
flat None = None
flat (Some o) = o

-- what is known of the method m, by a list of one for each method from `first` on
abbrev pub at_own : {A : Type 0} → ℕ → List (Option A) → ℕ → Option A
at_own first all m = cond (nat_le first m) (flat (slice_get all (m - first))) None

-- the number that a method takes in the definition n; none for whatever isn't an own method of n
abbrev pub number_in : ℕ → Facts → ℕ → ℕ → Option ℕ
number_in k w n m = option_and_then (λ (d : Def). at_own d.first_method (numbers k w n) m) (slice_get w.defs n)

-- The number that a method takes: in its own definition. None where that is an interface, where the method is static or isn't
-- virtual, and where no definition owns it.
abbrev pub slot_number : Facts → ℕ → Option ℕ
slot_number w m = option_and_then (λ (r : Method). number_in longest_chain w r.def.0 m) (slice_get w.methods m)

-- ---- what takes slots

-- a method of a definition that takes the slot of this number
pub record Take : Type 0 where
  pub number : ℕ
  pub entry : SlotEntry

abbrev pub take_of : ℕ → ℕ → ℕ → Take
take_of place m number = record { number = number; entry = record { method = record { 0 = m }; owner = place } }

-- the own methods that take slots, in order, by a list of the numbers of the methods from `first` on
abbrev pub own_takes : ℕ → ℕ → List (Option ℕ) → List Take
own_takes place first [] = []
own_takes place first (None ∷ ns) = own_takes place (suc first) ns
own_takes place first (Some number ∷ ns) = take_of place first number ∷ own_takes place (suc first) ns

-- whether m is one of a definition's own virtual instance methods
abbrev pub is_own : Facts → ℕ → ℕ → Bool
is_own w n m = option_map_or (λ (d : Def). nat_le d.first_method m && nat_lt m (d.first_method + d.methods)) (slice_get w.defs n) false
    && option_map_or takes_slot (slice_get w.methods m) false

abbrev pub owns : Facts → ℕ → Option MethId → Bool
owns w n m = option_map_or (λ (id : MethId). is_own w n id.0) m false

-- whether a list of types has the owner that a MethodImpl row names, and that owner's definition owns the row's declaration
abbrev pub is_declared : Facts → List Ty → Impl → Bool
is_declared w types i = list_any (same_tree i.owner) types && option_map_or (λ p. owns w p i.declaration) (head i.owner) false

-- the number of the slot that a row's declaration has: it takes it in its own definition
abbrev pub declared_number : Facts → Impl → Option ℕ
declared_number w i = option_and_then (λ p. option_and_then (λ (m : MethId). number_in longest_chain w p m.0) i.declaration) (head i.owner)

-- A MethodImpl row on a method of a parent puts its body, an own method, into that method's slot (II.22.27). A row whose body is
-- no own virtual method, or whose declaration is no virtual method of a parent, as the row names it, puts none.
abbrev pub row_take : Facts → ℕ → List Ty → Impl → Option Take
row_take w n parents i = cond (owns w n i.body && is_declared w parents i)
    (option_and_then (λ (body : MethId). option_map (take_of (length parents) body.0) (declared_number w i)) i.body) None

-- what a definition's own methods take, and then what its rows take
abbrev pub takes_of : Facts → ℕ → Def → List Take
takes_of w n d =
    let above = parents longest_chain w n in
    own_takes (length above) d.first_method (numbers longest_chain w n) ++ filter_map (row_take w n above) d.impls

abbrev pub takes_at : Facts → ℕ → Option Def → List Take
takes_at w n None = []
takes_at w n (Some d) = cond (is_interface d) [] (takes_of w n d)

abbrev pub takes : Facts → ℕ → List Take
takes w n = takes_at w n (slice_get w.defs n)

-- ---- what stands in slots

-- the last that there is
abbrev pub last_of : {A : Type 0} → (A → Bool) → List A → Option A
last_of p [] = None
last_of p (x ∷ xs) = elim (last_of p xs) [ Some y ↦ Some y | None ↦ cond (p x) (Some x) None ]

-- what stands in a slot: the last of the own takes of its number; where there is none, what stands there in the parent
abbrev pub standing : List Take → List (Option SlotEntry) → ℕ → Option SlotEntry
standing own above number = elim (last_of (λ (t : Take). t.number == number) own) [ Some t ↦ Some t.entry | None ↦ flat (slice_get above number) ]

-- what stands in the parent's slots; places on the chain stay the same
abbrev pub above_slots : (ℕ → List (Option SlotEntry)) → Option Def → List (Option SlotEntry)
above_slots above None = []
above_slots above (Some d) = option_map_or above (head_of d.parent) []

-- what stands in each slot, in the order of their numbers
unfoldable pub slots : ℕ → Facts → ℕ → List (Option SlotEntry)
slots zero w n = []
slots (suc k) w n = map (standing (takes w n) (above_slots (slots k w) (slice_get w.defs n))) (range_with_len 0 (length (openers longest_chain w n)))
