-- Entries put into slots.
use Rattle.std.specs.Prelude.{nat_lt, cond, List, [], ◌∷◌, ◌++◌, length, slice_set, Option, None, Some}
use Rattle.method_slots.specs.declared.entries.SlotEntry.{SlotEntry}
use Rattle.method_slots.specs.Chains.{Take}

-- into its slot, or one that is opened for it
abbrev pub put : List SlotEntry → Take → List SlotEntry
put es t = cond (nat_lt t.number (length es)) (slice_set es t.number t.entry) (es ++ t.entry ∷ [])

abbrev pub put_all : List SlotEntry → List Take → List SlotEntry
put_all es [] = es
put_all es (t ∷ ts) = put_all (put es t) ts

-- into its slot, where there is one
abbrev pub replace : List SlotEntry → Option Take → List SlotEntry
replace es None = es
replace es (Some t) = cond (nat_lt t.number (length es)) (slice_set es t.number t.entry) es

abbrev pub replace_all : List SlotEntry → List (Option Take) → List SlotEntry
replace_all es [] = es
replace_all es (t ∷ ts) = replace_all (replace es t) ts
