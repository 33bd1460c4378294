-- What is wrong with the texts of `#Strings` (ECMA-335 II.24.2.3), place by place.
use Rattle.std.specs.Prelude.{◌≡◌, ℕ, ◌+◌, ◌-◌, ◌<◌, ◌≤◌, List, length, drop, ◌==◌, ◌≢◌, replicate, slice_index, Option, None, Some, Result, Ok, Err, if◌then◌else◌, get_or, slice_range}
use Rattle.std.specs.Option.{option_map}
use Rattle.std.specs.List.{position}
use Rattle.std.specs.Str.{is_utf8}
use Rattle.clr_base.specs.declared.image_fault.FaultKind.{FaultKind}
use Rattle.clr_base.specs.declared.image_fault.FaultKind.TheVariants.{BadIndex, BadText}
use Rattle.cli_tables.specs.Heaps.{string_at}
use Rattle.cli_tables.specs.declared.text_faults.Found.{Found}
use Rattle.cli_tables.specs.declared.text_faults.Found.TheVariants.{Ascii, Each}

-- what is wrong with a text, or nothing
abbrev pub fault_of : {X : Type 0} → Result X FaultKind → Option FaultKind
fault_of (Ok text) = None
fault_of (Err kind) = Some kind

-- what is wrong with the text at an index of the heap
abbrev pub text_fault : List ℕ → ℕ → Option FaultKind
text_fault heap index = fault_of (string_at heap index)

-- the same as it is looked up: nothing at 0, and BadIndex past the heap's end
abbrev pub looked_up : List (Option FaultKind) → ℕ → Option FaultKind
looked_up faults index = if index == 0 then None else get_or faults index (Some BadIndex)

-- at each index, that is what is wrong with its text
abbrev pub AreTextFaults : List ℕ → List (Option FaultKind) → Type 0
AreTextFaults heap faults = (index : ℕ) → looked_up faults index ≡ text_fault heap index

-- the faults that are kept: in a heap that is all ASCII, none at each place up to the last zero, n places in all
abbrev pub faults_of : Found → List (Option FaultKind)
faults_of (Ascii n) = replicate n None
faults_of (Each faults) = faults.items

-- the last of the first n bytes is a zero, if there are any, and none is behind them
abbrev pub ReachLastZero : List ℕ → ℕ → Type 0
ReachLastZero heap n = (n ≤ length heap) × (0 < n → slice_index heap (n - 1) ≡ 0) × ((i : ℕ) → n ≤ i → i < length heap → slice_index heap i ≢ 0)

-- where the next zero stands, from a place on
unfoldable pub end_at : List ℕ → ℕ → Option ℕ
end_at heap at = option_map (λ n. at + n) (position (λ byte. byte == 0) (drop at heap))

-- what is wrong with some bytes as a text
abbrev pub bytes_fault : List ℕ → Option FaultKind
bytes_fault bytes = if is_utf8 bytes then None else Some BadText

-- what is wrong with the text from a place to its zero
abbrev pub fault_up_to : List ℕ → ℕ → Option ℕ → Option FaultKind
fault_up_to heap at None = Some BadIndex
fault_up_to heap at (Some end) = bytes_fault (slice_range heap at end)

unfoldable pub fault_from : List ℕ → ℕ → Option FaultKind
fault_from heap at = fault_up_to heap at (end_at heap at)

-- from a place on, these are the faults of the heap's texts
abbrev pub AreFaultsFrom : List ℕ → ℕ → List (Option FaultKind) → Type 0
AreFaultsFrom heap at faults = (i : ℕ) (d : Option FaultKind) → at ≤ i → i < length heap → get_or faults i d ≡ fault_from heap i
