-- Events as words.
use Rattle.std.specs.Prelude.{◌≡◌, ℕ, ◌+◌, ◌*◌, ◌<◌, Bool, true, false, Option, None, Some}
use Rattle.clr_base.specs.declared.ids.Handle.{Handle}
use Rattle.load_events.specs.declared.load_fault.LoadFault.{LoadFault}
use Rattle.load_events.specs.declared.load_fault.LoadFault.TheVariants.{NotFound, Arity, BadArgument, BaseCycle, Expanding, BadParent, BadInterface, BadOverride, NoMethod, BadLayout, LayoutDeep, Constraint, TooLarge, NotInProfile}
use Rattle.load_events.specs.declared.event.Answer.{Answer}
use Rattle.load_events.specs.declared.event.Answer.TheVariants.{Loaded, Refused}
use Rattle.load_events.specs.declared.event.Event.{Event}
use Rattle.load_events.specs.declared.event.Event.TheVariants.{Ask, Done, Find}

-- faults count from 1
abbrev pub fault_number : LoadFault → ℕ
fault_number NotFound = 1
fault_number Arity = 2
fault_number BadArgument = 3
fault_number BaseCycle = 4
fault_number Expanding = 5
fault_number BadParent = 6
fault_number BadInterface = 7
fault_number BadOverride = 8
fault_number NoMethod = 9
fault_number BadLayout = 10
fault_number LayoutDeep = 11
fault_number Constraint = 12
fault_number TooLarge = 13
fault_number NotInProfile = 14

abbrev pub caller_of : Event → ℕ
caller_of (Ask n context sig) = n
caller_of (Done n outcome) = n
caller_of (Find n context sig found) = n

abbrev pub find_tag : Bool → ℕ
find_tag false = 2
find_tag true = 3

abbrev pub loaded_tag : Bool → ℕ
loaded_tag false = 4
loaded_tag true = 5

abbrev pub answer_tag : Answer → ℕ
answer_tag (Loaded h first) = loaded_tag first
answer_tag (Refused fault) = 6

abbrev pub tag_of : Event → ℕ
tag_of (Ask n context sig) = 1
tag_of (Done n outcome) = answer_tag outcome
tag_of (Find n context sig found) = find_tag found

-- 0 without a context, else its handle plus 1
abbrev pub context_number : Option Handle → ℕ
context_number None = 0
context_number (Some h) = h.0 + 1

-- the handle of a loaded key, or the number of a fault
abbrev pub answer_number : Answer → ℕ
answer_number (Loaded h first) = h.0
answer_number (Refused fault) = fault_number fault

abbrev pub first_of : Event → ℕ
first_of (Ask n context sig) = context_number context
first_of (Done n outcome) = answer_number outcome
first_of (Find n context sig found) = context_number context

-- the signature, 0 where there is none
abbrev pub second_of : Event → ℕ
second_of (Ask n context sig) = sig.0
second_of (Done n outcome) = 0
second_of (Find n context sig found) = sig.0

abbrev pub packed : ℕ → ℕ → ℕ → ℕ → ℕ
packed tag caller first second = tag + 8 * (caller + 4096 * (first + 524288 * second))

abbrev pub word_of : Event → ℕ
word_of e = packed (tag_of e) (caller_of e) (first_of e) (second_of e)

-- the event has this tag and these numbers
abbrev pub HasParts : Event → ℕ → ℕ → ℕ → ℕ → Type 0
HasParts e tag caller first second = (tag_of e ≡ tag) × (caller_of e ≡ caller) × (first_of e ≡ first) × (second_of e ≡ second)

abbrev pub IsNarrowContext : Option Handle → Type 0
IsNarrowContext None = Unit {0}
IsNarrowContext (Some h) = h.0 < 262144

abbrev pub IsNarrowAnswer : Answer → Type 0
IsNarrowAnswer (Loaded h first) = h.0 < 262144
IsNarrowAnswer (Refused fault) = Unit {0}

-- numbers that the word has room for: the caller is below 4,096, each handle below 262,144, and the signature below 16,777,471
abbrev pub IsNarrow : Event → Type 0
IsNarrow (Ask n context sig) = (n < 4096) × IsNarrowContext context × (sig.0 < 16777471)
IsNarrow (Done n outcome) = (n < 4096) × IsNarrowAnswer outcome
IsNarrow (Find n context sig found) = (n < 4096) × IsNarrowContext context × (sig.0 < 16777471)
