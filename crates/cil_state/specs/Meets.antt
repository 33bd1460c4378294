-- Answers that may be a trap, and how the code's answers stand to them.
use Rattle.std.specs.Prelude.{◌≡◌, Bool, true, false, Result, Ok, Err}
use Rattle.obj_heap.specs.declared.fault.HeapFault.{HeapFault}
use Rattle.obj_heap.specs.declared.fault.HeapFault.TheVariants as fault
use Rattle.cil_state.specs.declared.trap.Stop.{Stop}
use Rattle.cil_state.specs.declared.trap.Stop.TheVariants as stop
use Rattle.cil_state.specs.declared.trap.Trap.{Trap}
use Rattle.cil_state.specs.declared.trap.Trap.TheVariants as trap

-- one answer, and then the next, unless the first is a trap
abbrev pub next : {A B : Type 0} → Result A Trap → (A → Result B Trap) → Result B Trap
next (Ok x) k = k x
next (Err trap) k = Err trap

-- goes on where the test holds
abbrev pub guard : Bool → Trap → Result (Unit {0}) Trap
guard true trap = Ok tt
guard false trap = Err trap

-- the answer that is no trap, put through a function
abbrev pub on_ok : {A B : Type 0} → (A → B) → Result A Trap → Result B Trap
on_ok f (Ok x) = Ok (f x)
on_ok f (Err trap) = Err trap

-- the code gave this result, and `value` of what it returned is what is expected; want of memory is free
abbrev pub Meets : {R A : Type 0} → Result R Stop → (R → A) → Result A Trap → Type 0
Meets (Ok r) value expected = expected ≡ Ok (value r)
Meets (Err (stop.Trap trap)) value expected = expected ≡ Err trap
Meets (Err stop.Memory) value expected = Unit {0}

-- what a heap that makes no object stops
abbrev pub stop_of : HeapFault → Stop
stop_of fault.HeapFull = stop.Trap trap.HeapFull
stop_of fault.Memory = stop.Memory
