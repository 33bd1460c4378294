-- States and their frames, whatever names the types.
use Rattle.std.specs.Prelude.{ℕ, ◌+◌, ◌==◌, nat_lt, Bool, true, false, List, [], ◌∷◌, length, Result, Ok}
use Rattle.clr_base.specs.declared.ids.Handle.{Handle}
use Rattle.obj_heap.specs.Objects.{Object}
use Rattle.cil_state.specs.declared.limits.TheConstants.{FRAME_LIMIT}
use Rattle.cil_state.specs.declared.state.Frame.{Frame}
use Rattle.cil_state.specs.declared.state.State.{State}
use Rattle.cil_state.specs.declared.trap.Trap.{Trap}
use Rattle.cil_state.specs.declared.trap.Trap.TheVariants as trap
use Rattle.cil_state.specs.declared.value.Value.{Value}
use Rattle.cil_state.specs.Meets.{next, guard}

-- equality of the exact types that handles name: a type has one handle
abbrev pub same_handle : Handle → Handle → Bool
same_handle x y = x.0 == y.0

module _ {H : Type 0} where
  abbrev pub with_stack : Frame H → List (Value H) → Frame H
  with_stack x stack = record x { stack = stack }

  -- the frame goes on at another place
  abbrev pub at_place : Frame H → ℕ → Frame H
  at_place x place = record x { place = place }

  abbrev pub with_top : State H → Frame H → State H
  with_top s x = record s { top = x }

  -- the running frame has this stack
  abbrev pub leaving : State H → List (Value H) → State H
  leaving s stack = with_top s (with_stack s.top stack)

  abbrev pub pushed : State H → Value H → State H
  pushed s v = leaving s (v ∷ s.top.stack)

  abbrev pub with_heap : State H → List (Object H) → State H
  with_heap s objects = record s { heap = objects }

  -- the frame runs, over the one that ran
  abbrev pub over : Frame H → State H → State H
  over x s = record s { top = x; below = s.top ∷ s.below }

  abbrev pub enter : Frame H → State H → Result (State H) Trap
  enter x s = next (guard (nat_lt (length s.below + 1) FRAME_LIMIT) trap.StackOverflow) (λ _. Ok (over x s))

  -- whether there is a caller, and the state in which it runs
  abbrev pub leave_to : State H → List (Frame H) → Bool × State H
  leave_to s [] = (false, s)
  leave_to s (x ∷ below) = (true, record s { top = x; below = below })

  abbrev pub leave : State H → Bool × State H
  leave s = leave_to s s.below
