-- The instructions of a frame, whatever names the types.
use Rattle.std.specs.Prelude.{Bool, List, ◌∷◌, Option, None, Some, Result, Ok, Err}
use Rattle.obj_heap.specs.declared.address.ObjRef.{ObjRef}
use Rattle.cil_state.specs.declared.form.Variable.{Variable}
use Rattle.cil_state.specs.declared.state.Frame.{Frame}
use Rattle.cil_state.specs.declared.state.State.{State}
use Rattle.cil_state.specs.declared.trap.Trap.{Trap}
use Rattle.cil_state.specs.declared.trap.Trap.TheVariants as trap
use Rattle.cil_state.specs.declared.value.Value.{Value}
use Rattle.cil_state.specs.declared.value.Value.TheVariants as value
use Rattle.cil_state.specs.Meets.{next}
use Rattle.cil_state.specs.Operands.{top, as_ref}
use Rattle.cil_state.specs.State.{with_stack, with_top}
use Rattle.cil_plain.specs.declared.op.Plain.{Plain}
use Rattle.cil_plain.specs.declared.op.Plain.TheVariants as op
use Rattle.cil_plain.specs.Numbers.{binary, convert, compare}
use Rattle.cil_plain.specs.Branches.{jump, jump_if, jump_where, switch}
use Rattle.cil_plain.specs.Locals.{load, store, dup, drop_top}

abbrev pub thrown : {A : Type 0} → Option ObjRef → Result A Trap
thrown None = Err trap.NullReference
thrown (Some r) = Err (trap.Thrown r)

module _ {H : Type 0} where
  abbrev pub throw : List (Value H) → Result (List (Value H)) Trap
  throw stack = next (as_ref (top stack)) thrown

  -- what an instruction does to the stack alone
  abbrev pub on_stack : Frame H → Result (List (Value H)) Trap → Result (Frame H) Trap
  on_stack x r = next r (λ stack. Ok (with_stack x stack))

  abbrev pub with_args : Frame H → List (Variable H) → List (Value H) → Frame H
  with_args x args stack = record x { args = args; stack = stack }

  abbrev pub with_locals : Frame H → List (Variable H) → List (Value H) → Frame H
  with_locals x locals stack = record x { locals = locals; stack = stack }

module _ {H : Type 0} (equal : H → H → Bool) where
  abbrev pub local : Plain → Frame H → Result (Frame H) Trap
  local op.Nop x = Ok x
  local (op.Const n) x = Ok (with_stack x (value.Number n ∷ x.stack))
  local op.Null x = Ok (with_stack x (value.Ref None ∷ x.stack))
  local (op.LoadArg n) x = on_stack x (load n x.args x.stack)
  local (op.StoreArg n) x = next (store equal n x.args x.stack) (λ t. Ok (with_args x t.0 t.1))
  local (op.LoadLocal n) x = on_stack x (load n x.locals x.stack)
  local (op.StoreLocal n) x = next (store equal n x.locals x.stack) (λ t. Ok (with_locals x t.0 t.1))
  local op.Dup x = on_stack x (dup x.stack)
  local op.Pop x = on_stack x (drop_top x.stack)
  local (op.Binary o) x = on_stack x (binary o x.stack)
  local (op.Convert o) x = on_stack x (convert o x.stack)
  local (op.Compare o) x = on_stack x (compare o x.stack)
  local (op.Jump target) x = jump target x
  local (op.JumpIf truth target) x = jump_if truth target x
  local (op.JumpWhere o target) x = jump_where o target x
  local (op.Switch targets) x = switch targets x
  local op.Throw x = on_stack x (throw x.stack)

  -- an instruction of the running frame
  abbrev pub plain : Plain → State H → Result (State H) Trap
  plain o s = next (local o s.top) (λ x. Ok (with_top s x))
