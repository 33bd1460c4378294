-- A state with the names of exact types put through a function.
use Rattle.std.specs.Prelude.{List, map}
use Rattle.obj_heap.specs.Objects.{map_objects}
use Rattle.cil_state.specs.declared.form.Form.{Form}
use Rattle.cil_state.specs.declared.form.Form.TheVariants as form
use Rattle.cil_state.specs.declared.form.Variable.{Variable}
use Rattle.cil_state.specs.declared.state.Frame.{Frame}
use Rattle.cil_state.specs.declared.state.Run.{Run}
use Rattle.cil_state.specs.declared.state.State.{State}
use Rattle.cil_state.specs.declared.state.Static.{Static}
use Rattle.cil_state.specs.declared.value.Value.{Value}
use Rattle.cil_state.specs.declared.value.Value.TheVariants as value

module _ {A B : Type 0} (f : A → B) where
  abbrev pub map_value : Value A → Value B
  map_value (value.Number n) = value.Number n
  map_value (value.Ref r) = value.Ref r
  map_value (value.Addr a) = value.Addr a
  map_value (value.Val h bytes) = value.Val (f h) bytes

  abbrev pub map_values : List (Value A) → List (Value B)
  map_values vs = map map_value vs

  abbrev pub map_form : Form A → Form B
  map_form (form.Scalar s) = form.Scalar s
  map_form form.Addr = form.Addr
  map_form (form.Val h size) = form.Val (f h) size
  map_form form.Outside = form.Outside

  abbrev pub map_variable : Variable A → Variable B
  map_variable v = record { form = map_form v.form; value = map_value v.value }

  abbrev pub map_variables : List (Variable A) → List (Variable B)
  map_variables vs = map map_variable vs

  abbrev pub map_frame : Frame A → Frame B
  map_frame x = record {
    method = x.method;
    context = f x.context;
    place = x.place;
    args = map_variables x.args;
    locals = map_variables x.locals;
    stack = map_values x.stack;
  }

  abbrev pub map_frames : List (Frame A) → List (Frame B)
  map_frames xs = map map_frame xs

  abbrev pub map_static : Static A → Static B
  map_static x = record { owner = f x.owner; field = x.field; variable = map_variable x.variable }

  abbrev pub map_state : State A → State B
  map_state s = record {
    top = map_frame s.top;
    below = map_frames s.below;
    heap = map_objects f s.heap;
    statics = map map_static s.statics;
    begun = map f s.begun;
    tokens = map f s.tokens;
  }

  abbrev pub map_run : Run A → Run B
  map_run r = record { state = map_state r.state; output = r.output; fuel = r.fuel }
