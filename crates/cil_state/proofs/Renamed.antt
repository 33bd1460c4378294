-- Names that are changed twice, and names that stay.
use Rattle.std.proofs.Common.{◌≡◌, List, map, refl, ◌∙◌}
use Rattle.std.proofs.lemmas.List.{map-id}
use Rattle.std.proofs.lemmas.Simd.{map-map}
use Rattle.obj_heap.specs.Objects.{map_object}
use Rattle.cil_state.specs.declared.form.Form.{Form}
use Rattle.cil_state.specs.declared.form.Form.TheVariants as form
use Rattle.cil_state.specs.declared.form.Variable.{Variable}
use Rattle.cil_state.specs.declared.state.Frame.{Frame}
use Rattle.cil_state.specs.declared.state.Run.{Run}
use Rattle.cil_state.specs.declared.state.State.{State}
use Rattle.cil_state.specs.declared.state.Static.{Static}
use Rattle.cil_state.specs.declared.value.Value.{Value}
use Rattle.cil_state.specs.declared.value.Value.TheVariants as value
use Rattle.cil_state.specs.Maps.{map_value, map_form, map_variable, map_frame, map_static, map_state, map_run}

list_twice : {X Y Z : Type 0} (g : Y → Z) (f : X → Y) (k : X → Z) → ((x : X) → g (f x) ≡ k x) → (xs : List X) → map g (map f xs) ≡ map k xs
list_twice g f k e xs = map-map g f xs ∙ (λ i. map (λ x. e x i) xs)

list_kept : {X : Type 0} (f : X → X) → ((x : X) → f x ≡ x) → (xs : List X) → map f xs ≡ xs
list_kept f e xs = (λ i. map (λ x. e x i) xs) ∙ map-id xs

module _ {A B C : Type 0} (g : B → C) (f : A → B) where
  value_twice : (v : Value A) → map_value g (map_value f v) ≡ map_value (λ x. g (f x)) v
  value_twice (value.Number n) = refl
  value_twice (value.Ref r) = refl
  value_twice (value.Addr a) = refl
  value_twice (value.Val h bytes) = refl

  form_twice : (t : Form A) → map_form g (map_form f t) ≡ map_form (λ x. g (f x)) t
  form_twice (form.Scalar s) = refl
  form_twice form.Addr = refl
  form_twice (form.Val h size) = refl
  form_twice form.Outside = refl

  variable_twice : (v : Variable A) → map_variable g (map_variable f v) ≡ map_variable (λ x. g (f x)) v
  variable_twice v = λ i. record { form = form_twice v.form i; value = value_twice v.value i }

  frame_twice : (x : Frame A) → map_frame g (map_frame f x) ≡ map_frame (λ x. g (f x)) x
  frame_twice x =
      let args = list_twice _ _ _ variable_twice x.args in
      let locals = list_twice _ _ _ variable_twice x.locals in
      let stack = list_twice _ _ _ value_twice x.stack in
      λ i. record { method = x.method; context = g (f x.context); place = x.place; args = args i; locals = locals i; stack = stack i }

  static_twice : (x : Static A) → map_static g (map_static f x) ≡ map_static (λ x. g (f x)) x
  static_twice x = λ i. record { owner = g (f x.owner); field = x.field; variable = variable_twice x.variable i }

  pub state_twice : (s : State A) → map_state g (map_state f s) ≡ map_state (λ x. g (f x)) s
  state_twice s =
      let below = list_twice _ _ _ frame_twice s.below in
      let heap = map-map (map_object g) (map_object f) s.heap in
      let statics = list_twice _ _ _ static_twice s.statics in
      let begun = map-map g f s.begun in
      let tokens = map-map g f s.tokens in
      λ i. record { top = frame_twice s.top i; below = below i; heap = heap i; statics = statics i; begun = begun i; tokens = tokens i }

  pub run_twice : (r : Run A) → map_run g (map_run f r) ≡ map_run (λ x. g (f x)) r
  run_twice r = λ i. record { state = state_twice r.state i; output = r.output; fuel = r.fuel }

module _ {A : Type 0} where
  value_kept : (v : Value A) → map_value (λ (x : A). x) v ≡ v
  value_kept (value.Number n) = refl
  value_kept (value.Ref r) = refl
  value_kept (value.Addr a) = refl
  value_kept (value.Val h bytes) = refl

  form_kept : (t : Form A) → map_form (λ (x : A). x) t ≡ t
  form_kept (form.Scalar s) = refl
  form_kept form.Addr = refl
  form_kept (form.Val h size) = refl
  form_kept form.Outside = refl

  variable_kept : (v : Variable A) → map_variable (λ (x : A). x) v ≡ v
  variable_kept v = λ i. record { form = form_kept v.form i; value = value_kept v.value i }

  frame_kept : (x : Frame A) → map_frame (λ (x : A). x) x ≡ x
  frame_kept x =
      let args = list_kept _ variable_kept x.args in
      let locals = list_kept _ variable_kept x.locals in
      let stack = list_kept _ value_kept x.stack in
      λ i. record { method = x.method; context = x.context; place = x.place; args = args i; locals = locals i; stack = stack i }

  static_kept : (x : Static A) → map_static (λ (x : A). x) x ≡ x
  static_kept x = λ i. record { owner = x.owner; field = x.field; variable = variable_kept x.variable i }

  pub state_kept : (s : State A) → map_state (λ (x : A). x) s ≡ s
  state_kept s =
      let below = list_kept _ frame_kept s.below in
      let heap = map-id s.heap in
      let statics = list_kept _ static_kept s.statics in
      let begun = map-id s.begun in
      let tokens = map-id s.tokens in
      λ i. record { top = frame_kept s.top i; below = below i; heap = heap i; statics = statics i; begun = begun i; tokens = tokens i }

  pub run_kept : (r : Run A) → map_run (λ (x : A). x) r ≡ r
  run_kept r = λ i. record { state = state_kept r.state i; output = r.output; fuel = r.fuel }
