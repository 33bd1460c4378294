-- Two states that agree under what names stand for go on to agree where the names do.
use Rattle.std.proofs.Common.{◌≡◌, List, [], ◌∷◌, map, ap}
use Rattle.obj_heap.specs.Objects.{Object, map_object}
use Rattle.cil_state.specs.declared.form.Form.{Form}
use Rattle.cil_state.specs.declared.form.Form.TheVariants as form
use Rattle.cil_state.specs.declared.form.Variable.{Variable}
use Rattle.cil_state.specs.declared.state.Frame.{Frame}
use Rattle.cil_state.specs.declared.state.State.{State}
use Rattle.cil_state.specs.declared.state.Static.{Static}
use Rattle.cil_state.specs.declared.value.Value.{Value}
use Rattle.cil_state.specs.declared.value.Value.TheVariants as value
use Rattle.cil_state.specs.Maps.{map_value, map_values, map_form, map_variable, map_variables, map_frame, map_static, map_state}

module _ {X Y Z : Type 0} (f g : X → Z) (h : Y → Z) (more : (x : X) (y : Y) → f x ≡ h y → g x ≡ h y) where
  pub list_agrees : (xs : List X) (ys : List Y) → map f xs ≡ map h ys → map g xs ≡ map h ys
  list_agrees [] [] e = e
  list_agrees [] (y ∷ ys) e = absurd (cc)
  list_agrees (x ∷ xs) [] e = absurd (cc)
  list_agrees (x ∷ xs) (y ∷ ys) e =
      let head : f x ≡ h y = cc in
      let tail : map f xs ≡ map h ys = cc in
      let p = more x y head in
      let q = list_agrees xs ys tail in
      cc

module _ {A B C : Type 0} (old new : A → C) (h : B → C) (more : (x : A) (y : B) → old x ≡ h y → new x ≡ h y) where
  value_agrees : (v : Value A) (w : Value B) → map_value old v ≡ map_value h w → map_value new v ≡ map_value h w
  value_agrees (value.Number n) w e = e
  value_agrees (value.Ref r) w e = e
  value_agrees (value.Addr a) w e = e
  value_agrees (value.Val x bytes) (value.Number n) e = absurd (cc)
  value_agrees (value.Val x bytes) (value.Ref r) e = absurd (cc)
  value_agrees (value.Val x bytes) (value.Addr a) e = absurd (cc)
  value_agrees (value.Val x bytes) (value.Val y others) e =
      let name : old x ≡ h y = cc in
      let content : bytes ≡ others = cc in
      let p = more x y name in
      cc

  form_agrees : (t : Form A) (u : Form B) → map_form old t ≡ map_form h u → map_form new t ≡ map_form h u
  form_agrees (form.Scalar s) u e = e
  form_agrees form.Addr u e = e
  form_agrees form.Outside u e = e
  form_agrees (form.Val x size) (form.Scalar s) e = absurd (cc)
  form_agrees (form.Val x size) form.Addr e = absurd (cc)
  form_agrees (form.Val x size) form.Outside e = absurd (cc)
  form_agrees (form.Val x size) (form.Val y other) e =
      let name : old x ≡ h y = cc in
      let same : size ≡ other = cc in
      let p = more x y name in
      cc

  variable_agrees : (v : Variable A) (w : Variable B) → map_variable old v ≡ map_variable h w → map_variable new v ≡ map_variable h w
  variable_agrees v w e =
      let t = form_agrees v.form w.form (ap (λ z. z.form) e) in
      let u = value_agrees v.value w.value (ap (λ z. z.value) e) in
      λ i. record { form = t i; value = u i }

  variables_agree : (vs : List (Variable A)) (ws : List (Variable B)) → map_variables old vs ≡ map_variables h ws → map_variables new vs ≡ map_variables h ws
  variables_agree = list_agrees (map_variable old) (map_variable new) (map_variable h) variable_agrees

  values_agree : (vs : List (Value A)) (ws : List (Value B)) → map_values old vs ≡ map_values h ws → map_values new vs ≡ map_values h ws
  values_agree = list_agrees (map_value old) (map_value new) (map_value h) value_agrees

  frame_agrees : (x : Frame A) (y : Frame B) → map_frame old x ≡ map_frame h y → map_frame new x ≡ map_frame h y
  frame_agrees x y e =
      let method = ap (λ z. z.method) e in
      let context = more x.context y.context (ap (λ z. z.context) e) in
      let place = ap (λ z. z.place) e in
      let args = variables_agree x.args y.args (ap (λ z. z.args) e) in
      let locals = variables_agree x.locals y.locals (ap (λ z. z.locals) e) in
      let stack = values_agree x.stack y.stack (ap (λ z. z.stack) e) in
      λ i. record { method = method i; context = context i; place = place i; args = args i; locals = locals i; stack = stack i }

  object_agrees : (x : Object A) (y : Object B) → map_object old x ≡ map_object h y → map_object new x ≡ map_object h y
  object_agrees x y e =
      let of = more x.of y.of (ap (λ z. z.of) e) in
      let count = ap (λ z. z.count) e in
      let bytes = ap (λ z. z.bytes) e in
      let refs = ap (λ z. z.refs) e in
      λ i. record { of = of i; count = count i; bytes = bytes i; refs = refs i }

  static_agrees : (x : Static A) (y : Static B) → map_static old x ≡ map_static h y → map_static new x ≡ map_static h y
  static_agrees x y e =
      let owner = more x.owner y.owner (ap (λ z. z.owner) e) in
      let field = ap (λ z. z.field) e in
      let variable = variable_agrees x.variable y.variable (ap (λ z. z.variable) e) in
      λ i. record { owner = owner i; field = field i; variable = variable i }

  pub state_agrees : (s : State A) (u : State B) → map_state old s ≡ map_state h u → map_state new s ≡ map_state h u
  state_agrees s u e =
      let top = frame_agrees s.top u.top (ap (λ z. z.top) e) in
      let below = list_agrees _ _ _ frame_agrees s.below u.below (ap (λ z. z.below) e) in
      let heap = list_agrees _ _ _ object_agrees s.heap u.heap (ap (λ z. z.heap) e) in
      let statics = list_agrees _ _ _ static_agrees s.statics u.statics (ap (λ z. z.statics) e) in
      let begun = list_agrees old new h more s.begun u.begun (ap (λ z. z.begun) e) in
      let tokens = list_agrees old new h more s.tokens u.tokens (ap (λ z. z.tokens) e) in
      λ i. record { top = top i; below = below i; heap = heap i; statics = statics i; begun = begun i; tokens = tokens i }
