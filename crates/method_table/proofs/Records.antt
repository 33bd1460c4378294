-- The records of types and methods, by parts that are named.
use Rattle.std.proofs.Common.{◌≡◌, ◌<◌, ◌∙◌, ℕ, zero, suc, arith, List, [], ◌∷◌, length, map, Option, None, Some, slice_get, refl, ap, sym, subst}
use Rattle.std.specs.Option.{option_map, option_map_or}
use Rattle.clr_base.specs.declared.ids.DefId.{DefId}
use Rattle.type_tree.specs.declared.definition.Def.{Def}
use Rattle.type_tree.specs.declared.tree.Key.{Key}
use Rattle.type_tree.specs.declared.tree.Key.TheVariants.{Tree}
use Rattle.type_tree.specs.declared.tree.Ty.{Ty}
use Rattle.type_tree.specs.declared.tree.Ty.TheVariants as ty
use Rattle.type_tree.specs.declared.tree.Ty.TheViews.{out-Ty}
use Rattle.type_tree.specs.Canon.{canon_ty}
use Rattle.type_tree.specs.Subst.{subst_ty}
use Rattle.type_tree.specs.World.{Facts}
use Rattle.type_pool.specs.declared.key_nodes.KeyId.{KeyId}
use Rattle.type_pool.specs.declared.key_nodes.KeyNode.{KeyNode}
use Rattle.type_pool.specs.declared.nodes.Id.{Id}
use Rattle.type_pool.specs.declared.nodes.Node.{Node}
use Rattle.type_pool.specs.declared.nodes.Node.TheVariants.{Inst, Array, ByRef, Ptr, Var, MVar, Missing, Odd}
use Rattle.type_pool.specs.Trees.{at, at_all, tree_of}
use Rattle.type_relations.specs.Relations.{system_array}
use Rattle.type_record.specs.declared.shape.Form.{Form}
use Rattle.type_record.specs.declared.shape.Form.TheVariants as form
use Rattle.type_record.specs.Naming.{record_in, field_in, slot_in, choice_in}
use Rattle.field_layout.specs.Layouts.{layout_of}
use Rattle.method_slots.specs.Chains.{longest_chain}
use Rattle.interface_maps.specs.Choices.{Answered, answers}
use Rattle.method_table.specs.declared.parts.Back.{Back}
use Rattle.method_table.specs.declared.parts.Front.{Front}
use Rattle.method_table.specs.Named.{bare, joined, key_named, IsBack, IsFront, NamesOption, NamesSlots, NamesType, NamesTypes, Tells}
use Rattle.method_table.specs.Tables.{array_table, array_slots, bare_table, chosen, fields_of, form_of, inst_table, method_record, offsets_of, own_fields, size_of, slots_of, told_def, type_table, table_at}
use Rattle.method_table.proofs.Assembling.{as_long, tells_joined}

-- ---- methods

module _ (ts : List Ty) (ks : List KeyNode) (n : KeyId) (k : Key) (owner : Ty) (args : List Ty) (f : Front) (b : Back) where
  pub method_tells : key_named ts ks n ≡ Some k → NamesOption ts ks f.parent (Some owner) → NamesTypes ts ks f.args args → f.fields ≡ [] → b.interfaces ≡ [] → b.slots ≡ [] → b.interface_slots ≡ []
      → Tells ts ks (joined form.Method 0 n None f b) (method_record owner args k)
  method_tells canonical up are fields faces slots choices =
      let many = as_long _ _ _ f.args args are in
      let no_faces = ap length faces in
      let no_fields = ap length fields in
      let no_slots = ap length slots in
      let faces_in = ap (map (key_named ts ks)) faces in
      let fields_in = ap (map (field_in (key_named ts ks))) fields in
      let slots_in = ap (map (slot_in (key_named ts ks))) slots in
      let choices_in = ap (map (map (choice_in (key_named ts ks)))) choices in
      λ i. record {
        shape = record { form = form.Method; args = many i; interfaces = no_faces i; fields = no_fields i; slots = no_slots i; size = 0 };
        parent = up i;
        canon = canonical i;
        element = None;
        args = are i;
        interfaces = faces_in i;
        fields = fields_in i;
        slots = slots_in i;
        interface_slots = choices_in i;
      }

-- ---- types

module _ (ts : List Ty) (ks : List KeyNode) (n : KeyId) (w : Facts) (t : Ty) (canonical : NamesType ts ks n (canon_ty w t)) where
  pub bare_tells : Tells ts ks (bare n) (record_in Tree (bare_table w t))
  bare_tells = tells_joined ts ks form.Class 0 n (canon_ty w t) None None (record { parent = None; args = []; fields = [] }) (record { interfaces = []; slots = []; interface_slots = [] }) None [] [] [] [] [] canonical refl
      (record { parent = refl; args = refl; fields = refl }) (record { interfaces = refl; slots = refl; interface_slots = refl })

  pub array_tells : (element : KeyId) (part : Ty) (f : Front) (b : Back) → NamesType ts ks element part → NamesOption ts ks f.parent (Some system_array) → f.args ≡ [] → f.fields ≡ [] → b.interfaces ≡ []
      → NamesSlots ts ks b.slots (array_slots w) → b.interface_slots ≡ [] → Tells ts ks (joined form.Array 16 n (Some element) f b) (record_in Tree (array_table w t part))
  array_tells element part f b inner up args fields faces slots choices =
      tells_joined ts ks form.Array 16 n (canon_ty w t) (Some element) (Some part) f b (Some system_array) [] [] [] (array_slots w) [] canonical (ap Some inner)
      (record { parent = up; args = ap (map (key_named ts ks)) args; fields = ap (map (field_in (key_named ts ks))) fields })
      (record { interfaces = ap (map (key_named ts ks)) faces; slots = slots; interface_slots = ap (map (map (choice_in (key_named ts ks)))) choices })

pub some_at : {A : Type 0} (xs : List A) (i : ℕ) → i < length xs → (x : A) × (slice_get xs i ≡ Some x)
some_at [] i low = absurd (omega (arith, low))
some_at (x ∷ xs) zero low = (x, refl)
some_at (x ∷ xs) (suc i) low = some_at xs i (omega (arith, low))

pub array_told : (w : Facts) → 19 < length w.defs → ((d : Def) → slice_get w.defs 19 ≡ Some d → told_def w 19 ≡ Some d) → array_slots w ≡ slots_of w system_array [] 19
array_told w inside told =
    let there = some_at w.defs 19 inside in
    ap (λ o. option_map_or (λ (d : Def). slots_of w system_array [] 19) o []) (told there.0 there.1)

-- what a type that instantiates the definition d has of it, and along its chain of parents
abbrev pub IsFrontOf : Facts → List Ty → List KeyNode → Front → List Ty → List ℕ → Def → Type 0
IsFrontOf w ts ks f args offsets d = IsFront ts ks f (option_map (subst_ty args []) d.parent) args (fields_of w args offsets (own_fields w d))

abbrev pub IsBackOf : Facts → List Ty → List KeyNode → Back → Ty → List Ty → ℕ → Type 0
IsBackOf w ts ks b t args n = IsBack ts ks b (map (λ (a : Answered). subst_ty args [] a.interface) (answers longest_chain w n)) (slots_of w t args n) (map (λ (a : Answered). map (chosen (slots_of w t args n)) a.choices) (answers longest_chain w n))

module _ (w : Facts) (ts : List Ty) (ks : List KeyNode) where
  pub front_at : (f : Front) (a b : List Ty) (xs ys : List ℕ) (c d : Def) → a ≡ b → xs ≡ ys → c ≡ d → IsFrontOf w ts ks f a xs c → IsFrontOf w ts ks f b ys d
  front_at f a b xs ys c d args offsets def is =
      subst (λ (x : Def). IsFrontOf w ts ks f b ys x) def (subst (λ (x : List ℕ). IsFrontOf w ts ks f b x c) offsets (subst (λ (x : List Ty). IsFrontOf w ts ks f x xs c) args is))

  pub back_at : (b : Back) (t u : Ty) (xs ys : List Ty) (n : ℕ) → t ≡ u → xs ≡ ys → IsBackOf w ts ks b t xs n → IsBackOf w ts ks b u ys n
  back_at b t u xs ys n own args is = subst (λ (x : List Ty). IsBackOf w ts ks b u x n) args (subst (λ (x : Ty). IsBackOf w ts ks b x xs n) own is)

  pub inst_tells : (t : Ty) (id : DefId) (args : List Ty) (d : Def) (n : KeyId) (f : Front) (b : Back) (shape : Form) (size : ℕ) → shape ≡ form_of w id d → size ≡ size_of (layout_of w t) → NamesType ts ks n (canon_ty w t)
      → IsFrontOf w ts ks f args (offsets_of (layout_of w t)) d → IsBackOf w ts ks b t args id.0 → Tells ts ks (joined shape size n None f b) (record_in Tree (inst_table w t id args d))
  inst_tells t id args d n f b shape size is long canonical front back =
      let told = inst_table w t id args d in
      let whole = tells_joined ts ks (form_of w id d) (size_of (layout_of w t)) n (canon_ty w t) None None f b told.parent args told.interfaces told.fields told.slots told.interface_slots canonical refl front back in
      subst (λ (x : Form). Tells ts ks (joined x size n None f b) (record_in Tree told)) (sym is) (subst (λ (x : ℕ). Tells ts ks (joined (form_of w id d) x n None f b) (record_in Tree told)) (sym long) whole)

-- ---- by the level of a tree

pub inst_level : (w : Facts) (ts : List Ty) (t : Ty) (d : DefId) (parts : List Id) (told : Option Def) → tree_of ts (Inst d parts) ≡ t → told_def w d.0 ≡ told
    → type_table w t ≡ option_map_or (inst_table w t d (at_all ts parts)) told (bare_table w t)
inst_level w ts t d parts told is e =
    ap (table_at w t) (ap out-Ty (sym is) ∙ ty.outs-Inst d (at_all ts parts)) ∙ ap (λ o. option_map_or (inst_table w t d (at_all ts parts)) o (bare_table w t)) e

pub array_level : (w : Facts) (ts : List Ty) (t : Ty) (part : Id) → tree_of ts (Array part) ≡ t → type_table w t ≡ array_table w t (at ts part)
array_level w ts t part is = ap (table_at w t) (ap out-Ty (sym is) ∙ ty.outs-Array (at ts part))

pub other_level : (w : Facts) (ts : List Ty) (t : Ty) (n : Node) → ((d : DefId) (parts : List Id) → n ≡ Inst d parts → ⊥) → ((part : Id) → n ≡ Array part → ⊥) → tree_of ts n ≡ t → type_table w t ≡ bare_table w t
other_level w ts t (Inst d parts) no_inst no_array is = absurd (no_inst d parts refl)
other_level w ts t (Array part) no_inst no_array is = absurd (no_array part refl)
other_level w ts t (ByRef part) no_inst no_array is = ap (table_at w t) (ap out-Ty (sym is) ∙ ty.outs-ByRef (at ts part))
other_level w ts t (Ptr part) no_inst no_array is = ap (table_at w t) (ap out-Ty (sym is) ∙ ty.outs-Ptr (at ts part))
other_level w ts t (Var k) no_inst no_array is = ap (table_at w t) (ap out-Ty (sym is) ∙ ty.outs-Var k)
other_level w ts t (MVar k) no_inst no_array is = ap (table_at w t) (ap out-Ty (sym is) ∙ ty.outs-MVar k)
other_level w ts t (Missing name value) no_inst no_array is = ap (table_at w t) (ap out-Ty (sym is) ∙ ty.outs-Missing name value)
other_level w ts t (Odd code) no_inst no_array is = ap (table_at w t) (ap out-Ty (sym is) ∙ ty.outs-Odd code)
