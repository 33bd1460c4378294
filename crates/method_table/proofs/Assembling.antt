-- The record of parts that are named.
use Rattle.std.proofs.Common.{◌≡◌, ℕ, List, length, map, Option, ap, ◌∙◌, sym}
use Rattle.std.proofs.lemmas.List.{length-map}
use Rattle.type_tree.specs.declared.tree.Key.TheVariants.{Tree}
use Rattle.type_tree.specs.declared.tree.Ty.{Ty}
use Rattle.type_pool.specs.declared.key_nodes.KeyId.{KeyId}
use Rattle.type_pool.specs.declared.key_nodes.KeyNode.{KeyNode}
use Rattle.type_record.specs.declared.loaded.FieldOf.{FieldOf}
use Rattle.type_record.specs.declared.loaded.SlotOf.{SlotOf}
use Rattle.type_record.specs.declared.loaded.TypeRecord.{TypeRecord}
use Rattle.type_record.specs.declared.shape.Form.{Form}
use Rattle.type_record.specs.Naming.{record_in}
use Rattle.method_table.specs.declared.parts.Back.{Back}
use Rattle.method_table.specs.declared.parts.Front.{Front}
use Rattle.method_table.specs.Named.{joined, IsBack, IsFront, NamesOption, NamesType, Tells}
use Rattle.method_table.specs.Tables.{shape_of}

pub as_long : {X Y Z A : Type 0} (f : X → Z) (g : Y → Z) (h : A → Y) (xs : List X) (ys : List A) → map f xs ≡ map g (map h ys) → length xs ≡ length ys
as_long f g h xs ys e = sym (length-map xs f) ∙ ap length e ∙ length-map (map h ys) g ∙ length-map ys h

module _ (ts : List Ty) (ks : List KeyNode) (form : Form) (size : ℕ) (n : KeyId) (t : Ty) (element : Option KeyId) (part : Option Ty) (f : Front) (b : Back)
    (up : Option Ty) (parts faces : List Ty) (own : List (FieldOf Ty)) (entries : List (SlotOf Ty)) (choices : List (List (Option (SlotOf Ty)))) where
  abbrev assembled : TypeRecord Ty
  assembled = record {
    shape = shape_of form size parts faces own entries;
    parent = up;
    canon = t;
    element = part;
    args = parts;
    interfaces = faces;
    fields = own;
    slots = entries;
    interface_slots = choices;
  }

  pub tells_joined : NamesType ts ks n t → NamesOption ts ks element part → IsFront ts ks f up parts own → IsBack ts ks b faces entries choices
      → Tells ts ks (joined form size n element f b) (record_in Tree assembled)
  tells_joined canonical inner front back =
      let args = as_long _ _ _ f.args parts front.args in
      let interfaces = as_long _ _ _ b.interfaces faces back.interfaces in
      let fields = as_long _ _ _ f.fields own front.fields in
      let slots = as_long _ _ _ b.slots entries back.slots in
      λ i. record {
        shape = record { form = form; args = args i; interfaces = interfaces i; fields = fields i; slots = slots i; size = size };
        parent = front.parent i;
        canon = canonical i;
        element = inner i;
        args = front.args i;
        interfaces = back.interfaces i;
        fields = front.fields i;
        slots = back.slots i;
        interface_slots = back.interface_slots i;
      }
