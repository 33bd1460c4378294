-- The own fields of a type, one after the other.
use Rattle.std.proofs.Common.{◌≡◌, ℕ, ◌+◌, ◌≤◌, ◌<◌, true, inl, inr, Bool, cond, List, [], ◌∷◌, ◌++◌, length, map, drop, Option, Some, slice_get, refl, ap, ap₂, ◌∙◌, sym, subst, arith, append_assoc, append-nil}
use Rattle.std.proofs.lemmas.Bool.{cases_Bool}
use Rattle.std.proofs.lemmas.List.{map-append, drop-drop}
use Rattle.type_tree.specs.declared.tree.Key.TheVariants.{Tree}
use Rattle.type_tree.specs.declared.tree.Ty.{Ty}
use Rattle.type_tree.specs.declared.definition.Def.{Def}
use Rattle.type_tree.specs.declared.definition.Field.{Field}
use Rattle.type_tree.specs.World.{Facts}
use Rattle.type_pool.specs.declared.key_nodes.KeyId.{KeyId}
use Rattle.type_pool.specs.declared.key_nodes.KeyNode.{KeyNode}
use Rattle.type_pool.specs.Keys.{keys_below}
use Rattle.field_layout.specs.Fields.{is_instance}
use Rattle.field_layout.proofs.Runs.{rest, rest_first, rest_next, rest_last}
use Rattle.type_record.specs.declared.loaded.FieldOf.{FieldOf}
use Rattle.type_record.specs.Naming.{field_in}
use Rattle.method_table.specs.Named.{key_named, KeysGrow, NamesField, NamesFields}
use Rattle.method_table.specs.Tables.{field_of, fields_of, later_offsets, next_offset, own_fields}
use Rattle.method_table.proofs.Growing.{keys_refl, keys_trans, own_more}

-- what was done before the field at `number`
pub record IsDone (w : Facts) (d : Def) (args : List Ty) (offsets : List ℕ) (ts0 : List Ty) (ks0 : List KeyNode) (number next : ℕ) (ts : List Ty) (ks : List KeyNode) (done : List (FieldOf KeyId)) : Type 0 where
  pub grows : KeysGrow ts0 ts ks0 ks
  pub told : List (FieldOf Ty)
  pub named : NamesFields ts ks done told
  pub left : told ++ fields_of w args (drop next offsets) (rest w d number) ≡ fields_of w args offsets (own_fields w d)
  pub few : next ≤ number

later_is : (f : Field) (offsets : List ℕ) (next after : ℕ) → after ≡ cond (is_instance f) (next + 1) next → later_offsets f (drop next offsets) ≡ drop after offsets
later_is f offsets next after e = elim (cases_Bool (is_instance f)) [
  | inl is ↦ let same : after ≡ next + 1 = rw is at e in rw (is, same) (drop-drop 1 next offsets)
  | inr none ↦ let same : after ≡ next = rw none at e in rw (none, same) refl
]

after_few : (b : Bool) (next after number : ℕ) → after ≡ cond b (next + 1) next → next ≤ number → after ≤ number + 1
after_few b next after number e few = elim (cases_Bool b) [
  | inl is ↦ let same : after ≡ next + 1 = rw is at e in omega arith
  | inr none ↦ let same : after ≡ next = rw none at e in omega arith
]

module _ (w : Facts) (d : Def) (args : List Ty) (offsets : List ℕ) (ts0 : List Ty) (ks0 : List KeyNode) where
  pub none_done : keys_below (length ts0) ks0 ≡ true → IsDone w d args offsets ts0 ks0 0 0 ts0 ks0 []
  none_done below = record { grows = keys_refl ts0 ks0 below; told = []; named = refl; left = ap (fields_of w args offsets) (rest_first w d); few = omega arith }

  module _ (number next : ℕ) (ts : List Ty) (ks : List KeyNode) (done : List (FieldOf KeyId)) (was : IsDone w d args offsets ts0 ks0 number next ts ks done) where
    pub all_done : d.fields ≤ number → NamesFields ts ks done (fields_of w args offsets (own_fields w d))
    all_done past =
        let last = ap (λ fs. was.told ++ fields_of w args (drop next offsets) fs) (rest_last w d number past) in
        let all : was.told ≡ fields_of w args offsets (own_fields w d) = sym (append-nil was.told) ∙ sym last ∙ was.left in
        subst (NamesFields ts ks done) all was.named

    pub one_done : (us : List Ty) (ls : List KeyNode) (f : Field) (one : FieldOf KeyId) (offset : Option ℕ) (after : ℕ) → number < d.fields → slice_get w.fields (d.first_field + number) ≡ Some f
        → offset ≡ next_offset f (drop next offsets) → after ≡ cond (is_instance f) (next + 1) next → KeysGrow ts us ks ls → NamesField us ls one (field_of w args offset f)
        → IsDone w d args offsets ts0 ks0 (number + 1) after us ls (done ++ one ∷ [])
    one_done us ls f one offset after inside here is e grows named =
        let given = field_of w args offset f in
        let front = ap (λ fs. was.told ++ fields_of w args (drop next offsets) fs) (rest_next w d number f inside here) in
        let step = ap₂ (λ o l. was.told ++ (field_of w args o f ∷ fields_of w args l (rest w d (number + 1)))) is (sym (later_is f offsets next after e)) in record {
          grows = keys_trans ts0 ts us ks0 ks ls was.grows grows;
          told = was.told ++ given ∷ [];
          named = map-append (field_in (key_named us ls)) done (one ∷ [])
              ∙ ap₂ (λ xs x. xs ++ x ∷ []) (own_more ts us ks ls was.grows.within grows done was.told was.named) named
              ∙ sym (ap (map (field_in Some)) (map-append (field_in Tree) was.told (given ∷ [])) ∙ map-append (field_in Some) (map (field_in Tree) was.told) (field_in Tree given ∷ []));
          left = append_assoc was.told (given ∷ []) (fields_of w args (drop after offsets) (rest w d (number + 1))) ∙ step ∙ sym front ∙ was.left;
          few = after_few (is_instance f) next after number e was.few;
        }
