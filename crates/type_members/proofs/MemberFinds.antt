-- The first member with a name and a signature is the first of those with the name that has the signature.
use Rattle.std.proofs.Common.{◌≡◌, ℕ, Bool, true, false, ◌&&◌, cond, List, [], ◌∷◌, Option, None, Some, slice_get, get_or, filter, refl, sym, ap, ap₂, ◌∙◌}
use Rattle.std.specs.Option.{option_map, option_map_or, option_and_then}
use Rattle.std.specs.List.{find, range_with_len}
use Rattle.std.proofs.lemmas.Option.{slice_get-map}
use Rattle.clr_base.specs.declared.ids.NameId.{NameId}
use Rattle.type_tree.specs.declared.definition.Field.{Field}
use Rattle.type_tree.specs.declared.definition.Method.{Method}
use Rattle.type_tree.specs.declared.tree.Ty.{Ty}
use Rattle.type_members.specs.declared.member_groups.MemberGroups.{MemberGroups}
use Rattle.type_members.specs.declared.member_table.MemberTable.{MemberTable}
use Rattle.type_members.specs.declared.member_table.Run.{Run}
use Rattle.type_members.specs.MemberIndexes.{AreGroups, at_name, has_name, method_names, field_names, is_wanted, has_type}
use Rattle.type_members.specs.MemberTable.{Open, open_method, same_name, same_open, same_tree, method_id, is_method, own_method, field_id, is_field, own_field}

-- ---- what is found among items that pass another test

module _ (p q r : ℕ → Bool) (both : (x : ℕ) → p x ≡ (q x && r x)) where
  one_more : (x : ℕ) (xs : List ℕ) (b : Bool) → q x ≡ b → find p xs ≡ find r (filter q xs) → find p (x ∷ xs) ≡ find r (cond b (x ∷ filter q xs) (filter q xs))
  one_more x xs true e rest =
      let same : p x ≡ r x = both x ∙ ap (λ (b : Bool). b && r x) e in
      ap₂ (λ (b : Bool) (o : Option ℕ). cond b (Some x) o) same rest
  one_more x xs false e rest =
      let fails : p x ≡ false = both x ∙ ap (λ (b : Bool). b && r x) e in
      ap (λ (b : Bool). cond b (Some x) (find p xs)) fails ∙ rest

  pub find_kept : (xs : List ℕ) → find p xs ≡ find r (filter q xs)
  find_kept [] = refl
  find_kept (x ∷ xs) = one_more x xs (q x) refl (find_kept xs)

-- ---- methods

method_both : (w : MemberTable) (name : NameId) (wanted : Open) (i : ℕ)
    → is_method w name wanted i ≡ (has_name (method_names w) name i && is_wanted w wanted i)
method_both w name wanted i =
    there (slice_get w.methods i)
    ∙ ap (λ n. option_map_or (λ m. same_name m name) n false && is_wanted w wanted i) (sym (slice_get-map (λ (m : Method). m.name) w.methods i))
  where
    there : (m : Option Method)
        → option_map_or (λ m. same_name m.name name && same_open (open_method m (get_or w.generics i 0)) wanted) m false
        ≡ (option_map_or (λ m. same_name m name) (option_map (λ (m : Method). m.name) m) false
        && option_map_or (λ m. same_open (open_method m (get_or w.generics i 0)) wanted) m false)
    there None = refl
    there (Some m) = refl

pub method_found : (w : MemberTable) (r : Run) (g : MemberGroups) → AreGroups (method_names w) r.first_method r.methods g → (name : NameId) (wanted : Open)
    → find (is_wanted w wanted) (at_name g name) ≡ find (is_method w name wanted) (range_with_len r.first_method r.methods)
method_found w r g groups name wanted =
    ap (find (is_wanted w wanted)) (groups.each name)
    ∙ sym (find_kept (is_method w name wanted) (has_name (method_names w) name) (is_wanted w wanted) (method_both w name wanted) (range_with_len r.first_method r.methods))

pub method_of_run : (w : MemberTable) (d : ℕ) (r : Run) (name : NameId) (wanted : Open) → slice_get w.runs d ≡ Some r
    → option_map method_id (find (is_method w name wanted) (range_with_len r.first_method r.methods)) ≡ own_method w d name wanted
unfolding own_method
method_of_run w d r name wanted there =
    ap (λ (run : Option Run). option_and_then (λ r. option_map method_id (find (is_method w name wanted) (range_with_len r.first_method r.methods))) run) (sym there)

pub method_of_none : (w : MemberTable) (d : ℕ) (name : NameId) (wanted : Open) → slice_get w.runs d ≡ None → None ≡ own_method w d name wanted
unfolding own_method
method_of_none w d name wanted none =
    ap (λ (run : Option Run). option_and_then (λ r. option_map method_id (find (is_method w name wanted) (range_with_len r.first_method r.methods))) run) (sym none)

-- ---- fields

field_both : (w : MemberTable) (name : NameId) (t : Ty) (i : ℕ) → is_field w name t i ≡ (has_name (field_names w) name i && has_type w t i)
field_both w name t i =
    there (slice_get w.fields i)
    ∙ ap (λ n. option_map_or (λ m. same_name m name) n false && has_type w t i) (sym (slice_get-map (λ (f : Field). f.name) w.fields i))
  where
    there : (f : Option Field)
        → option_map_or (λ f. same_name f.name name && same_tree f.ty t) f false
        ≡ (option_map_or (λ m. same_name m name) (option_map (λ (f : Field). f.name) f) false && option_map_or (λ f. same_tree f.ty t) f false)
    there None = refl
    there (Some f) = refl

pub field_found : (w : MemberTable) (r : Run) (g : MemberGroups) → AreGroups (field_names w) r.first_field r.fields g → (name : NameId) (t : Ty)
    → find (has_type w t) (at_name g name) ≡ find (is_field w name t) (range_with_len r.first_field r.fields)
field_found w r g groups name t =
    ap (find (has_type w t)) (groups.each name)
    ∙ sym (find_kept (is_field w name t) (has_name (field_names w) name) (has_type w t) (field_both w name t) (range_with_len r.first_field r.fields))

pub field_of_run : (w : MemberTable) (d : ℕ) (r : Run) (name : NameId) (t : Ty) → slice_get w.runs d ≡ Some r
    → option_map field_id (find (is_field w name t) (range_with_len r.first_field r.fields)) ≡ own_field w d name t
unfolding own_field
field_of_run w d r name t there =
    ap (λ (run : Option Run). option_and_then (λ r. option_map field_id (find (is_field w name t) (range_with_len r.first_field r.fields))) run) (sym there)

pub field_of_none : (w : MemberTable) (d : ℕ) (name : NameId) (t : Ty) → slice_get w.runs d ≡ None → None ≡ own_field w d name t
unfolding own_field
field_of_none w d name t none =
    ap (λ (run : Option Run). option_and_then (λ r. option_map field_id (find (is_field w name t) (range_with_len r.first_field r.fields))) run) (sym none)
