-- What is named stays named where more has a name.
use Rattle.std.proofs.Common.{◌≡◌, List, [], ◌∷◌, map, Option, None, Some, refl, ap, ap₂}
use Rattle.std.specs.Option.{option_map}
use Rattle.type_record.specs.declared.loaded.FieldOf.{FieldOf}
use Rattle.type_record.specs.declared.loaded.SlotOf.{SlotOf}
use Rattle.type_record.specs.Naming.{field_in, slot_in, choice_in}

module _ {X Y Z : Type 0} (f g : X → Z) (s : Y → Z) (more : (x : X) (y : Y) → f x ≡ s y → g x ≡ s y) where
  pub all_more : (xs : List X) (ys : List Y) → map f xs ≡ map s ys → map g xs ≡ map s ys
  all_more [] [] e = refl
  all_more [] (y ∷ ys) e = absurd cc
  all_more (x ∷ xs) [] e = absurd cc
  all_more (x ∷ xs) (y ∷ ys) e =
      let one : f x ≡ s y = cc in
      let rest : map f xs ≡ map s ys = cc in
      ap₂ (λ z zs. z ∷ zs) (more x y one) (all_more xs ys rest)

  pub option_more : (x : Option X) (y : Option Y) → option_map f x ≡ option_map s y → option_map g x ≡ option_map s y
  option_more None None e = refl
  option_more None (Some y) e = absurd cc
  option_more (Some x) None e = absurd cc
  option_more (Some x) (Some y) e =
      let one : f x ≡ s y = cc in
      ap Some (more x y one)

-- whatever has a name keeps it
module _ {K L : Type 0} (f g : K → Option L) (more : (x : K) (y : L) → f x ≡ Some y → g x ≡ Some y) where
  pub field_more : (x : FieldOf K) (y : FieldOf L) → field_in f x ≡ field_in Some y → field_in g x ≡ field_in Some y
  field_more x y e =
      let offset : x.offset ≡ y.offset = ap (λ (r : FieldOf (Option L)). r.offset) e in
      let value = option_more f g Some more x.value y.value (ap (λ (r : FieldOf (Option L)). r.value) e) in
      λ i. record { offset = offset i; value = value i }

  pub slot_more : (x : SlotOf K) (y : SlotOf L) → slot_in f x ≡ slot_in Some y → slot_in g x ≡ slot_in Some y
  slot_more x y e =
      let method : x.method ≡ y.method = ap (λ (r : SlotOf (Option L)). r.method) e in
      let owner = more x.owner y.owner (ap (λ (r : SlotOf (Option L)). r.owner) e) in
      λ i. record { method = method i; owner = owner i }

  pub choice_more : (x : Option (SlotOf K)) (y : Option (SlotOf L)) → choice_in f x ≡ choice_in Some y → choice_in g x ≡ choice_in Some y
  choice_more = option_more (slot_in f) (slot_in g) (slot_in Some) slot_more

  pub names_more : (xs : List K) (ys : List L) → map f xs ≡ map Some ys → map g xs ≡ map Some ys
  names_more = all_more f g Some more

  pub fields_more : (xs : List (FieldOf K)) (ys : List (FieldOf L)) → map (field_in f) xs ≡ map (field_in Some) ys → map (field_in g) xs ≡ map (field_in Some) ys
  fields_more = all_more (field_in f) (field_in g) (field_in Some) field_more

  pub slots_more : (xs : List (SlotOf K)) (ys : List (SlotOf L)) → map (slot_in f) xs ≡ map (slot_in Some) ys → map (slot_in g) xs ≡ map (slot_in Some) ys
  slots_more = all_more (slot_in f) (slot_in g) (slot_in Some) slot_more

  pub choices_more : (xs : List (List (Option (SlotOf K)))) (ys : List (List (Option (SlotOf L)))) → map (map (choice_in f)) xs ≡ map (map (choice_in Some)) ys → map (map (choice_in g)) xs ≡ map (map (choice_in Some)) ys
  choices_more = all_more (map (choice_in f)) (map (choice_in g)) (map (choice_in Some)) (all_more (choice_in f) (choice_in g) (choice_in Some) choice_more)
