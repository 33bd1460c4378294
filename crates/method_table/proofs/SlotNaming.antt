-- Slots with their owners' numbers name slots with their owners.
use Rattle.std.proofs.Common.{◌≡◌, ℕ, List, [], ◌∷◌, map, Option, None, Some, slice_get, unwrap_or, refl, ap, ap₂, ◌∙◌, sym}
use Rattle.std.specs.List.{filter_map}
use Rattle.std.specs.Option.{option_map}
use Rattle.std.proofs.lemmas.Option.{slice_get-map}
use Rattle.type_tree.specs.declared.tree.Key.{Key}
use Rattle.type_tree.specs.declared.tree.Key.TheVariants.{Tree}
use Rattle.type_tree.specs.declared.tree.Ty.{Ty}
use Rattle.type_pool.specs.declared.key_nodes.KeyId.{KeyId}
use Rattle.type_pool.specs.declared.key_nodes.KeyNode.{KeyNode}
use Rattle.method_slots.specs.declared.entries.SlotEntry.{SlotEntry}
use Rattle.interface_maps.specs.declared.answers.Interface.{Interface}
use Rattle.interface_maps.specs.Choices.{Answered}
use Rattle.type_record.specs.declared.loaded.SlotOf.{SlotOf}
use Rattle.type_record.specs.Naming.{slot_in, choice_in}
use Rattle.method_table.specs.Named.{key_named, NamesType, NamesTypes, NamesSlots, NamesChoices}
use Rattle.type_tree.specs.World.{Facts}
use Rattle.method_table.specs.Tables.{slot_of, slots_of, chosen}

module _ {K L : Type 0} (f : K → L) where
  or_in : (o : Option K) (own : K) → f (unwrap_or o own) ≡ unwrap_or (option_map f o) (f own)
  or_in None own = refl
  or_in (Some x) own = refl

  slot_natural : (own : K) (chain : List K) (e : SlotEntry) → slot_in f (slot_of own chain e) ≡ slot_of (f own) (map f chain) e
  slot_natural own chain e =
      let owner = or_in (slice_get chain e.owner) own ∙ ap (λ o. unwrap_or o (f own)) (sym (slice_get-map f chain e.owner)) in
      λ i. record { method = e.method; owner = owner i }

  slots_natural : (own : K) (chain : List K) (es : List SlotEntry) → map (slot_in f) (map (slot_of own chain) es) ≡ map (slot_of (f own) (map f chain)) es
  slots_natural own chain [] = refl
  slots_natural own chain (e ∷ es) = ap₂ (λ x xs. x ∷ xs) (slot_natural own chain e) (slots_natural own chain es)

  chosen_natural : (ss : List (SlotOf K)) (c : Option ℕ) → choice_in f (chosen ss c) ≡ chosen (map (slot_in f) ss) c
  chosen_natural ss None = refl
  chosen_natural ss (Some k) = sym (slice_get-map (slot_in f) ss k)

  choices_natural : (ss : List (SlotOf K)) (cs : List (Option ℕ)) → map (choice_in f) (map (chosen ss) cs) ≡ map (chosen (map (slot_in f) ss)) cs
  choices_natural ss [] = refl
  choices_natural ss (c ∷ cs) = ap₂ (λ x xs. x ∷ xs) (chosen_natural ss c) (choices_natural ss cs)

  lists_natural : {A : Type 0} (choices_of : A → List (Option ℕ)) (ss : List (SlotOf K)) (all : List A)
      → map (map (choice_in f)) (map (λ a. map (chosen ss) (choices_of a)) all) ≡ map (map (chosen (map (slot_in f) ss))) (map choices_of all)
  lists_natural choices_of ss [] = refl
  lists_natural choices_of ss (a ∷ all) = ap₂ (λ x xs. x ∷ xs) (choices_natural ss (choices_of a)) (lists_natural choices_of ss all)

all_stand : {A : Type 0} (xs : List A) → filter_map (λ s. s) (map Some xs) ≡ xs
all_stand [] = refl
all_stand (x ∷ xs) = ap (λ l. x ∷ l) (all_stand xs)

module _ (ts : List Ty) (ks : List KeyNode) where
  pub slots_named : (own : KeyId) (t : Ty) (chain : List KeyId) (cs : List Ty) (es : List SlotEntry) → NamesType ts ks own t → NamesTypes ts ks chain cs
      → NamesSlots ts ks (map (slot_of own chain) es) (map (slot_of t cs) es)
  slots_named own t chain cs es is are =
      slots_natural (key_named ts ks) own chain es
      ∙ ap₂ (λ (o : Option Key) (c : List (Option Key)). map (slot_of o c) es) is are
      ∙ sym (ap (map (slot_in Some)) (slots_natural Tree t cs es) ∙ slots_natural Some (Tree t) (map Tree cs) es)

  -- the slots where `slots` tells what stands in each
  pub standing_named : (own : KeyId) (t : Ty) (chain read : List KeyId) (cs : List Ty) (entries es : List SlotEntry) (slots : List (Option SlotEntry)) (ss : List (SlotOf KeyId)) → NamesType ts ks own t → NamesTypes ts ks chain cs
      → read ≡ chain → es ≡ entries → map Some entries ≡ slots → ss ≡ map (slot_of own read) es → NamesSlots ts ks ss (map (slot_of t cs) (filter_map (λ s. s) slots))
  standing_named own t chain read cs entries es slots ss is are same all stand e =
      let made : ss ≡ map (slot_of own chain) entries = e ∙ ap₂ (λ (c : List KeyId) x. map (slot_of own c) x) same all in
      let there : entries ≡ filter_map (λ s. s) slots = sym (all_stand entries) ∙ ap (filter_map (λ s. s)) stand in
      ap (map (slot_in (key_named ts ks))) made ∙ slots_named own t chain cs entries is are ∙ ap (λ (x : List SlotEntry). map (slot_in Some) (map (slot_in Tree) (map (slot_of t cs) x))) there

  pub choices_named : (ss : List (SlotOf KeyId)) (us : List (SlotOf Ty)) (found : List Interface) (answered : List Answered) → NamesSlots ts ks ss us
      → map (λ (f : Interface). f.choices) found ≡ map (λ (a : Answered). a.choices) answered
      → NamesChoices ts ks (map (λ (f : Interface). map (chosen ss) f.choices) found) (map (λ (a : Answered). map (chosen us) a.choices) answered)
  choices_named ss us found answered are same =
      let lists : List (List (Option ℕ)) = map (λ (a : Answered). a.choices) answered in
      let inside = lists_natural Tree (λ (a : Answered). a.choices) us answered in
      lists_natural (key_named ts ks) (λ (f : Interface). f.choices) ss found
      ∙ ap₂ (λ (x : List (SlotOf (Option Key))) l. map (map (chosen x)) l) are same
      ∙ sym (ap (map (map (choice_in Some))) inside ∙ lists_natural Some (λ (l : List (Option ℕ)). l) (map (slot_in Tree) us) lists ∙ ap (map (map (chosen (map (slot_in Some) (map (slot_in Tree) us))))) (same_list lists))
    where
      same_list : (ls : List (List (Option ℕ))) → map (λ l. l) ls ≡ ls
      same_list [] = refl
      same_list (l ∷ ls) = ap (λ xs. l ∷ xs) (same_list ls)

  -- the same slots, by equal types
  pub slots_at : (w : Facts) (n : ℕ) (ss : List (SlotOf KeyId)) (t u : Ty) (xs ys : List Ty) → t ≡ u → xs ≡ ys → NamesSlots ts ks ss (slots_of w t xs n) → NamesSlots ts ks ss (slots_of w u ys n)
  slots_at w n ss t u xs ys own args is = is ∙ ap₂ (λ (x : Ty) (l : List Ty). map (slot_in Some) (map (slot_in Tree) (slots_of w x l n))) own args
