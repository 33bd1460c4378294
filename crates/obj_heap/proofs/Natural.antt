-- A heap never looks at the names of types: to rename them before a call or after it is the same.
use Rattle.std.proofs.Common.{◌≡◌, ℕ, zero, suc, ◌+◌, Bool, true, false, List, [], ◌∷◌, ◌++◌, length, Option, Some, None, Ok, Err, nat_lt, cond, refl, sym, ap, ◌∙◌}
use Rattle.std.specs.Option.{option_map, option_map_or}
use Rattle.std.proofs.lemmas.List.{map-append, map-set, length-map}
use Rattle.std.proofs.lemmas.Option.{slice_get-map}
use Rattle.obj_heap.specs.declared.address.Address.{Address}
use Rattle.obj_heap.specs.declared.address.ObjRef.{ObjRef}
use Rattle.obj_heap.specs.declared.fault.HeapFault.TheVariants as fault
use Rattle.obj_heap.specs.declared.room.TheConstants.{HEAP_LIMIT}
use Rattle.obj_heap.specs.Objects.{Object, map_object, map_objects, blank, array_size, array_refs, string_object}
use Rattle.obj_heap.specs.Calls as spec
use Rattle.obj_heap.specs.Laws.{map_made}

module _ {A B : Type 0} (f : A → B) where
  total-natural : (s : List (Object A)) → spec.total (map_objects f s) ≡ spec.total s
  unfolding spec.total
  total-natural [] = refl
  total-natural (o ∷ s) = ap (λ n. length o.bytes + n) (total-natural s)

  added-natural : (o : Object A) (s : List (Object A)) → spec.added (map_object f o) (map_objects f s) ≡ map_made f (spec.added o s)
  added-natural o s = rw (total-natural s) (go (nat_lt HEAP_LIMIT (spec.total s + length o.bytes)))
    where
      go : (full : Bool) → cond full (Err fault.HeapFull) (Ok (record { 0 = length (map_objects f s) + 1 }, map_objects f s ++ map_object f o ∷ []))
          ≡ map_made f (cond full (Err fault.HeapFull) (Ok (record { 0 = length s + 1 }, s ++ o ∷ [])))
      go true = refl
      go false = rw (length-map s (map_object f), map-append (map_object f) s (o ∷ [])) refl

  pub new_object-natural : (h : A) (size : ℕ) (refs : List Bool) (s : List (Object A)) → spec.new_object (f h) size refs (map_objects f s) ≡ map_made f (spec.new_object h size refs s)
  unfolding spec.new_object blank
  new_object-natural h size refs s = added-natural (blank h 0 size refs) s

  pub new_array-natural : (h : A) (element n : ℕ) (refs : List Bool) (s : List (Object A)) → spec.new_array (f h) element n refs (map_objects f s) ≡ map_made f (spec.new_array h element n refs s)
  unfolding spec.new_array blank
  new_array-natural h element n refs s = added-natural (blank h n (array_size element n) (array_refs refs n)) s

  pub new_string-natural : (h : A) (units : List ℕ) (s : List (Object A)) → spec.new_string (f h) units (map_objects f s) ≡ map_made f (spec.new_string h units s)
  unfolding spec.new_string string_object
  new_string-natural h units s = added-natural (string_object h units) s

  object_at-natural : (s : List (Object A)) (n : ℕ) → spec.object_at (map_objects f s) n ≡ option_map (map_object f) (spec.object_at s n)
  object_at-natural s zero = refl
  object_at-natural s (suc k) = slice_get-map (map_object f) s k

  -- what is looked at in an object has no name in it
  looked-natural : {X : Type 0} (look : Object A → X) (look' : Object B → X) (d : X) → ((o : Object A) → look' (map_object f o) ≡ look o) → (s : List (Object A)) (n : ℕ)
      → option_map_or look' (spec.object_at (map_objects f s) n) d ≡ option_map_or look (spec.object_at s n) d
  looked-natural {X} look look' d same s n = ap (λ o. option_map_or look' o d) (object_at-natural s n) ∙ go (spec.object_at s n)
    where
      go : (o : Option (Object A)) → option_map_or look' (option_map (map_object f) o) d ≡ option_map_or look o d
      go None = refl
      go (Some o) = same o

  pub handle_of-natural : (s : List (Object A)) (r : ObjRef) → spec.handle_of (map_objects f s) r ≡ option_map f (spec.handle_of s r)
  handle_of-natural s r = ap (option_map (λ o. o.of)) (object_at-natural s r.0) ∙ go (spec.object_at s r.0)
    where
      go : (o : Option (Object A)) → option_map (λ x. x.of) (option_map (map_object f) o) ≡ option_map f (option_map (λ x. x.of) o)
      go None = refl
      go (Some o) = refl

  pub find-natural : (s : List (Object A)) (n : ℕ) → spec.find (map_objects f s) n ≡ spec.find s n
  find-natural s n = ap (option_map (λ o. record { 0 = n })) (object_at-natural s n) ∙ go (spec.object_at s n)
    where
      go : (o : Option (Object A)) → option_map {U = ObjRef} (λ x. record { 0 = n }) (option_map (map_object f) o) ≡ option_map (λ x. record { 0 = n }) o
      go None = refl
      go (Some o) = refl

  pub length_of-natural : (s : List (Object A)) (r : ObjRef) → spec.length_of (map_objects f s) r ≡ spec.length_of s r
  length_of-natural s r = looked-natural _ _ 0 (λ o. refl) s r.0

  pub is_inside-natural : (s : List (Object A)) (p : Address) (width : ℕ) → spec.is_inside (map_objects f s) p width ≡ spec.is_inside s p width
  is_inside-natural s p width = looked-natural _ _ _ (λ o. refl) s p.object.0

  pub kind_at-natural : (s : List (Object A)) (p : Address) (width : ℕ) → spec.kind_at (map_objects f s) p width ≡ spec.kind_at s p width
  kind_at-natural s p width = looked-natural _ _ _ (λ o. refl) s p.object.0

  pub read_at-natural : (s : List (Object A)) (p : Address) (width : ℕ) → spec.read_at (map_objects f s) p width ≡ spec.read_at s p width
  read_at-natural s p width = looked-natural _ _ _ (λ o. refl) s p.object.0

  pub write_at-natural : (s : List (Object A)) (p : Address) (width value : ℕ) → spec.write_at (map_objects f s) p width value ≡ map_objects f (spec.write_at s p width value)
  write_at-natural s p width value =
      ap (λ o. option_map_or (λ x. spec.object_set (map_objects f s) p.object.0 (spec.written x p.offset width value)) o (map_objects f s)) (object_at-natural s p.object.0) ∙ go (spec.object_at s p.object.0)
    where
      set : (n : ℕ) (o : Object A) → spec.object_set (map_objects f s) n (map_object f o) ≡ map_objects f (spec.object_set s n o)
      set zero o = refl
      set (suc k) o = sym (map-set (map_object f) s k o)

      go : (o : Option (Object A)) → option_map_or (λ x. spec.object_set (map_objects f s) p.object.0 (spec.written x p.offset width value)) (option_map (map_object f) o) (map_objects f s)
          ≡ map_objects f (option_map_or (λ x. spec.object_set s p.object.0 (spec.written x p.offset width value)) o s)
      go None = refl
      go (Some o) = set p.object.0 (spec.written o p.offset width value)
