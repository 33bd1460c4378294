-- What was found of the interfaces of definitions stays true where pools grow, and where one more is noted.
use Rattle.std.proofs.Common.{◌≡◌, ℕ, suc, ◌+◌, Bool, true, false, filter, cond, inl, inr, nat_eq, List, [], ◌∷◌, ◌++◌, length, map, Option, None, Some, slice_get, refl, ap, ap₂, ◌∙◌, sym, subst, eqb-true, get_or, unwrap_or, arith, Result, Ok, Err, IfOk}
use Rattle.std.proofs.lemmas.List.{append-nil, append_assoc}
use Rattle.std.proofs.lemmas.Option.{unwrap_or-slice_get}
use Rattle.std.proofs.lemmas.Bool.{cases_Bool, eq-eqb}
use Rattle.std.specs.HashMap.{get}
use Rattle.std.specs.Map.{lookup}
use Rattle.type_tree.specs.declared.definition.Def.{Def}
use Rattle.type_tree.specs.declared.tree.Ty.{Ty}
use Rattle.type_tree.specs.World.{Facts}
use Rattle.type_pool.specs.declared.nodes.Id.{Id}
use Rattle.type_pool.specs.Trees.{Grows}
use Rattle.type_pool.proofs.Gets.{get_grows, get_last}
use Rattle.type_pool.proofs.JobLemmas.{spells-grown, spell_all-grown}
use Rattle.method_slots.specs.declared.opens.OpenMethod.{OpenMethod}
use Rattle.method_slots.specs.OpenSets.{OpensGrow}
use Rattle.method_slots.proofs.VirtualLemmas.{opens_refl}
use Rattle.slot_chains.specs.declared.notes.Notes.{Notes}
use Rattle.slot_chains.specs.Levels.{AreNotes, IsNoted}
use Rattle.slot_chains.proofs.NoteLemmas.{notes-grown}
use Rattle.interface_lists.specs.Lists.{own_list}
use Rattle.interface_lists.specs.Walks.{IdsAre}
use Rattle.interface_maps.specs.declared.answers.Interface.{Interface}
use Rattle.interface_maps.specs.declared.known.Known.{Known}
use Rattle.interface_maps.specs.declared.maps.MapLevel.{MapLevel}
use Rattle.interface_maps.specs.declared.maps.MapNotes.{MapNotes}
use Rattle.interface_maps.specs.Choices.{Answered, Public, each, publics}
use Rattle.interface_maps.specs.Found.{AreFound, IsFound}
use Rattle.interface_maps.specs.Known.{IsKnown}
use Rattle.interface_maps.specs.Maps.{AreMaps, AreOwnPlaces, IsBase, IsMap, IsMapAt, IsMapKept, MapsGrow}
use Rattle.interface_maps.specs.Rows.{AreRows, RowNumbers, pair}
use Rattle.interface_maps.specs.Publics.{ArePublics, Numbers}
use Rattle.type_tree.specs.declared.definition.Impl.{Impl}
use Rattle.interface_maps.proofs.KnownLemmas.{publics-grown}

pub ok-same : {A E : Type 0} (r : Result A E) (x y : A) → x ≡ y → IfOk r (λ z. z ≡ x) → IfOk r (λ z. z ≡ y)
ok-same (Ok z) x y e h = h ∙ e
ok-same (Err z) x y e h = tt

-- ---- nothing is noted

none-noted : (numbers : Numbers) → numbers.entries ≡ [] → (k : ℕ) → get nat_eq numbers k ≡ None
none-noted numbers e k = ap (λ es. lookup (nat_eq k) es) e

pub no-publics : (ts : List Ty) (os : List OpenMethod) (numbers : Numbers) → numbers.entries ≡ [] → ArePublics ts os numbers []
no-publics ts os numbers e = record { keys = []; named = tt; firsts = none-noted numbers e }

pub no-rows : (w : Facts) (n : ℕ) (ts : List Ty) (numbers : RowNumbers) → numbers.entries ≡ [] → AreRows w n ts numbers []
no-rows w n ts numbers e = record { ids = []; owners = record { within = refl; are = refl }; lasts = λ t m low. ap (λ es. lookup (nat_eq (pair t m)) es) e }

pub no-places : (w : Facts) (ts : List Ty) (d : Def) (places : Numbers) → places.entries ≡ [] → own_list w d ≡ None → AreOwnPlaces w ts d places
no-places w ts d places e none = record { ids = []; firsts = none-noted places e; spelled = record { within = refl; are = sym (ap (λ o. unwrap_or o []) none) } }

pub publics-at : (ts us : List Ty) (os xs : List OpenMethod) (a b : Numbers) (ps qs : List Public) → ts ≡ us → os ≡ xs → a ≡ b → qs ≡ ps → ArePublics us xs b qs → ArePublics ts os a ps
publics-at ts us os xs a b ps qs e f g h are =
    subst (λ t. ArePublics t os a ps) (sym e) (subst (λ o. ArePublics us o a ps) (sym f) (subst (λ n. ArePublics us xs n ps) (sym g) (subst (ArePublics us xs b) h are)))

-- ---- choices in order

pub each-long : (f : ℕ → ℕ → Option ℕ) (j : ℕ) (ms : List ℕ) → length (each f j ms) ≡ length ms
each-long f j [] = refl
each-long f j (m ∷ ms) = ap suc (each-long f (suc j) ms)

pub each-more : (f : ℕ → ℕ → Option ℕ) (j : ℕ) (xs ys : List ℕ) → each f j (xs ++ ys) ≡ each f j xs ++ each f (j + length xs) ys
each-more f j [] ys = let e : j ≡ j + 0 = omega arith in ap (λ k. each f k ys) e
each-more f j (x ∷ xs) ys =
    let e : suc j + length xs ≡ j + suc (length xs) = omega arith in
    ap (λ l. f j x ∷ l) (each-more f (suc j) xs ys ∙ ap (λ k. each f (suc j) xs ++ each f k ys) e)

pub each-after : (f : ℕ → ℕ → Option ℕ) (xs ys : List ℕ) → each f 0 (xs ++ ys) ≡ each f 0 xs ++ each f (length xs) ys
each-after f xs ys = let e : 0 + length xs ≡ length xs = omega arith in each-more f 0 xs ys ∙ ap (λ k. each f 0 xs ++ each f k ys) e

module _ (f : ℕ → ℕ → Option ℕ) (p : ℕ → Bool) (m : ℕ) (done : List (Option ℕ)) where
  pub add-none : p m ≡ false → done ≡ done ++ each f (length done) (filter p (m ∷ []))
  add-none e = sym (ap (λ b. done ++ each f (length done) (cond b (m ∷ []) [])) e ∙ append-nil done)

  pub add-one : (x : Option ℕ) (new : List (Option ℕ)) → p m ≡ true → x ≡ f (length done) m → new ≡ done ++ x ∷ [] → new ≡ done ++ each f (length done) (filter p (m ∷ []))
  add-one x new e is added = added ∙ ap (λ y. done ++ y ∷ []) is ∙ sym (ap (λ b. done ++ each f (length done) (cond b (m ∷ []) [])) e)

-- ---- what was found of interfaces

pub found-append : (ts : List Ty) (fs : List Interface) (all : List Answered) (f : Interface) (a : Answered) → AreFound ts fs all → IsFound ts f a → AreFound ts (fs ++ f ∷ []) (all ++ a ∷ [])
found-append ts [] [] f a h one = (one, tt)
found-append ts [] (b ∷ all) f a h one = absurd h
found-append ts (g ∷ fs) [] f a h one = absurd h
found-append ts (g ∷ fs) (b ∷ all) f a h one = (h.0, found-append ts fs all f a h.1 one)

pub found-choices : (ts : List Ty) (fs : List Interface) (all : List Answered) → AreFound ts fs all → map (λ (f : Interface). f.choices) fs ≡ map (λ (a : Answered). a.choices) all
found-choices ts [] [] h = refl
found-choices ts [] (a ∷ all) h = absurd h
found-choices ts (f ∷ fs) [] h = absurd h
found-choices ts (f ∷ fs) (a ∷ all) h = ap₂ (λ x xs. x ∷ xs) h.0.choices (found-choices ts fs all h.1)

module _ (ts us : List Ty) (g : Grows ts us) where
  pub found-grown : (fs : List Interface) (all : List Answered) → AreFound ts fs all → AreFound us fs all
  found-grown [] [] h = tt
  found-grown [] (a ∷ all) h = absurd h
  found-grown (f ∷ fs) [] h = absurd h
  found-grown (f ∷ fs) (a ∷ all) h = (record { tree = spells-grown ts us g f.tree a.interface h.0.tree; choices = h.0.choices }, found-grown fs all h.1)

  pub ids-grown : (ids : Option (List Id)) (list : Option (List Ty)) → IdsAre ts ids list → IdsAre us ids list
  ids-grown None list h = h
  ids-grown (Some ids) list h = (h.0, h.1, spell_all-grown ts us g ids h.0 h.2)

  pub map-grown : (w : Facts) (n : ℕ) (l : MapLevel) → IsMap w ts n l → IsMap w us n l
  map-grown w n l is = record { list = ids-grown l.list _ is.list; found = found-grown l.found _ is.found }

  pub maps-grown : (w : Facts) (notes : MapNotes) → AreMaps w ts notes → AreMaps w us notes
  maps-grown w notes are n i here = let a = are n i here in record { level = a.level; here = a.here; is = map-grown w n a.level a.is }

  pub slots-grown : (w : Facts) (slots : Notes) → AreNotes w ts slots → AreNotes w us slots
  slots-grown w slots are = notes-grown w ts us slots slots are g (opens_refl slots.set) (record { levels = refl; places = refl })

  pub base-grown : (w : Facts) (slots : Notes) (n : ℕ) (d : Def) → IsBase w ts slots n d → IsBase w us slots n d
  base-grown w slots n d is = record { here = is.here; within = is.within; notes = slots-grown w slots is.notes; noted = is.noted }

  pub rows-grown : (w : Facts) (n : ℕ) (numbers : RowNumbers) (rows : List Impl) → AreRows w n ts numbers rows → AreRows w n us numbers rows
  rows-grown w n numbers rows are = record { ids = are.ids; owners = spell_all-grown ts us g are.ids _ are.owners; lasts = are.lasts }

  pub known-grown : (os xs : List OpenMethod) → OpensGrow os xs → (w : Facts) (n : ℕ) (d : Def) (own : List Ty) (above : List Answered) (known : Known) (found : List Interface)
      → IsKnown w n d own above ts os known found → IsKnown w n d own above us xs known found
  known-grown os xs h w n d own above known found is = record {
    publics = publics-grown ts us os xs g h known.publics (publics w n) is.publics;
    rows = rows-grown w n known.rows d.impls is.rows;
    trees = is.trees;
    places = is.places;
    parents = record { interfaces = spell_all-grown ts us g is.trees _ is.parents.interfaces; choices = is.parents.choices };
    declared = is.declared;
    owned = is.owned;
    spelled = spell_all-grown ts us g is.declared own is.spelled;
  }

-- ---- notes

module _ (w : Facts) (ts : List Ty) (old new : MapNotes) (n : ℕ) (level : MapLevel) (place : ℕ) (kept : IsMapKept old new n level place) where
  noted-kept : (p : ℕ) → IsNoted old.places p → IsNoted new.places p
  noted-kept p a = elim (cases_Bool (nat_eq n p)) [
    | inl e ↦ record { place = place; here = kept.places.0 p ∙ ap (λ b. cond b (Some place) (get nat_eq old.places p)) e }
    | inr e ↦ record { place = a.place; here = kept.places.0 p ∙ ap (λ b. cond b (Some place) (get nat_eq old.places p)) e ∙ a.here }
  ]

  pub place-kept : get nat_eq new.places n ≡ Some place
  place-kept = kept.places.0 n ∙ ap (λ b. cond b (Some place) (get nat_eq old.places n)) (eq-eqb n n refl)

  pub maps-kept : AreMaps w ts old → IsMap w ts n level → AreMaps w ts new
  maps-kept are is q i here = elim (cases_Bool (nat_eq n q)) [
    | inl e ↦
        let same : n ≡ q = eqb-true n q e in
        let found : Some place ≡ Some i = sym (kept.places.0 q ∙ ap (λ b. cond b (Some place) (get nat_eq old.places q)) e) ∙ here in
        let at : place ≡ i = cc in
        record {
          level = level;
          here = ap (λ l. slice_get l i) kept.levels ∙ ap (slice_get (old.levels ++ level ∷ [])) (sym at ∙ kept.here) ∙ get_last old.levels level;
          is = subst (λ m. IsMap w ts m level) same is;
        }
    | inr e ↦
        let a = are q i (sym (kept.places.0 q ∙ ap (λ b. cond b (Some place) (get nat_eq old.places q)) e) ∙ here) in
        record { level = a.level; here = ap (λ l. slice_get l i) kept.levels ∙ get_grows old.levels (level ∷ []) i a.level a.here; is = a.is }
  ]

  pub maps-grow : MapsGrow old new
  maps-grow = record { levels = (level ∷ [], kept.levels); noted = noted-kept }

pub maps-same : (notes : MapNotes) → MapsGrow notes notes
maps-same notes = record { levels = ([], sym (append-nil notes.levels)); noted = λ n h. h }

pub maps-trans : (a b c : MapNotes) → MapsGrow a b → MapsGrow b c → MapsGrow a c
maps-trans a b c f g = record {
  levels = (f.levels.0 ++ g.levels.0, g.levels.1 ∙ ap (λ ls. ls ++ g.levels.0) f.levels.1 ∙ append_assoc a.levels f.levels.0 g.levels.0);
  noted = λ n h. g.noted n (f.noted n h);
}

-- what is read at a place that is noted
pub map-read : (w : Facts) (ts : List Ty) (levels : List MapLevel) (n place : ℕ) → IsMapAt w ts levels n place → (read : List MapLevel) → read ≡ levels → (l : MapLevel) → l ≡ get_or read place l → IsMap w ts n l
map-read w ts levels n place found read same l is =
    let e : l ≡ found.level = is ∙ ap (λ ls. get_or ls place l) same ∙ sym (unwrap_or-slice_get levels place l) ∙ ap (λ o. unwrap_or o l) found.here in
    subst (IsMap w ts n) (sym e) found.is
