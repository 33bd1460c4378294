-- Roots that are gathered word by word, and the world that gets them.
use Rattle.std.proofs.Common.{◌≡◌, ℕ, suc, ◌+◌, ◌<◌, ◌≤◌, true, List, [], ◌∷◌, ◌++◌, map, take, drop, length, get_or, append_assoc, Option, Some, None, option_map, slice_get, refl, sym, ap, ap₂, ◌∙◌, subst, arith}
use Rattle.std.proofs.lemmas.Bool.{lt-ltb}
use Rattle.std.proofs.lemmas.List.{take-append-drop, take-map, map_more, map-append}
use Rattle.clr_base.specs.declared.ids.DefId.{DefId}
use Rattle.clr_base.specs.declared.ids.MethId.{MethId}
use Rattle.type_tree.specs.declared.definition.Method.{Method}
use Rattle.type_tree.specs.declared.parts.Root.{Root}
use Rattle.type_tree.specs.declared.parts.WorldParts.{WorldParts}
use Rattle.type_tree.specs.declared.tree.Key.{Key}
use Rattle.type_tree.specs.declared.tree.Ty.{Ty}
use Rattle.type_tree.specs.declared.tree.Ty.TheOpen.{Ty-F}
use Rattle.type_tree.specs.declared.tree.Ty.TheViews.{out-Ty}
use Rattle.type_tree.specs.World.{Facts}
use Rattle.type_tree.specs.Fits.{method_is_below}
use Rattle.type_tree.specs.Whole.{counts, IsWhole}
use Rattle.world_build.specs.declared.roots.NamedRoot.{NamedRoot}
use Rattle.world_build.specs.declared.roots.NewRoots.{NewRoots}
use Rattle.world_build.specs.declared.roots.RootForm.{RootForm}
use Rattle.world_build.specs.declared.roots.RootForm.TheVariants.{Types, Entries}
use Rattle.world_build.specs.Entries.{is_entry_at, own_methods, entry_in, entry_at, entry_of}
use Rattle.world_build.specs.Roots.{NamesRoot, NameRoots, root_key, roots_from, world_with, AreNewRoots, HasRoots, IsFirstUnnamed}
use Rattle.world_build.specs.Roots as spec
use Rattle.clr_base.proofs.ListFacts.{found_passes, there_is}
use Rattle.world_build.proofs.RootLemmas.{read_fits}
use Rattle.world_build.proofs.RootsWhole.{RootFits, RootsFit, whole_with}
use Rattle.world_build.proofs.RootsWhole as whole
use Rattle.type_members.specs.MemberTable.{method_id}

-- ---- words in a list

module _ {X : Type 0} (f : X → List ℕ) (xs : List X) (i : ℕ) (x : X) (inside : i < length xs) (is : x ≡ get_or xs i x) where
  pub next_word : take (i + 1) (map f xs) ≡ take i (map f xs) ++ f x ∷ []
  next_word =
      take-map f (i + 1) xs ∙ map_more f xs i x inside
      ∙ ap₂ (λ (before : List (List ℕ)) (y : X). before ++ f y ∷ []) (sym (take-map f i xs)) (sym is)

  pub all_words : map f xs ≡ take i (map f xs) ++ f x ∷ drop (i + 1) (map f xs)
  all_words =
      sym (take-append-drop (i + 1) (map f xs)) ∙ ap (λ (before : List (List ℕ)). before ++ drop (i + 1) (map f xs)) next_word
      ∙ append_assoc (take i (map f xs)) (f x ∷ []) (drop (i + 1) (map f xs))

-- ---- one word more

roots_more : (n : ℕ) (rs : List NamedRoot) (r : NamedRoot) (sig : ℕ) → sig ≡ n + length rs
    → roots_from n (rs ++ r ∷ []) ≡ roots_from n rs ++ record { sig = record { 0 = sig }; method = r.method } ∷ []
roots_more n [] r sig is =
    let here : n ≡ sig = omega (arith, is) in
    ap (λ (k : ℕ). let root : Root = record { sig = record { 0 = k }; method = r.method } in root ∷ []) here
roots_more n (s ∷ rs) r sig is =
    let root : Root = record { sig = record { 0 = n }; method = s.method } in
    ap (λ (rest : List Root). root ∷ rest) (roots_more (n + 1) rs r sig (omega (arith, is)))

module _ (w : Facts) (form : RootForm) where
  names_more : {words : List (List ℕ)} {rs : List NamedRoot} → NameRoots w form words rs → (word : List ℕ) (r : NamedRoot) → NamesRoot w form word r
      → NameRoots w form (words ++ word ∷ []) (rs ++ r ∷ [])
  names_more spec.none word r h = spec.more word [] r [] h spec.none
  names_more (spec.more x xs s ss k ks) word r h = spec.more x (xs ++ word ∷ []) s (ss ++ r ∷ []) k (names_more ks word r h)

  pub as_many : {words : List (List ℕ)} {rs : List NamedRoot} → NameRoots w form words rs → length rs ≡ length words
  as_many spec.none = refl
  as_many (spec.more x xs s ss k ks) = ap suc (as_many ks)

  pub gathered_none : (found : NewRoots) → found.sigs ≡ [] → found.roots ≡ [] → AreNewRoots w form [] found
  gathered_none found sigs roots = record { named = []; names = spec.none; sigs = sigs; roots = roots }

  pub gathered_more : (before : List (List ℕ)) (word : List ℕ) (found after : NewRoots) (r : NamedRoot) (sig i : ℕ) → AreNewRoots w form before found
      → NamesRoot w form word r → length before ≡ i → sig ≡ length w.sigs + i
      → after.sigs ≡ found.sigs ++ root_key r ∷ [] → after.roots ≡ found.roots ++ record { sig = record { 0 = sig }; method = r.method } ∷ []
      → AreNewRoots w form (before ++ word ∷ []) after
  gathered_more before word found after r sig i h names count at sigs roots =
      let root : Root = record { sig = record { 0 = sig }; method = r.method } in
      let number : sig ≡ length w.sigs + length h.named = omega (arith, at, count, as_many h.names) in
      record {
        named = h.named ++ r ∷ [];
        names = names_more h.names word r names;
        sigs = sigs ∙ ap (λ (ks : List Key). ks ++ root_key r ∷ []) h.sigs ∙ sym (map-append root_key h.named (r ∷ []));
        roots = roots ∙ ap (λ (rs : List Root). rs ++ root ∷ []) h.roots ∙ sym (roots_more (length w.sigs) h.named r sig number);
      }

  pub stopped_at : (words before behind : List (List ℕ)) (word : List ℕ) (found : NewRoots) → words ≡ before ++ word ∷ behind → AreNewRoots w form before found
      → ((r : NamedRoot) → ¬ (NamesRoot w form word r)) → IsFirstUnnamed w form words word
  stopped_at words before behind word found stands h never = record { before = before; behind = behind; stands = stands; named = h.named; names = h.names; unnamed = never }

-- ---- the numbers in what words name

module _ (w : Facts) where
  found_below : (name : List ℕ) (d : DefId) (n : ℕ) → entry_in w name d ≡ Some n → n < length w.methods
  unfolding entry_in
  found_below name d n e =
      go (slice_get w.methods n) refl (found_passes (λ (k : ℕ). is_entry_at w name (slice_get w.methods k)) (own_methods (slice_get w.defs d.0)) n e)
    where
      go : (o : Option Method) → slice_get w.methods n ≡ o → is_entry_at w name o ≡ true → n < length w.methods
      go None there passes = absurd cc
      go (Some m) there passes = there_is w.methods n m there

  numbered : (o : Option ℕ) (id : MethId) → ((n : ℕ) → o ≡ Some n → n < length w.methods) → option_map method_id o ≡ Some id → id.0 < length w.methods
  numbered None id small e = absurd cc
  numbered (Some n) id small e = let same : method_id n ≡ id = cc in subst (λ (m : MethId). m.0 < length w.methods) same (small n refl)

  at_below : (name : List ℕ) (y : Ty-F Ty) (n : ℕ) → entry_at w name y ≡ Some n → n < length w.methods
  at_below name (Ty-F.Inst d ts) n e = found_below name d n e
  at_below name (Ty-F.Array t) n e = absurd cc
  at_below name (Ty-F.ByRef t) n e = absurd cc
  at_below name (Ty-F.Ptr t) n e = absurd cc
  at_below name (Ty-F.Var k) n e = absurd cc
  at_below name (Ty-F.MVar k) n e = absurd cc
  at_below name (Ty-F.Missing name_id value) n e = absurd cc
  at_below name (Ty-F.Odd code) n e = absurd cc

  entry_below : (name : List ℕ) (t : Ty) (id : MethId) → entry_of w name t ≡ Some id → id.0 < length w.methods
  entry_below name t id e = numbered (entry_at w name (out-Ty t)) id (at_below name (out-Ty t)) e

  root_fits : (form : RootForm) (word : List ℕ) (r : NamedRoot) → NamesRoot w form word r → RootFits (counts w) r
  root_fits Types word r h = record { ty = read_fits w word r.ty h.reads; method = ap (method_is_below (counts w)) h.method }
  root_fits Entries word r h = record {
    ty = read_fits w h.owner r.ty h.reads;
    method = ap (method_is_below (counts w)) h.method ∙ lt-ltb h.id.0 (length w.methods) (entry_below h.name r.ty h.id h.entry);
  }

  roots_fit : (form : RootForm) {words : List (List ℕ)} {rs : List NamedRoot} → NameRoots w form words rs → RootsFit (counts w) rs
  roots_fit form spec.none = whole.none
  roots_fit form (spec.more x xs r rs h hs) = whole.more r rs (root_fits form x r h) (roots_fit form hs)

-- ---- the world that gets them

-- the parts of a world with other signatures and roots
abbrev pub put_in : WorldParts → List Key → List Root → WorldParts
put_in p sigs roots = record {
  names = p.names;
  defs = p.defs;
  methods = p.methods;
  bodies = p.bodies;
  fields = p.fields;
  sigs = sigs;
  roots = roots;
  files = p.files;
  value_type = p.value_type;
  enumeration = p.enumeration;
  canon = p.canon;
}

module _ (w p : Facts) (form : RootForm) (words : List (List ℕ)) (found : NewRoots) (sigs : List Key) (roots : List Root)
    (same : p ≡ w) (h : AreNewRoots w form words found) (all_sigs : sigs ≡ p.sigs ++ found.sigs) (all_roots : roots ≡ p.roots ++ found.roots) where
  is_with : put_in p sigs roots ≡ world_with w h.named
  unfolding world_with
  is_with =
      ap₂ (put_in p) all_sigs all_roots ∙ ap (λ (q : WorldParts). put_in q (q.sigs ++ found.sigs) (q.roots ++ found.roots)) same
      ∙ ap₂ (λ (ks : List Key) (rs : List Root). put_in w (w.sigs ++ ks) (w.roots ++ rs)) h.sigs h.roots

  pub made_has : HasRoots w form words (put_in p sigs roots)
  made_has = record { named = h.named; names = h.names; world = is_with }

  pub made_whole : IsWhole p → length w.roots + length words ≤ 256 → IsWhole (put_in p sigs roots)
  made_whole whole_before room =
      let before : IsWhole w = subst IsWhole same whole_before in
      let count = as_many w form h.names in
      subst IsWhole (sym is_with) (whole_with w before h.named (roots_fit w form h.names) (omega (arith, room, count)))
