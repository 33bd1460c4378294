-- What a root word names is one thing, and its numbers are a world's.
use Rattle.std.proofs.Common.{◌≡◌, ℕ, ◌<◌, ◌≤◌, ◌⊎◌, inl, inr, true, false, List, ◌++◌, codes, length, take, drop, Option, Some, None, slice_get, IsTrue, refl, sym, ap, ◌∙◌, subst, arith}
use Rattle.std.proofs.Math.Seq.{drop-append_seam, take-append_seam}
use Rattle.std.proofs.lemmas.List.{length-append}
use Rattle.clr_base.specs.declared.ids.DefId.{DefId}
use Rattle.type_tree.specs.declared.definition.Def.{Def}
use Rattle.type_tree.specs.declared.tree.Ty.{Ty}
use Rattle.type_tree.specs.World.{Facts}
use Rattle.type_tree.specs.Fits.{fits, all_fit}
use Rattle.type_tree.specs.Lookup.{name_of, full_name, first_named}
use Rattle.type_tree.specs.ReadTexts.{is_name, Names, NamesArguments, NamesMore, Reads}
use Rattle.type_tree.specs.ReadTexts as texts
use Rattle.type_tree.specs.Whole.{counts}
use Rattle.type_tree.proofs.GrammarLemmas.{names_one}
use Rattle.type_tree.proofs.LookupLemmas.{first_named-name}
use Rattle.world_build.specs.declared.roots.NamedRoot.{NamedRoot}
use Rattle.world_build.specs.Entries.{IsParted, entry_of}
use Rattle.world_build.specs.Roots.{NamesEntry}
use Rattle.clr_base.proofs.ListFacts.{both, there_is}
use Rattle.type_members.proofs.TreesFit.{inst_fits, array_fits}

-- ---- a word has one last `::`

module _ (word : List ℕ) where
  stands_at : (owner name : List ℕ) → IsParted word owner name → drop (length owner) word ≡ codes "::" ++ name
  stands_at owner name h = ap (drop (length owner)) h.whole ∙ drop-append_seam owner (codes "::" ++ name)

  inside : (owner name : List ℕ) → IsParted word owner name → length owner ≤ length word
  inside owner name h = omega (arith, ap length h.whole, length-append owner (codes "::" ++ name))

  not_before : (o p n m : List ℕ) → IsParted word o n → IsParted word p m → ¬ (length o < length p)
  not_before o p n m h k less = h.last (length p) less (inside p m k) m (stands_at p m k)

  same_length : (o p n m : List ℕ) → IsParted word o n → IsParted word p m → length o ≡ length p
  same_length o p n m h k = go (cases (length o) (length p))
    where
      cases : (x y : ℕ) → (x < y) ⊎ ((y < x) ⊎ (x ≡ y))
      cases x y = grind arith

      go : (length o < length p) ⊎ ((length p < length o) ⊎ (length o ≡ length p)) → length o ≡ length p
      go (inl less) = absurd (not_before o p n m h k less)
      go (inr (inl more)) = absurd (not_before p o m n k h more)
      go (inr (inr same)) = same

  pub same_owner : (o p n m : List ℕ) → IsParted word o n → IsParted word p m → o ≡ p
  same_owner o p n m h k =
      sym (take-append_seam o (codes "::" ++ n)) ∙ ap (take (length o)) (sym h.whole)
      ∙ ap (λ (i : ℕ). take i word) (same_length o p n m h k)
      ∙ ap (take (length p)) k.whole ∙ take-append_seam p (codes "::" ++ m)

  pub same_name : (o p n m : List ℕ) → IsParted word o n → IsParted word p m → n ≡ m
  same_name o p n m h k =
      ap (drop 2) (sym (stands_at o n h)) ∙ ap (λ (i : ℕ). drop 2 (drop i word)) (same_length o p n m h k) ∙ ap (drop 2) (stands_at p m k)

-- ---- a word names one thing

module _ (w : Facts) where
  pub one_read : (word : List ℕ) (t u : Ty) → Reads w word t → Reads w word u → t ≡ u
  one_read word t u h k = names_one w word t u h.names k.names

  -- no type's text stands before the last `::`
  pub no_owner : (word owner name : List ℕ) → IsParted word owner name → ((t : Ty) → ¬ (Reads w owner t)) → (r : NamedRoot) → ¬ (NamesEntry w word r)
  no_owner word owner name parted never r h =
      never r.ty (subst (λ (o : List ℕ). Reads w o r.ty) (same_owner word h.owner owner h.name name h.parted parted) h.reads)

  -- the type there has no such entry
  pub no_entry : (word owner name : List ℕ) (t : Ty) → IsParted word owner name → Reads w owner t → entry_of w name t ≡ None → (r : NamedRoot) → ¬ (NamesEntry w word r)
  no_entry word owner name t parted reads none r h =
      let o = same_owner word h.owner owner h.name name h.parted parted in
      let n = same_name word h.owner owner h.name name h.parted parted in
      let read : Reads w owner r.ty = subst (λ (x : List ℕ). Reads w x r.ty) o h.reads in
      let same : r.ty ≡ t = one_read owner r.ty t read reads in
      let found : Some h.id ≡ None = sym h.entry ∙ ap (λ (x : List ℕ). entry_of w x r.ty) n ∙ ap (entry_of w name) same ∙ none in
      cc

  pub no_parts : (word : List ℕ) → ((owner name : List ℕ) → ¬ (IsParted word owner name)) → (r : NamedRoot) → ¬ (NamesEntry w word r)
  no_parts word never r h = never h.owner h.name h.parted

  -- ---- its numbers

  -- a definition that has a name is there
  first_below : (name : List ℕ) (d : DefId) → IsTrue (is_name name) → first_named w name ≡ Some d → d.0 < length w.defs
  unfolding full_name
  first_below name d is e = go (slice_get w.defs d.0) refl (first_named-name w name d e)
    where
      go : (o : Option Def) → slice_get w.defs d.0 ≡ o → name_of w o ≡ name → d.0 < length w.defs
      go None there same = let empty : false ≡ true = ap is_name same ∙ is in absurd cc
      go (Some x) there same = there_is w.defs d.0 x there

  mutual
    names_fit : {text : List ℕ} {t : Ty} → Names w text t → fits (counts w) t ≡ true
    names_fit (texts.definition name args d ts is named a) = inst_fits (counts w) d ts (first_below name d is named) (arguments_fit a)
    names_fit (texts.array text t h) = array_fits (counts w) t (names_fit h)

    arguments_fit : {args : List ℕ} {ts : List Ty} → NamesArguments w args ts → all_fit (counts w) ts ≡ true
    arguments_fit texts.none = refl
    arguments_fit (texts.some text others t ts h hs) = both _ _ (names_fit h) (more_fit hs)

    more_fit : {others : List ℕ} {ts : List Ty} → NamesMore w others ts → all_fit (counts w) ts ≡ true
    more_fit texts.no_more = refl
    more_fit (texts.more text others t ts h hs) = both _ _ (names_fit h) (more_fit hs)

  pub read_fits : (text : List ℕ) (t : Ty) → Reads w text t → fits (counts w) t ≡ true
  read_fits text t h = names_fit h.names
