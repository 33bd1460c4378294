-- Lists of groups, one for each run, or none for a run with few members.
use Rattle.std.proofs.Common.{◌≡◌, ℕ, zero, suc, ◌+◌, ◌<◌, ◌≤◌, List, [], ◌∷◌, ◌++◌, length, take, get_or, slice_get, Option, Some, sym, ap, subst, arith}
use Rattle.std.proofs.lemmas.List.{take_more, take_all}
use Rattle.clr_base.specs.declared.ids.NameId.{NameId}
use Rattle.type_members.specs.declared.member_groups.MemberGroups.{MemberGroups}
use Rattle.type_members.specs.declared.member_table.Run.{Run}
use Rattle.type_members.specs.MemberIndexes.{AreGroups, AreGroupsOf, HasGroups}

module _ (first count : Run → ℕ) (names : List NameId) where
  abbrev Own : List Run → List (Option MemberGroups) → Type 0
  Own = AreGroupsOf first count names

  pub groups_more : (rs : List Run) (gs : List (Option MemberGroups)) (r : Run) (g : Option MemberGroups) → Own rs gs
      → HasGroups names (first r) (count r) g → Own (rs ++ r ∷ []) (gs ++ g ∷ [])
  groups_more [] [] r g all one = (one, tt)
  groups_more [] (h ∷ gs) r g all one = absurd all
  groups_more (s ∷ rs) [] r g all one = absurd all
  groups_more (s ∷ rs) (h ∷ gs) r g all one = (all.0, groups_more rs gs r g all.1 one)

  -- those at a number are those of the run at it
  pub groups_at : (rs : List Run) (gs : List (Option MemberGroups)) → Own rs gs → (d : ℕ) (r : Run) (g : MemberGroups)
      → slice_get rs d ≡ Some r → slice_get gs d ≡ Some (Some g) → AreGroups names (first r) (count r) g
  groups_at [] gs all d r g run own = absurd cc
  groups_at (s ∷ rs) [] all d r g run own = absurd all
  groups_at (s ∷ rs) (h ∷ gs) all zero r g run own =
      let same_run : s ≡ r = cc in
      let same_groups : h ≡ Some g = cc in
      (subst (λ (x : Run). HasGroups names (first x) (count x) (Some g)) same_run (subst (HasGroups names (first s) (count s)) same_groups all.0)).1
  groups_at (s ∷ rs) (h ∷ gs) all (suc d) r g run own = groups_at rs gs all.1 d r g run own

  -- the groups of one run more, which is read from a list that equals the runs
  pub groups_next : (rs : List Run) (i : ℕ) (items : List Run) (d : Run) (old new : List (Option MemberGroups)) (own : List NameId) (g : Option MemberGroups)
      → items ≡ rs → i < length items → Own (take i rs) old → own ≡ names
      → HasGroups own (first (get_or items i d)) (count (get_or items i d)) g → new ≡ old ++ g ∷ [] → Own (take (i + 1) rs) new
  groups_next rs i items d old new own g same within before are one e =
      let inside : i < length rs = omega (arith, ap length same) in
      let named = subst (λ ns. HasGroups ns (first (get_or items i d)) (count (get_or items i d)) g) are one in
      let read = subst (λ xs. HasGroups names (first (get_or xs i d)) (count (get_or xs i d)) g) same named in
      subst (Own (take (i + 1) rs)) (sym e)
      (subst (λ xs. Own xs (old ++ g ∷ [])) (sym (take_more rs i d inside)) (groups_more (take i rs) old (get_or rs i d) g before read))

  -- the groups of all runs
  pub groups_whole : (rs : List Run) (gs : List (Option MemberGroups)) (i : ℕ) → length rs ≤ i → Own (take i rs) gs → Own rs gs
  groups_whole rs gs i past all = subst (λ xs. Own xs gs) (take_all i rs past) all
