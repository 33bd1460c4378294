-- Notes of the trees in which System.__Canon stands.
use Rattle.std.proofs.Common.{◌≡◌, ℕ, ◌<◌, Bool, true, false, ◌||◌, ◌==◌, nat_lt, inl, inr, List, [], ◌∷◌, ◌++◌, length, refl, ap, ap₂, ◌∙◌, sym, subst, arith, length-append}
use Rattle.std.specs.List.{list_any}
use Rattle.std.proofs.lemmas.Bool.{and_parts, ltb-true}
use Rattle.std.proofs.lemmas.Option.{slice_get_within, slice_get-get_or}
use Rattle.type_tree.specs.declared.tree.Ty.{Ty}
use Rattle.type_tree.specs.World.{Facts}
use Rattle.type_tree.proofs.Folds.{fold-Inst, fold-Array, fold-ByRef, fold-Ptr, fold-Var, fold-MVar, fold-Missing, fold-Odd}
use Rattle.type_pool.specs.declared.nodes.Id.{Id}
use Rattle.type_pool.specs.declared.nodes.Node.{Node}
use Rattle.type_pool.specs.declared.nodes.Node.TheVariants.{Inst, Array, ByRef, Ptr, Var, MVar, Missing, Odd}
use Rattle.type_pool.specs.Trees.{at, at_all, tree_of, ids_below, parts_below, Grows}
use Rattle.type_pool.proofs.Gets.{get_cases}
use Rattle.type_pool.proofs.JobLemmas.{at-grown, grown_length}
use Rattle.type_subs.specs.Canons.{canon_step, has_canon, any_has_canon}
use Rattle.type_subs.specs.Notes.{IsNoted, flag, level_has_canon}

pub none_noted : (w : Facts) (ts : List Ty) → IsNoted w ts []
none_noted w ts = record { few = omega arith; right = λ i b h. absurd (cc) }

pub noted_grown : (w : Facts) (ts us : List Ty) (flags : List Bool) → Grows ts us → IsNoted w ts flags → IsNoted w us flags
noted_grown w ts us flags g n = record {
  few = let l = grown_length ts us g in let f = n.few in omega arith;
  right = λ i b h. let low = slice_get_within flags i b h in let f = n.few in let inside : i < length ts = omega arith in
      ap (has_canon w) (at-grown ts us g (record { 0 = i }) inside) ∙ n.right i b h;
}

module _ (w : Facts) (ts : List Ty) (flags : List Bool) (noted : IsNoted w ts flags) where
  pub flag_is : (a : Id) → a.0 < length flags → flag flags a ≡ has_canon w (at ts a)
  flag_is a low = sym (noted.right a.0 (flag flags a) (slice_get-get_or flags a.0 false low))

  pub flags_are : (ids : List Id) → ids_below (length flags) ids ≡ true → list_any (flag flags) ids ≡ any_has_canon w (at_all ts ids)
  flags_are [] h = refl
  flags_are (a ∷ ids) h = let parts = and_parts (nat_lt a.0 (length flags)) (ids_below (length flags) ids) h in
      ap₂ ◌||◌ (flag_is a (ltb-true a.0 (length flags) parts.0)) (flags_are ids parts.1)

  level_is : (n : Node) → parts_below (length flags) n ≡ true → has_canon w (tree_of ts n) ≡ level_has_canon w flags n
  level_is (Inst d parts) h = fold-Inst Bool (canon_step w) d (at_all ts parts) ∙ ap (λ b. d.0 == w.canon.0 || b) (sym (flags_are parts h))
  level_is (Array part) h = fold-Array Bool (canon_step w) (at ts part) ∙ sym (flag_is part (ltb-true part.0 (length flags) h))
  level_is (ByRef part) h = fold-ByRef Bool (canon_step w) (at ts part) ∙ sym (flag_is part (ltb-true part.0 (length flags) h))
  level_is (Ptr part) h = fold-Ptr Bool (canon_step w) (at ts part) ∙ sym (flag_is part (ltb-true part.0 (length flags) h))
  level_is (Var n) h = fold-Var Bool (canon_step w) n
  level_is (MVar n) h = fold-MVar Bool (canon_step w) n
  level_is (Missing name value) h = fold-Missing Bool (canon_step w) name value
  level_is (Odd code) h = fold-Odd Bool (canon_step w) code

  -- the next tree is noted last
  pub next_noted : (next : Id) (n : Node) (b : Bool) → next.0 ≡ length flags → length flags < length ts → tree_of ts n ≡ at ts next → parts_below next.0 n ≡ true
      → b ≡ level_has_canon w flags n → IsNoted w ts (flags ++ b ∷ [])
  next_noted next n b is more level below found = record {
    few = let l = length-append flags (b ∷ []) in omega arith;
    right = λ i c h. elim (get_cases flags b i c h) [
      | inl old ↦ noted.right i c old
      | inr new ↦ subst (λ (x : Bool). has_canon w (at ts (record { 0 = i })) ≡ x) new.1 (subst (λ (k : ℕ). has_canon w (at ts (record { 0 = k })) ≡ b) (is ∙ sym new.0) here)
    ];
  }
    where
      here : has_canon w (at ts next) ≡ b
      here = ap (has_canon w) (sym level) ∙ (level_is n (subst (λ (k : ℕ). parts_below k n ≡ true) is below) ∙ sym found)
