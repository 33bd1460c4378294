-- Notes stay true where pools and sets grow, and where one more is made.
use Rattle.std.proofs.Common.{◌≡◌, ℕ, cond, inl, inr, nat_eq, List, [], ◌∷◌, ◌++◌, Some, slice_get, ap, ◌∙◌, sym, subst, eqb-true, refl, get_or, unwrap_or}
use Rattle.std.proofs.lemmas.List.{append-nil, append_assoc}
use Rattle.std.proofs.lemmas.Option.{unwrap_or-slice_get}
use Rattle.std.proofs.lemmas.Bool.{cases_Bool, eq-eqb}
use Rattle.std.specs.HashMap.{get}
use Rattle.type_tree.specs.declared.definition.Def.{Def}
use Rattle.type_tree.specs.declared.tree.Ty.{Ty}
use Rattle.type_tree.specs.Kinds.{head_of}
use Rattle.type_tree.specs.World.{Facts}
use Rattle.type_pool.specs.Trees.{Grows}
use Rattle.type_pool.proofs.Gets.{get_grows, get_last}
use Rattle.method_slots.specs.OpenSets.{OpensGrow}
use Rattle.slot_chains.specs.declared.levels.Level.{Level}
use Rattle.slot_chains.specs.declared.notes.Notes.{Notes}
use Rattle.slot_chains.specs.Levels.{AreNotes, IsKept, IsLevel, IsNoted, NotesGrow, NumbersNoted, Places, SameNotes}
use Rattle.slot_chains.proofs.LevelHanding.{level-grown}

pub numbers-noted : (w : Facts) (ts : List Ty) (notes : Notes) → AreNotes w ts notes → NumbersNoted w notes
numbers-noted w ts notes are n i here = let a = are.all n i here in record { level = a.level; here = a.here; numbers = a.is.numbers }

pub noted-same : (old new : Places) → new ≡ old → (n : ℕ) → IsNoted old n → IsNoted new n
noted-same old new e n a = subst (λ places. IsNoted places n) (sym e) a

pub notes-grown : (w : Facts) (ts us : List Ty) (old new : Notes) → AreNotes w ts old → Grows ts us → OpensGrow old.set new.set → SameNotes old new → AreNotes w us new
notes-grown w ts us old new are g s same = record {
  all = λ n i here. (let a = are.all n i (sym (ap (λ places. get nat_eq places n) same.places) ∙ here) in
      record { level = a.level; here = ap (λ l. slice_get l i) same.levels ∙ a.here; is = level-grown w ts us old.set new.set g s n a.level a.is });
  chains = λ n p d noted here e. noted-same old.places new.places same.places p (are.chains n p d (noted-same new.places old.places (sym same.places) n noted) here e);
}

module _ (w : Facts) (ts : List Ty) (old new : Notes) (n : ℕ) (level : Level) (place : ℕ) (kept : IsKept old new n level place) where
  noted-kept : (p : ℕ) → IsNoted old.places p → IsNoted new.places p
  noted-kept p a = elim (cases_Bool (nat_eq n p)) [
    | inl e ↦ record { place = place; here = kept.places.0 p ∙ ap (λ b. cond b (Some place) (get nat_eq old.places p)) e }
    | inr e ↦ record { place = a.place; here = kept.places.0 p ∙ ap (λ b. cond b (Some place) (get nat_eq old.places p)) e ∙ a.here }
  ]

  pub found-kept : get nat_eq new.places n ≡ Some place
  found-kept = kept.places.0 n ∙ ap (λ b. cond b (Some place) (get nat_eq old.places n)) (eq-eqb n n refl)

  pub notes-kept : AreNotes w ts old → IsLevel w ts old.set n level → ((d : Def) (p : ℕ) → slice_get w.defs n ≡ Some d → head_of d.parent ≡ Some p → IsNoted old.places p) → AreNotes w ts new
  notes-kept are is parent = record {
    all = λ q i here. elim (cases_Bool (nat_eq n q)) [
      | inl e ↦
          let same : n ≡ q = eqb-true n q e in
          let found : Some place ≡ Some i = sym (kept.places.0 q ∙ ap (λ b. cond b (Some place) (get nat_eq old.places q)) e) ∙ here in
          let at : place ≡ i = cc in
          record {
            level = level;
            here = ap (λ l. slice_get l i) kept.levels ∙ ap (slice_get (old.levels ++ level ∷ [])) (sym at ∙ kept.here) ∙ get_last old.levels level;
            is = subst (λ set. IsLevel w ts set q level) (sym kept.set) (subst (λ m. IsLevel w ts old.set m level) same is);
          }
      | inr e ↦
          let a = are.all q i (sym (kept.places.0 q ∙ ap (λ b. cond b (Some place) (get nat_eq old.places q)) e) ∙ here) in
          record {
            level = a.level;
            here = ap (λ l. slice_get l i) kept.levels ∙ get_grows old.levels (level ∷ []) i a.level a.here;
            is = subst (λ set. IsLevel w ts set q a.level) (sym kept.set) a.is;
          }
    ];
    chains = λ q p d noted here e. noted-kept p (elim (cases_Bool (nat_eq n q)) [
      | inl f ↦ let same : n ≡ q = eqb-true n q f in parent d p (ap (slice_get w.defs) same ∙ here) e
      | inr f ↦ are.chains q p d (record { place = noted.place; here = sym (kept.places.0 q ∙ ap (λ b. cond b (Some place) (get nat_eq old.places q)) f) ∙ noted.here }) here e
    ]);
  }

  pub grow-kept : NotesGrow old new
  grow-kept = record { levels = (level ∷ [], kept.levels); noted = noted-kept }

pub grow-same : (old new : Notes) → SameNotes old new → NotesGrow old new
grow-same old new same = record { levels = ([], same.levels ∙ sym (append-nil old.levels)); noted = λ n a. noted-same old.places new.places same.places n a }

pub grow-trans : (a b c : Notes) → NotesGrow a b → NotesGrow b c → NotesGrow a c
grow-trans a b c f g = record {
  levels = (f.levels.0 ++ g.levels.0, g.levels.1 ∙ ap (λ ls. ls ++ g.levels.0) f.levels.1 ∙ append_assoc a.levels f.levels.0 g.levels.0);
  noted = λ n h. g.noted n (f.noted n h);
}

-- what is read at a place that is noted
pub level-read : (w : Facts) (ts : List Ty) (notes : Notes) → AreNotes w ts notes → (n place : ℕ) → get nat_eq notes.places n ≡ Some place → (read : List Level) → read ≡ notes.levels → (l : Level) → l ≡ get_or read place l
    → IsLevel w ts notes.set n l
level-read w ts notes are n place here read same l is =
    let found = are.all n place here in
    let e : l ≡ found.level = is ∙ ap (λ ls. get_or ls place l) same ∙ sym (unwrap_or-slice_get notes.levels place l) ∙ ap (λ o. unwrap_or o l) found.here in
    subst (IsLevel w ts notes.set n) (sym e) found.is
