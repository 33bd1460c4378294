-- What is noted of slots, and what holds where a call succeeds.
use Rattle.std.proofs.Common.{◌≡◌, ℕ, nat_eq, cond, inl, inr, Bool, [], Option, None, Some, Result, Ok, Err, OnOk, ap, ◌∙◌, sym, eqb-true}
use Rattle.std.proofs.lemmas.Bool.{cases_Bool}
use Rattle.std.specs.HashMap.{get, HashMap, Updates}
use Rattle.std.specs.Map.{lookup}
use Rattle.std.specs.declared.hash.FoldHasher.{FoldHasher}
use Rattle.std.specs.declared.hash.BuildHasherDefault.{BuildHasherDefault}
use Rattle.clr_base.specs.declared.ids.DefId.{DefId}
use Rattle.load_events.specs.declared.load_fault.LoadFault.{LoadFault}
use Rattle.type_tree.specs.World.{Facts}
use Rattle.type_judge.specs.Notes.{SlotFaults, AreSlotFaults}
use Rattle.type_judge.specs.Table.{slot_fault}

pub on_ok_then : {T E P Q : Type 0} (r : Result T E) → (P → Q) → OnOk r P → OnOk r Q
on_ok_then (Ok x) f p = f p
on_ok_then (Err e) f p = tt

-- one note more
pub slot_noted : (w : Facts) (old new : SlotFaults) (d : DefId) (found : Option LoadFault) → AreSlotFaults w old → found ≡ slot_fault w d → Updates nat_eq old new d.0 (Some found) → AreSlotFaults w new
slot_noted w old new d found all is updates q other here = elim (cases_Bool (nat_eq d.0 q)) [
  | inl e ↦
      let same : d.0 ≡ q = eqb-true d.0 q e in
      let some : ◌≡◌ {A = Option (Option LoadFault)} (Some found) (Some other) = sym (ap (λ (b : Bool). cond b (Some found) (get nat_eq old q)) e) ∙ sym (updates.0 q) ∙ here in
      let value : found ≡ other = cc in
      sym value ∙ (is ∙ ap (λ (n : ℕ). slot_fault w (record { 0 = n })) same)
  | inr e ↦ all q other (sym (ap (λ (b : Bool). cond b (Some found) (get nat_eq old q)) e) ∙ sym (updates.0 q) ∙ here)
]

-- an empty table has no note
pub nothing_noted : {V : Type 0} (notes : HashMap ℕ V (BuildHasherDefault FoldHasher)) → notes.entries ≡ [] → (n : ℕ) (v : V) → get nat_eq notes n ≡ Some v → ⊥
nothing_noted {V} notes e n v here =
    let none : get nat_eq notes n ≡ None = ap (λ es. lookup (nat_eq n) es) e in
    let clash : ◌≡◌ {A = Option V} None (Some v) = sym none ∙ here in
    cc
