-- Trees of a pool that are value types, and the own fields of a definition.
use Rattle.std.proofs.Common.{◌≡◌, ℕ, suc, ◌+◌, ◌≤◌, ◌<◌, inl, inr, Bool, true, false, List, [], ◌∷◌, ◌++◌, length, map, filter, take, drop, drop-cons, get_or, Some, slice_get, ap, ◌∙◌, sym, subst, arith, append_assoc, append-nil, add-one, IsTrue, get_or-take, get_or-drop, length-drop, length-take-le}
use Rattle.std.proofs.Math.ListN.{drop_of_length-le}
use Rattle.std.proofs.lemmas.Bool.{cases_Bool, and_parts, leb-true}
use Rattle.std.proofs.lemmas.List.Elements.{filter-append}
use Rattle.std.proofs.lemmas.Option.{get_or_from_slice_get}
use Rattle.type_tree.specs.declared.tree.Ty.{Ty}
use Rattle.type_tree.specs.declared.tree.Ty.TheVariants as ty
use Rattle.type_tree.specs.declared.definition.Def.{Def}
use Rattle.type_tree.specs.declared.definition.Field.{Field}
use Rattle.type_tree.specs.World.{Facts}
use Rattle.type_tree.specs.Fits.{def_fits}
use Rattle.type_tree.specs.Kinds.{is_value, is_value_at}
use Rattle.type_tree.specs.Whole.{counts}
use Rattle.type_tree.specs.Subst.{subst_ty}
use Rattle.type_pool.specs.declared.nodes.Id.{Id}
use Rattle.type_pool.specs.declared.nodes.Node.{Node}
use Rattle.type_pool.specs.declared.nodes.Node.TheVariants.{Inst, Array, ByRef, Ptr, Var, MVar, Missing, Odd}
use Rattle.type_pool.specs.Trees.{at, at_all, tree_of, ids_below, Grows, Spells}
use Rattle.type_pool.specs.Jobs.{SpellAll}
use Rattle.type_pool.proofs.JobLemmas.{at_all-grown, below-grown}
use Rattle.type_relations.specs.Heads.{is_value_level}
use Rattle.type_relations.proofs.ListLemmas.{push_spells, spell_themselves}

pub is_value-tree : (w : Facts) (ts : List Ty) (n : Node) → is_value w (tree_of ts n) ≡ is_value_level w n
is_value-tree w ts (Inst d parts) = ap (is_value_at w) (ty.outs-Inst d (at_all ts parts))
is_value-tree w ts (Array part) = ap (is_value_at w) (ty.outs-Array (at ts part))
is_value-tree w ts (ByRef part) = ap (is_value_at w) (ty.outs-ByRef (at ts part))
is_value-tree w ts (Ptr part) = ap (is_value_at w) (ty.outs-Ptr (at ts part))
is_value-tree w ts (Var n) = ap (is_value_at w) (ty.outs-Var n)
is_value-tree w ts (MVar n) = ap (is_value_at w) (ty.outs-MVar n)
is_value-tree w ts (Missing name value) = ap (is_value_at w) (ty.outs-Missing name value)
is_value-tree w ts (Odd code) = ap (is_value_at w) (ty.outs-Odd code)

-- the own fields of a definition
abbrev pub own : Facts → Def → List Field
own w d = take d.fields (drop d.first_field w.fields)

-- those from one on that are value types, with arguments put in
abbrev pub value_types : Facts → List Ty → List Field → List Ty
value_types w args fs = filter (is_value w) (map (subst_ty args []) (map (λ f. f.ty) fs))

pub run_within : (w : Facts) (d : Def) → IsTrue (def_fits (counts w) d) → d.first_field + d.fields ≤ length w.fields
run_within w d h =
    let a = (and_parts _ _ h).0 in let b = (and_parts _ _ a).0 in let c = (and_parts _ _ b).0 in let e = (and_parts _ _ c).0 in
    leb-true (d.first_field + d.fields) (length w.fields) (and_parts _ _ (and_parts _ _ e).1).0

pub own_count : (w : Facts) (d : Def) → d.first_field + d.fields ≤ length w.fields → length (own w d) ≡ d.fields
own_count w d fits =
    let long = length-drop d.first_field w.fields in
    length-take-le d.fields (drop d.first_field w.fields) (omega arith)

own_front : (w : Facts) (d : Def) (k : ℕ) (f : Field) → d.first_field + d.fields ≤ length w.fields → k < d.fields → slice_get w.fields (d.first_field + k) ≡ Some f
    → drop k (own w d) ≡ f ∷ drop (k + 1) (own w d)
own_front w d k f fits lt is =
    let count = own_count w d fits in
    let here : get_or (own w d) k f ≡ f = get_or-take d.fields (drop d.first_field w.fields) k f lt ∙ (get_or-drop d.first_field w.fields k f ∙ get_or_from_slice_get w.fields (d.first_field + k) f f is) in
    rw add-one (drop-cons (own w d) k f (omega arith) ∙ ap (λ (x : Field). x ∷ drop (suc k) (own w d)) here)

-- one more field of a loop
pub field_step : (w : Facts) (d : Def) (args done : List Ty) (k : ℕ) (f : Field) → d.first_field + d.fields ≤ length w.fields → k < d.fields → slice_get w.fields (d.first_field + k) ≡ Some f
    → (done ++ filter (is_value w) (subst_ty args [] f.ty ∷ [])) ++ value_types w args (drop (k + 1) (own w d)) ≡ done ++ value_types w args (drop k (own w d))
field_step w d args done k f fits lt is =
    let rest = drop (k + 1) (own w d) in
    append_assoc done (filter (is_value w) (subst_ty args [] f.ty ∷ [])) (value_types w args rest)
    ∙ (ap (λ l. done ++ l) (sym (filter-append (is_value w) (subst_ty args [] f.ty ∷ []) (map (subst_ty args []) (map (λ g. g.ty) rest))))
    ∙ ap (λ (l : List Field). done ++ value_types w args l) (sym (own_front w d k f fits lt is)))

-- past the last field
pub fields_done : (w : Facts) (d : Def) (args done all : List Ty) (k : ℕ) → d.first_field + d.fields ≤ length w.fields → d.fields ≤ k
    → done ++ value_types w args (drop k (own w d)) ≡ all → done ≡ all
fields_done w d args done all k fits past h =
    let count = own_count w d fits in
    sym (append-nil done) ∙ (ap (λ (l : List Field). done ++ value_types w args l) (sym (drop_of_length-le (own w d) {i = k} (omega arith))) ∙ h)

-- one that is put last where it passes a test
pub tested_spells : (p : Ty → Bool) (ts us : List Ty) (ids new : List Id) (r : Id) (t : Ty) → Grows ts us → ids_below (length ts) ids ≡ true → Spells us r t
    → new ≡ ids ++ filter (λ a. p (at us a)) (r ∷ []) → SpellAll us new (at_all ts ids ++ filter p (t ∷ []))
tested_spells p ts us ids new r t g h one e = elim (cases_Bool (p t)) [
  | inl is ↦
      let here : p (at us r) ≡ true = ap p one.is ∙ is in
      let made : new ≡ ids ++ r ∷ [] = rw here at e in
      rw is (subst (λ (l : List Id). SpellAll us l (at_all ts ids ++ t ∷ [])) (sym made) (push_spells ts us ids r (at_all ts ids) t g (spell_themselves ts ids h) one))
  | inr none ↦
      let here : p (at us r) ≡ false = ap p one.is ∙ none in
      let made : new ≡ ids ++ [] = rw here at e in
      let same : new ≡ ids = made ∙ append-nil ids in
      rw none (record {
        within = ap (ids_below (length us)) same ∙ below-grown ts us g ids h;
        are = ap (at_all us) same ∙ (at_all-grown ts us g ids h ∙ sym (append-nil (at_all ts ids)));
      })
]
