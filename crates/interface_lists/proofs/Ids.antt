-- Lists of interfaces by the numbers of their trees.
use Rattle.std.proofs.Common.{◌≡◌, ℕ, ◌<◌, ◌≤◌, min, nat_eq, nat_le, nat_lt, true, false, cond, ◌||◌, List, [], ◌∷◌, ◌++◌, Option, Some, length, map, reverse, suc, append-nil, length-append, refl, ap, ap₂, ◌∙◌, sym, arith, true≢false, eqb-true, inl, inr}
use Rattle.std.proofs.lemmas.Bool.{cases_Bool, and_parts, ltb-true, eq-eqb, leb-true, le-leb}
use Rattle.std.proofs.lemmas.List.{map-append, reverse-append, length-map}
use Rattle.std.proofs.lemmas.Option.{slice_get-get_or}
use Rattle.std.proofs.lemmas.List.Folds.{list_all-append}
use Rattle.std.specs.List.{list_any}
use Rattle.indexmap.specs.IndexSet.{insert_key}
use Rattle.type_tree.specs.declared.tree.Ty.{Ty}
use Rattle.type_tree.specs.declared.tree.Ty.TheVariants as ty
use Rattle.type_tree.specs.contracts.tree.Ty as row-of-ty
use Rattle.type_tree.specs.SameLaws.{same_is, is_same}
use Rattle.type_tree.specs.Subst.{subst_all}
use Rattle.type_tree.specs.World.{Facts}
use Rattle.type_tree.proofs.SubstLemmas.{kept}
use Rattle.type_pool.specs.declared.nodes.Id.{Id}
use Rattle.type_pool.specs.Jobs.{SpellAll}
use Rattle.type_pool.specs.Trees.{at, at_all, ids_below, EachOnce, Grows}
use Rattle.type_pool.proofs.JobLemmas.{at_all-grown, below-grown, below-one}
use Rattle.method_slots.specs.Slots.{same_tree}
use Rattle.interface_lists.specs.Lists.{declared, may_join, follow, longest_list}
use Rattle.interface_lists.specs.Walks.{id_of, members, stack, IsNext, Stacked}
use Rattle.interface_lists.proofs.Follows.{enter_first}

-- trees of a pool are equal where their numbers are
pub tree_test : (ts : List Ty) → EachOnce ts → (a b : Id) → a.0 < length ts → b.0 < length ts → nat_eq a.0 b.0 ≡ same_tree (at ts a) (at ts b)
tree_test ts once a b p q = elim (cases_Bool (nat_eq a.0 b.0)) [
  | inl e ↦ let same : a.0 ≡ b.0 = eqb-true a.0 b.0 e in e ∙ sym (is_same row-of-ty.the_row.coded (at ts a) (at ts b) (ap (λ n. at ts (id_of n)) same))
  | inr e ↦ elim (cases_Bool (same_tree (at ts a) (at ts b))) [
    | inr f ↦ e ∙ sym f
    | inl f ↦
        let is = same_is row-of-ty.the_row.coded (at ts a) (at ts b) f in
        let here = slice_get-get_or ts a.0 (ty.Odd 0) p in
        let there = slice_get-get_or ts b.0 (ty.Odd 0) q in
        let one = once a.0 b.0 (at ts b) (here ∙ ap Some is) there in
        absurd (true≢false (sym (eq-eqb a.0 b.0 one) ∙ e))
  ]
]

-- a tree is listed where its number is
pub listed_test : (ts : List Ty) → EachOnce ts → (a : Id) → a.0 < length ts → (ks : List ℕ) → ids_below (length ts) (map id_of ks) ≡ true
    → list_any (nat_eq a.0) ks ≡ list_any (same_tree (at ts a)) (members ts ks)
listed_test ts once a p [] h = refl
listed_test ts once a p (k ∷ ks) h =
    let parts = and_parts (nat_lt k (length ts)) (ids_below (length ts) (map id_of ks)) h in
    ap₂ ◌||◌ (tree_test ts once a (id_of k) p (ltb-true k (length ts) parts.0)) (listed_test ts once a p ks parts.1)

pub members-push : (ts : List Ty) (ks : List ℕ) (a : Id) → members ts (ks ++ a.0 ∷ []) ≡ members ts ks ++ at ts a ∷ []
members-push ts ks a = ap (at_all ts) (map-append id_of ks (a.0 ∷ [])) ∙ map-append (at ts) (map id_of ks) (a ∷ [])

pub keys-push : (n : ℕ) (ks : List ℕ) (a : Id) → ids_below n (map id_of ks) ≡ true → a.0 < n → ids_below n (map id_of (ks ++ a.0 ∷ [])) ≡ true
keys-push n ks a h lt = ap (ids_below n) (map-append id_of ks (a.0 ∷ [])) ∙ below-one n (map id_of ks) a h lt

pub stack-push : (ts : List Ty) (todo : List Id) (a : Id) → stack ts (todo ++ a ∷ []) ≡ at ts a ∷ stack ts todo
stack-push ts todo a = ap reverse (map-append (at ts) todo (a ∷ [])) ∙ reverse-append (at_all ts todo) (at ts a ∷ [])

pub stack-grown : (ts us : List Ty) → Grows ts us → (todo : List Id) → ids_below (length ts) todo ≡ true → stack us todo ≡ stack ts todo
stack-grown ts us g todo h = ap reverse (at_all-grown ts us g todo h)

-- what is known while declarations are followed
pub record Walking (w : Facts) (ts : List Ty) (todo : List Id) (keys : List ℕ) (goal : Option (List Ty)) : Type 0 where
  pub todo_in : ids_below (length ts) todo ≡ true
  pub keys_in : ids_below (length ts) (map id_of keys) ≡ true
  pub follows : follow w (stack ts todo) (members ts keys) ≡ goal

-- an interface is listed, and what it declares goes on top of the stack
pub walk_on : (w : Facts) (ts us : List Ty) (todo left more : List Id) (keys new : List ℕ) (id : Id) (goal : Option (List Ty)) → Grows ts us
    → IsNext w ts keys todo left id → may_join (at ts id) (members ts keys) ≡ true → Stacked ts us left more (declared w (at ts id))
    → new ≡ insert_key nat_eq keys id.0 → Walking w ts todo keys goal → Walking w us more new goal
walk_on w ts us todo left more keys new id goal g next joins stacked made was =
    let t = at ts id in
    let adds : new ≡ keys ++ id.0 ∷ [] = made ∙ ap (λ b. cond b keys (keys ++ id.0 ∷ [])) next.unlisted in
    let keys_in : ids_below (length ts) (map id_of (keys ++ id.0 ∷ [])) ≡ true = keys-push (length ts) keys id was.keys_in next.within in
    let new_in : ids_below (length ts) (map id_of new) ≡ true = ap (λ l. ids_below (length ts) (map id_of l)) adds ∙ keys_in in
    let trees : members us new ≡ members ts keys ++ t ∷ [] = at_all-grown ts us g (map id_of new) new_in ∙ ap (members ts) adds ∙ members-push ts keys id in
    record {
      todo_in = stacked.within;
      keys_in = below-grown ts us g (map id_of new) new_in;
      follows = ap₂ (follow w) stacked.are trees ∙ sym (enter_first w t (stack ts left) (members ts keys) next.fresh joins) ∙ sym next.same ∙ was.follows;
    }

pub least_test : (n k : ℕ) → k < 4294967295 → nat_le (min n 4294967295) k ≡ nat_le n k
least_test n k lt = elim (cases_Bool (nat_le n k)) [
  | inl e ↦ let le = leb-true n k e in le-leb (min n 4294967295) k (omega (arith, le)) ∙ sym e
  | inr e ↦ elim (cases_Bool (nat_le (min n 4294967295) k)) [
    | inr f ↦ f ∙ sym e
    | inl f ↦ let le = leb-true (min n 4294967295) k f in let small : n ≤ k = omega (arith, le, lt) in absurd (true≢false (sym (le-leb n k small) ∙ e))
  ]
]

-- the top of a stack
pub popped_stack : (ts : List Ty) (old new : List Id) (a : Id) → old ≡ new ++ a ∷ [] → stack ts old ≡ at ts a ∷ stack ts new
popped_stack ts old new a e = ap (stack ts) e ∙ stack-push ts new a

pub popped_below : (n : ℕ) (old new : List Id) (a : Id) → old ≡ new ++ a ∷ [] → ids_below n old ≡ true → (ids_below n new ≡ true) × (a.0 < n)
popped_below n old new a e h =
    let parts = and_parts _ _ (sym (ap (ids_below n) e ∙ list_all-append (λ (b : Id). nat_lt b.0 n) new (a ∷ [])) ∙ h) in
    (parts.0, ltb-true a.0 n (and_parts _ _ parts.1).0)

all_kept : (ts : List Ty) → subst_all [] [] ts ≡ ts
all_kept [] = refl
all_kept (t ∷ ts) = ap₂ ◌∷◌ (kept t) (all_kept ts)

-- before any declaration is followed
pub walk_begins : (w : Facts) (ts us : List Ty) (todo : List Id) (keys : List ℕ) (list trees : List Ty) → Stacked ts us [] todo (subst_all [] [] list) → keys ≡ []
    → list ≡ trees → Walking w us todo keys (follow w trees [])
walk_begins w ts us todo keys list trees s none is = record {
  todo_in = s.within;
  keys_in = ap (λ l. ids_below (length us) (map id_of l)) none;
  follows = ap₂ (follow w) (s.are ∙ append-nil (subst_all [] [] list) ∙ all_kept list ∙ is) (ap (members us) none);
}

-- one more is listed
pub one_listed : (keys new : List ℕ) (n : ℕ) → list_any (nat_eq n) keys ≡ false → new ≡ insert_key nat_eq keys n → length new ≡ suc (length keys)
one_listed keys new n fresh made = ap length (made ∙ ap (λ b. cond b keys (keys ++ n ∷ [])) fresh) ∙ length-append keys (n ∷ []) ∙ omega arith

pub room_left : (ts : List Ty) (keys : List ℕ) (t : Ty) → may_join t (members ts keys) ≡ true → length keys < 4096
room_left ts keys t joins =
    let few = ltb-true (length (members ts keys)) longest_list (and_parts _ _ joins).0 in
    let long : length (members ts keys) ≡ length keys = length-map (map id_of keys) (at ts) ∙ length-map keys id_of in
    omega (arith, few, long)

-- one more tree of a list that is joined
pub record JoinsOne (ts : List Ty) (keys new : List ℕ) (t : Ty) : Type 0 where
  pub within : ids_below (length ts) (map id_of new) ≡ true
  pub are : members ts new ≡ cond (list_any (same_tree t) (members ts keys)) (members ts keys) (members ts keys ++ t ∷ [])

pub joins_one : (ts : List Ty) → EachOnce ts → (keys new : List ℕ) (a : Id) → ids_below (length ts) (map id_of keys) ≡ true → a.0 < length ts
    → new ≡ insert_key nat_eq keys a.0 → JoinsOne ts keys new (at ts a)
joins_one ts once keys new a h lt made = elim (cases_Bool (list_any (nat_eq a.0) keys)) [
  | inl e ↦
      let same : new ≡ keys = made ∙ ap (λ b. cond b keys (keys ++ a.0 ∷ [])) e in
      let listed = sym (listed_test ts once a lt keys h) ∙ e in
      record {
        within = ap (λ l. ids_below (length ts) (map id_of l)) same ∙ h;
        are = ap (members ts) same ∙ ap (λ b. cond b (members ts keys) (members ts keys ++ at ts a ∷ [])) (sym listed);
      }
  | inr e ↦
      let adds : new ≡ keys ++ a.0 ∷ [] = made ∙ ap (λ b. cond b keys (keys ++ a.0 ∷ [])) e in
      let listed = sym (listed_test ts once a lt keys h) ∙ e in
      record {
        within = ap (λ l. ids_below (length ts) (map id_of l)) adds ∙ keys-push (length ts) keys a h lt;
        are = ap (members ts) adds ∙ members-push ts keys a ∙ ap (λ b. cond b (members ts keys) (members ts keys ++ at ts a ∷ [])) (sym listed);
      }
]

pub no_ids : (ts : List Ty) (ids : List Id) → ids ≡ [] → SpellAll ts ids []
no_ids ts ids none = record { within = ap (ids_below (length ts)) none; are = ap (at_all ts) none }
