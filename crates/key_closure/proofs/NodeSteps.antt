-- Keys over a pool, as they are added.
use Rattle.std.proofs.Common.{◌≡◌, ℕ, zero, suc, ◌+◌, ◌<◌, true, inl, inr, List, [], ◌∷◌, ◌++◌, length, Some, slice_get, refl, ap, ◌∙◌, sym, subst, arith, drop, drop-cons, get_or, add-one}
use Rattle.std.specs.List.{Contains}
use Rattle.std.proofs.lemmas.List.{map-append}
use Rattle.std.proofs.lemmas.Option.{slice_get_within}
use Rattle.type_tree.specs.declared.tree.Ty.{Ty}
use Rattle.type_tree.specs.declared.tree.Key.{Key}
use Rattle.type_pool.specs.declared.key_nodes.KeyNode.{KeyNode}
use Rattle.type_pool.specs.Trees.{EachOnce, AddsAtMost}
use Rattle.type_pool.specs.Keys.{key_at, key_below, keys_below, NodesOnce}
use Rattle.type_pool.proofs.Gets.{get_grows, get_last}
use Rattle.type_pool.proofs.KeyLemmas.{one_key}
use Rattle.key_closure.specs.Closures.{Adds}
use Rattle.key_closure.specs.Bounds.{keys_at}
use Rattle.key_closure.proofs.ListSteps.{contains_at, none_in, in_cases, all_in}

-- the node of a key that is listed
record IsNodeOf (ts : List Ty) (nodes : List KeyNode) (k : Key) : Type 0 where
  place : ℕ
  node : KeyNode
  here : slice_get nodes place ≡ Some node
  is : key_at ts node ≡ k

node_of : (ts : List Ty) (nodes : List KeyNode) (k : Key) → Contains (keys_at ts nodes) k → IsNodeOf ts nodes k
node_of ts [] k c = absurd (none_in k c)
node_of ts (n ∷ nodes) k c = elim (in_cases (key_at ts n) (keys_at ts nodes) k c) [
  | inl e ↦ record { place = 0; node = n; here = refl; is = e }
  | inr later ↦ let r = node_of ts nodes k later in record { place = suc r.place; node = r.node; here = r.here; is = r.is }
]

pub keys_in : (ts : List Ty) (nodes : List KeyNode) (i : ℕ) (n : KeyNode) → slice_get nodes i ≡ Some n → slice_get (keys_at ts nodes) i ≡ Some (key_at ts n)
keys_in ts [] i n h = absurd (cc)
keys_in ts (m ∷ nodes) zero n h = let e : m ≡ n = cc in ap (λ (x : KeyNode). Some (key_at ts x)) e
keys_in ts (m ∷ nodes) (suc i) n h = keys_in ts nodes i n h

pub node_adds : (ts : List Ty) (old new : List KeyNode) (n : KeyNode) (i : ℕ) → EachOnce ts → NodesOnce new → keys_below (length ts) old ≡ true → key_below (length ts) n ≡ true
    → AddsAtMost old new n → slice_get new i ≡ Some n → Adds (keys_at ts old) (key_at ts n) (keys_at ts new)
node_adds ts old new n i once unique below inside adds here = elim adds [
  | inl same ↦ inl (contains_at (keys_at ts old) i (key_at ts n) (keys_in ts old i n (subst (λ (l : List KeyNode). slice_get l i ≡ Some n) same here)), ap (keys_at ts) same)
  | inr more ↦ inr (absent more, ap (keys_at ts) more ∙ map-append (key_at ts) old (n ∷ []))
]
  where
    absent : new ≡ old ++ n ∷ [] → Contains (keys_at ts old) (key_at ts n) → ⊥
    absent more c =
        let r = node_of ts old (key_at ts n) c in
        let below_r : key_below (length ts) r.node ≡ true = all_in (key_below (length ts)) old r.node below (contains_at old r.place r.node r.here) in
        let is : r.node ≡ n = one_key ts once r.node n below_r inside r.is in
        let first : slice_get new r.place ≡ Some n = ap (λ (l : List KeyNode). slice_get l r.place) more ∙ (get_grows old (n ∷ []) r.place r.node r.here ∙ ap Some is) in
        let last : slice_get new (length old) ≡ Some n = ap (λ (l : List KeyNode). slice_get l (length old)) more ∙ get_last old n in
        let same : r.place ≡ length old = unique r.place (length old) n first last in
        let low : r.place < length old = slice_get_within old r.place r.node r.here in
        omega arith

pub row : (nodes : List KeyNode) (i : ℕ) (n : KeyNode) → i < length nodes → n ≡ get_or nodes i n → drop i nodes ≡ n ∷ drop (i + 1) nodes
row nodes i n low is = rw add-one (drop-cons nodes i n low ∙ ap (λ (x : KeyNode). x ∷ drop (suc i) nodes) (sym is))
