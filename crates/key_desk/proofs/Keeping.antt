-- What is kept while a pool and its keys grow.
use Rattle.std.proofs.Common.{◌≡◌, ◌<◌, ℕ, zero, suc, true, List, [], ◌∷◌, ◌++◌, length, map, take, ◌+◌, add-one, inl, inr, Option, Some, slice_get, refl, ap, ap₂, sym, ◌∙◌, subst, append-nil, append_assoc}
use Rattle.std.specs.Option.{option_map}
use Rattle.std.proofs.lemmas.Bool.{and_parts}
use Rattle.std.proofs.lemmas.List.{map-append}
use Rattle.std.proofs.lemmas.Option.{slice_get-map}
use mathlib.Core.List.{IsPrefix}
use Rattle.type_tree.specs.declared.tree.Ty.{Ty}
use Rattle.type_tree.specs.declared.tree.Key.{Key}
use Rattle.type_tree.specs.World.{Facts}
use Rattle.type_pool.specs.declared.key_nodes.KeyId.{KeyId}
use Rattle.type_pool.specs.declared.key_nodes.KeyNode.{KeyNode}
use Rattle.type_pool.specs.Keys.{key_at, key_below, keys_below, NodesGrow}
use Rattle.type_pool.specs.Trees.{AddsAtMost, Grows}
use Rattle.type_pool.specs.Jobs.{AllNoted}
use Rattle.type_judge.specs.Notes.{AreNotes}
use Rattle.type_pool.proofs.JobLemmas.{noted-grown}
use Rattle.key_closure.specs.Bounds.{keys_at}
use Rattle.key_closure.proofs.NodeTurns.{keys-grown, keys_below-grown}
use Rattle.type_tree.specs.Canon.{canon_ty}
use Rattle.type_judge.specs.Growing.{notes-grown}
use Rattle.type_relations.specs.declared.members.MemberNotes.{MemberNotes}
use Rattle.type_judge.specs.declared.notes.Notes.{Notes}
use Rattle.key_desk.specs.declared.work.Work.{Work}
use Rattle.key_desk.specs.Desks as spec

pub prefix_self : {A : Type 0} (xs : List A) → IsPrefix xs xs
prefix_self xs = ([], append-nil xs)

pub prefix_on : {A : Type 0} (xs ys zs : List A) → IsPrefix xs ys → IsPrefix ys zs → IsPrefix xs zs
prefix_on xs ys zs p q = (p.0 ++ q.0, sym (append_assoc xs p.0 q.0) ∙ (ap (λ w. w ++ q.0) p.1 ∙ q.1))

pub works_on : (w : Facts) (a b c : Work) → spec.Works w a b → spec.Works w b c → spec.Works w a c
works_on w a b c p q = record { right = q.right; keys = prefix_on (spec.keys_of a) (spec.keys_of b) (spec.keys_of c) p.keys q.keys }

pub works_self : (w : Facts) (a : Work) → spec.IsRight w a → spec.Works w a a
works_self w a right = record { right = right; keys = prefix_self (spec.keys_of a) }

module _ (w : Facts) (old : Work) (ts : List Ty) (right : spec.IsRight w old) (grows : Grows old.pool ts) where
  -- over a pool that grew, the keys are the same
  pub same_keys : keys_at ts old.keys ≡ spec.keys_of old
  same_keys = keys-grown old.pool ts grows old.keys right.within

  pub below : keys_below (length ts) old.keys ≡ true
  below = keys_below-grown old.pool ts grows old.keys right.within

  pub pooled : (notes : MemberNotes Notes) → AllNoted (canon_ty w) ts notes.canonical → AreNotes w ts notes.faults → spec.Works w old (record { pool = ts; keys = old.keys; notes = notes })
  pooled notes forms noted = record { right = record { within = below; forms = forms; noted = noted }; keys = ([], append-nil (spec.keys_of old) ∙ sym same_keys) }

  pub stays : spec.Works w old (record { pool = ts; keys = old.keys; notes = old.notes })
  stays = pooled old.notes (noted-grown old.pool ts grows (canon_ty w) old.notes.canonical right.forms) (notes-grown w old.pool ts grows old.notes.faults right.noted)

-- a key is put in
pub put_in : (w : Facts) (old : Work) (nodes : List KeyNode) → spec.IsRight w old → keys_below (length old.pool) nodes ≡ true → NodesGrow old.keys nodes
    → spec.Works w old (record { pool = old.pool; keys = nodes; notes = old.notes })
put_in w old nodes right within grows = record {
  right = record { within = within; forms = right.forms; noted = right.noted };
  keys = (keys_at old.pool grows.0, sym (map-append (key_at old.pool) old.keys grows.0) ∙ ap (keys_at old.pool) (sym grows.1));
}

-- the key of a node by the node's number
pub key_here : (ts : List Ty) (nodes : List KeyNode) (i : ℕ) (k : KeyNode) → slice_get nodes i ≡ Some k → slice_get (keys_at ts nodes) i ≡ Some (key_at ts k)
key_here ts nodes i k h = slice_get-map (key_at ts) nodes i ∙ ap (option_map (key_at ts)) h

-- each node of a longer list is below
pub all_below : (n : ℕ) (old new : List KeyNode) (k : KeyNode) → keys_below n old ≡ true → key_below n k ≡ true → AddsAtMost old new k → keys_below n new ≡ true
all_below n old new k was is adds = elim adds [
  | inl same ↦ subst (λ (l : List KeyNode). keys_below n l ≡ true) (sym same) was
  | inr more ↦ subst (λ (l : List KeyNode). keys_below n l ≡ true) (sym more) (all_one n old k was is)
]
  where
    all_one : (n : ℕ) (old : List KeyNode) (k : KeyNode) → keys_below n old ≡ true → key_below n k ≡ true → keys_below n (old ++ k ∷ []) ≡ true
    all_one n [] k was is = rw is refl
    all_one n (x ∷ old) k was is = let parts = and_parts (key_below n x) (keys_below n old) was in rw parts.0 (all_one n old k parts.1 is)

-- a key that is kept is over the pool
pub node_below : (ts : List Ty) (nodes : List KeyNode) (i : ℕ) (k : KeyNode) → keys_below (length ts) nodes ≡ true → slice_get nodes i ≡ Some k → key_below (length ts) k ≡ true
node_below ts [] i k below at = absurd (cc)
node_below ts (n ∷ nodes) zero k below at = let e : n ≡ k = cc in subst (λ (x : KeyNode). key_below (length ts) x ≡ true) e (and_parts (key_below (length ts) n) (keys_below (length ts) nodes) below).0
node_below ts (n ∷ nodes) (suc i) k below at = node_below ts nodes i k (and_parts (key_below (length ts) n) (keys_below (length ts) nodes) below).1 at

get_front : {A : Type 0} (xs ys : List A) (i : ℕ) (x : A) → slice_get xs i ≡ Some x → slice_get (xs ++ ys) i ≡ Some x
get_front [] ys i x h = absurd (cc)
get_front (z ∷ xs) ys zero x h = h
get_front (z ∷ xs) ys (suc i) x h = get_front xs ys i x h

-- what numbers name they name in a longer list
pub key_stays : (ks ls : List Key) (n : KeyId) (k : Key) → IsPrefix ks ls → spec.key_with ks n ≡ Some k → spec.key_with ls n ≡ Some k
key_stays ks ls n k p at = subst (λ (l : List Key). slice_get l n.0 ≡ Some k) p.1 (get_front ks p.0 n.0 k at)

pub names_stay : (ks ls : List Key) (ns : List KeyId) (us : List Key) → IsPrefix ks ls → spec.NameAll ks ns us → spec.NameAll ls ns us
names_stay ks ls [] [] p e = refl
names_stay ks ls [] (u ∷ us) p e = absurd (cc)
names_stay ks ls (n ∷ ns) [] p e = absurd (cc)
names_stay ks ls (n ∷ ns) (u ∷ us) p e =
    let here : spec.key_with ks n ≡ Some u = cc in
    let later : spec.NameAll ks ns us = cc in
    ap₂ (λ (x : Option Key) (xs : List (Option Key)). x ∷ xs) (key_stays ks ls n u p here) (names_stay ks ls ns us p later)

-- one more number, of one more node
pub one_more : (ks : List Key) (ns : List KeyId) (ts : List Ty) (nodes : List KeyNode) (i : ℕ) (n : KeyId) (node : KeyNode) → slice_get nodes i ≡ Some node
    → spec.NameAll ks ns (keys_at ts (take i nodes)) → spec.key_with ks n ≡ Some (key_at ts node) → spec.NameAll ks (ns ++ n ∷ []) (keys_at ts (take (i + 1) nodes))
one_more ks ns ts nodes i n node at named here =
    let front : take (i + 1) nodes ≡ take i nodes ++ node ∷ [] = rw add-one (take_one nodes i node at) in
    map-append (spec.key_with ks) ns (n ∷ [])
    ∙ (ap₂ (λ (xs ys : List (Option Key)). xs ++ ys) named (ap (λ (o : Option Key). o ∷ []) here)
    ∙ (sym (map-append Some (keys_at ts (take i nodes)) (key_at ts node ∷ []))
    ∙ ap (map Some) (sym (map-append (key_at ts) (take i nodes) (node ∷ [])) ∙ ap (keys_at ts) (sym front))))
  where
    take_one : (xs : List KeyNode) (i : ℕ) (x : KeyNode) → slice_get xs i ≡ Some x → take (suc i) xs ≡ take i xs ++ x ∷ []
    take_one [] i x at = absurd (cc)
    take_one (y ∷ ys) zero x at = let e : y ≡ x = cc in ap (λ (z : KeyNode). z ∷ []) e
    take_one (y ∷ ys) (suc i) x at = ap (λ (l : List KeyNode). y ∷ l) (take_one ys i x at)
