-- Constraint types over a pool that grows.
use Rattle.std.proofs.Common.{◌≡◌, ℕ, zero, suc, ◌<◌, ◌≤◌, true, Bool, nat_lt, List, [], ◌∷◌, length, Some, None, slice_get, get_or, subst, ap, ap₂, ◌∙◌, arith}
use Rattle.std.proofs.lemmas.Bool.{and_parts, ltb-true}
use Rattle.std.proofs.lemmas.Option.{slice_get_within, get_or_from_slice_get}
use Rattle.type_tree.specs.declared.definition.Formal.{Formal}
use Rattle.type_tree.specs.declared.tree.Ty.{Ty}
use Rattle.type_tree.specs.declared.tree.Key.TheVariants as made
use Rattle.type_tree.specs.Subst.{subst_ty}
use Rattle.type_tree.specs.World.{Facts}
use Rattle.type_pool.specs.declared.nodes.Id.{Id}
use Rattle.type_pool.specs.declared.key_nodes.KeyNode.{KeyNode}
use Rattle.type_pool.specs.Trees.{at, at_all, ids_below, Grows, Spells}
use Rattle.type_pool.specs.Keys.{keys_below}
use Rattle.type_pool.proofs.JobLemmas.{at-grown, at_all-grown}
use Rattle.key_closure.specs.Bounds.{keys_at}
use Rattle.key_closure.proofs.NodeTurns.{keys-grown}
use Rattle.type_subs.specs.Constraints.{fails}
use Rattle.type_subs.specs.Listing.{has}
use Rattle.type_subs.specs.Supers.{with_supers, extends}

module _ (ts us : List Ty) (g : Grows ts us) (types methods : List Id) (t_in : ids_below (length ts) types ≡ true) (m_in : ids_below (length ts) methods ≡ true) where
  pub puts_same : (t : Ty) → subst_ty (at_all us types) (at_all us methods) t ≡ subst_ty (at_all ts types) (at_all ts methods) t
  puts_same t = ap₂ (λ (a b : List Ty). subst_ty a b t) (at_all-grown ts us g types t_in) (at_all-grown ts us g methods m_in)

  -- a tree that is put in over a pool that has grown
  pub put_spells : (vs : List Ty) (opened r : Id) (t : Ty) → Spells us opened t → Spells vs r (subst_ty (at_all us types) (at_all us methods) (at us opened))
      → Spells vs r (subst_ty (at_all ts types) (at_all ts methods) t)
  put_spells vs opened r t whole put = record { within = put.within; is = put.is ∙ (ap (subst_ty (at_all us types) (at_all us methods)) whole.is ∙ puts_same t) }

  -- a constraint is met where it is among the supers
  pub meets : (w : Facts) (keys : List KeyNode) (arg c : Ty) (met : Bool) → keys_at us keys ≡ with_supers w arg
      → met ≡ has (keys_at us keys) (made.Tree (subst_ty (at_all us types) (at_all us methods) c)) → met ≡ extends w arg (subst_ty (at_all ts types) (at_all ts methods) c)
  meets w keys arg c met are is = is ∙ ap₂ (λ l t. has l (made.Tree t)) are (puts_same c)

  -- an argument and its generic parameter
  pub fails_same : (w : Facts) (f : Formal) (a : Id) (b : Bool) → a.0 < length ts → b ≡ fails w (at_all us types) (at_all us methods) f (at us a)
      → b ≡ fails w (at_all ts types) (at_all ts methods) f (at ts a)
  fails_same w f a b low is =
      let ty_is = at_all-grown ts us g types t_in in let m_is = at_all-grown ts us g methods m_in in let a_is = at-grown ts us g a low in
      is ∙ (λ i. fails w (ty_is i) (m_is i) f (a_is i))

-- ---- the argument at a place

pub none_past : {X : Type 0} (xs : List X) (i : ℕ) → slice_get xs i ≡ None → length xs ≤ i
none_past [] i h = omega arith
none_past (x ∷ xs) zero h = absurd (cc)
none_past (x ∷ xs) (suc i) h = let rest = none_past xs i h in omega arith

pub below_get : (n : ℕ) (ids : List Id) (i : ℕ) (a : Id) → ids_below n ids ≡ true → slice_get ids i ≡ Some a → a.0 < n
below_get n [] i a h e = absurd (cc)
below_get n (x ∷ ids) zero a h e = let same : x ≡ a = cc in let low = ltb-true x.0 n (and_parts (nat_lt x.0 n) (ids_below n ids) h).0 in subst (λ (z : Id). z.0 < n) same low
below_get n (x ∷ ids) (suc i) a h e = below_get n ids i a (and_parts (nat_lt x.0 n) (ids_below n ids) h).1 e

map_get : (ts : List Ty) (ids : List Id) (i : ℕ) (a : Id) → slice_get ids i ≡ Some a → slice_get (at_all ts ids) i ≡ Some (at ts a)
map_get ts [] i a e = absurd (cc)
map_get ts (x ∷ ids) zero a e = let same : x ≡ a = cc in ap (λ (z : Id). Some (at ts z)) same
map_get ts (x ∷ ids) (suc i) a e = map_get ts ids i a e

pub arg_within : (ts : List Ty) (ids : List Id) (i : ℕ) (a : Id) → slice_get ids i ≡ Some a → i < length (at_all ts ids)
arg_within ts ids i a e = slice_get_within (at_all ts ids) i (at ts a) (map_get ts ids i a e)

pub arg_is : (ts : List Ty) (ids : List Id) (i : ℕ) (a : Id) → slice_get ids i ≡ Some a → get_or (at_all ts ids) i (at ts a) ≡ at ts a
arg_is ts ids i a e = get_or_from_slice_get (at_all ts ids) i (at ts a) (at ts a) (map_get ts ids i a e)

-- a tree among keys, once put in
pub listed_put : (ts us : List Ty) (g : Grows ts us) (keys : List KeyNode) (r : Id) (t : Ty) (b : Bool) → keys_below (length ts) keys ≡ true → Spells us r t
    → b ≡ has (keys_at us keys) (made.Tree (at us r)) → b ≡ has (keys_at ts keys) (made.Tree t)
listed_put ts us g keys r t b below spells is = is ∙ ap₂ (λ l x. has l (made.Tree x)) (keys-grown ts us g keys below) spells.is
