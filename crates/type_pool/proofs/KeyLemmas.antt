-- Keys over a pool.
use Rattle.std.proofs.Common.{◌≡◌, ℕ, ◌≤◌, true, List, [], length, map, refl, ap, ap₂, ◌∙◌, sym}
use Rattle.std.proofs.lemmas.Bool.{and_parts, lt-ltb}
use Rattle.clr_base.specs.declared.ids.MethId.{MethId}
use Rattle.type_tree.specs.declared.tree.Ty.{Ty}
use Rattle.type_tree.specs.declared.tree.Ty.TheVariants as ty
use Rattle.type_tree.specs.declared.tree.Key as key
use Rattle.type_tree.specs.declared.tree.Key.TheVariants as made
use Rattle.type_tree.specs.Context.{arguments, arguments_at}
use Rattle.type_pool.specs.declared.nodes.Id.{Id}
use Rattle.type_pool.specs.declared.nodes.Node.{Node}
use Rattle.type_pool.specs.declared.nodes.Node.TheVariants.{Inst, Array, ByRef, Ptr, Var, MVar, Missing, Odd}
use Rattle.type_pool.specs.declared.key_nodes.KeyNode.{KeyNode}
use Rattle.type_pool.specs.declared.key_nodes.KeyNode.TheVariants.{Tree, Meth}
use Rattle.type_pool.specs.Trees.{at, at_all, tree_of, ids_below, parts_below, EachOnce, Grows, Spells}
use Rattle.type_pool.specs.Jobs.{SpellAll}
use Rattle.type_pool.specs.Keys.{arguments_of, key_at, key_below, SpellsKey}
use Rattle.type_pool.proofs.JobLemmas.{spells-grown, below-grown}
use Rattle.type_pool.proofs.Levels.{all_found}
use Rattle.type_pool.proofs.Sound.{find, found}

-- what a key is made of

abbrev owner_at : key.Key → Ty
owner_at (made.Tree t) = t
owner_at (made.Meth k) = k.owner

abbrev method_at : key.Key → MethId
method_at (made.Tree t) = record { 0 = 0 }
method_at (made.Meth k) = k.method

abbrev args_at : key.Key → List Ty
args_at (made.Tree t) = []
args_at (made.Meth k) = k.args

module _ (ts : List Ty) (once : EachOnce ts) where
  one : (a b : Id) → key_below (length ts) (Tree a) ≡ true → key_below (length ts) (Tree b) ≡ true → at ts a ≡ at ts b → a ≡ b
  one a b p q e = sym (found ts once a p) ∙ ap (find ts) e ∙ found ts once b q

  all_one : (xs ys : List Id) → ids_below (length ts) xs ≡ true → ids_below (length ts) ys ≡ true → at_all ts xs ≡ at_all ts ys → xs ≡ ys
  all_one xs ys p q e = sym (all_found ts (find ts) (found ts once) xs p) ∙ ap (map (find ts)) e ∙ all_found ts (find ts) (found ts once) ys q

  -- equal keys over a pool are one
  pub one_key : (a b : KeyNode) → key_below (length ts) a ≡ true → key_below (length ts) b ≡ true → key_at ts a ≡ key_at ts b → a ≡ b
  one_key (Tree a) (Tree b) p q e = ap Tree (one a b p q (ap owner_at e))
  one_key (Tree a) (Meth o m xs) p q e = absurd (cc)
  one_key (Meth o m xs) (Tree b) p q e = absurd (cc)
  one_key (Meth o m xs) (Meth u n ys) p q e =
      let ps = and_parts _ _ p in
      let qs = and_parts _ _ q in
      let owners = one o u ps.0 qs.0 (ap owner_at e) in
      let methods = ap method_at e in
      let args = all_one xs ys ps.1 qs.1 (ap args_at e) in
      λ i. Meth (owners i) (methods i) (args i)

-- the arguments of a tree, by its level
pub arguments-tree : (ts : List Ty) (n : Node) → arguments (tree_of ts n) ≡ at_all ts (arguments_of n)
arguments-tree ts (Inst d parts) = ap arguments_at (ty.outs-Inst d (at_all ts parts))
arguments-tree ts (Array part) = ap arguments_at (ty.outs-Array (at ts part))
arguments-tree ts (ByRef part) = ap arguments_at (ty.outs-ByRef (at ts part))
arguments-tree ts (Ptr part) = ap arguments_at (ty.outs-Ptr (at ts part))
arguments-tree ts (Var n) = ap arguments_at (ty.outs-Var n)
arguments-tree ts (MVar n) = ap arguments_at (ty.outs-MVar n)
arguments-tree ts (Missing name value) = ap arguments_at (ty.outs-Missing name value)
arguments-tree ts (Odd code) = ap arguments_at (ty.outs-Odd code)

pub arguments-below : (n : ℕ) (node : Node) → parts_below n node ≡ true → ids_below n (arguments_of node) ≡ true
arguments-below n (Inst d parts) h = h
arguments-below n (Array part) h = refl
arguments-below n (ByRef part) h = refl
arguments-below n (Ptr part) h = refl
arguments-below n (Var m) h = refl
arguments-below n (MVar m) h = refl
arguments-below n (Missing name value) h = refl
arguments-below n (Odd code) h = refl

-- the numbers of a method key, where its owner was put in before its arguments
pub meth_spells : (mid new : List Ty) (o : Id) (m : MethId) (xs : List Id) (owner : Ty) (args args' : List Ty) (k : key.Key)
    → Spells mid o owner → Grows mid new → SpellAll new xs args → args ≡ args' → made.Meth (record { owner = owner; method = m; args = args' }) ≡ k
    → SpellsKey new (Meth o m xs) k
meth_spells mid new o m xs owner args args' k first g rest same is =
    let kept = spells-grown mid new g o owner first in
    let all = rest.are ∙ same in
    let low = lt-ltb o.0 (length new) kept.within in
    let key_is : key_at new (Meth o m xs) ≡ made.Meth (record { owner = owner; method = m; args = args' }) =
    λ i. made.Meth (record { owner = kept.is i; method = m; args = all i }) in
    record { within = rw low rest.within; is = key_is ∙ is }

-- the arguments of a method key over a pool
pub args_below : (ts : List Ty) (k : KeyNode) (o : Id) (m : MethId) (xs : List Id) → key_below (length ts) k ≡ true → k ≡ Meth o m xs
    → ids_below (length ts) xs ≡ true
args_below ts k o m xs within is = let was : key_below (length ts) (Meth o m xs) ≡ true = ap (key_below (length ts)) (sym is) ∙ within in (and_parts _ _ was).1
