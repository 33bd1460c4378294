-- When two keys over one pool are equal.
use Rattle.std.proofs.Common.{◌≡◌, Bool, true, IsTrue, refl, ap}
use Rattle.std.specs.Cmp.{IsPartialEquivalence, IsEquivalence}
use Rattle.type_tree.specs.Same.{same}
use Rattle.type_tree.specs.SameLaws.{same_is, is_same, same_laws}
use Rattle.type_pool.specs.declared.key_nodes.KeyNode.{KeyNode}
use Rattle.type_pool.specs.contracts.key_nodes.KeyNode as node
use Rattle.type_pool.specs.KeyFed.{key_input}

unfoldable pub same_key : KeyNode → KeyNode → Bool
same_key = same node.the_row.coded

pub key_is : (a b : KeyNode) → same_key a b ≡ true → a ≡ b
unfolding same_key
key_is a b h = same_is node.the_row.coded a b h

pub is_key : (a b : KeyNode) → a ≡ b → same_key a b ≡ true
unfolding same_key
is_key a b e = is_same node.the_row.coded a b e

pub same_key_laws : IsPartialEquivalence same_key
unfolding same_key
same_key_laws = same_laws node.the_row.coded

pub same_key_equiv : IsEquivalence same_key
same_key_equiv = record {
  refl = λ x. is_key x x refl;
  symm = same_key_laws.symm;
  congr = λ x y z p. let e = key_is x y p in ap (λ n. same_key n z) e;
}

pub key_respects : (x y : KeyNode) → IsTrue (same_key x y) → key_input x ≡ key_input y
key_respects x y h = ap key_input (key_is x y h)
