-- When two names and signatures over one pool are equal, and what they feed a hasher.
use Rattle.std.proofs.Common.{◌≡◌, ℕ, Bool, true, List, ◌++◌, IsTrue, refl, ap}
use Rattle.std.specs.Cmp.{IsPartialEquivalence, IsEquivalence}
use Rattle.std.specs.Hash as fed
use Rattle.type_pool.specs.Fed.{ids_input}
use Rattle.type_tree.specs.Same.{same}
use Rattle.type_tree.specs.SameLaws.{same_is, is_same, same_laws}
use Rattle.method_slots.specs.declared.opens.OpenMethod.{OpenMethod}
use Rattle.method_slots.specs.contracts.opens.OpenMethod as row

unfoldable pub same_numbers : OpenMethod → OpenMethod → Bool
same_numbers = same row.the_row.coded

pub numbers_are : (a b : OpenMethod) → same_numbers a b ≡ true → a ≡ b
unfolding same_numbers
numbers_are a b h = same_is row.the_row.coded a b h

pub are_numbers : (a b : OpenMethod) → a ≡ b → same_numbers a b ≡ true
unfolding same_numbers
are_numbers a b e = is_same row.the_row.coded a b e

pub same_numbers_laws : IsPartialEquivalence same_numbers
unfolding same_numbers
same_numbers_laws = same_laws row.the_row.coded

pub same_numbers_equiv : IsEquivalence same_numbers
same_numbers_equiv = record {
  refl = λ x. are_numbers x x refl;
  symm = same_numbers_laws.symm;
  congr = λ x y z p. let e = numbers_are x y p in ap (λ n. same_numbers n z) e;
}

abbrev pub open_input : OpenMethod → List (List ℕ)
open_input o = fed.u32 o.name.0 ++ fed.u32 o.ret.0 ++ ids_input o.params

pub open_respects : (x y : OpenMethod) → IsTrue (same_numbers x y) → open_input x ≡ open_input y
open_respects x y h = ap open_input (numbers_are x y h)
