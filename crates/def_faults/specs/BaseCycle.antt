-- Inheritance is not circular (ECMA-335 II.22.37, rule on Extends: no type is among its own parents); a
-- chain of more than 64 members is taken for a circle.
use Rattle.std.specs.Prelude.{ℕ, Bool, not}
use Rattle.clr_base.specs.declared.ids.DefId.{DefId}
use Rattle.type_tree.specs.World.{Facts}
use Rattle.def_faults.specs.Chains.{parent, chain_within}

abbrev pub longest_chain : ℕ
longest_chain = 64

abbrev pub is_base_cycle : Facts → DefId → Bool
is_base_cycle w id = not (chain_within (parent w) longest_chain id)
