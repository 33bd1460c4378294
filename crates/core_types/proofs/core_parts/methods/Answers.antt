use Rattle.std.proofs.Common.{◌≡◌, ℕ, ◌∙◌, ap, arith}
use Rattle.std.specs.List.{flat_map, range_with_len}
use Rattle.core_types.specs.CoreLibrary.{methods, methods_of}
use Rattle.core_types.proofs.core_parts.methods.Goals as goal

pub returns : goal.returns
unfolding methods
returns c =
    let all : c.loop-number.number ≡ 36 = omega arith in
    c.loop-number.invariant ∙ ap (λ (n : ℕ). flat_map methods_of (range_with_len 0 n)) all
