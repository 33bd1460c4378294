use Rattle.std.proofs.Common.{◌≡◌, ℕ, ◌+◌, ◌++◌, [], ◌∷◌, ◌∙◌, sym, ap, ap₂, map, refl, arith}
use Rattle.std.specs.List.{range_with_len}
use Rattle.core_types.specs.CoreLibrary.{def_of, defs, methods_before}
use Rattle.core_types.proofs.CoreFacts.{before_more}
use Rattle.clr_base.proofs.Ranges.{map_more}
use Rattle.core_types.proofs.core_parts.defs.Goals as goal

pub loop-number-init : goal.loop-number-init
unfolding methods_before
loop-number-init c = record { so_far = c.new-defs.ensures; before = refl; few = omega arith }

pub loop-number-preserved : goal.loop-number-preserved
loop-number-preserved c = record {
  so_far =
      c.in_ok-push.ensures.ok ∙ ap₂ (λ xs x. xs ++ x ∷ []) c.loop-number.invariant.so_far c.in_ok-def_of.ensures
      ∙ sym (map_more def_of c.loop-number.number);
  before =
      ap₂ ◌+◌ c.loop-number.invariant.before c.method_count.ensures.exact ∙ sym (before_more c.loop-number.number);
  few = let before = c.loop-number.invariant.few in let more = c.method_count.ensures.small in omega arith;
}

pub returns : goal.returns
unfolding defs
returns c =
    let all : c.loop-number.number ≡ 36 = omega arith in
    c.loop-number.invariant.so_far ∙ ap (λ (n : ℕ). map def_of (range_with_len 0 n)) all
