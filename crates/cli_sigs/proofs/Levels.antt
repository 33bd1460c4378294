-- A type by its first code and the levels that are left.
use Rattle.std.proofs.Common.{◌≡◌, ℕ, zero, suc, ◌-◌, ◌<◌, ◌≤◌, List, [], ◌∷◌, length, get_or, drop, Some, None, refl, arith}
use Rattle.cli_sigs.specs.declared.element.Simple.{Simple}
use Rattle.cli_sigs.specs.declared.element.Constructor.{Constructor}
use Rattle.cli_sigs.specs.declared.signature.RowCounts.{RowCounts}
use Rattle.cli_sigs.specs.Element.{simple_of, constructor_of}
use Rattle.cli_sigs.specs.Types.{type_at, level_at, simple_at, constructed_at}

pub type_at-last : (counts : RowCounts) (levels : ℕ) (bytes : List ℕ) → levels ≤ 0 → type_at counts levels bytes ≡ level_at counts None bytes
unfolding type_at
type_at-last counts zero bytes h = refl
type_at-last counts (suc levels) bytes h = absurd (omega arith)

pub type_at-deeper : (counts : RowCounts) (levels : ℕ) (bytes : List ℕ) → 0 < levels → type_at counts levels bytes ≡ level_at counts (Some (type_at counts (levels - 1))) bytes
unfolding type_at
type_at-deeper counts zero bytes h = absurd (omega arith)
type_at-deeper counts (suc levels) bytes h = let e : suc levels - 1 ≡ levels = omega arith in rw e refl

module _ (counts : RowCounts) where
  pub type_at-simple : (levels : ℕ) (code : ℕ) (rest : List ℕ) (simple : Simple) → simple_of code ≡ Some simple → type_at counts levels (code ∷ rest) ≡ simple_at counts code simple rest
  unfolding type_at level_at
  type_at-simple zero code rest simple h = rw h refl
  type_at-simple (suc levels) code rest simple h = rw h refl

  pub type_at-constructor : (levels : ℕ) (code : ℕ) (rest : List ℕ) (constructor : Constructor) → simple_of code ≡ None → constructor_of code ≡ Some constructor → 0 < levels
      → type_at counts levels (code ∷ rest) ≡ constructed_at counts (type_at counts (levels - 1)) constructor rest
  unfolding level_at
  type_at-constructor levels code rest constructor h k lt = rw (type_at-deeper counts levels (code ∷ rest) lt, h, k) refl

  -- the same of a list by its parts
  pub simple_first : (levels : ℕ) (bytes : List ℕ) (simple : Simple) → 1 ≤ length bytes → simple_of (get_or bytes 0 0) ≡ Some simple
      → type_at counts levels bytes ≡ simple_at counts (get_or bytes 0 0) simple (drop 1 bytes)
  simple_first levels [] simple some h = absurd (omega arith)
  simple_first levels (code ∷ rest) simple some h = type_at-simple levels code rest simple h

  pub constructor_first : (levels : ℕ) (bytes : List ℕ) (constructor : Constructor) → 1 ≤ length bytes → simple_of (get_or bytes 0 0) ≡ None → constructor_of (get_or bytes 0 0) ≡ Some constructor → 0 < levels
      → type_at counts levels bytes ≡ constructed_at counts (type_at counts (levels - 1)) constructor (drop 1 bytes)
  constructor_first levels [] constructor some h k lt = absurd (omega arith)
  constructor_first levels (code ∷ rest) constructor some h k lt = type_at-constructor levels code rest constructor h k lt

pub ruleset levels = (type_at-last, type_at-deeper)
