-- A chain of tests: one that fails makes the chain fail.
use Rattle.std.proofs.Common.{◌≡◌, Bool, true, false, ◌&&◌, refl, sym}

pub fails_last : (x y : Bool) → y ≡ false → false ≡ (x && y)
fails_last true y e = sym e
fails_last false y e = refl

pub fails_before : (x y : Bool) → false ≡ x → false ≡ (x && y)
fails_before true y e = cc
fails_before false y e = refl

pub both_hold : (x y : Bool) → true ≡ x → true ≡ y → true ≡ (x && y)
both_hold true y e f = f
both_hold false y e f = e
