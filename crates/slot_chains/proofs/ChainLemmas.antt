-- What goes along a chain of parents doesn't depend on the bound, where the chain is within it.
use Rattle.std.proofs.Common.{◌≡◌, ℕ, zero, suc, ◌+◌, ◌-◌, ◌≤◌, Bool, true, false, true≢false, List, [], Option, None, Some, slice_get, map, refl, ap, ◌∙◌, sym, subst, arith}
use Rattle.std.specs.Option.{option_map_or}
use Rattle.type_tree.specs.declared.definition.Def.{Def}
use Rattle.type_tree.specs.declared.tree.Ty.{Ty}
use Rattle.type_tree.specs.Context.{arguments}
use Rattle.type_tree.specs.Kinds.{head, head_of}
use Rattle.type_tree.specs.World.{Facts}
use Rattle.method_slots.specs.Chains.{chain_within, within_at, handed_on, longest_chain, IsWithin}

-- the parent of the definition n is an instantiation of p
pub record Extends (w : Facts) (n p : ℕ) : Type 0 where
  pub def : Def
  pub here : slice_get w.defs n ≡ Some def
  pub parent : head_of def.parent ≡ Some p

pub within-above : (w : Facts) (k n p : ℕ) → chain_within (suc k) w n ≡ true → Extends w n p → chain_within k w p ≡ true
unfolding chain_within
within-above w k n p h e = sym (ap (within_at (chain_within k w)) e.here ∙ ap (λ o. option_map_or (chain_within k w) o true) e.parent) ∙ h

module _ {B : Type 0} (w : Facts) (along : ℕ → ℕ → B) (step : (ℕ → B) → ℕ → B) (unrolls : (k n : ℕ) → along (suc k) n ≡ step (along k) n)
    (by_parent : (f g : ℕ → B) (n : ℕ) → ((p : ℕ) → Extends w n p → f p ≡ g p) → step f n ≡ step g n) where
  stable : (k n : ℕ) → chain_within k w n ≡ true → along (suc k) n ≡ along k n
  unfolding chain_within
  stable zero n h = absurd (true≢false (sym h))
  stable (suc k) n h = unrolls (suc k) n ∙ by_parent (along (suc k)) (along k) n (λ p e. stable k p (within-above w k n p h e)) ∙ sym (unrolls k n)

  -- one step along the longest chain
  pub unrolled : (n : ℕ) → IsWithin w n → along longest_chain n ≡ step (along longest_chain) n
  unrolled n h = unrolls 63 n ∙ by_parent (along 63) (along longest_chain) n (λ p e. sym (stable 63 p (within-above w 63 n p h e)))

  -- the parent is told alike one member nearer the bound
  pub same_above : (n p : ℕ) → IsWithin w n → Extends w n p → along 63 p ≡ along longest_chain p
  same_above n p h e = sym (stable 63 p (within-above w 63 n p h e))

weaker-through : (f g : ℕ → Bool) → ((p : ℕ) → f p ≡ true → g p ≡ true) → (o : Option ℕ) → option_map_or f o true ≡ true → option_map_or g o true ≡ true
weaker-through f g more None e = e
weaker-through f g more (Some p) e = more p e

weaker-at : (f g : ℕ → Bool) → ((p : ℕ) → f p ≡ true → g p ≡ true) → (o : Option Def) → within_at f o ≡ true → within_at g o ≡ true
weaker-at f g more None e = e
weaker-at f g more (Some d) e = weaker-through f g more (head_of d.parent) e

pub weaker : (w : Facts) (k n : ℕ) → chain_within k w n ≡ true → chain_within (suc k) w n ≡ true
unfolding chain_within
weaker w zero n h = absurd (true≢false (sym h))
weaker w (suc k) n h = weaker-at (chain_within k w) (chain_within (suc k) w) (weaker w k) (slice_get w.defs n) h

-- what a parent hands on is told of the parent alone
module _ {A : Type 0} (put : List Ty → A → A) (f g : ℕ → List A) where
  pub handed-same : (o : Option Ty) → ((p : ℕ) → head_of o ≡ Some p → f p ≡ g p) → handed_on put f o ≡ handed_on put g o
  handed-same None same = refl
  handed-same (Some t) same = through (head t) refl
    where
      through : (h : Option ℕ) → head t ≡ h → map (put (arguments t)) (option_map_or f (head t) []) ≡ map (put (arguments t)) (option_map_or g (head t) [])
      through None e = rw e refl
      through (Some p) e = rw e (ap (map (put (arguments t))) (same p e))

-- ---- the chain of one definition, member by member

pub within-past : (w : Facts) (k n : ℕ) → slice_get w.defs n ≡ None → chain_within (suc k) w n ≡ true
unfolding chain_within
within-past w k n none = ap (within_at (chain_within k w)) none

pub within-root : (w : Facts) (k n : ℕ) (d : Def) → slice_get w.defs n ≡ Some d → head_of d.parent ≡ None → chain_within (suc k) w n ≡ true
unfolding chain_within
within-root w k n d here root = ap (within_at (chain_within k w)) here ∙ ap (λ o. option_map_or (chain_within k w) o true) root

pub within-next : (w : Facts) (k n p : ℕ) → Extends w n p → chain_within (suc k) w n ≡ chain_within k w p
unfolding chain_within
within-next w k n p e = ap (within_at (chain_within k w)) e.here ∙ ap (λ o. option_map_or (chain_within k w) o true) e.parent

pub within-none : (w : Facts) (n : ℕ) → chain_within 0 w n ≡ false
unfolding chain_within
within-none w n = refl

pub within-some : (w : Facts) (k n : ℕ) → chain_within k w n ≡ true → 1 ≤ k
within-some w zero n h = absurd (true≢false (sym h ∙ within-none w n))
within-some w (suc k) n h = omega arith

raised : (w : Facts) (n k m : ℕ) → chain_within k w n ≡ true → chain_within (k + m) w n ≡ true
raised w n k zero h = let e : k ≡ k + 0 = omega arith in subst (λ j. chain_within j w n ≡ true) e h
raised w n k (suc m) h = let e : suc (k + m) ≡ k + suc m = omega arith in subst (λ j. chain_within j w n ≡ true) e (weaker w (k + m) n (raised w n k m h))

pub within-raised : (w : Facts) (k n : ℕ) → k ≤ 64 → chain_within k w n ≡ true → IsWithin w n
within-raised w k n low h = let e : k + (64 - k) ≡ 64 = omega (arith, low) in subst (λ j. chain_within j w n ≡ true) e (raised w n k (64 - k) h)
