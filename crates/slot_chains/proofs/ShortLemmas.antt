-- How long chains and lists of numbers are.
use Rattle.std.proofs.Common.{◌≡◌, ℕ, zero, suc, ◌+◌, ◌<◌, ◌≤◌, Bool, true, false, cond, List, [], ◌∷◌, length, map, Option, None, Some, slice_get, refl, ap, ◌∙◌, arith, length-append, drop, Result, Ok, Err, IfOk, OnOk}
use Rattle.std.proofs.lemmas.List.{length-map, length-take}
use Rattle.std.specs.Option.{option_map_or}
use Rattle.type_tree.specs.declared.definition.Def.{Def}
use Rattle.type_tree.specs.declared.definition.Method.{Method}
use Rattle.type_tree.specs.declared.tree.Ty.{Ty}
use Rattle.type_tree.specs.Context.{arguments}
use Rattle.type_tree.specs.Kinds.{head}
use Rattle.type_tree.specs.World.{Facts}
use Rattle.method_slots.specs.Chains as chains
use Rattle.method_slots.specs.Chains.{chain_at, handed_on, parents_of, longest_chain, inherited}
use Rattle.method_slots.specs.Numbers as numbers
use Rattle.method_slots.specs.Opens.{Open, open_of}
use Rattle.method_slots.specs.Slots.{in_own, is_interface, matches, takes_slot, has_newslot, own_methods, overridden}
use Rattle.slot_chains.specs.Levels.{IsDef}
use Rattle.slot_chains.proofs.LevelLemmas.{put_tree, numbers_is}

handed-short : (above : ℕ → List Ty) (k : ℕ) → ((p : ℕ) → length (above p) ≤ k) → (o : Option Ty) → length (handed_on put_tree above o) ≤ k
handed-short above k each None = omega arith
handed-short above k each (Some t) = through (head t)
  where
    through : (h : Option ℕ) → length (map (put_tree (arguments t)) (option_map_or above h [])) ≤ k
    through None = omega arith
    through (Some p) = let e = each p in let m = length-map (above p) (put_tree (arguments t)) in omega (arith, e, m)

chain_at-short : (above : ℕ → List Ty) (k : ℕ) → ((p : ℕ) → length (above p) ≤ k) → (n : ℕ) (o : Option Def) → length (chain_at above n o) ≤ suc k
chain_at-short above k each n None = omega arith
chain_at-short above k each n (Some d) =
    let given = handed_on put_tree above d.parent in
    let e = handed-short above k each d.parent in
    let m = length-append given (in_own n d ∷ []) in omega (arith, e, m)

chain-short : (w : Facts) (k n : ℕ) → length (chains.chain k w n) ≤ k
unfolding chains.chain
chain-short w zero n = omega arith
chain-short w (suc k) n = chain_at-short (chains.chain k w) k (chain-short w k) n (slice_get w.defs n)

parents_of-short : (above : ℕ → List Ty) (k : ℕ) → ((p : ℕ) → length (above p) ≤ k) → (o : Option Def) → length (parents_of above o) ≤ k
parents_of-short above k each None = omega arith
parents_of-short above k each (Some d) = handed-short above k each d.parent

-- there are fewer parents than the longest chain has members
pub parents-short : (w : Facts) (n : ℕ) → length (chains.parents longest_chain w n) < 64
unfolding chains.parents
parents-short w n = let e = parents_of-short (chains.chain 63 w) 63 (chain-short w 63) (slice_get w.defs n) in omega (arith, e)

module _ (slots : List Open) where
  abbrev by : ℕ → List Method → Bool → Option ℕ → List (Option ℕ)
  by free ms takes found = cond takes (elim found [
    | Some n ↦ Some n ∷ numbers.numbers_from matches open_of takes_slot has_newslot slots free ms
    | None ↦ Some free ∷ numbers.numbers_from matches open_of takes_slot has_newslot slots (suc free) ms
  ]) (None ∷ numbers.numbers_from matches open_of takes_slot has_newslot slots free ms)

  step-count : (ms : List Method) → ((free : ℕ) → length (numbers.numbers_from matches open_of takes_slot has_newslot slots free ms) ≡ length ms)
      → (free : ℕ) (takes : Bool) (found : Option ℕ) → length (by free ms takes found) ≡ suc (length ms)
  step-count ms each free false found = ap suc (each free)
  step-count ms each free true (Some n) = ap suc (each free)
  step-count ms each free true None = ap suc (each (suc free))

  pub numbers-count : (ms : List Method) (free : ℕ) → length (numbers.numbers_from matches open_of takes_slot has_newslot slots free ms) ≡ length ms
  numbers-count [] free = refl
  numbers-count (m ∷ ms) free = step-count ms (numbers-count ms) free (takes_slot m) (overridden slots m)

-- the numbers of a class's own methods stand within the world's
pub numbers-short : (w : Facts) (n : ℕ) (d : Def) → IsDef w n d → is_interface d ≡ false → d.first_method + length (chains.numbers longest_chain w n) ≤ 16777215
numbers-short w n d is class =
    let slots : List Open = inherited (chains.openers longest_chain w) d in
    let ms : List Method = own_methods w d in
    let count : length (chains.numbers longest_chain w n) ≡ length ms = ap length (numbers_is w n d is.here is.within class) ∙ numbers-count slots ms (length slots) in
    let cut = length-take d.methods (drop d.first_method w.methods) in
    let few = is.few in
    omega (arith, count, cut, few)

-- three facts on Ok together
pub three_ok : {T E : Type 0} {P Q R S : T → Type 0} (r : Result T E) → IfOk r P → IfOk r Q → IfOk r R → ((x : T) → P x → Q x → R x → S x) → IfOk r S
three_ok (Ok x) p q s f = f x p q s
three_ok (Err e) p q s f = tt

-- what follows on Ok
pub mapped_ok : {T E : Type 0} {P Q : Type 0} (r : Result T E) → OnOk r P → (P → Q) → OnOk r Q
mapped_ok (Ok x) p f = f p
mapped_ok (Err e) p f = tt

pub five_ok : {T E : Type 0} {P Q R S U V : T → Type 0} (r : Result T E) → IfOk r P → IfOk r Q → IfOk r R → IfOk r S → IfOk r U → ((x : T) → P x → Q x → R x → S x → U x → V x) → IfOk r V
five_ok (Ok x) p q r s u f = f x p q r s u
five_ok (Err e) p q r s u f = tt

pub ok_of : {T E : Type 0} {P : T → Type 0} {Q : Type 0} (r : Result T E) → IfOk r P → ((x : T) → P x → Q) → OnOk r Q
ok_of (Ok x) p f = f x p
ok_of (Err e) p f = tt
