-- The first of some faults that holds, while they are looked at one by one.
use Rattle.std.proofs.Common.{◌≡◌, ℕ, ◌+◌, ◌<◌, Bool, true, false, cond, List, ◌∷◌, length, drop, drop-cons, slice_index_or, Some, ap, ◌∙◌, sym, add-one}
use Rattle.load_events.specs.declared.load_fault.LoadFault.{LoadFault}
use Rattle.type_judge.specs.Table.{first_of}

module _ (fs : List LoadFault) (i : ℕ) (d : LoadFault) (low : i < length fs) (h : LoadFault → Bool) (left : first_of h (drop i fs) ≡ first_of h fs) where
  row : drop i fs ≡ slice_index_or fs i d ∷ drop (i + 1) fs
  row = rw add-one (drop-cons fs i d low)

  here : cond (h (slice_index_or fs i d)) (Some (slice_index_or fs i d)) (first_of h (drop (i + 1) fs)) ≡ first_of h fs
  here = sym (ap (first_of h) row) ∙ left

  pub found : h (slice_index_or fs i d) ≡ true → Some (slice_index_or fs i d) ≡ first_of h fs
  found e = sym (ap (λ (b : Bool). cond b (Some (slice_index_or fs i d)) (first_of h (drop (i + 1) fs))) e) ∙ here

  pub missed : h (slice_index_or fs i d) ≡ false → first_of h (drop (i + 1) fs) ≡ first_of h fs
  missed e = sym (ap (λ (b : Bool). cond b (Some (slice_index_or fs i d)) (first_of h (drop (i + 1) fs))) e) ∙ here
