-- All ranks, one after the other.
use Rattle.std.proofs.Common.{◌≡◌, ◌≢◌, ◌⊎◌, inl, inr, ℕ, zero, suc, ◌≤◌, ◌<◌, Bool, true, false, List, [], ◌∷◌, Some, slice_get, length, replicate, ap, ◌∙◌, sym, subst, arith, eq-eqb}
use Rattle.std.proofs.lemmas.Bool.{cases_eq, and_parts, ne_eqb}
use Rattle.std.proofs.lemmas.List.{length-replicate}
use Rattle.field_places.specs.declared.shape.Arrangement.{Arrangement}
use Rattle.field_places.specs.declared.shape.Arrangement.TheVariants.{Auto, Sequential, Explicit}
use Rattle.field_places.specs.declared.shape.Content.{Content}
use Rattle.field_places.specs.declared.shape.Content.TheVariants.{Plain, Holds, Reference}
use Rattle.field_places.specs.declared.shape.Shape.{Shape}
use Rattle.field_places.specs.Shapes as are
use Rattle.field_places.specs.Places.{end_of, placed, has_rank, end_in_order, in_order}
use Rattle.field_places.specs.Laws.{Stands, Behind}
use Rattle.field_places.proofs.Orders.{IsShape, shape_is, placed-length, end_of-above, rank_next, rank_places, no_rank}
use Rattle.field_places.proofs.Lawful.{Chosen, others, chosen_stand, chosen_apart}

-- what is known where the ranks above r have been placed
pub record Done (kind : Arrangement) (begin : ℕ) (ss : List Shape) (r at : ℕ) (ps : List ℕ) : Type 0 where
  pub as_long : length ps ≡ length ss
  pub from : begin ≤ at
  pub each : (i q : ℕ) (t : Shape) → Stands ps ss i q t → r < are.rank kind t → Chosen (has_rank kind r) begin at q t
  pub apart : (i j p q : ℕ) (s t : Shape) → i ≢ j → Stands ps ss i p s → Stands ps ss j q t → r < are.rank kind s → r < are.rank kind t → Behind p s q t

module _ (kind : Arrangement) (begin : ℕ) (ss : List Shape) (sound : are.are_shapes ss ≡ true) (r at : ℕ) (ps : List ℕ) (was : Done kind begin ss (suc r) at ps) where
  abbrev chosen : Shape → Bool
  chosen = has_rank kind (suc r)

  abbrev end : ℕ
  end = end_of chosen at ss

  abbrev new : List ℕ
  new = placed chosen at ss ps

  up : at ≤ end
  up = end_of-above chosen at ss sound

  -- of this rank, or placed before
  which : (t : Shape) → r < are.rank kind t → (chosen t ≡ true) ⊎ ((chosen t ≡ false) × (suc r < are.rank kind t))
  which t h = elim (cases_eq (are.rank kind t) (suc r)) [ inl e ↦ inl (eq-eqb _ _ e) | inr ne ↦ inr (ne_eqb _ _ ne, omega arith) ]

  pub rank_done : Done kind begin ss r end new
  rank_done = record {
    as_long = placed-length chosen at ss ps ∙ was.as_long;
    from = let f = was.from in let u = up in omega arith;
    each = λ i q t h above. elim (which t above) [
      | inl here ↦ let c = chosen_stand chosen at ss ps sound i q t h here was.as_long in
          let a = c.above in let f = was.from in record { aligned = c.aligned; above = omega arith; within = c.within }
      | inr past ↦ let c = was.each i q t (others chosen at ss ps i q t h past.0) past.1 in
          let w = c.within in let u = up in record { aligned = c.aligned; above = c.above; within = omega arith }
    ];
    apart = λ i j p q s t ne h k hs ht. elim (which s hs) [
      | inl s_here ↦ elim (which t ht) [
        | inl t_here ↦ chosen_apart chosen at ss ps sound was.as_long i j p q s t ne h k s_here t_here
        | inr t_past ↦ inr (
            let a = (chosen_stand chosen at ss ps sound i p s h s_here was.as_long).above in
            let b = (was.each j q t (others chosen at ss ps j q t k t_past.0) t_past.1).within in omega arith)
      ]
      | inr s_past ↦ elim (which t ht) [
        | inl t_here ↦ inl (
            let a = (chosen_stand chosen at ss ps sound j q t k t_here was.as_long).above in
            let b = (was.each i p s (others chosen at ss ps i p s h s_past.0) s_past.1).within in omega arith)
        | inr t_past ↦ was.apart i j p q s t ne (others chosen at ss ps i p s h s_past.0) (others chosen at ss ps j q t k t_past.0) s_past.1 t_past.1
      ]
    ];
  }

pub all_done : (kind : Arrangement) (begin : ℕ) (ss : List Shape) → are.are_shapes ss ≡ true → (r at : ℕ) (ps : List ℕ) → Done kind begin ss r at ps → Done kind begin ss 0 (end_in_order kind r at ss) (in_order kind r at ss ps)
all_done kind begin ss sound zero at ps was =
    subst (λ (n : ℕ). Done kind begin ss 0 n (in_order kind 0 at ss ps)) (sym (no_rank kind at ss ps).0)
    (subst (λ (l : List ℕ). Done kind begin ss 0 at l) (sym (no_rank kind at ss ps).1) was)
all_done kind begin ss sound (suc r) at ps was =
    subst (λ (n : ℕ). Done kind begin ss 0 n (in_order kind (suc r) at ss ps)) (sym (rank_next kind r at ss ps))
    (subst (λ (l : List ℕ). Done kind begin ss 0 (end_in_order kind r (end_of (has_rank kind (suc r)) at ss) ss) l) (sym (rank_places kind r at ss ps))
    (all_done kind begin ss sound r (end_of (has_rank kind (suc r)) at ss) (placed (has_rank kind (suc r)) at ss ps) (rank_done kind begin ss sound r at ps was)))

falling_bounds : (s : Shape) → IsShape s → (0 < are.falling s) × (are.falling s ≤ 9)
falling_bounds s h = by s.content
  where
    by : (c : Content) → (0 < are.falling (record { size = s.size; align = s.align; content = c })) × (are.falling (record { size = s.size; align = s.align; content = c }) ≤ 9)
    by Plain = let a = h.aligned in let b = h.align_few in (omega arith, omega arith)
    by Holds = let a = h.aligned in let b = h.align_few in (omega arith, omega arith)
    by Reference = (omega arith, omega arith)

pub rank_bounds : (kind : Arrangement) (s : Shape) → IsShape s → (0 < are.rank kind s) × (are.rank kind s ≤ 9)
rank_bounds Auto s h = falling_bounds s h
rank_bounds Explicit s h = falling_bounds s h
rank_bounds Sequential s h = (omega arith, omega arith)

pub shape_of_stand : (ss : List Shape) (ps : List ℕ) → are.are_shapes ss ≡ true → (i q : ℕ) (t : Shape) → Stands ps ss i q t → are.is_shape t ≡ true
shape_of_stand ss ps sound i q t h = by ss sound i h.takes
  where
    by : (ss : List Shape) → are.are_shapes ss ≡ true → (i : ℕ) → slice_get ss i ≡ Some t → are.is_shape t ≡ true
    by [] sound i e = absurd (cc)
    by (s ∷ ss) sound zero e = let same : s ≡ t = cc in sym (ap are.is_shape same) ∙ (and_parts _ _ sound).0
    by (s ∷ ss) sound (suc i) e = by ss (and_parts _ _ sound).1 i e

-- fields in order, after the last rank
pub ordered_done : (kind : Arrangement) (begin : ℕ) (ss : List Shape) → are.are_shapes ss ≡ true → Done kind begin ss 0 (end_in_order kind 9 begin ss) (in_order kind 9 begin ss (replicate (length ss) 0))
ordered_done kind begin ss sound = all_done kind begin ss sound 9 begin (replicate (length ss) 0) (record {
  as_long = length-replicate (length ss) 0;
  from = omega arith;
  each = λ i q t h above. absurd (let b = (rank_bounds kind t (shape_is t (shape_of_stand ss _ sound i q t h))).1 in omega arith);
  apart = λ i j p q s t ne h k above_s above_t. absurd (let b = (rank_bounds kind t (shape_is t (shape_of_stand ss _ sound j q t k))).1 in omega arith);
})
