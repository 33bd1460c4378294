-- Fields in order stand least, and only they do.
use Rattle.std.proofs.Common.{◌≡◌, ◌⊎◌, inl, inr, ℕ, zero, suc, ◌+◌, ◌≤◌, ◌<◌, ◌%◌, Bool, true, false, List, length, get_or, replicate, refl, ◌∙◌, sym, subst, arith, eqb-true, eq-eqb}
use Rattle.std.proofs.lemmas.Bool.{cases_eq, ne_eqb}
use Rattle.std.proofs.lemmas.List.{length-replicate}
use Rattle.std.proofs.lemmas.Option.{slice_get_within, slice_get-get_or}
use Rattle.field_places.specs.declared.shape.Arrangement.{Arrangement}
use Rattle.field_places.specs.declared.shape.Arrangement.TheVariants.{Auto, Sequential, Explicit}
use Rattle.field_places.specs.declared.shape.Shape.{Shape}
use Rattle.field_places.specs.Shapes as are
use Rattle.field_places.specs.Places.{end_of, placed, has_rank, end_in_order, in_order}
use Rattle.field_places.specs.Standing.{Stands, Before, StandLeast}
use Rattle.field_places.proofs.Orders.{shape_is, placed-length, end_of-above, rank_next, rank_places, no_rank}
use Rattle.field_places.proofs.Lawful.{others, chosen_stand}
use Rattle.field_places.proofs.LawfulRanks.{Done, rank_done, rank_bounds, shape_of_stand}
use Rattle.field_places.proofs.RankRuns.{Run, run_is, run_order, run_least, run_tight}

-- ---- the order by ranks

-- of higher rank, or of the same and declared before
abbrev pub Ahead : Arrangement → ℕ → Shape → ℕ → Shape → Type 0
Ahead kind i s j t = (are.rank kind t < are.rank kind s) ⊎ ((are.rank kind s ≡ are.rank kind t) × (i < j))

pub ahead_from : (kind : Arrangement) (i : ℕ) (s : Shape) (j : ℕ) (t : Shape) → Before kind i s j t → Ahead kind i s j t
ahead_from Auto i s j t h = h
ahead_from Explicit i s j t h = h
ahead_from Sequential i s j t h = inr (refl, h)

pub before_from : (kind : Arrangement) (i : ℕ) (s : Shape) (j : ℕ) (t : Shape) → Ahead kind i s j t → Before kind i s j t
before_from Auto i s j t h = h
before_from Explicit i s j t h = h
before_from Sequential i s j t (inl h) = absurd (omega arith)
before_from Sequential i s j t (inr h) = h.1

-- ---- what is placed stands least

-- behind the fields of some ranks
abbrev pub Past : Arrangement → ℕ → List ℕ → List Shape → ℕ → Type 0
Past kind r ps ss m = (i p : ℕ) (s : Shape) → Stands ps ss i p s → r < are.rank kind s → p + s.size ≤ m

-- behind the fields ahead of one
abbrev pub Follows : Arrangement → List ℕ → List Shape → ℕ → Shape → ℕ → Type 0
Follows kind ps ss j t m = (i p : ℕ) (s : Shape) → Stands ps ss i p s → Ahead kind i s j t → p + s.size ≤ m

-- what is known where the ranks above r have been placed, and end at `at`
pub record Tight (kind : Arrangement) (begin : ℕ) (ss : List Shape) (r at : ℕ) (ps : List ℕ) : Type 0 where
  pub done : Done kind begin ss r at ps
  pub order : (j q : ℕ) (t : Shape) → Stands ps ss j q t → r < are.rank kind t → Follows kind ps ss j t q
  pub least : (j q m : ℕ) (t : Shape) → Stands ps ss j q t → r < are.rank kind t → begin ≤ m → m % t.align ≡ 0 → Follows kind ps ss j t m → q ≤ m
  pub tight : (m : ℕ) → begin ≤ m → Past kind r ps ss m → at ≤ m

module _ (kind : Arrangement) (begin : ℕ) (ss : List Shape) (sound : are.are_shapes ss ≡ true) (r at : ℕ) (ps : List ℕ) (was : Tight kind begin ss (suc r) at ps) where
  abbrev chosen : Shape → Bool
  chosen = has_rank kind (suc r)

  abbrev end : ℕ
  end = end_of chosen at ss

  abbrev new : List ℕ
  new = placed chosen at ss ps

  run : Run chosen at ss new end
  run = run_is chosen at ss ps was.done.as_long

  is_now : (t : Shape) → chosen t ≡ true → are.rank kind t ≡ suc r
  is_now t h = eqb-true (are.rank kind t) (suc r) h

  now_is : (t : Shape) → are.rank kind t ≡ suc r → chosen t ≡ true
  now_is t h = eq-eqb (are.rank kind t) (suc r) h

  not_now : (t : Shape) → suc r < are.rank kind t → chosen t ≡ false
  not_now t h = ne_eqb (are.rank kind t) (suc r) (λ e. omega arith)

  -- of this rank, or placed before
  which : (t : Shape) → r < are.rank kind t → (chosen t ≡ true) ⊎ (suc r < are.rank kind t)
  which t h = elim (cases_eq (are.rank kind t) (suc r)) [ inl e ↦ inl (now_is t e) | inr ne ↦ inr (omega arith) ]

  -- a field that was placed before stands where it did
  stood : (i p : ℕ) (s : Shape) → Stands new ss i p s → suc r < are.rank kind s → Stands ps ss i p s
  stood i p s h high = others chosen at ss ps i p s h (not_now s high)

  stands_on : (i p : ℕ) (s : Shape) → Stands ps ss i p s → suc r < are.rank kind s → Stands new ss i p s
  stands_on i p s h high =
      let long : length new ≡ length ps = placed-length chosen at ss ps in
      let low = slice_get_within ps i p h.at in
      let there : Stands new ss i (get_or new i 0) s = record { at = slice_get-get_or new i 0 (omega arith); takes = h.takes } in
      let back = (stood i (get_or new i 0) s there high).at in
      let was_at = h.at in
      let same : get_or new i 0 ≡ p = cc in
      subst (λ (n : ℕ). Stands new ss i n s) same there

  up : at ≤ end
  up = end_of-above chosen at ss sound

  -- a field of this rank is past those before, and behind those of this rank that are declared before
  order_now : (j q : ℕ) (t : Shape) → Stands new ss j q t → r < are.rank kind t → Follows kind new ss j t q
  order_now j q t k high i p s h ahead = elim (which t high) [
    | inl now ↦ elim ahead [
      | inl above ↦
          let e = is_now t now in
          let c = was.done.each i p s (stood i p s h (omega arith)) (omega arith) in
          let a = (chosen_stand chosen at ss ps sound j q t k now was.done.as_long).above in
          let b = c.within in omega arith
      | inr tied ↦ let e = is_now t now in run_order chosen run sound i j p q s t tied.1 h k (now_is s (tied.0 ∙ e)) now
    ]
    | inr past ↦
        let high_s : suc r < are.rank kind s = elim ahead [ inl above ↦ omega arith | inr tied ↦ let e = tied.0 in omega arith ] in
        was.order j q t (stood j q t k past) past i p s (stood i p s h high_s) ahead
  ]

  -- whatever is past those before
  past_before : (m : ℕ) → begin ≤ m → ((i p : ℕ) (s : Shape) → Stands new ss i p s → suc r < are.rank kind s → p + s.size ≤ m) → at ≤ m
  past_before m from h = was.tight m from (λ i p s k high. h i p s (stands_on i p s k high) high)

  least_now : (j q m : ℕ) (t : Shape) → Stands new ss j q t → r < are.rank kind t → begin ≤ m → m % t.align ≡ 0 → Follows kind new ss j t m → q ≤ m
  least_now j q m t k high from aligned follows = elim (which t high) [
    | inl now ↦
        let e = is_now t now in
        run_least chosen run sound j q m t k now
        (past_before m from (λ i p s h above. follows i p s h (inl (omega arith)))) aligned
        (λ i p s lt h cs. follows i p s h (inr (is_now s cs ∙ sym e, lt)))
    | inr past ↦ was.least j q m t (stood j q t k past) past from aligned (λ i p s h ahead.
        let high_s : suc r < are.rank kind s = elim ahead [ inl above ↦ omega arith | inr tied ↦ let e = tied.0 in omega arith ] in
        follows i p s (stands_on i p s h high_s) ahead)
  ]

  pub tight_next : Tight kind begin ss r end new
  tight_next = record {
    done = rank_done kind begin ss sound r at ps was.done;
    order = order_now;
    least = least_now;
    tight = λ m from past. run_tight chosen run m (past_before m from (λ i p s h above. past i p s h (omega arith))) (λ i p s h cs. let e = is_now s cs in past i p s h (omega arith));
  }

tight_all : (kind : Arrangement) (begin : ℕ) (ss : List Shape) → are.are_shapes ss ≡ true → (r at : ℕ) (ps : List ℕ) → Tight kind begin ss r at ps → Tight kind begin ss 0 (end_in_order kind r at ss) (in_order kind r at ss ps)
tight_all kind begin ss sound zero at ps was =
    subst (λ (n : ℕ). Tight kind begin ss 0 n (in_order kind 0 at ss ps)) (sym (no_rank kind at ss ps).0)
    (subst (λ (l : List ℕ). Tight kind begin ss 0 at l) (sym (no_rank kind at ss ps).1) was)
tight_all kind begin ss sound (suc r) at ps was =
    subst (λ (n : ℕ). Tight kind begin ss 0 n (in_order kind (suc r) at ss ps)) (sym (rank_next kind r at ss ps))
    (subst (λ (l : List ℕ). Tight kind begin ss 0 (end_in_order kind r (end_of (has_rank kind (suc r)) at ss) ss) l) (sym (rank_places kind r at ss ps))
    (tight_all kind begin ss sound r (end_of (has_rank kind (suc r)) at ss) (placed (has_rank kind (suc r)) at ss ps) (tight_next kind begin ss sound r at ps was)))

module _ (kind : Arrangement) (begin : ℕ) (ss : List Shape) (sound : are.are_shapes ss ≡ true) where
  abbrev places : List ℕ
  places = in_order kind 9 begin ss (replicate (length ss) 0)

  none_above : (ps : List ℕ) (i q : ℕ) (t : Shape) → Stands ps ss i q t → 9 < are.rank kind t → ⊥
  none_above ps i q t h above = let b = (rank_bounds kind t (shape_is t (shape_of_stand ss ps sound i q t h))).1 in omega arith

  pub some_rank : (ps : List ℕ) (i q : ℕ) (t : Shape) → Stands ps ss i q t → 0 < are.rank kind t
  some_rank ps i q t h = (rank_bounds kind t (shape_is t (shape_of_stand ss ps sound i q t h))).0

  pub tight_done : Tight kind begin ss 0 (end_in_order kind 9 begin ss) places
  tight_done = let zeros : List ℕ = replicate (length ss) 0 in tight_all kind begin ss sound 9 begin zeros (record {
    done = record {
      as_long = length-replicate (length ss) 0;
      from = omega arith;
      each = λ i q t h above. absurd (none_above zeros i q t h above);
      apart = λ i j p q s t ne h k above_s above_t. absurd (none_above zeros i p s h above_s);
    };
    order = λ j q t k above. absurd (none_above zeros j q t k above);
    least = λ j q m t k above. absurd (none_above zeros j q t k above);
    tight = λ m from past. from;
  })

  pub stands_least : StandLeast kind begin ss places
  stands_least = let all = tight_done in record {
    as_long = all.done.as_long;
    free = λ j q t k. let c = all.done.each j q t k (some_rank places j q t k) in record {
      aligned = c.aligned;
      above = c.above;
      behind = λ i p s h before. all.order j q t k (some_rank places j q t k) i p s h (ahead_from kind i s j t before);
    };
    least = λ j q m t k free. all.least j q m t k (some_rank places j q t k) free.above free.aligned (λ i p s h ahead. free.behind i p s h (before_from kind i s j t ahead));
  }
