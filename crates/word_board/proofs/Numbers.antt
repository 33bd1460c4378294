-- The rule of the numbers of passes: what keeps it, and what it says of a pass with which all others are.
use Rattle.std.proofs.Common.{◌≡◌, ℕ, zero, suc, ◌+◌, ◌<◌, ◌≤◌, ◌≢◌, List, [], ◌∷◌, ◌++◌, length, set, get_or, sym, refl, ap, ◌∙◌, subst, inl, inr, ⊎_elim, arith, Bool, cond, false, true, eq-eqb, ne_eqb}
use mathlib.Core.Logic.{dite}
use native.Mathlib.Decide.{ℕ_discrete}
use mathlib.Core.Option.{some, some-injective, some-ne-none}
use lib.ListN.{get_elem?}
use Rattle.word_board.specs.Weights.{total, below}
use Rattle.word_board.specs.Marks.{Has}
use Rattle.word_board.specs.Numbers.{name, draw, numbers, IsUnhanded, if_unhanded, unhanded, over, having, drawing, overs, Numbered}
use Rattle.word_board.specs.Views.{number_of, marked_over, decided, last_drawn, IsPending, IsWhole, drawing_one, overshooting, handing, losing, forked, joined, spent}
use Rattle.word_board.specs.declared.view.Name.{Name}
use Rattle.word_board.specs.declared.view.Fate.{Fate}
use Rattle.word_board.specs.declared.view.Fate.TheVariants.{Pending, Handed, Lost}
use Rattle.word_board.specs.declared.view.Draw.{Draw}
use Rattle.word_board.specs.declared.view.View.{View}
use Rattle.word_board.proofs.Sums.{at_set, set_else, at_snoc, total-append, total-set, term_le, terms_le, below-one, only, only-same, below-once, below-has, below-there, total-same, below_more, has_total, total-some, has-some, total-one, total-alone}
use Rattle.word_board.proofs.Lists.{has_append, map_left, map_right}

overs_le : (ns : List Name) → total over ns ≤ total (λ (n : Name). 1) ns
overs_le [] = omega arith
overs_le (n ∷ ns) = elim n.over as (λ b. cond b 1 0 + total over ns ≤ 1 + total (λ (n : Name). 1) ns) [ true ↦ omega (arith, overs_le ns) | false ↦ omega (arith, overs_le ns) ]

below_one : (f : ℕ → ℕ) → below f (0 + 1) ≡ f 0
below_one f = let e : 0 + 1 ≡ suc 0 = refl in omega (arith, ap (below f) e)

-- a number that a list of names has
pub named : (ns : List Name) (x : ℕ) → Has (numbers ns) x → 1 ≤ total (λ (n : Name). only x n.number) ns
named [] x h = absurd h
named (n ∷ ns) x h = ⊎_elim (λ (e : n.number ≡ x). let one : only x n.number ≡ 1 = ap (λ b. cond b 1 0) (eq-eqb n.number x e) in omega arith) (λ t. omega (arith, named ns x t)) h

pub own_there : (ns : List Name) → 0 < length ns → Has (numbers ns) (get_or ns 0 (name 0)).number
own_there [] h = absurd (omega arith)
own_there (n ∷ ns) h = inl refl

same_numbers : (f : ℕ → ℕ) (ns : List Name) → total (λ (n : Name). f n.number) (marked_over ns) ≡ total (λ (n : Name). f n.number) ns
same_numbers f [] = refl
same_numbers f (n ∷ ns) = refl

pub same_list : (ns : List Name) → numbers (marked_over ns) ≡ numbers ns
same_list [] = refl
same_list (n ∷ ns) = refl

over_more : (b : Bool) (k : ℕ) → cond b 1 0 + k ≡ 0 → 1 + k ≡ 1
over_more b k h = omega arith

one_over : (ns : List Name) → 0 < length ns → total over ns ≡ 0 → total over (marked_over ns) ≡ 1
one_over [] h z = absurd (omega arith)
one_over (n ∷ ns) h z = omega arith

pub only-is : (k x : ℕ) → 0 < only k x → x ≡ k
only-is k x h = dite (ℕ_discrete x k) (λ e. e) (λ ne. let z : only k x ≡ 0 = ap (λ b. cond b 1 0) (ne_eqb x k ne) in absurd (omega arith))

-- a number that is handed on leaves the view's weight
handed_weight : (f : ℕ → ℕ) (ds : List Draw) → IsPending ds → total (unhanded f) (decided Handed ds) + f (last_drawn ds) ≡ total (unhanded f) ds
handed_weight f [] h = absurd h
handed_weight f (d ∷ ds) h = let e : unhanded f d ≡ f d.number = ap (λ (a : Fate). if_unhanded a (f d.number)) h in omega arith

-- a number that is lost stays in it
lost_weight : (f : ℕ → ℕ) (ds : List Draw) → IsPending ds → total (unhanded f) (decided Lost ds) ≡ total (unhanded f) ds
lost_weight f [] h = absurd h
lost_weight f (d ∷ ds) h = let e : unhanded f d ≡ f d.number = ap (λ (a : Fate). if_unhanded a (f d.number)) h in omega arith

decided_same : (f : ℕ → ℕ) (a : Fate) (ds : List Draw) → total (λ (d : Draw). f d.number) (decided a ds) ≡ total (λ (d : Draw). f d.number) ds
decided_same f a [] = refl
decided_same f a (d ∷ ds) = refl

decided_made : (a : Fate) (ns : List Name) (ds : List Draw) → ((d : Draw) → Has ds d → (d.by < d.number) × Has (numbers ns) d.by) → (d : Draw) → Has (decided a ds) d → (d.by < d.number) × Has (numbers ns) d.by
decided_made a ns [] m d h = absurd h
decided_made a ns (x ∷ ds) m d h = ⊎_elim (λ (e : record x { fate = a } ≡ d). subst (λ (y : Draw). (y.by < y.number) × Has (numbers ns) y.by) e (m x (inl refl))) (λ t. m d (inr t)) h

weight_unhanded : (a : Fate) (n : ℕ) → IsUnhanded a → if_unhanded a n ≡ n
weight_unhanded Pending n h = refl
weight_unhanded Handed n h = absurd h
weight_unhanded Lost n h = refl

unhanded_only : (k : ℕ) (d : Draw) → IsUnhanded d.fate → d.number ≡ k → unhanded (only k) d ≡ 1
unhanded_only k d h e = weight_unhanded d.fate (only k d.number) h ∙ (ap (only k) e ∙ only-same k)

no_draw : (f : ℕ → ℕ) (ds : List Draw) → ((d : Draw) → ¬ Has ds d) → total (λ (d : Draw). f d.number) ds ≡ 0
no_draw f [] h = refl
no_draw f (d ∷ ds) h = absurd (h d (inl refl))

module _ {P : Type 0} where
  -- the views keep what holds of each, once the seat id has the view w
  pub each : (Q : View P → Type 0) (vs : List (View P)) (id : ℕ) (w : View P) → Q w → ((j : ℕ) (v : View P) → get_elem? vs j ≡ some v → Q v)
      → (j : ℕ) (v : View P) → get_elem? (set vs id w) j ≡ some v → Q v
  each Q vs id w new old j v at = ⊎_elim (λ (t : (j ≡ id) × (w ≡ v)). subst Q t.1 new) (λ (t : (j ≢ id) × (get_elem? vs j ≡ some v)). old j v t.1) (at_set vs id j w v at)

  abbrev Made : View P → Type 0
  Made v = (d : Draw) → Has v.drawn d → (d.by < d.number) × Has (numbers v.names) d.by

  -- a step at which no number changes
  pub unmoved : (n : ℕ) (vs : List (View P)) (r : Numbered n vs) (id : ℕ) (v w : View P) → get_elem? vs id ≡ some v → w.names ≡ v.names → w.drawn ≡ v.drawn → w.least ≤ n → Numbered n (set vs id w)
  unmoved n vs r id v w at names drawn least = record {
    count = r.count;
    few = r.few;
    had = λ f. total-same (having f) vs id v w at (λ i. total (λ (n : Name). f n.number) (names i) + total (unhanded f) (drawn i)) ∙ r.had f;
    drawn = λ f. ap (λ (k : ℕ). f 0 + k) (total-same (drawing f) vs id v w at (ap (λ (l : List Draw). total (λ (d : Draw). f d.number) l) drawn)) ∙ r.drawn f;
    counted = r.counted ∙ ap (λ (k : ℕ). r.count + k) (sym (total-same overs vs id v w at (ap (total over) names)));
    overshot = λ h. r.overshot (subst (λ (k : ℕ). 0 < k) (total-same overs vs id v w at (ap (total over) names)) h);
    made = each Made vs id w (subst (λ (l : List Name × List Draw). (d : Draw) → Has l.1 d → (d.by < d.number) × Has (numbers l.0) d.by) (λ i. (sym names i, sym drawn i)) (r.made id v at)) r.made;
    least = each (λ u. u.least ≤ n) vs id w least r.least;
  }

  all_overs_le : (vs : List (View P)) → total overs vs ≤ total (having (λ _. 1)) vs
  all_overs_le [] = omega arith
  all_overs_le (v ∷ vs) = omega (arith, overs_le v.names, all_overs_le vs)

  -- the number word stays small
  pub small : (n : ℕ) (vs : List (View P)) (r : Numbered n vs) → n < 8192
  small n vs r = let a = r.few in let b = r.counted in omega (arith, all_overs_le vs, r.had (λ _. 1), below-one (r.count + 1))

  -- where the word is below 4095, no number overshot, and the word counts those drawn
  pub no_overs : (n : ℕ) (vs : List (View P)) (r : Numbered n vs) → n < 4095 → (total overs vs ≡ 0) × (r.count ≡ n)
  no_overs n vs r h = let c = r.counted in dite (ℕ_discrete (total overs vs) 0) (λ z. (z, omega arith)) (λ ne. let full = r.overshot (omega arith) in absurd (omega arith))

  pub full : (n : ℕ) (vs : List (View P)) (r : Numbered n vs) → 4095 ≤ n → r.count ≡ 4095
  full n vs r h = let c = r.counted in let f = r.few in dite (ℕ_discrete (total overs vs) 0) (λ z. omega arith) (λ ne. r.overshot (omega arith))

  pub own_overs : (n : ℕ) (vs : List (View P)) (r : Numbered n vs) (id : ℕ) (v : View P) → get_elem? vs id ≡ some v → n < 4095 → overs v ≡ 0
  own_overs n vs r id v at h = let z = (no_overs n vs r h).0 in omega (arith, term_le overs vs id v at)

  -- each number that a view keeps as drawn is at most the count
  pub drawn_le : (n : ℕ) (vs : List (View P)) (r : Numbered n vs) (id : ℕ) (v : View P) → get_elem? vs id ≡ some v → (d : Draw) → Has v.drawn d → d.number < r.count + 1
  drawn_le n vs r id v at d h = below-has d.number (r.count + 1)
      (omega (arith, r.drawn (only d.number), term_le (drawing (only d.number)) vs id v at, has_total (λ (e : Draw). only d.number e.number) v.drawn d h, only-same d.number))

  -- each number that a view has was drawn, or is 0
  pub names_le : (n : ℕ) (vs : List (View P)) (r : Numbered n vs) (id : ℕ) (v : View P) → get_elem? vs id ≡ some v → (x : ℕ) → Has (numbers v.names) x → x < r.count + 1
  names_le n vs r id v at x h = below-has x (r.count + 1) (omega (arith, r.had (only x), term_le (having (only x)) vs id v at, named v.names x h))

  pub one_view : (j : ℕ) (w v : View P) → get_elem? (w ∷ []) j ≡ some v → w ≡ v
  one_view zero w v e = some-injective w v e
  one_view (suc j) w v e = absurd (some-ne-none v (sym e))

  pub starts : (page : P) → Numbered 0 (Rattle.word_board.specs.Views.newcomer page ∷ [])
  starts page = record {
    count = 0;
    few = omega arith;
    had = λ f. omega (arith, below_one f);
    drawn = λ f. omega (arith, below_one f);
    counted = refl;
    overshot = λ h. absurd (omega arith);
    made = λ j v at d h. subst (λ (u : View P). Made u) (one_view j (Rattle.word_board.specs.Views.newcomer page) v at) (λ e k. absurd k) d h;
    least = λ j v at. subst (λ (u : View P). u.least ≤ 0) (one_view j (Rattle.word_board.specs.Views.newcomer page) v at) (omega arith);
  }

  pub draws : (n : ℕ) (vs : List (View P)) (r : Numbered n vs) (id : ℕ) (v : View P) → get_elem? vs id ≡ some v → 0 < length v.names → n < 4095 → Numbered (n + 1) (set vs id (drawing_one v (n + 1)))
  draws n vs r id v at live h = let w : View P = drawing_one v (n + 1) in let z = no_overs n vs r h in let none-over = z.0 in let c : r.count ≡ n = z.1 in
      let same : total overs (set vs id w) ≡ total overs vs = total-same overs vs id v w at refl in record {
        count = n + 1;
        few = omega arith;
        had = λ f. let next = below_more f (n + 1) in let b = ap (λ (k : ℕ). below f (k + 1)) c in omega (arith, total-set (having f) vs id v w at, r.had f);
        drawn = λ f. let next = below_more f (n + 1) in let b = ap (λ (k : ℕ). below f (k + 1)) c in omega (arith, total-set (drawing f) vs id v w at, r.drawn f);
        counted = omega arith;
        overshot = λ o. absurd (omega arith);
        made = each Made vs id w (λ d k. ⊎_elim (λ (e : draw (n + 1) (number_of v) ≡ d). let has = own_there v.names live in let small = names_le n vs r id v at (number_of v) has in
            subst (λ (y : Draw). (y.by < y.number) × Has (numbers v.names) y.by) e (omega arith, has)) (λ (t : Has v.drawn d). r.made id v at d t) k) r.made;
        least = each (λ u. u.least ≤ n + 1) vs id w (omega arith) (λ j u k. let l = r.least j u k in omega arith);
      }

  pub overshoots : (n : ℕ) (vs : List (View P)) (r : Numbered n vs) (id : ℕ) (v : View P) → get_elem? vs id ≡ some v → 0 < length v.names → overs v ≡ 0 → 4095 ≤ n
      → Numbered (n + 1) (set vs id (overshooting v (n + 1)))
  overshoots n vs r id v at live fresh h = let w : View P = overshooting v (n + 1) in let c = full n vs r h in let k = r.counted in
      let one : overs w ≡ 1 = one_over v.names live fresh in
      record {
        count = r.count;
        few = r.few;
        had = λ f. total-same (having f) vs id v w at (ap (λ (x : ℕ). x + total (unhanded f) v.drawn) (same_numbers f v.names)) ∙ r.had f;
        drawn = λ f. ap (λ (x : ℕ). f 0 + x) (total-same (drawing f) vs id v w at refl) ∙ r.drawn f;
        counted = omega (arith, total-set overs vs id v w at);
        overshot = λ _. c;
        made = each Made vs id w (subst (λ (l : List ℕ). (d : Draw) → Has v.drawn d → (d.by < d.number) × Has l d.by) (sym (same_list v.names)) (r.made id v at)) r.made;
        least = each (λ u. u.least ≤ n + 1) vs id w (omega arith) (λ j u e. let l = r.least j u e in omega arith);
      }

  pub splits : (n : ℕ) (vs : List (View P)) (r : Numbered n vs) (id : ℕ) (v : View P) → get_elem? vs id ≡ some v → IsPending v.drawn → Numbered n (set vs id (handing v) ++ forked v ∷ [])
  splits n vs r id v at pending = let w : View P = handing v in let u : View P = forked v in let ws : List (View P) = set vs id w in let l = r.least id v at in
      record {
        count = r.count;
        few = r.few;
        had = λ f. omega (arith, total-append (having f) ws (u ∷ []), total-set (having f) vs id v w at, r.had f, handed_weight f v.drawn pending);
        drawn = λ f. omega (arith, total-append (drawing f) ws (u ∷ []), total-set (drawing f) vs id v w at, r.drawn f, decided_same f Handed v.drawn);
        counted = omega (arith, total-append overs ws (u ∷ []), total-set overs vs id v w at, r.counted);
        overshot = λ h. r.overshot (omega (arith, total-append overs ws (u ∷ []), total-set overs vs id v w at));
        made = λ j x e. ⊎_elim (each Made vs id w (decided_made Handed v.names v.drawn (r.made id v at)) r.made j x) (λ (t : u ≡ x). subst Made t (λ d h. absurd h)) (at_snoc ws u x j e);
        least = λ j x e. ⊎_elim (each (λ y. y.least ≤ n) vs id w l r.least j x) (λ (t : u ≡ x). subst (λ (y : View P). y.least ≤ n) t l) (at_snoc ws u x j e);
      }

  pub loses : (n : ℕ) (vs : List (View P)) (r : Numbered n vs) (id : ℕ) (v : View P) → get_elem? vs id ≡ some v → IsPending v.drawn → Numbered n (set vs id (losing v))
  loses n vs r id v at pending = let w : View P = losing v in record {
    count = r.count;
    few = r.few;
    had = λ f. total-same (having f) vs id v w at (ap (λ (x : ℕ). total (λ (n : Name). f n.number) v.names + x) (lost_weight f v.drawn pending)) ∙ r.had f;
    drawn = λ f. ap (λ (x : ℕ). f 0 + x) (total-same (drawing f) vs id v w at (decided_same f Lost v.drawn)) ∙ r.drawn f;
    counted = r.counted ∙ ap (λ (k : ℕ). r.count + k) (sym (total-same overs vs id v w at refl));
    overshot = λ h. r.overshot (subst (λ (k : ℕ). 0 < k) (total-same overs vs id v w at refl) h);
    made = each Made vs id w (decided_made Lost v.names v.drawn (r.made id v at)) r.made;
    least = each (λ u. u.least ≤ n) vs id w (r.least id v at) r.least;
  }

  pub joins : (n : ℕ) (vs : List (View P)) (r : Numbered n vs) (id : ℕ) (v : View P) (other : ℕ) (w : View P) → get_elem? vs id ≡ some v → get_elem? (set vs id (joined v w)) other ≡ some w → ¬ (other ≡ id)
      → Numbered n (set (set vs id (joined v w)) other spent)
  joins n vs r id v other w at there apart = let u : View P = joined v w in let ws : List (View P) = set vs id u in let l = r.least id v at in
      let there' : get_elem? vs other ≡ some w = sym (set_else vs id other u apart) ∙ there in
      record {
        count = r.count;
        few = r.few;
        had = λ f. omega (arith, total-set (having f) ws other w spent there, total-set (having f) vs id v u at, r.had f, total-append (λ (n : Name). f n.number) v.names w.names, total-append (unhanded f) v.drawn w.drawn);
        drawn = λ f. omega (arith, total-set (drawing f) ws other w spent there, total-set (drawing f) vs id v u at, r.drawn f, total-append (λ (d : Draw). f d.number) v.drawn w.drawn);
        counted = omega (arith, total-set overs ws other w spent there, total-set overs vs id v u at, r.counted, total-append over v.names w.names);
        overshot = λ h. r.overshot (omega (arith, total-set overs ws other w spent there, total-set overs vs id v u at, total-append over v.names w.names));
        made = each Made ws other spent (λ d h. absurd h) (each Made vs id u (λ d h. ⊎_elim
            (λ (t : Has v.drawn d). let m = r.made id v at d t in (m.0, map_left (λ (n : Name). n.number) v.names w.names d.by m.1))
            (λ (t : Has w.drawn d). let m = r.made other w there' d t in (m.0, map_right (λ (n : Name). n.number) v.names w.names d.by m.1))
            (has_append v.drawn w.drawn d h)) r.made);
        least = each (λ y. y.least ≤ n) ws other spent (omega arith) (each (λ y. y.least ≤ n) vs id u l r.least);
      }

  -- where this pass has the number 0, and each number that it keeps as drawn or still holds it
  module _ (n : ℕ) (vs : List (View P)) (r : Numbered n vs) (id : ℕ) (v : View P) (at : get_elem? vs id ≡ some v) (whole : IsWhole v) where
    has_all : (k x : ℕ) → x < k → x < r.count + 1 → 1 ≤ having (only x) v
    has_all zero x below low = absurd (omega arith)
    has_all (suc k) x below low = dite (ℕ_discrete x 0)
        (λ z. omega (arith, named v.names x (subst (Has (numbers v.names)) (sym z) whole.0)))
        (λ ne. let first : only x 0 ≡ 0 = ap (λ b. cond b 1 0) (ne_eqb 0 x (λ e. ne (sym e))) in
        let t = total-some (drawing (only x)) vs (omega (arith, r.drawn (only x), below-there x (r.count + 1) low)) in
        let d = has-some (λ (e : Draw). only x e.number) t.1.drawn t.3 in
        let is : d.0.number ≡ x = only-is x d.0.number d.2 in
        let m = r.made t.0 t.1 t.2 d.0 d.1 in
        let lower = m.0 in
        let mine : 1 ≤ having (only d.0.by) v = has_all k d.0.by (omega arith) (omega arith) in
        let theirs : 1 ≤ total (λ (n : Name). only d.0.by n.number) t.1.names = named t.1.names d.0.by m.1 in
        dite (ℕ_discrete t.0 id)
        (λ (e : t.0 ≡ id). let same : t.1 ≡ v = some-injective t.1 v (sym t.2 ∙ (ap (get_elem? vs) e ∙ at)) in
        let h : Has v.drawn d.0 = subst (λ (u : View P). Has u.drawn d.0) same d.1 in
        ⊎_elim (λ (y : Has (numbers v.names) d.0.number). omega (arith, named v.names x (subst (Has (numbers v.names)) is y)))
        (λ (y : IsUnhanded d.0.fate). omega (arith, has_total (unhanded (only x)) v.drawn d.0 h, unhanded_only x d.0 y is)) (whole.1 d.0 h))
        (λ apart. absurd (omega (arith, terms_le (having (only d.0.by)) vs id t.0 v t.1 apart at t.2, r.had (only d.0.by), below-once d.0.by (r.count + 1)))))

    -- no other view has a number
    pub alone : (j : ℕ) (u : View P) → get_elem? vs j ≡ some u → j ≢ id → (x : ℕ) → ¬ Has (numbers u.names) x
    alone j u there apart x h = let low = names_le n vs r j u there x h in
        omega (arith, has_all (r.count + 1) x low low, named u.names x h, terms_le (having (only x)) vs id j v u apart at there, r.had (only x), below-once x (r.count + 1))

    -- no other view keeps a number as drawn
    alone_drawn : (f : ℕ → ℕ) (j : ℕ) (u : View P) → get_elem? vs j ≡ some u → j ≢ id → drawing f u ≡ 0
    alone_drawn f j u there apart = no_draw f u.drawn (λ d h. alone j u there apart d.by (r.made j u there d h).1)

    -- the numbers that it keeps as drawn are 1 to their count
    pub all_drawn : (f : ℕ → ℕ) → f 0 + drawing f v ≡ below f (length v.drawn + 1)
    all_drawn f =
        let mine : (g : ℕ → ℕ) → total (drawing g) vs ≡ drawing g v = λ g. total-alone (drawing g) vs id v at (alone_drawn g) in
        let long : length v.drawn ≡ r.count = omega (arith, r.drawn (λ _. 1), mine (λ _. 1), below-one (r.count + 1), total-one v.drawn) in
        omega (arith, r.drawn f, mine f, ap (λ (k : ℕ). below f (k + 1)) long)

  -- a view keeps a number as drawn once
  pub once_drawn : (n : ℕ) (vs : List (View P)) (r : Numbered n vs) (id : ℕ) (v : View P) → get_elem? vs id ≡ some v → (d e : Draw) → Has v.drawn d → Has v.drawn e → d.number ≡ e.number → d ≡ e
  once_drawn n vs r id v at d e h k same =
      let g : Draw → ℕ = λ (x : Draw). only d.number x.number in
      let few : total g v.drawn ≤ 1 = omega (arith, r.drawn (only d.number), term_le (drawing (only d.number)) vs id v at, below-once d.number (r.count + 1)) in
      one_weight v.drawn d.number few d e h k refl (sym same)
    where
      one_weight : (ds : List Draw) (x : ℕ) → total (λ (y : Draw). only x y.number) ds ≤ 1 → (d e : Draw) → Has ds d → Has ds e → d.number ≡ x → e.number ≡ x → d ≡ e
      one_weight [] x few d e h k a b = absurd h
      one_weight (y ∷ ds) x few d e h k a b =
          let da : only x d.number ≡ 1 = ap (only x) a ∙ only-same x in
          let eb : only x e.number ≡ 1 = ap (only x) b ∙ only-same x in
          ⊎_elim
          (λ (p : y ≡ d). ⊎_elim (λ (q : y ≡ e). sym p ∙ q)
          (λ (q : Has ds e). absurd (omega (arith, ap (λ (z : Draw). only x z.number) p, has_total (λ (z : Draw). only x z.number) ds e q))) k)
          (λ (p : Has ds d). ⊎_elim (λ (q : y ≡ e). absurd (omega (arith, ap (λ (z : Draw). only x z.number) q, has_total (λ (z : Draw). only x z.number) ds d p)))
          (λ (q : Has ds e). one_weight ds x (omega arith) d e p q a b) k) h

  -- two views have no number in common
  pub one_has : (n : ℕ) (vs : List (View P)) (r : Numbered n vs) (i j : ℕ) (v u : View P) → get_elem? vs i ≡ some v → get_elem? vs j ≡ some u → j ≢ i → (x : ℕ) → Has (numbers v.names) x → ¬ Has (numbers u.names) x
  one_has n vs r i j v u at there ne x h k = omega (arith, named v.names x h, named u.names x k, terms_le (having (only x)) vs i j v u ne at there, r.had (only x), below-once x (r.count + 1))
