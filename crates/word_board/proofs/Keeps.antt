-- Each step keeps the rule.
use Rattle.std.proofs.Common.{◌≡◌, ℕ, ◌+◌, ◌-◌, ◌%◌, ◌^◌, ◌<◌, ◌≤◌, ◌≢◌, eqb, List, [], ◌∷◌, ◌++◌, length, get_or, set, sym, refl, ap, ◌∙◌, subst, inl, ⊎_elim, arith, length-set, get_or-set_other, get_or-set_same, Option, Some, None}
use mathlib.Core.Logic.{dite}
use mathlib.Core.Option.{none, some}
use native.Mathlib.Decide.{ℕ_discrete, dec_lt}
use lib.ListN.{get_elem?}
use lib.Seq.{set-get_or}
use prog.Atomic.{either}
use Rattle.atomic_table.specs.Table.{State, Me, Act, Valid, carried_after, step, keeps, stepped, Allows, Splits, Joins}
use Rattle.atomic_table.proofs.Lists.{exchanged}
use Rattle.word_board.specs.Weights.{total}
use Rattle.word_board.specs.Marks.{mark, Has, Within, Lawful}
use Rattle.word_board.specs.Numbers.{numbers, overs, Numbered}
use Rattle.word_board.specs.Views.{number_of, seeing, setting, finding, drawing_one, overshooting, handing, losing, forked, joined, spent, IsPending, Agrees}
use Rattle.word_board.specs.Rule.{Standing, Ruled}
use Rattle.word_board.specs.Steps.{looked, wrote, counted, drew, lost}
use Rattle.word_board.specs.declared.view.Mark.{Mark}
use Rattle.word_board.specs.declared.view.Name.{Name}
use Rattle.word_board.specs.declared.view.View.{View}
use Rattle.word_board.proofs.Sums.{set_else, at_snoc, total-append, total-set, total-same}
use Rattle.word_board.proofs.Lists.{has_left, has_right, has_snoc, has_append, map_left, map_right, within_more, within_snoc}
use Rattle.word_board.proofs.Numbers.{each, own_there, same_list, unmoved, small, own_overs, drawn_le, no_overs, draws, overshoots, splits, loses, joins}

module _ {P : Type 0} where
  abbrev kept_weight : (Mark → ℕ) → View P → ℕ
  kept_weight f v = total f v.kept

  abbrev Own : View P → Type 0
  Own v = (m : Mark) → Has v.kept m → Has (numbers v.names) m.by

  abbrev Saw : View P → Type 0
  Saw v = Within v.kept v.seen

  saw_on : (v w : View P) → Within v.seen w.seen → w.kept ≡ v.kept → Saw v → Saw w
  saw_on v w grown kept saw m h = grown m (saw m (subst (λ (l : List Mark). Has l m) kept h))

none_there : {P : Type 0} (y : P) → ◌≡◌ {A = Option P} None (Some y) → ⊥
none_there y e = cc

-- a pass that found less than 4095 may draw
pub may_draw : {P : Type 0} (v w : View P) (x : ℕ) → w ≡ finding v x → 0 < length v.names → overs v ≡ 0 → (0 < length w.names) × (overs w ≡ 0)
may_draw {P} v w x e live fresh = subst (λ (u : View P). (0 < length u.names) × (overs u ≡ 0)) (sym e) (live, fresh)

module _ {P : Type 0} (may : P → List Mark → Mark → Type 0) (stays : (page : P) (xs ys : List Mark) (m : Mark) → Within xs ys → may page xs m → may page ys m) (count : ℕ) (page : P) where
  abbrev St : Type 0
  St = State ℕ (View P)

  abbrev M : Type 0
  M = Me ℕ (View P)

  abbrev Rule : St → Type 0
  Rule = Ruled (may page) count page

  abbrev Stands : List ℕ → List (View P) → Type 0
  Stands = Standing (may page) count page

  abbrev Fits : List Mark → View P → Type 0
  Fits all v = ((q : P) → v.page ≡ Some q → q ≡ page) × Within v.seen all

  -- no word of a place changes, and the seat id keeps what it set
  still : (ws new : List ℕ) (vs : List (View P)) (r : Stands ws vs) (id : ℕ) (v w : View P) → get_elem? vs id ≡ some v → length new ≡ length ws → ((place : ℕ) → get_or new (place + 1) 0 ≡ get_or ws (place + 1) 0)
      → Fits r.all w → Within v.seen w.seen → w.kept ≡ v.kept → numbers w.names ≡ numbers v.names → Stands new (set vs id w)
  still ws new vs r id v w at long same fits grown kept names = record {
    wide = long ∙ r.wide;
    all = r.all;
    lawful = r.lawful;
    there = λ m h. let t = r.there m h in (t.0, same m.place ∙ t.1);
    marked = λ place some_there. let k = r.marked place (subst (λ (z : ℕ). 0 < z) (same place) some_there) in (k.0, subst (λ (z : ℕ). Has r.all (mark place z k.0)) (sym (same place)) k.1);
    seen = each (Fits r.all) vs id w fits r.seen;
    once = λ f. total-same (kept_weight f) vs id v w at (ap (total f) kept) ∙ r.once f;
    own = each Own vs id w (subst (λ (l : List Mark × List ℕ). (m : Mark) → Has l.0 m → Has l.1 m.by) (λ i. (sym kept i, sym names i)) (r.own id v at)) r.own;
    saw = each Saw vs id w (saw_on v w grown kept (r.saw id v at)) r.saw;
  }

  -- a step that changes no word, after which the seat has seen no other word than are set
  pub same_words : (s : St) (r : Rule s) (i id : ℕ) (cs : List (ℕ × ℕ)) (v w : View P) → get_elem? s.views id ≡ some v → Fits r.standing.all w → Within v.seen w.seen → w.kept ≡ v.kept → w.names ≡ v.names → w.drawn ≡ v.drawn → w.least ≤ get_or s.words 0 0
      → Rule (stepped s i (get_or s.words i 0) id cs w keeps)
  same_words s r i id cs v w at fits grown kept names drawn least = subst (λ (ws : List ℕ). Rule record { words = ws; homes = s.homes; views = set s.views id w }) (sym (set-get_or s.words i 0)) record {
    standing = still s.words s.words s.views r.standing id v w at refl (λ _. refl) fits grown kept (ap numbers names);
    numbered = unmoved (get_or s.words 0 0) s.views r.numbered id v w at names drawn least;
  }

  -- the word at a place is set
  moved : (ws : List ℕ) (vs : List (View P)) (r : Stands ws vs) (id : ℕ) (v : View P) (m : Mark) → get_elem? vs id ≡ some v → m.place < count → 0 < m.word → get_or ws (m.place + 1) 0 ≡ 0 → may page r.all m → Has (numbers v.names) m.by
      → Stands (set ws (m.place + 1) m.word) (set vs id (setting v m))
  moved ws vs r id v m at inside full free stands mine = let w : View P = setting v m in let all : List Mark = r.all ++ m ∷ [] in let wide = r.wide in let p = r.seen id v at in
      let more : Within r.all all = within_more r.all (m ∷ []) in
      let last : Has all m = has_right r.all (m ∷ []) m (inl refl) in
      let apart : (x : Mark) → Has r.all x → x.place ≢ m.place = λ x h e. let t = r.there x h in let f = t.0 in let is : get_or ws (m.place + 1) 0 ≡ x.word = ap (λ (z : ℕ). get_or ws (z + 1) 0) (sym e) ∙ t.1 in absurd (omega arith) in
      let here : get_or (set ws (m.place + 1) m.word) (m.place + 1) 0 ≡ m.word = get_or-set_same ws (m.place + 1) m.word 0 (omega arith) in
      let else : (place : ℕ) → place ≢ m.place → get_or (set ws (m.place + 1) m.word) (place + 1) 0 ≡ get_or ws (place + 1) 0 = λ place ne. get_or-set_other ws (m.place + 1) (place + 1) m.word 0 (λ e. ne (omega arith)) in
      record {
        wide = length-set ws (m.place + 1) m.word ∙ wide;
        all = all;
        lawful = (
          λ x h. ⊎_elim (λ (o : Has r.all x). stays page r.all all x more (r.lawful.0 x o)) (λ (e : m ≡ x). subst (may page all) e (stays page r.all all m more stands)) (has_snoc r.all m x h),
          λ x y h k e. ⊎_elim
              (λ (o : Has r.all x). ⊎_elim (λ (p : Has r.all y). r.lawful.1 x y o p e) (λ (p : m ≡ y). absurd (apart x o (e ∙ ap (λ (z : Mark). z.place) (sym p)))) (has_snoc r.all m y k))
              (λ (o : m ≡ x). ⊎_elim (λ (p : Has r.all y). absurd (apart y p (sym e ∙ ap (λ (z : Mark). z.place) (sym o)))) (λ (p : m ≡ y). sym o ∙ p) (has_snoc r.all m y k))
              (has_snoc r.all m x h),
        );
        there = λ x h. ⊎_elim (λ (o : Has r.all x). let t = r.there x o in (t.0, else x.place (apart x o) ∙ t.1))
            (λ (e : m ≡ x). subst (λ (z : Mark). (0 < z.word) × (get_or (set ws (m.place + 1) m.word) (z.place + 1) 0 ≡ z.word)) e (full, here)) (has_snoc r.all m x h);
        marked = λ place some_there. dite (ℕ_discrete place m.place)
            (λ e. (
              m.by,
              has_right r.all (m ∷ []) (mark place (get_or (set ws (m.place + 1) m.word) (place + 1) 0) m.by)
                  (inl (λ i. mark (sym e i) ((sym here ∙ ap (λ (z : ℕ). get_or (set ws (m.place + 1) m.word) (z + 1) 0) (sym e)) i) m.by)),
            ))
            (λ ne. let k = r.marked place (subst (λ (z : ℕ). 0 < z) (else place ne) some_there) in
            (k.0, subst (λ (z : ℕ). Has all (mark place z k.0)) (sym (else place ne)) (more (mark place (get_or ws (place + 1) 0) k.0) k.1)));
        seen = each (Fits all) vs id w (p.0, within_snoc v.seen all m (λ x h. more x (p.1 x h)) last) (λ j u e. let o = r.seen j u e in (o.0, λ x h. more x (o.1 x h)));
        once = λ f. omega (arith, total-set (kept_weight f) vs id v w at, r.once f, total-append f v.kept (m ∷ []), total-append f r.all (m ∷ []));
        own = each Own vs id w (λ x h. ⊎_elim (λ (o : Has v.kept x). r.own id v at x o) (λ (e : m ≡ x). subst (λ (z : Mark). Has (numbers v.names) z.by) e mine) (has_snoc v.kept m x h)) r.own;
        saw = each Saw vs id w (λ x h. ⊎_elim (λ (o : Has v.kept x). has_left v.seen (m ∷ []) x (r.saw id v at x o)) (λ (e : m ≡ x). has_right v.seen (m ∷ []) x (inl e)) (has_snoc v.kept m x h)) r.saw;
      }

  agrees : (s : St) (r : Rule s) (id : ℕ) (v : View P) (place p : ℕ) → get_elem? s.views id ≡ some v → place ≡ p → Agrees v.seen p (get_or s.words (place + 1) 0)
  agrees s r id v place p at back m h e = ap (λ (z : ℕ). get_or s.words (z + 1) 0) (back ∙ sym e) ∙ (r.standing.there m ((r.standing.seen id v at).1 m h)).1

  -- a word that was found is seen
  found : (s : St) (r : Rule s) (id place : ℕ) (cs : List (ℕ × ℕ)) (v : View P) → get_elem? s.views id ≡ some v → get_or s.words (place + 1) 0 ≢ 0
      → (by : ℕ) × Rule (stepped s (place + 1) (get_or s.words (place + 1) 0) id cs (seeing v (mark place (get_or s.words (place + 1) 0) by)) keeps)
  found s r id place cs v at full = let x : ℕ = get_or s.words (place + 1) 0 in let k = r.standing.marked place (omega arith) in let m : Mark = mark place x k.0 in let p = r.standing.seen id v at in
      (k.0, same_words s r (place + 1) id cs v (seeing v m) at (p.0, within_snoc v.seen r.standing.all m p.1 k.1) (within_more v.seen (m ∷ [])) refl refl refl (r.numbered.least id v at))

  pub looks : (slots id : ℕ) (me : M) (place : ℕ) → Allows Rule slots id me (place + 1) (λ x. x) (looked may (step slots (place + 1) 0 0 none) me)
  looks slots id me place s r _ at _ = let v : View P = me.0 in let p = r.standing.seen id v at in let x : ℕ = get_or s.words (place + 1) 0 in let back : place ≡ (place + 1) - 1 = omega arith in
      let agree = agrees s r id v place ((place + 1) - 1) at back in
      dite (ℕ_discrete x 0)
      (λ zero. (
        v,
        keeps,
        tt,
        same_words s r (place + 1) id me.1 v v at p (λ m h. h) refl refl refl (r.numbered.least id v at),
        (
          refl,
          agree,
          (λ ne. absurd (ne zero)),
          λ _. (
            refl,
            (
              r.standing.all,
              ((λ q is. subst (λ (y : P). Lawful (may y) r.standing.all) (sym (p.0 q is)) r.standing.lawful), p.1),
              λ m h e. let t = r.standing.there m h in let f = t.0 in let is : x ≡ m.word = ap (λ (z : ℕ). get_or s.words (z + 1) 0) (back ∙ sym e) ∙ t.1 in absurd (omega arith),
            ),
          ),
        ),
      ))
      (λ full. let t = found s r id place me.1 v at full in (
        seeing v (mark place x t.0),
        keeps,
        tt,
        t.1,
        (refl, agree, (λ _. (t.0, ap (λ (z : ℕ). seeing v (mark z x t.0)) back)), λ zero. absurd (full zero)),
      ))

  pub puts : (slots id : ℕ) (me : M) (place word : ℕ) → 0 < length me.0.names → place < count → 0 < word → may page me.0.seen (mark place word (number_of me.0))
      → Allows Rule slots id me (place + 1) (λ n. either (eqb n 0) word n) (wrote (step slots (place + 1) 0 word none) me)
  puts slots id me place word live inside full stands s r _ at _ = let v : View P = me.0 in let p = r.standing.seen id v at in let x : ℕ = get_or s.words (place + 1) 0 in let back : place ≡ (place + 1) - 1 = omega arith in
      let new : Mark = mark place word (number_of v) in let agree = agrees s r id v place ((place + 1) - 1) at back in
      exchanged x 0 word (λ k. (w : View P) × (a : Act ℕ) × Valid s.homes me.1 a × Rule (stepped s (place + 1) k id me.1 w a) × wrote (step slots (place + 1) 0 word none) me x (w, carried_after me.1 a))
      (λ zero. (
        setting v new,
        keeps,
        tt,
        record {
          standing = moved s.words s.views r.standing id v new at inside full zero (stays page v.seen r.standing.all new p.1 stands) (own_there v.names live);
          numbered = subst (λ (n : ℕ). Numbered n (set s.views id (setting v new))) (sym (get_or-set_other s.words (place + 1) 0 word 0 (λ e. omega arith)))
              (unmoved (get_or s.words 0 0) s.views r.numbered id v (setting v new) at refl refl (r.numbered.least id v at));
        },
        (refl, agree, (λ _. ap (λ (z : ℕ). setting v (mark z word (number_of v))) back), λ ne. absurd (ne zero)),
      ))
      (λ ne. let t = found s r id place me.1 v at ne in (
        seeing v (mark place x t.0),
        keeps,
        tt,
        t.1,
        (refl, agree, (λ zero. absurd (ne zero)), λ _. (t.0, ap (λ (z : ℕ). seeing v (mark z x t.0)) back)),
      ))

  pub counts : (slots id : ℕ) (me : M) → Allows Rule slots id me 0 (λ x. x) (counted (step slots 0 0 0 none) me)
  counts slots id me s r _ at _ = let v : View P = me.0 in let x : ℕ = get_or s.words 0 0 in (
    finding v x,
    keeps,
    tt,
    same_words s r 0 id me.1 v (finding v x) at (r.standing.seen id v at) (λ m h. h) refl refl refl (omega arith),
    (refl, refl, r.numbered.least id v at, own_overs x s.views r.numbered id v at),
  )

  -- the number word is raised by one
  raised : (s : St) (r : Rule s) (id : ℕ) (v w : View P) → get_elem? s.views id ≡ some v → Fits r.standing.all w → Within v.seen w.seen → w.kept ≡ v.kept → numbers w.names ≡ numbers v.names
      → Stands (set s.words 0 ((get_or s.words 0 0 + 1) % 2 ^ 64)) (set s.views id w)
  raised s r id v w at fits grown kept names = still s.words (set s.words 0 ((get_or s.words 0 0 + 1) % 2 ^ 64)) s.views r.standing id v w at (length-set s.words 0 ((get_or s.words 0 0 + 1) % 2 ^ 64))
      (λ place. get_or-set_other s.words 0 (place + 1) ((get_or s.words 0 0 + 1) % 2 ^ 64) 0 (λ e. omega arith)) fits grown kept names

  next : (s : St) (r : Rule s) → get_or (set s.words 0 ((get_or s.words 0 0 + 1) % 2 ^ 64)) 0 0 ≡ get_or s.words 0 0 + 1
  next s r = let wide = r.standing.wide in let low = small (get_or s.words 0 0) s.views r.numbered in let x : ℕ = get_or s.words 0 0 in
      let same : (x + 1) % 2 ^ 64 ≡ x + 1 = omega arith in get_or-set_same s.words 0 ((x + 1) % 2 ^ 64) 0 (omega arith) ∙ same

  pub numbers_one : (slots id : ℕ) (me : M) → 0 < length me.0.names → overs me.0 ≡ 0 → Allows Rule slots id me 0 (λ n. (n + 1) % 2 ^ 64) (drew (step slots 0 1 0 none) me)
  numbers_one slots id me live fresh s r _ at _ = let v : View P = me.0 in let x : ℕ = get_or s.words 0 0 in let p = r.standing.seen id v at in dite (dec_lt x 4095)
      (λ low. (
        drawing_one v (x + 1),
        keeps,
        tt,
        record {
          standing = raised s r id v (drawing_one v (x + 1)) at p (λ m h. h) refl refl;
          numbered = subst (λ (n : ℕ). Numbered n (set s.views id (drawing_one v (x + 1)))) (sym (next s r)) (draws x s.views r.numbered id v at live low);
        },
        (refl, r.numbered.least id v at, (λ _. (refl, λ d h. let a = drawn_le x s.views r.numbered id v at d h in let b = (no_overs x s.views r.numbered low).1 in omega arith)), λ high. absurd (omega arith)),
      ))
      (λ high. let h : 4095 ≤ x = omega arith in (
        overshooting v (x + 1),
        keeps,
        tt,
        record {
          standing = raised s r id v (overshooting v (x + 1)) at p (λ m h. h) refl (same_list v.names);
          numbered = subst (λ (n : ℕ). Numbered n (set s.views id (overshooting v (x + 1)))) (sym (next s r)) (overshoots x s.views r.numbered id v at live fresh h);
        },
        (refl, r.numbered.least id v at, (λ low. absurd (high low)), λ _. refl),
      ))

  pub gives_up : (slots id : ℕ) (me : M) → IsPending me.0.drawn → Allows Rule slots id me 0 (λ x. x) (lost (step slots 0 0 0 none) me)
  gives_up slots id me pending s r _ at _ = let v : View P = me.0 in let w : View P = losing v in let x : ℕ = get_or s.words 0 0 in (
    w,
    keeps,
    tt,
    subst (λ (ws : List ℕ). Rule record { words = ws; homes = s.homes; views = set s.views id w }) (sym (set-get_or s.words 0 0)) record {
      standing = still s.words s.words s.views r.standing id v w at refl (λ _. refl) (r.standing.seen id v at) (λ m h. h) refl refl;
      numbered = loses x s.views r.numbered id v at pending;
    },
    (refl, refl),
  )

  pub forks : (id : ℕ) (v : View P) → IsPending v.drawn → Splits Rule id v (handing v) (forked v)
  forks id v pending s r at = let w : View P = handing v in let u : View P = forked v in let ws : List (View P) = set s.views id w in let p = r.standing.seen id v at in record {
    standing = record {
      wide = r.standing.wide;
      all = r.standing.all;
      lawful = r.standing.lawful;
      there = r.standing.there;
      marked = r.standing.marked;
      seen = λ j x e. ⊎_elim (each (Fits r.standing.all) s.views id w p r.standing.seen j x) (λ (t : u ≡ x). subst (Fits r.standing.all) t p) (at_snoc ws u x j e);
      once = λ f. omega (arith, total-append (kept_weight f) ws (u ∷ []), total-same (kept_weight f) s.views id v w at refl, r.standing.once f);
      own = λ j x e. ⊎_elim (each Own s.views id w (r.standing.own id v at) r.standing.own j x) (λ (t : u ≡ x). subst Own t (λ m h. absurd h)) (at_snoc ws u x j e);
      saw = λ j x e. ⊎_elim (each Saw s.views id w (r.standing.saw id v at) r.standing.saw j x) (λ (t : u ≡ x). subst Saw t (λ m h. absurd h)) (at_snoc ws u x j e);
    };
    numbered = splits (get_or s.words 0 0) s.views r.numbered id v at pending;
  }

  pub takes_in : (id : ℕ) (v : View P) (other : ℕ) (w : View P) → Joins Rule id v other w (joined v w) spent
  takes_in id v other w s r at apart there = let u : View P = joined v w in let ws : List (View P) = set s.views id u in let p = r.standing.seen id v at in
      let there' : get_elem? s.views other ≡ some w = sym (set_else s.views id other u apart) ∙ there in let q = r.standing.seen other w there' in record {
        standing = record {
          wide = r.standing.wide;
          all = r.standing.all;
          lawful = r.standing.lawful;
          there = r.standing.there;
          marked = r.standing.marked;
          seen = each (Fits r.standing.all) ws other spent ((λ y e. absurd (none_there y e)), λ m h. absurd h)
              (each (Fits r.standing.all) s.views id u (p.0, λ m h. ⊎_elim (p.1 m) (q.1 m) (has_append v.seen w.seen m h)) r.standing.seen);
          once = λ f. omega (arith, total-set (kept_weight f) ws other w spent there, total-set (kept_weight f) s.views id v u at, r.standing.once f, total-append f v.kept w.kept);
          own = each Own ws other spent (λ m h. absurd h) (each Own s.views id u (λ m h. ⊎_elim
              (λ (t : Has v.kept m). map_left (λ (n : Name). n.number) v.names w.names m.by (r.standing.own id v at m t))
              (λ (t : Has w.kept m). map_right (λ (n : Name). n.number) v.names w.names m.by (r.standing.own other w there' m t))
              (has_append v.kept w.kept m h)) r.standing.own);
          saw = each Saw ws other spent (λ m h. absurd h) (each Saw s.views id u (λ m h. ⊎_elim
              (λ (t : Has v.kept m). has_left v.seen w.seen m (r.standing.saw id v at m t))
              (λ (t : Has w.kept m). has_right v.seen w.seen m (r.standing.saw other w there' m t))
              (has_append v.kept w.kept m h)) r.standing.saw);
        };
        numbered = joins (get_or s.words 0 0) s.views r.numbered id v other w at there apart;
      }
