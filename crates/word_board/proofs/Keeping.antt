-- What the rule says of a pass at any time.
use Rattle.std.proofs.Common.{◌≡◌, ℕ, zero, suc, eqb, ◌+◌, ◌*◌, ◌<◌, List, [], ◌∷◌, length, slice_index, sym, refl, ap, ◌∙◌, subst, arith, get_or, zero-mul, mul-zero}
use mathlib.Core.Logic.{dite}
use mathlib.Core.Option.{none, some, some-injective, some-ne-none}
use native.Mathlib.Decide.{ℕ_discrete}
use lib.ListN.{get_elem?}
use Rattle.atomic_table.specs.Table.{State, Me, step, keeps, stepped, Allows}
use Rattle.atomic_table.proofs.Lists.{set_here}
use Rattle.word_board.specs.Views.{Known, number_of}
use Rattle.word_board.specs.Weights.{total}
use Rattle.word_board.specs.Marks.{mark, Has, Within, Lawful}
use Rattle.word_board.specs.Numbers.{numbers}
use Rattle.word_board.specs.Rule.{Ruled}
use Rattle.word_board.specs.Steps.{recalled, looked, wrote, looked_known, wrote_known}
use Rattle.word_board.specs.declared.view.Mark.{Mark}
use Rattle.word_board.specs.declared.view.View.{View}
use Rattle.word_board.proofs.Sums.{only, only-same, has_total, total-some, has-some}
use Rattle.word_board.proofs.Numbers.{one_has, only-is, once_drawn, all_drawn}
use Rattle.word_board.proofs.Keeps.{same_words, looks, puts}
use prog.Atomic.{either}

same : Mark → Mark → ℕ
same m x = only m.place x.place * (only m.word x.word * only m.by x.by)

zero_times : (a b : ℕ) → a ≡ 0 → ¬ (0 < a * b)
zero_times a b z h = let e : a * b ≡ 0 = ap (λ (k : ℕ). k * b) z ∙ zero-mul b in omega arith

times_zero : (a b : ℕ) → b ≡ 0 → ¬ (0 < a * b)
times_zero a b z h = let e : a * b ≡ 0 = ap (λ (k : ℕ). a * k) z ∙ mul-zero a in omega arith

times_pos : (a b : ℕ) → 0 < a * b → (0 < a) × (0 < b)
times_pos a b h = (dite (ℕ_discrete a 0) (λ z. absurd (zero_times a b z h)) (λ ne. omega arith), dite (ℕ_discrete b 0) (λ z. absurd (times_zero a b z h)) (λ ne. omega arith))

same-is : (m x : Mark) → 0 < same m x → m ≡ x
unfolding same
same-is m x h = let a = times_pos (only m.place x.place) (only m.word x.word * only m.by x.by) h in let b = times_pos (only m.word x.word) (only m.by x.by) a.1 in
    λ i. mark (sym (only-is m.place x.place a.0) i) (sym (only-is m.word x.word b.0) i) (sym (only-is m.by x.by b.1) i)

same-self : (m : Mark) → same m m ≡ 1
unfolding same
same-self m = (λ i. only-same m.place i * (only-same m.word i * only-same m.by i))

at_low : {A : Type 0} (l : List A) (i : ℕ) (x : A) → get_elem? l i ≡ some x → i < length l
at_low [] i x e = absurd (some-ne-none x (sym e))
at_low (y ∷ ys) zero x e = omega arith
at_low (y ∷ ys) (suc i) x e = let low = at_low ys i x e in omega arith

module _ {P : Type 0} (may : P → List Mark → Mark → Type 0) (stays : (page : P) (xs ys : List Mark) (m : Mark) → Within xs ys → may page xs m → may page ys m) (count : ℕ) (page : P) where
  -- what it has seen, and was set under a number that it has, it keeps
  keeper : (s : State ℕ (View P)) (r : Ruled (may page) count page s) (id : ℕ) (v : View P) → get_elem? s.views id ≡ some v → (m : Mark) → Has v.seen m → Has (numbers v.names) m.by → Has v.kept m
  keeper s r id v at m seen mine = let b = r.standing in
      let u = total-some (λ (y : View P). total (same m) y.kept) s.views (omega (arith, b.once (same m), has_total (same m) b.all m ((b.seen id v at).1 m seen), same-self m)) in
      let x = has-some (same m) u.1.kept u.3 in
      let kept : Has u.1.kept m = subst (Has u.1.kept) (sym (same-is m x.0 x.2)) x.1 in
      dite (ℕ_discrete u.0 id)
      (λ e. subst (λ (y : View P). Has y.kept m) (some-injective u.1 v (sym u.2 ∙ (ap (get_elem? s.views) e ∙ at))) kept)
      (λ apart. absurd (one_has (get_or s.words 0 0) s.views r.numbered id u.0 v u.1 at u.2 apart m.by mine (b.own u.0 u.1 u.2 m kept)))

  -- what holds of a pass by the rule
  knows : (s : State ℕ (View P)) (r : Ruled (may page) count page s) (id : ℕ) (v : View P) → get_elem? s.views id ≡ some v → Known may v
  knows s r id v at = record {
    sound = (r.standing.all, ((λ q is. subst (λ (y : P). Lawful (may y) r.standing.all) (sym ((r.standing.seen id v at).0 q is)) r.standing.lawful), (r.standing.seen id v at).1));
    kept_seen = r.standing.saw id v at;
    kept_own = r.standing.own id v at;
    own_kept = keeper s r id v at;
    drawn_own = r.numbered.made id v at;
    drawn_once = once_drawn (get_or s.words 0 0) s.views r.numbered id v at;
    drawn_first = all_drawn (get_or s.words 0 0) s.views r.numbered id v at;
  }

  pub recalls : (slots id : ℕ) (me : Me ℕ (View P)) → Allows (Ruled (may page) count page) slots id me 0 (λ x. x) (recalled may (step slots 0 0 0 none) me)
  recalls slots id me s r _ at _ = let v : View P = me.0 in (
    v,
    keeps,
    tt,
    same_words may stays count page s r 0 id me.1 v v at (r.standing.seen id v at) (λ m h. h) refl refl refl (r.numbered.least id v at),
    (refl, knows s r id v at),
  )

  -- each step also tells what the rule says of the pass after it
  pub tells : (slots id : ℕ) (me : Me ℕ (View P)) (i : ℕ) (f : ℕ → ℕ) (then : ℕ → Me ℕ (View P) → Type 0) → Allows (Ruled (may page) count page) slots id me i f then → Allows (Ruled (may page) count page) slots id me i f (λ r n. then r n × Known may n.0)
  tells slots id me i f then allows s r homes at wide =
      let t = allows s r homes at wide in
      (t.0, t.1, t.2, t.3, (t.4, knows (stepped s i (f (slice_index s.words i)) id me.1 t.0 t.1) t.3 id t.0 (set_here s.views id t.0 (at_low s.views id me.0 at))))

  pub looks_known : (slots id : ℕ) (me : Me ℕ (View P)) (place : ℕ) → Allows (Ruled (may page) count page) slots id me (place + 1) (λ x. x) (looked_known may (step slots (place + 1) 0 0 none) me)
  looks_known slots id me place = tells slots id me (place + 1) (λ x. x) (looked may (step slots (place + 1) 0 0 none) me) (looks may stays count page slots id me place)

  pub puts_known : (slots id : ℕ) (me : Me ℕ (View P)) (place word : ℕ) → 0 < length me.0.names → place < count → 0 < word → may page me.0.seen (mark place word (number_of me.0))
      → Allows (Ruled (may page) count page) slots id me (place + 1) (λ n. either (eqb n 0) word n) (wrote_known may (step slots (place + 1) 0 word none) me)
  puts_known slots id me place word live inside full stands = tells slots id me (place + 1) (λ n. either (eqb n 0) word n) (wrote (step slots (place + 1) 0 word none) me) (puts may stays count page slots id me place word live inside full stands)
