-- A board as it opens, and as it closes.
use Rattle.std.proofs.Common.{◌≡◌, ℕ, zero, suc, ◌+◌, ◌<◌, List, [], ◌∷◌, length, get_or, replicate, sym, refl, ap, ◌∙◌, subst, inl, arith, ◌++◌, Option, Some}
use Rattle.std.proofs.lemmas.List.{length-replicate}
use Rattle.std.proofs.Math.ListN.{get_or-append}
use Rattle.std.proofs.Math.Seq.{get_or-append_seam}
use mathlib.Core.Logic.{dite}
use mathlib.Core.Option.{some, some-injective, some-ne-none}
use native.Mathlib.Decide.{dec_lt}
use lib.ListN.{get_elem?}
use Rattle.atomic_table.specs.Table.{State, opening, Final, Seen}
use Rattle.word_board.specs.Weights.{total}
use Rattle.word_board.specs.Marks.{mark, Has, Within}
use Rattle.word_board.specs.Numbers.{numbers, Numbered}
use Rattle.word_board.specs.Views.{newcomer}
use Rattle.word_board.specs.Rule.{Ruled}
use Rattle.word_board.specs.Closing.{RowOf, Closes}
use Rattle.word_board.specs.declared.view.Mark.{Mark}
use Rattle.word_board.specs.declared.view.View.{View}
use Rattle.word_board.specs.declared.view.Plan.{Plan}
use Rattle.word_board.proofs.Sums.{total-alone}
use Rattle.word_board.proofs.Numbers.{one_view, starts, alone, all_drawn}

pub in_range : (ws : List ℕ) (i : ℕ) → 0 < get_or ws i 0 → i < length ws
in_range [] i h = absurd (omega arith)
in_range (x ∷ ws) zero h = omega arith
in_range (x ∷ ws) (suc i) h = omega (arith, in_range ws i h)

all_zero : (n i : ℕ) → ◌≡◌ {A = ℕ} (get_or (replicate n 0) i 0) 0
all_zero zero i = refl
all_zero (suc n) zero = refl
all_zero (suc n) (suc i) = all_zero n i

at_get : (ws : List ℕ) (i x : ℕ) → get_elem? ws i ≡ some x → get_or ws i 0 ≡ x
at_get [] i x e = absurd (some-ne-none x (sym e))
at_get (y ∷ ws) zero x e = some-injective y x e
at_get (y ∷ ws) (suc i) x e = at_get ws i x e

-- one word more is copied
pub row_snoc : (row words : List ℕ) (i x : ℕ) → length row ≡ i → ((k : ℕ) → k < i → get_or row k 0 ≡ get_or words (k + 1) 0) → get_elem? words (i + 1) ≡ some x
    → (k : ℕ) → k < i + 1 → get_or (row ++ x ∷ []) k 0 ≡ get_or words (k + 1) 0
row_snoc row words i x long same at k h = dite (dec_lt k i)
    (λ low. get_or-append row (x ∷ []) 0 k (omega arith) ∙ same k low)
    (λ high. let e : length row ≡ k = omega arith in let f : i + 1 ≡ k + 1 = omega arith in ap (λ (z : ℕ). get_or (row ++ x ∷ []) z 0) (sym e) ∙ (get_or-append_seam row x [] 0 ∙ (sym (at_get words (i + 1) x at) ∙ ap (λ (z : ℕ). get_or words z 0) f)))

none_kept : (f : Mark → ℕ) (ms : List Mark) → ((m : Mark) → ¬ Has ms m) → total f ms ≡ 0
none_kept f [] h = refl
none_kept f (m ∷ ms) h = absurd (h m (inl refl))

some_same : {P : Type 0} (x y : P) → ◌≡◌ {A = Option P} (Some x) (Some y) → y ≡ x
some_same x y e = cc

module _ {P : Type 0} (may : P → List Mark → Mark → Type 0) (count : ℕ) (page : P) where
  pub opens : (ws : List ℕ) → ws ≡ replicate (count + 1) 0 → Ruled (may page) count page (opening {S = ℕ} ws [] (newcomer page))
  opens ws e = let zeros : (i : ℕ) → get_or ws i 0 ≡ 0 = λ i. ap (λ (l : List ℕ). get_or l i 0) e ∙ all_zero (count + 1) i in record {
    standing = record {
      wide = ap length e ∙ length-replicate (count + 1) 0;
      all = [];
      lawful = ((λ m h. absurd h), λ m n h. absurd h);
      there = λ m h. absurd h;
      marked = λ place h. absurd (omega (arith, zeros (place + 1)));
      seen = λ j v at. let e : newcomer page ≡ v = one_view j (newcomer page) v at in
          subst (λ (u : View P). ((q : P) → u.page ≡ Some q → q ≡ page) × Within u.seen []) e ((λ q is. some_same page q is), λ m h. h);
      once = λ f. refl;
      own = λ j v at. let e : newcomer page ≡ v = one_view j (newcomer page) v at in subst (λ (u : View P). (m : Mark) → Has u.kept m → Has (numbers u.names) m.by) e (λ m h. absurd h);
      saw = λ j v at. let e : newcomer page ≡ v = one_view j (newcomer page) v at in subst (λ (u : View P). Within u.kept u.seen) e (λ m h. absurd h);
    };
    numbered = subst (λ (n : ℕ). Numbered n (newcomer page ∷ [])) (sym (zeros 0)) (starts page);
  }

  pub closes : (id : ℕ) (v : View P) (ws xs row : List ℕ) → Final (Seen (Ruled (may page) count page) id v) ws xs → RowOf ws count row → Closes (may page) count v row
  closes id v ws xs row final is = let s : State ℕ (View P) = final.0 in let r = final.1.0 in let at = final.1.1 in let b = r.standing in
      let wide = b.wide in
      let same : (place : ℕ) → place < count → get_or row place 0 ≡ get_or s.words (place + 1) 0 = λ place h. is.1 place h ∙ ap (λ (l : List ℕ). get_or l (place + 1) 0) (sym final.2) in
      let long = is.0 in (
        long,
        (
          b.all,
          b.lawful,
          (b.seen id v at).1,
          (
            λ m h. let t = b.there m h in let f = t.0 in let e = t.1 in let low : m.place < count = omega (arith, in_range s.words (m.place + 1) (omega arith)) in (omega arith, f, same m.place low ∙ e),
            λ place h. let low = in_range row place h in let low' : place < count = omega arith in let k = b.marked place (omega (arith, same place low')) in
                (k.0, subst (λ (z : ℕ). Has b.all (mark place z k.0)) (sym (same place low')) k.1),
          ),
          λ whole. ((λ f. sym (total-alone (λ (u : View P). total f u.kept) s.views id v at (λ j u e apart. none_kept f u.kept (λ m h. alone (get_or s.words 0 0) s.views r.numbered id v at whole j u e apart m.by (b.own j u e m h)))) ∙ b.once f), b.own id v at, all_drawn (get_or s.words 0 0) s.views r.numbered id v at whole),
        ),
      )

pub closed : {P : Type 0} (may : P → List Mark → Mark → Type 0) (key plan : Plan P) (n width id : ℕ) (v : View P) (ws xs row : List ℕ) → key ≡ plan → n ≡ plan.places → plan.places ≡ width
    → Final (Seen (Ruled (may key.page) key.places key.page) id v) ws xs → RowOf ws n row → Closes (may plan.page) width v row
closed {P} may key plan n width id v ws xs row e long sized final is =
    subst (λ (k : ℕ). Closes (may plan.page) k v row) sized (closes may plan.places plan.page id v ws xs row (subst (λ (p : Plan P). Final (Seen (Ruled (may p.page) p.places p.page) id v) ws xs) e final) (subst (λ (k : ℕ). RowOf ws k row) long is))
