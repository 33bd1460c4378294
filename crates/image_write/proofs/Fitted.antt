-- What holds of a draft that fits.
use Rattle.std.proofs.Common.{◌≡◌, ℕ, zero, suc, ◌+◌, ◌^◌, ◌<◌, Bool, true, false, cond, nat_lt, refl, ◌∙◌, ap, arith, Option, None, Some}
use Rattle.std.proofs.lemmas.Bool.{leb-true}
use Rattle.std.specs.List.{list_all, find, range_with_len}
use Rattle.cli_tables.proofs.SchemaFacts.{first_of_both, last_of_both}
use Rattle.image_write.specs.declared.draft.Draft.{Draft}
use Rattle.image_write.specs.Drafts.{column_count, rows}
use Rattle.image_write.specs.Fitting.{cell_fits, row_fits, table_fits, fits, crowded}
use Rattle.image_write.specs.Lengths.{image_len}

pub short_test : (draft : Draft) → fits draft ≡ true → nat_lt (image_len draft) (2 ^ 31) ≡ true
unfolding fits
short_test draft fit = last_of_both _ _ (first_of_both _ _ fit)

pub short : (draft : Draft) → fits draft ≡ true → image_len draft < 2 ^ 31
short draft fit = leb-true _ _ (short_test draft fit)

-- a test that all numbers below n pass
pub all_below : (p : ℕ → Bool) (n i : ℕ) → list_all p (range_with_len 0 n) ≡ true → i < n → p i ≡ true
all_below p n i all within = let e : i ≡ 0 + i = omega arith in ap p e ∙ from 0 n i all within
  where
    from : (a n i : ℕ) → list_all p (range_with_len a n) ≡ true → i < n → p (a + i) ≡ true
    from a zero i all within = absurd (omega arith)
    from a (suc n) zero all within =
        let e : a + 0 ≡ a = omega arith in
        ap p e ∙ first_of_both (p a) (list_all p (range_with_len (a + 1) n)) all
    from a (suc n) (suc i) all within =
        let e : a + suc i ≡ a + 1 + i = omega arith in
        ap p e ∙ from (a + 1) n i (last_of_both (p a) (list_all p (range_with_len (a + 1) n)) all) (omega arith)

pub tables_fit : (draft : Draft) (t : ℕ) → fits draft ≡ true → t < 45 → table_fits draft t ≡ true
unfolding fits
tables_fit draft t fit known = all_below (table_fits draft) 45 t (last_of_both _ _ fit) known

pub cells_fit : (draft : Draft) (t r c : ℕ) → fits draft ≡ true → t < 45 → r < rows draft t → c < column_count t → cell_fits draft t r c ≡ true
unfolding table_fits row_fits
cells_fit draft t r c fit known row column =
    all_below (cell_fits draft t r) (column_count t) c
    (all_below (row_fits draft t) (rows draft t) r (last_of_both _ _ (tables_fit draft t fit known)) row)
    column

-- no table has more rows than a token can name
fails_here : {X : Type 0} (b : Bool) (x : X) (rest : Option X) → cond b (Some x) rest ≡ None → b ≡ false
fails_here true x rest e = absurd (cc)
fails_here false x rest e = refl

fails_later : {X : Type 0} (b : Bool) (x : X) (rest : Option X) → cond b (Some x) rest ≡ None → rest ≡ None
fails_later true x rest e = absurd (cc)
fails_later false x rest e = e

find_none : (p : ℕ → Bool) (a n i : ℕ) → find p (range_with_len a n) ≡ None → i < n → p (a + i) ≡ false
find_none p a zero i none within = absurd (omega arith)
find_none p a (suc n) zero none within =
    let e : a + 0 ≡ a = omega arith in
    ap p e ∙ fails_here (p a) a (find p (range_with_len (a + 1) n)) none
find_none p a (suc n) (suc i) none within =
    let e : a + suc i ≡ a + 1 + i = omega arith in
    ap p e ∙ find_none p (a + 1) n i (fails_later (p a) a (find p (range_with_len (a + 1) n)) none) (omega arith)

pub few_rows : (draft : Draft) (t : ℕ) → crowded draft ≡ None → t < 45 → nat_lt 16777215 (rows draft t) ≡ false
unfolding crowded
few_rows draft t none known =
    let e : t ≡ 0 + t = omega arith in
    ap (λ (k : ℕ). nat_lt 16777215 (rows draft k)) e ∙ find_none (λ k. nat_lt 16777215 (rows draft k)) 0 45 t none known
