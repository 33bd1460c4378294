-- The TypeDef rows from the last one to the first: what the run of each says in front of those behind it.
use Rattle.std.proofs.Common.{◌≡◌, ℕ, zero, suc, ◌+◌, ◌-◌, ◌<◌, ◌≤◌, List, ◌∷◌, Bool, true, false, length, get_or, map, max, min, replicate, unwrap_or, refl, sym, ap, ap₂, ◌∙◌, arith, if◌then◌else◌}
use Rattle.std.proofs.lemmas.List.{length-replicate, get_or-replicate}
use Rattle.std.proofs.lemmas.List.FromFn.{fill_by_all}
use Rattle.std.specs.List.{find, range_with_len}
use Rattle.cli_tables.specs.Metadata.{Metadata}
use Rattle.image_rows.specs.Cells.{at, rows, rows_of, run_end, in_run, is_owner, owner_of}

-- ---- one run

-- what was set of a run that begins at a first row, up to a row
pub record RunSet (first row owner : ℕ) (old new : List ℕ) : Type 0 where
  pub count : length new ≡ length old
  pub each : (i d : ℕ) → i < length old → get_or new i d ≡ (if in_run first row (i + 1) then owner else get_or old i d)

pub stopped_in : (first end row i n : ℕ) → i < n → min end (n + 1) ≤ row → row ≤ max (max first 1) (min end (n + 1)) → in_run first row (i + 1) ≡ in_run first end (i + 1)
stopped_in first end row i n within stop last = grind arith

-- ---- all of them

-- the first of n definitions from a first one on that owns a row
unfoldable pub owner_by : Metadata → ℕ → ℕ → ℕ → ℕ → ℕ → ℕ
owner_by m column table first n row = unwrap_or (find (is_owner m column table row) (range_with_len first n)) 0

-- the owners of all rows, as the definitions behind the first k tell them
pub record OwnedBehind (m : Metadata) (column table k : ℕ) (owners : List ℕ) : Type 0 where
  pub count : length owners ≡ rows m table
  pub each : (i d : ℕ) → i < rows m table → get_or owners i d ≡ owner_by m column table (k + 1) (rows m 0x02 - k) (i + 1)

by_none : (m : Metadata) (column table first row : ℕ) → owner_by m column table first 0 row ≡ 0
unfolding owner_by
by_none m column table first row = refl

by_front : (m : Metadata) (column table first n row : ℕ) (b : Bool) → is_owner m column table row first ≡ b
    → owner_by m column table first (suc n) row ≡ (if b then first else owner_by m column table (first + 1) n row)
unfolding owner_by
by_front m column table first n row true e = rw e refl
by_front m column table first n row false e = rw e refl

pub owned_none : (m : Metadata) (column table k : ℕ) (owners : List ℕ) → k ≡ rows m 0x02 → owners ≡ replicate (rows m table) 0 → OwnedBehind m column table k owners
owned_none m column table k owners all zeros = record {
  count = ap length zeros ∙ length-replicate (rows m table) 0;
  each = λ i d within.
      let none : rows m 0x02 - k ≡ 0 = omega arith in
      ap (λ (xs : List ℕ). get_or xs i d) zeros ∙ get_or-replicate (rows m table) i 0 d within
      ∙ sym (by_none m column table (k + 1) (i + 1)) ∙ ap (λ (n : ℕ). owner_by m column table (k + 1) n (i + 1)) (sym none);
}

-- the definition k + 1 in front of those behind it
pub owned_more : (m : Metadata) (column table k j first end : ℕ) (old new : List ℕ) → j ≡ k + 1 → k < rows m 0x02 → OwnedBehind m column table j old
    → first ≡ at m 0x02 (k + 1) column → end ≡ run_end m column table (k + 1)
    → length new ≡ length old → ((i d : ℕ) → i < length old → get_or new i d ≡ (if in_run first end (i + 1) then k + 1 else get_or old i d))
    → OwnedBehind m column table k new
owned_more m column table k j first end old new next within before first_is end_is count set = record {
  count = count ∙ before.count;
  each = λ i d inside.
      let room : i < length old = omega (arith, before.count) in
      let more : rows m 0x02 - k ≡ suc (rows m 0x02 - (k + 1)) = omega arith in
      set i d room
      ∙ ap (λ (b : Bool). if b then k + 1 else get_or old i d) (ap₂ (λ (f e : ℕ). in_run f e (i + 1)) first_is end_is)
      ∙ ap (λ (x : ℕ). if is_owner m column table (i + 1) (k + 1) then k + 1 else x)
      (before.each i d inside ∙ ap (λ (x : ℕ). owner_by m column table (x + 1) (rows m 0x02 - x) (i + 1)) next)
      ∙ sym (ap (λ (n : ℕ). owner_by m column table (k + 1) n (i + 1)) more
      ∙ by_front m column table (k + 1) (rows m 0x02 - (k + 1)) (i + 1) (is_owner m column table (i + 1) (k + 1)) refl);
}

from_one : {X : Type 0} (f : ℕ → X) (a n : ℕ) → map f (range_with_len (a + 1) n) ≡ map (λ i. f (i + 1)) (range_with_len a n)
from_one f a zero = refl
from_one f a (suc n) = ap (λ xs. f (a + 1) ∷ xs) (from_one f (a + 1) n)

pub owned_all : (m : Metadata) (column table k : ℕ) (owners : List ℕ) → k ≡ 0 → OwnedBehind m column table k owners
    → owners ≡ map (owner_of m column table) (rows_of m table)
unfolding owner_by owner_of
owned_all m column table k owners first owned =
    let whole : rows m 0x02 - k ≡ rows m 0x02 = omega arith in
    fill_by_all (λ i. owner_of m column table (i + 1)) owners (rows m table) 0 owned.count
    (λ i within.
    owned.each i 0 within ∙ ap (λ (n : ℕ). owner_by m column table (k + 1) n (i + 1)) whole
    ∙ ap (λ (x : ℕ). owner_by m column table (x + 1) (rows m 0x02) (i + 1)) first)
    ∙ sym (from_one (owner_of m column table) 0 (rows m table))
