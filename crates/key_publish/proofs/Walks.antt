-- The walks over the members.
use Rattle.std.proofs.Common.{◌≡◌, ℕ, ◌+◌, ◌-◌, ◌<◌, ◌≤◌, List, slice_get, None, Some, sym, refl, subst, arith}
use mathlib.Core.Logic.{dite}
use native.Mathlib.Decide.{dec_lt}
use Rattle.clr_base.specs.declared.ids.Handle.{Handle}
use Rattle.word_board.specs.Marks.{Within}
use Rattle.word_board.specs.declared.view.Mark.{Mark}
use Rattle.node_set.specs.Keys.{Key, spells_on}
use Rattle.type_record.specs.Words.{row_word}
use Rattle.type_record.specs.Records.{entries, entry}
use Rattle.key_rows.proofs.Levels.{level_tells}
use Rattle.key_rows.specs.Facts.{Facts}
use Rattle.key_rows.specs.Rows.{WordSet, Promise, WordMay, entry_set_on, word_set_on, promise_on}
use Rattle.key_publish.specs.declared.plan.Member.{Member}
use Rattle.key_publish.specs.Published.{Raised, HasRecord, CanRaise}
use Rattle.key_publish.proofs.Entries.{member_fits_on}
use Rattle.key_publish.proofs.Parts.{same_some}

-- a level word may stand where its promise holds
pub level_may : (cells : ℕ) (seen : List Mark) (facts : Facts) (h : ℕ) (k : Key) (level : ℕ) → 0 < level → level ≤ 4 → Promise cells seen facts level h k
    → WordMay cells seen facts h k (3 + level) (row_word level 0)
level_may cells seen facts h k level some few promise =
    let e : level ≡ 3 + level - 3 = omega arith in
    let at : 4 + (level - 1) ≡ 3 + level = omega arith in
    let one : level - 1 + 1 ≡ level = omega arith in
    let tells = subst (λ (x : ℕ × ℕ). slice_get (entries (facts.record_of k)) x.0 ≡ Some (entry x.1 None)) (λ i. (at i, one i)) (level_tells (facts.record_of k) (level - 1) (omega arith)) in
    (entry level None, tells, (record { number = level; key = None }, (omega arith, tt), (refl, tt), refl), λ l. subst (λ (n : ℕ). Promise cells seen facts n h k) e promise)

pub can_raise_on : (cells : ℕ) (xs ys : List Mark) → Within xs ys → (facts : Facts) (given granted : Key → Type 0) → ((k : Key) → given k → granted k) → (handles : List Handle) (level : ℕ) (m : Member)
    → CanRaise cells xs facts given handles level m → CanRaise cells ys facts granted handles level m
can_raise_on cells xs ys on facts given granted grant handles level m c =
    (c.0, c.1, c.2, spells_on cells xs ys on c.0.0 c.1 c.3, grant c.1 c.4, promise_on cells xs ys on facts level c.0.0 c.1 c.5)

pub raised_on : (cells : ℕ) (xs ys : List Mark) → Within xs ys → (handles : List Handle) (members : List Member) (n level : ℕ) → Raised cells xs handles members n level → Raised cells ys handles members n level
raised_on cells xs ys on handles members n level r j m h low at is = word_set_on cells xs ys on h.0 (3 + level) (row_word level 0) (r j m h low at is)

-- one member more
pub raised_next : (cells : ℕ) (old new : List Mark) → Within old new → (handles : List Handle) (members : List Member) (n level : ℕ) (m : Member) → slice_get members n ≡ Some m
    → ((h : Handle) → slice_get handles m.part ≡ Some h → WordSet cells new h.0 (3 + level) (row_word level 0)) → Raised cells old handles members n level → Raised cells new handles members (n + 1) level
raised_next cells old new on handles members n level m at set r j x h low at-x is =
    dite (dec_lt j n) (λ lower. word_set_on cells old new on h.0 (3 + level) (row_word level 0) (r j x h lower at-x is))
    (λ not-lower.
    let here : n ≡ j = omega arith in
    let same : m ≡ x = same_some (slice_get members j) m x (subst (λ (i : ℕ). slice_get members i ≡ Some m) here at) at-x in
    set h (subst (λ (y : Member). slice_get handles y.part ≡ Some h) (sym same) is))

-- the records of the first n members are set
abbrev pub Recorded : ℕ → List Mark → Facts → (ℕ → Key → Type 0) → List Handle → List Member → ℕ → Type 0
Recorded cells seen facts Means handles members n = (j : ℕ) (m : Member) → j < n → slice_get members j ≡ Some m → HasRecord cells seen facts Means handles m

pub has_record_on : (cells : ℕ) (xs ys : List Mark) → Within xs ys → (facts : Facts) (Means : ℕ → Key → Type 0) (handles : List Handle) (m : Member) → HasRecord cells xs facts Means handles m → HasRecord cells ys facts Means handles m
has_record_on cells xs ys on facts Means handles m r h k w e is f low rec at = entry_set_on cells xs ys on h.0 w e (r h k w e is f low rec at)

-- fewer keys fit
pub has_record_as : (cells : ℕ) (seen : List Mark) (facts : Facts) (Means Less : ℕ → Key → Type 0) → ((p : ℕ) (k : Key) → Less p k → Means p k) → (handles : List Handle) (m : Member) → HasRecord cells seen facts Means handles m → HasRecord cells seen facts Less handles m
has_record_as cells seen facts Means Less less handles m r h k w e is f low rec at = r h k w e is (member_fits_on Less Means less facts m k f) low rec at

pub recorded_next : (cells : ℕ) (old new : List Mark) → Within old new → (facts : Facts) (Means : ℕ → Key → Type 0) (handles : List Handle) (members : List Member) (n : ℕ) (m : Member) → slice_get members n ≡ Some m
    → HasRecord cells new facts Means handles m → Recorded cells old facts Means handles members n → Recorded cells new facts Means handles members (n + 1)
recorded_next cells old new on facts Means handles members n m at set r j x low at-x =
    dite (dec_lt j n) (λ lower. has_record_on cells old new on facts Means handles x (r j x lower at-x))
    (λ not-lower.
    let here : n ≡ j = omega arith in
    let same : m ≡ x = same_some (slice_get members j) m x (subst (λ (i : ℕ). slice_get members i ≡ Some m) here at) at-x in
    subst (λ (y : Member). HasRecord cells new facts Means handles y) same set)
