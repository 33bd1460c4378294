-- The stages of publishing: what stands after each walk lets the next one go.
use Rattle.std.proofs.Common.{◌≡◌, ℕ, ◌<◌, ◌≤◌, ⊎_elim, inr, List, length, Contains, slice_get, Some, sym, ap, ◌∙◌, subst, arith}
use Rattle.std.proofs.lemmas.Option.{slice_get_within}
use Rattle.clr_base.specs.declared.ids.Handle.{Handle}
use Rattle.word_board.specs.Marks.{Within}
use Rattle.word_board.specs.declared.view.Mark.{Mark}
use Rattle.node_set.specs.Keys.{Key, Spells}
use Rattle.type_record.specs.Words.{row_word}
use Rattle.type_record.specs.Records.{entries}
use Rattle.key_rows.specs.Facts.{Facts, IsClosed, IsOtherWord, IsApproximate, IsExact}
use Rattle.key_rows.specs.Rows.{WordSet, SetWhere, LevelSet}
use Rattle.key_publish.specs.declared.plan.Part.{Part}
use Rattle.key_publish.specs.declared.plan.Member.{Member}
use Rattle.key_publish.specs.Plans.{Denotes, Shown, Spelled, MemberFits, PlanFits}
use Rattle.key_publish.specs.Published.{Raised, HasRecord, CanRaise, Published, Laid, IsRowLeft, IsLeft}
use Rattle.key_publish.proofs.Entries.{member_fits_on}
use Rattle.key_publish.proofs.Parts.{same_some, spelled_on}
use Rattle.key_publish.proofs.Walks.{has_record_on, has_record_as}

approximate_other : (facts : Facts) (k : Key) (w : ℕ) → IsApproximate facts k w → IsOtherWord w
approximate_other facts k w a l = let x = l.0 in let y = l.1 in ⊎_elim (λ b. omega arith) (λ b. ⊎_elim (λ d. omega arith) (λ d. let e = d.0 in omega arith) b) a

exact_other : (facts : Facts) (k : Key) (w : ℕ) → IsExact facts k w → IsOtherWord w
exact_other facts k w a l = let x = l.0 in let y = l.1 in
    ⊎_elim (λ b. approximate_other facts k w b l) (λ b. ⊎_elim (λ d. omega arith) (λ d. let e = d.0 in omega arith) b) a

pub denotes_inside : (parts : List Part) (i : ℕ) (k : Key) → Denotes parts i k → i < length parts
denotes_inside parts i (Key.head d) s = slice_get_within parts i _ s
denotes_inside parts i (Key.put k x) s = slice_get_within parts i _ s.4
denotes_inside parts i (Key.array e) s = slice_get_within parts i _ s.2
denotes_inside parts i (Key.method m o) s = slice_get_within parts i _ s.2

pub laid_on : (cells : ℕ) (xs ys : List Mark) → Within xs ys → (facts : Facts) (parts : List Part) (handles : List Handle) (members : List Member) → Laid cells xs facts parts handles members → Laid cells ys facts parts handles members
laid_on cells xs ys on facts parts handles members l = record {
  long = l.long;
  spelled = spelled_on cells xs ys on parts handles l.spelled;
  records = λ j m at. has_record_on cells xs ys on facts (Denotes parts) handles m (l.records j m at);
}

pub shows : (cells : ℕ) (seen : List Mark) (parts : List Part) (handles : List Handle) → length handles ≡ length parts → Spelled cells seen parts handles → (p : ℕ) (k : Key) → Denotes parts p k → Shown cells seen handles p k
shows cells seen parts handles long spelled p k d = let low = denotes_inside parts p k d in spelled p k (omega arith) d

-- what set_records asks for
pub plan_shown : (cells : ℕ) (seen : List Mark) (facts : Facts) (granted : Key → Type 0) (parts : List Part) (members : List Member) (asked : ℕ) (handles : List Handle) → length handles ≡ length parts → Spelled cells seen parts handles
    → (root : Key) → PlanFits facts parts members asked root → ((k : Key) → Contains (facts.closure root) k → granted k)
    → (j : ℕ) (m : Member) → slice_get members j ≡ Some m → (k : Key) × granted k × MemberFits (Shown cells seen handles) facts m k
plan_shown cells seen facts granted parts members asked handles long spelled root plan grant j m at = let f = plan.members_fit j m at in
    (f.0, grant f.0 f.1, member_fits_on (Denotes parts) (Shown cells seen handles) (shows cells seen parts handles long spelled) facts m f.0 f.2)

module _ (cells : ℕ) (seen : List Mark) (facts : Facts) (parts : List Part) (handles : List Handle) (members : List Member) (laid : Laid cells seen facts parts handles members) (closed : IsClosed facts) where
  abbrev At : Member → Key → Type 0
  At m k = (h : Handle) × (slice_get handles m.part ≡ Some h) × Spells cells seen h.0 k × SetWhere cells seen facts IsOtherWord h.0 k

  member_at : (j : ℕ) (m : Member) (k : Key) → slice_get members j ≡ Some m → MemberFits (Denotes parts) facts m k → At m k
  member_at j m k at fits =
      let s = shows cells seen parts handles laid.long laid.spelled m.part k fits.0 in
      (s.0, s.1, s.2, λ w e rec is. laid.records j m at s.0 k w e s.1 fits (let low = slice_get_within (entries (facts.record_of k)) w e is in let same = fits.2 in omega arith) rec is)

  module _ (asked : ℕ) (root : Key) (plan : PlanFits facts parts members asked root) where
    -- a key of the closure whose level was raised
    level_of : (level : ℕ) → Raised cells seen handles members (length members) level → (k : Key) → Contains (facts.closure root) k → LevelSet cells seen level k
    level_of level raised k there = let w = plan.whole k there in let a = member_at w.0 w.1 k w.2 w.3 in
        (a.0.0, a.2, raised w.0 w.1 a.0 (slice_get_within members w.0 w.1 w.2) w.2 a.1)

    -- what a walk asks for
    pub can_walk : (granted : Key → Type 0) → ((k : Key) → Contains (facts.closure root) k → granted k) → (level : ℕ) → level ≤ 3 → (level ≡ 3 → Raised cells seen handles members (length members) 2)
        → (j : ℕ) (m : Member) → slice_get members j ≡ Some m → CanRaise cells seen facts granted handles level m
    can_walk granted grant level few below j m at =
        let f = plan.members_fit j m at in let a = member_at j m f.0 at f.2 in (
          a.0,
          f.0,
          a.1,
          a.2,
          grant f.0 f.1,
          (
            (λ is w e ask. a.3 w e (approximate_other facts f.0 w ask)),
            (λ is w e ask. a.3 w e (exact_other facts f.0 w ask)),
            (λ is. (a.3, λ d there. level_of 2 (below is) d (closed.direct root f.0 d f.1 there))),
            (λ is. absurd (omega arith)),
          ),
        )

    pub can_top : (granted : Key → Type 0) → ((k : Key) → Contains (facts.closure root) k → granted k) → Raised cells seen handles members (length members) 3
        → (m : Member) → slice_get members asked ≡ Some m → CanRaise cells seen facts granted handles 4 m
    can_top granted grant raised m at =
        let f = plan.asked_fits in let same = same_some (slice_get members asked) f.0 m f.1 at in
        let a = member_at asked m root at (subst (λ (x : Member). MemberFits (Denotes parts) facts x root) same f.2) in (
          a.0,
          root,
          a.1,
          a.2,
          grant root (closed.own root),
          (
            (λ is. absurd (omega arith)),
            (λ is. absurd (omega arith)),
            (λ is. absurd (omega arith)),
            (λ is k there. level_of 3 raised k there),
          ),
        )

    -- what publishing leaves
    pub published : Raised cells seen handles members (length members) 1 → Raised cells seen handles members (length members) 2 → Raised cells seen handles members (length members) 3 → (m : Member) → slice_get members asked ≡ Some m
        → ((h : Handle) → slice_get handles m.part ≡ Some h → WordSet cells seen h.0 7 (row_word 4 0)) → (h : Handle) → slice_get handles m.part ≡ Some h → Published cells seen facts h.0 root
    published one two raised m at top h is =
        let f = plan.asked_fits in let same = same_some (slice_get members asked) f.0 m f.1 at in
        let a = member_at asked m root at (subst (λ (x : Member). MemberFits (Denotes parts) facts x root) same f.2) in
        let here : a.0 ≡ h = same_some (slice_get handles m.part) a.0 h a.1 is in (
          subst (λ (x : Handle). Spells cells seen x.0 root) here a.2,
          top h is,
          λ k there. let w = plan.whole k there in let b = member_at w.0 w.1 k w.2 w.3 in
              let low = slice_get_within members w.0 w.1 w.2 in (b.0.0, (b.2, b.3, one w.0 w.1 b.0 low w.2 b.1, two w.0 w.1 b.0 low w.2 b.1, raised w.0 w.1 b.0 low w.2 b.1)),
        )

pub laid_first : (cells : ℕ) (first seen : List Mark) → Within first seen → (facts : Facts) (parts : List Part) (handles items : List Handle) (members : List Member) → handles ≡ items → length items ≡ length parts → Spelled cells first parts items
    → ((j : ℕ) (m : Member) → slice_get members j ≡ Some m → HasRecord cells seen facts (Shown cells first handles) handles m) → Laid cells seen facts parts handles members
laid_first cells first seen on facts parts handles items members value long spelled records =
    let long' : length handles ≡ length parts = ap length value ∙ long in
    let spelled' = subst (λ (hs : List Handle). Spelled cells first parts hs) (sym value) spelled in
    record {
      long = long';
      spelled = spelled_on cells first seen on parts handles spelled';
      records = λ j m at. has_record_as cells seen facts (Shown cells first handles) (Denotes parts) (shows cells first parts handles long' spelled') handles m (records j m at);
    }

pub within_on : (xs ys zs : List Mark) → Within xs ys → Within ys zs → Within xs zs
within_on xs ys zs a b m h = b m (a m h)

pub asked_inside : (cells : ℕ) (seen : List Mark) (facts : Facts) (parts : List Part) (handles : List Handle) (members : List Member) → Laid cells seen facts parts handles members
    → (asked : ℕ) (root : Key) → PlanFits facts parts members asked root → (m : Member) → slice_get members asked ≡ Some m → m.part < length handles
asked_inside cells seen facts parts handles members laid asked root plan m at =
    let f = plan.asked_fits in let same = same_some (slice_get members asked) f.0 m f.1 at in
    let fits = subst (λ (x : Member). MemberFits (Denotes parts) facts x root) same f.2 in
    let s = shows cells seen parts handles laid.long laid.spelled m.part root fits.0 in slice_get_within handles m.part s.0 s.1

-- where a row of a member's record has no cell, a row of a key of the closure has none
pub row_left : (cells : ℕ) (seen : List Mark) (facts : Facts) (parts : List Part) (handles : List Handle) (members : List Member) → length handles ≡ length parts → Spelled cells seen parts handles
    → (asked : ℕ) (root : Key) → PlanFits facts parts members asked root → (j : ℕ) (m : Member) → slice_get members j ≡ Some m → IsRowLeft cells seen handles m → IsLeft cells seen facts parts root
row_left cells seen facts parts handles members long spelled asked root plan j m at left =
    let f = plan.members_fit j m at in
    let s = shows cells seen parts handles long spelled m.part f.0 f.2.0 in
    let same : s.0 ≡ left.0 = same_some (slice_get handles m.part) s.0 left.0 s.1 left.2 in
    let low = left.4 in let fits = f.2.2 in
    inr (left.0, f.0, left.1, f.1, subst (λ (h : Handle). Spells cells seen h.0 f.0) same s.2, left.3, omega arith, left.5)
