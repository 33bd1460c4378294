-- The words of records.
use Rattle.std.proofs.Common.{◌≡◌, ℕ, zero, suc, ◌+◌, ◌/◌, ◌<◌, ◌≤◌, List, [], ◌∷◌, length, slice_get, get_or, Option, None, Some, IfSome, sym, refl, ◌∙◌, subst, arith}
use Rattle.std.proofs.lemmas.Option.{slice_get_within, slice_get-get_or, get_or_from_slice_get}
use mathlib.Core.Logic.{dite}
use native.Mathlib.Decide.{dec_lt}
use Rattle.clr_base.specs.declared.ids.Handle.{Handle}
use Rattle.word_board.specs.Marks.{Within}
use Rattle.word_board.specs.declared.view.Mark.{Mark}
use Rattle.node_set.specs.Keys.{Key, Spells}
use Rattle.node_set.proofs.Spelling.{spells_inside}
use Rattle.type_record.specs.declared.entry.Entry.{Entry}
use Rattle.type_record.specs.Words.{word_of, FitsWord, IsHandle}
use Rattle.type_record.specs.Records.{entries}
use Rattle.key_rows.specs.Facts.{Facts, Tells, HasRow, IsOtherWord}
use Rattle.key_rows.specs.Rows.{SpellsOptional, IsWordOf, WordSet, WordMay, entry_set_on}
use Rattle.key_publish.specs.declared.plan.Member.{Member}
use Rattle.key_publish.specs.Plans.{HasHandle, IsHandleAt, IsInHandles, PartFits, EntryFits, MemberFits, Shown}
use Rattle.key_publish.specs.Published.{HasWord, HasRecordTo}
use Rattle.key_publish.proofs.Parts.{same_some}

pub get_some : {A : Type 0} (xs : List A) (n : ℕ) → n < length xs → (x : A) × (slice_get xs n ≡ Some x)
get_some [] n low = absurd (omega arith)
get_some (x ∷ xs) zero low = (x, refl)
get_some (x ∷ xs) (suc n) low = get_some xs n (omega arith)

module _ (Means More : ℕ → Key → Type 0) (on : (p : ℕ) (k : Key) → Means p k → More p k) where
  part_fits_on : (p : Option ℕ) (k : Option Key) → PartFits Means p k → PartFits More p k
  part_fits_on None None f = f
  part_fits_on None (Some k) f = f
  part_fits_on (Some p) None f = f
  part_fits_on (Some p) (Some k) f = on p k f

  entry_fits_on : (planned : Entry ℕ) (e : Entry Key) → EntryFits Means planned e → EntryFits More planned e
  entry_fits_on planned e f = (f.0, f.1, part_fits_on planned.key e.key f.2)

  pub member_fits_on : (facts : Facts) (m : Member) (k : Key) → MemberFits Means facts m k → MemberFits More facts m k
  member_fits_on facts m k f = (on m.part k f.0, f.1, f.2, λ w planned e a b. entry_fits_on planned e (f.3 w planned e a b))

module _ (cells : ℕ) (seen : List Mark) (handles : List Handle) where
  has_handle : (p : Option ℕ) (k : Option Key) → PartFits (Shown cells seen handles) p k → HasHandle handles p
  has_handle None None f = tt
  has_handle None (Some k) f = absurd f
  has_handle (Some p) None f = absurd f
  has_handle (Some p) (Some k) f = slice_get_within handles p f.0 f.1

  handle_spells : (p : Option ℕ) (k : Option Key) (h : Option Handle) → PartFits (Shown cells seen handles) p k → IsHandleAt handles p h → SpellsOptional cells seen h k
  handle_spells None None None f is = tt
  handle_spells None None (Some h) f is = is
  handle_spells None (Some k) h f is = absurd f
  handle_spells (Some p) None h f is = absurd f
  handle_spells (Some p) (Some k) None f is = is
  handle_spells (Some p) (Some k) (Some h) f is = subst (λ (x : Handle). Spells cells seen x.0 k) (same_some (slice_get handles p) f.0 h f.1 is) f.2

  handle_fits : cells ≤ 262144 → (h : Option Handle) (k : Option Key) → SpellsOptional cells seen h k → IfSome h IsHandle
  handle_fits few None k s = tt
  handle_fits few (Some h) None s = absurd s
  handle_fits few (Some h) (Some k) s = let low = spells_inside cells seen h.0 k s in let fits : h.0 < 262144 = omega arith in fits

  -- the entry, with the handle of its part, has a word, which is that of the key's entry
  told_fits : cells ≤ 262144 → (planned : Entry ℕ) (e : Entry Key) (told : Entry Handle) → EntryFits (Shown cells seen handles) planned e → IsInHandles handles planned told → FitsWord told
  told_fits few planned e told f is = let number = is.0 in let small = f.1 in (omega arith, handle_fits few told.key e.key (handle_spells planned.key e.key told.key f.2 is.1))

  pub told_word : cells ≤ 262144 → (planned : Entry ℕ) (e : Entry Key) (told : Entry Handle) → EntryFits (Shown cells seen handles) planned e → IsInHandles handles planned told → IsWordOf cells seen e (word_of told)
  told_word few planned e told f is = (told, told_fits few planned e told f is, (is.0 ∙ f.0, handle_spells planned.key e.key told.key f.2 is.1), refl)

  module _ (facts : Facts) (m : Member) (k : Key) (fits : MemberFits (Shown cells seen handles) facts m k) (w : ℕ) (planned : Entry ℕ) (at : slice_get m.record w ≡ Some planned) where
    -- the key's entry at the word
    fitting : (e : Entry Key) × Tells facts k w e × EntryFits (Shown cells seen handles) planned e
    fitting =
        let low = slice_get_within m.record w planned at in let long = fits.2 in
        let x = get_some (entries (facts.record_of k)) w (omega arith) in (x.0, x.1, fits.3 w planned x.0 at x.1)

    pub planned_handle : HasHandle handles planned.key
    planned_handle = let x = fitting in has_handle planned.key x.0.key x.2.2

    pub planned_fits : cells ≤ 262144 → (told : Entry Handle) → IsInHandles handles planned told → FitsWord told
    planned_fits few told is = let x = fitting in told_fits few planned x.0 told x.2 is

    -- the word may stand
    pub planned_may : cells ≤ 262144 → IsOtherWord w → (h : ℕ) (told : Entry Handle) → IsInHandles handles planned told → WordMay cells seen facts h k w (word_of told)
    planned_may few other h told is = let x = fitting in (x.0, x.1, told_word few planned x.0 told x.2 is, λ level. absurd (other level))

-- the row of a word is one of the record
pub row_inside : (Means : ℕ → Key → Type 0) (facts : Facts) (m : Member) (k : Key) → MemberFits Means facts m k → (w : ℕ) → w < length m.record → HasRow facts k (w / 32)
row_inside Means facts m k fits w low = let long = fits.2 in omega arith

-- what is read of a record at a word
pub planned_at : (slice record_words : List (Entry ℕ)) (w : ℕ) → slice ≡ record_words → w < length record_words → slice_get record_words w ≡ Some (get_or slice w (record { number = 0; key = None }))
planned_at slice record_words w e low =
    subst (λ (xs : List (Entry ℕ)). slice_get xs w ≡ Some (get_or slice w (record { number = 0; key = None }))) e
    (slice_get-get_or slice w (record { number = 0; key = None }) (subst (λ (xs : List (Entry ℕ)). w < length xs) (sym e) low))

-- one word more is set
pub record_next : (cells : ℕ) → cells ≤ 262144 → (old new : List Mark) (facts : Facts) (Means : ℕ → Key → Type 0) (handles : List Handle) (m : Member) → Within old new → ((p : ℕ) (k : Key) → Means p k → Shown cells new handles p k)
    → (w : ℕ) → (IsOtherWord w → HasWord cells new handles m w)
    → HasRecordTo cells old facts Means w handles m → HasRecordTo cells new facts Means (w + 1) handles m
record_next cells few old new facts Means handles m on shown w now before h k v e is f low other tells =
    dite (dec_lt v w)
    (λ lower. entry_set_on cells old new on h.0 v e (before h k v e is f lower other tells))
    (λ not-lower.
    let here : w ≡ v = omega arith in
    let s = subst (λ (x : ℕ). HasWord cells new handles m x) here (now (subst IsOtherWord (sym here) other)) in
    let fits = entry_fits_on Means (Shown cells new handles) shown s.0 e (f.3 v s.0 e s.3 tells) in
    let same : s.1 ≡ h = same_some (slice_get handles m.part) s.1 h s.4 is in
    (word_of s.2, told_word cells new handles few s.0 e s.2 fits s.5, subst (λ (x : Handle). WordSet cells new x.0 v (word_of s.2)) same s.7))

pub shown_at : (cells : ℕ) (seen : List Mark) (handles : List Handle) (p : ℕ) (k : Key) (d : Handle) → Shown cells seen handles p k → Spells cells seen (get_or handles p d).0 k
shown_at cells seen handles p k d s = subst (λ (h : Handle). Spells cells seen h.0 k) (sym (get_or_from_slice_get handles p s.0 d s.1)) s.2
