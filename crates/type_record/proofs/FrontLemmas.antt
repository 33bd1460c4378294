-- The eight words in front.
use Rattle.std.proofs.Common.{◌≡◌, ℕ, ◌+◌, ◌*◌, ◌<◌, ◌≤◌, List, [], ◌∷◌, map, length, take, get_or, true, Option, None, Some, refl, sym, ap, ◌∙◌, subst, arith}
use Rattle.std.specs.Prelude.{IfSome, ◌&&◌, nat_eq}
use Rattle.std.proofs.lemmas.Bool.{and_parts, eqb-true}
use Rattle.std.proofs.lemmas.List.{get_or-take}
use Rattle.clr_base.specs.declared.ids.Handle.{Handle}
use Rattle.type_record.specs.declared.entry.Entry.{Entry}
use Rattle.type_record.specs.declared.front.Front.{Front}
use Rattle.type_record.specs.Words.{word_of, FitsWord, IsHandle}
use Rattle.type_record.specs.Records.{form_number, entry, front_entries}
use Rattle.type_record.specs.Sections.{IsFront, IsFrontOf}
use Rattle.type_record.proofs.EntryLemmas.{form_below}

abbrev pub first_of_front : Front → Entry Handle
first_of_front x = entry (form_number x.shape.form + 8 * x.shape.size) (Some x.canon)

abbrev pub second_of_front : Front → Entry Handle
second_of_front x = entry (x.shape.args + 131072 * x.shape.slots) x.parent

abbrev pub third_of_front : Front → Entry Handle
third_of_front x = entry x.shape.interfaces x.element

abbrev pub fourth_of_front : Front → Entry Handle
fourth_of_front x = entry x.shape.fields None

module _ (words : List ℕ) (x : Front) (is : IsFront words x) where
  at : (k : ℕ) → k < 8 → get_or (map word_of (front_entries x.shape x.canon x.parent x.element)) k 0 ≡ get_or words k 0
  at k low = ap (λ vs. get_or vs k 0) is.words_are ∙ get_or-take 8 words k 0 low

  pub told_first : FitsWord (first_of_front x) × (word_of (first_of_front x) ≡ get_or words 0 0)
  told_first = let form = form_below x.shape.form in let size = is.size in ((omega arith, is.canon_handle), at 0 (omega arith))

  pub told_second : FitsWord (second_of_front x) × (word_of (second_of_front x) ≡ get_or words 1 0)
  told_second = let a = is.args in let s = is.slots in ((omega arith, is.parent_handle), at 1 (omega arith))

  pub told_third : FitsWord (third_of_front x) × (word_of (third_of_front x) ≡ get_or words 2 0)
  told_third = let i = is.interfaces in ((omega arith, is.element_handle), at 2 (omega arith))

  pub told_fourth : FitsWord (fourth_of_front x) × (word_of (fourth_of_front x) ≡ get_or words 3 0)
  told_fourth = let f = is.fields in ((omega arith, tt), at 3 (omega arith))

  pub level_words : (get_or words 4 0 ≡ 524289) × (get_or words 5 0 ≡ 1048577) × (get_or words 6 0 ≡ 1572865) × (get_or words 7 0 ≡ 2097153)
  level_words = (sym (at 4 (omega arith)), sym (at 5 (omega arith)), sym (at 6 (omega arith)), sym (at 7 (omega arith)))

pub front_told : (words : List ℕ) (a b c d : Entry Handle) (x : Front) → IsFront words x → first_of_front x ≡ a → second_of_front x ≡ b → third_of_front x ≡ c → fourth_of_front x ≡ d → IsFrontOf a b c d x
front_told words a b c d x is one two three four = record {
  args = is.args;
  interfaces = is.interfaces;
  fields = is.fields;
  slots = is.slots;
  size = is.size;
  first_is = one;
  second_is = two;
  third_is = three;
  fourth_is = four;
}

take_eight : (words : List ℕ) → 8 ≤ length words
    → take 8 words ≡ get_or words 0 0 ∷ get_or words 1 0 ∷ get_or words 2 0 ∷ get_or words 3 0 ∷ get_or words 4 0 ∷ get_or words 5 0 ∷ get_or words 6 0 ∷ get_or words 7 0 ∷ []
take_eight [] long = absurd (omega arith)
take_eight (a ∷ []) long = absurd (omega arith)
take_eight (a ∷ b ∷ []) long = absurd (omega arith)
take_eight (a ∷ b ∷ c ∷ []) long = absurd (omega arith)
take_eight (a ∷ b ∷ c ∷ d ∷ []) long = absurd (omega arith)
take_eight (a ∷ b ∷ c ∷ d ∷ e ∷ []) long = absurd (omega arith)
take_eight (a ∷ b ∷ c ∷ d ∷ e ∷ f ∷ []) long = absurd (omega arith)
take_eight (a ∷ b ∷ c ∷ d ∷ e ∷ f ∷ g ∷ []) long = absurd (omega arith)
take_eight (a ∷ b ∷ c ∷ d ∷ e ∷ f ∷ g ∷ h ∷ rest) long = refl

cons_same : (a b : ℕ) (xs ys : List ℕ) → a ≡ b → xs ≡ ys → a ∷ xs ≡ b ∷ ys
cons_same a b xs ys one rest = ap (λ x. x ∷ xs) one ∙ ap (λ zs. b ∷ zs) rest

pub front_from : (words : List ℕ) (a b c d : Entry Handle) (x : Front) → 8 ≤ length words
    → FitsWord a → word_of a ≡ get_or words 0 0 → FitsWord b → word_of b ≡ get_or words 1 0 → FitsWord c → word_of c ≡ get_or words 2 0 → word_of d ≡ get_or words 3 0
    → get_or words 4 0 ≡ 524289 → get_or words 5 0 ≡ 1048577 → get_or words 6 0 ≡ 1572865 → get_or words 7 0 ≡ 2097153
    → IsFrontOf a b c d x → IsFront words x
front_from words a b c d x long fa wa fb wb fc wc wd l4 l5 l6 l7 told = record {
  long = long;
  args = told.args;
  interfaces = told.interfaces;
  fields = told.fields;
  slots = told.slots;
  size = told.size;
  canon_handle = subst (λ (k : Option Handle). IfSome k IsHandle) (ap (λ (e : Entry Handle). e.key) (sym told.first_is)) fa.1;
  parent_handle = subst (λ (k : Option Handle). IfSome k IsHandle) (ap (λ (e : Entry Handle). e.key) (sym told.second_is)) fb.1;
  element_handle = subst (λ (k : Option Handle). IfSome k IsHandle) (ap (λ (e : Entry Handle). e.key) (sym told.third_is)) fc.1;
  words_are =
      cons_same _ _ _ _ (ap word_of told.first_is ∙ wa) (
      cons_same _ _ _ _ (ap word_of told.second_is ∙ wb) (
      cons_same _ _ _ _ (ap word_of told.third_is ∙ wc) (
      cons_same _ _ _ _ (ap word_of told.fourth_is ∙ wd) (
      cons_same _ _ _ _ (sym l4) (cons_same _ _ _ _ (sym l5) (cons_same _ _ _ _ (sym l6) (cons_same _ _ _ _ (sym l7) refl)))))))
      ∙ sym (take_eight words long);
}

-- the test of the level words, as four equations
pub levels_from : (a b c d : ℕ) → (nat_eq a 524289 && nat_eq b 1048577 && nat_eq c 1572865 && nat_eq d 2097153) ≡ true → (a ≡ 524289) × (b ≡ 1048577) × (c ≡ 1572865) × (d ≡ 2097153)
levels_from a b c d test =
    let last = and_parts (nat_eq a 524289 && nat_eq b 1048577 && nat_eq c 1572865) (nat_eq d 2097153) test in
    let third = and_parts (nat_eq a 524289 && nat_eq b 1048577) (nat_eq c 1572865) last.0 in
    let two = and_parts (nat_eq a 524289) (nat_eq b 1048577) third.0 in
    (eqb-true a 524289 two.0, eqb-true b 1048577 two.1, eqb-true c 1572865 third.1, eqb-true d 2097153 last.1)
