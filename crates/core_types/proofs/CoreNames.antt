-- The numbers of the core's names.
use Rattle.std.proofs.Common.{◌≡◌, ℕ, ◌+◌, ◌<◌, arith, Bool, true, false, ◌&&◌, ◌||◌, List, [], ◌∷◌, ◌++◌, map, refl, sym, ap, ap₂, ◌∙◌, eqb-true, if◌then◌else◌}
use Rattle.std.specs.Prelude.{◌==◌, nat_lt, not}
use Rattle.std.specs.List.{range_with_len, flat_map, list_all, list_any}
use Rattle.std.specs.Str.{bytes_eq}
use Rattle.std.proofs.lemmas.Bool.{and_parts, ltb-true, lt-ltb}
use Rattle.std.proofs.lemmas.Bool.Decides.{Decides-eqb, same_from_decides}
use Rattle.std.proofs.lemmas.Slice.Eq.{bytes_eq-Decides}
use Rattle.std.proofs.lemmas.List.{map-append}
use Rattle.std.proofs.lemmas.List.Folds.{list_all-append}
use Rattle.clr_base.specs.declared.ids.NameId.{NameId}
use Rattle.core_types.specs.declared.core_table.MemberName.{MemberName}
use Rattle.core_types.specs.declared.core_table.MemberName.TheVariants as member
use Rattle.core_types.specs.CoreLibrary.{names, name_id, texts_in_order}
use Rattle.core_types.specs.CoreTable.{texts, text, def_text, member_text, member_number, method_rows}
use Rattle.core_types.specs.Names.{number_in, with_one, with_all}
use Rattle.clr_base.proofs.Ranges.{all_below, below, next}

-- ---- each text of the table stands there once

all_placed : all_below (λ n. number_in texts (text n) == n) 52 ≡ true
unfolding text
all_placed = refl

placed : (n : ℕ) → n < 52 → number_in texts (text n) ≡ n
placed n small = eqb-true _ _ (below (λ k. number_in texts (text k) == k) 52 n all_placed small)

same_text : (m n : ℕ) → m < 52 → n < 52 → bytes_eq (text m) (text n) ≡ (m == n)
same_text m n few less =
    let numbers = Decides-eqb m n in
    let one : text m ≡ text n → m ≡ n = λ e. sym (placed m few) ∙ ap (number_in texts) e ∙ placed n less in
    same_from_decides (bytes_eq (text m) (text n)) (m == n) (bytes_eq-Decides (text m) (text n))
    ((λ h. ap text (numbers.0 h)), (λ e. numbers.1 (one e)))

-- ---- so texts are kept as their numbers are

abbrev are_small : List ℕ → Bool
are_small ns = list_all (λ n. nat_lt n 52) ns

is_among : (n : ℕ) (ns : List ℕ) → n < 52 → are_small ns ≡ true → list_any (bytes_eq (text n)) (map text ns) ≡ list_any (λ k. n == k) ns
is_among n [] few all = refl
is_among n (k ∷ ns) few all =
    let parts = and_parts (nat_lt k 52) (are_small ns) all in
    ap₂ ◌||◌ (same_text n k few (ltb-true k 52 parts.0)) (is_among n ns few parts.1)

chosen_text : (b : Bool) (n : ℕ) (ns : List ℕ) → (if b then map text ns else map text ns ++ text n ∷ []) ≡ map text (if b then ns else ns ++ n ∷ [])
chosen_text true n ns = refl
chosen_text false n ns = sym (map-append text ns (n ∷ []))

with_one_text : (n : ℕ) (ns : List ℕ) → n < 52 → are_small ns ≡ true → with_one bytes_eq (map text ns) (text n) ≡ map text (with_one ◌==◌ ns n)
with_one_text n ns few all =
    ap (λ (b : Bool). if b then map text ns else map text ns ++ text n ∷ []) (is_among n ns few all)
    ∙ chosen_text (list_any (λ k. n == k) ns) n ns

chosen_small : (b : Bool) (n : ℕ) (ns : List ℕ) → n < 52 → are_small ns ≡ true → are_small (if b then ns else ns ++ n ∷ []) ≡ true
chosen_small true n ns few all = all
chosen_small false n ns few all =
    list_all-append (λ k. nat_lt k 52) ns (n ∷ []) ∙ ap₂ ◌&&◌ all (ap (λ (b : Bool). b && true) (lt-ltb n 52 few))

with_all_texts : (seen ns : List ℕ) → are_small seen ≡ true → are_small ns ≡ true
    → with_all bytes_eq (map text seen) (map text ns) ≡ map text (with_all ◌==◌ seen ns)
with_all_texts seen [] before all = refl
with_all_texts seen (n ∷ ns) before all =
    let parts = and_parts (nat_lt n 52) (are_small ns) all in
    let few = ltb-true n 52 parts.0 in
    ap (λ names. with_all bytes_eq names (map text ns)) (with_one_text n seen few before)
    ∙ with_all_texts (with_one ◌==◌ seen n) ns (chosen_small (list_any (λ k. n == k) seen) n seen few before) parts.1

-- ---- the names of the definitions, then of the methods

abbrev numbers_in_order : List ℕ
numbers_in_order =
    range_with_len 0 36
    ++ flat_map (λ k. map (λ m. 36 + member_number m.name) (method_rows k)) (range_with_len 0 36)

texts_are : texts_in_order ≡ map text numbers_in_order
unfolding def_text member_text method_rows
texts_are = refl

all_small : are_small numbers_in_order ≡ true
unfolding method_rows
all_small = refl

numbers_once : with_all ◌==◌ [] numbers_in_order ≡ range_with_len 0 52
unfolding method_rows
numbers_once = refl

-- the table has each name once, in the order in which they are first seen
pub names_listed : map text (range_with_len 0 52) ≡ names
unfolding names
names_listed =
    sym (ap (with_all bytes_eq []) texts_are ∙ with_all_texts [] numbers_in_order refl all_small ∙ ap (map text) numbers_once)

-- the next number is none of those before it
all_new : all_below (λ k. not (list_any (λ j. k == j) (range_with_len 0 k))) 52 ≡ true
all_new = refl

not_false : (b : Bool) → not b ≡ true → b ≡ false
not_false true e = absurd cc
not_false false e = refl

small_below : (k : ℕ) → k < 53 → are_small (range_with_len 0 k) ≡ true
small_below k few = below (λ j. are_small (range_with_len 0 j)) 53 k refl few

-- so the next name is added behind those before it
pub name_more : (k : ℕ) → k < 52 → with_one bytes_eq (map text (range_with_len 0 k)) (text k) ≡ map text (range_with_len 0 (k + 1))
name_more k few =
    let fits : k < 53 = omega arith in
    let new = not_false _ (below (λ n. not (list_any (λ j. n == j) (range_with_len 0 n))) 52 k all_new few) in
    with_one_text k (range_with_len 0 k) few (small_below k fits)
    ∙ ap (λ (b : Bool). map text (if b then range_with_len 0 k else range_with_len 0 k ++ k ∷ [])) new
    ∙ ap (map text) (sym (next k))

names_are : names ≡ texts
unfolding text
names_are = let read : map text (range_with_len 0 52) ≡ texts = refl in sym names_listed ∙ read

pub def_named : (k : ℕ) → k < 36 → name_id (def_text k) ≡ record { 0 = k }
unfolding name_id def_text
def_named k few =
    let less : k < 52 = omega arith in
    ap (λ (n : ℕ). let id : NameId = record { 0 = n } in id)
    (ap (λ ns. number_in ns (text k)) names_are ∙ placed k less)

pub member_small : (n : MemberName) → member_number n < 16
member_small member.Ctor = omega arith
member_small member.ToString = omega arith
member_small member.Equals = omega arith
member_small member.GetHashCode = omega arith
member_small member.GetType = omega arith
member_small member.CompareTo = omega arith
member_small member.GetLength = omega arith
member_small member.GetChars = omega arith
member_small member.Concat = omega arith
member_small member.OpEquality = omega arith
member_small member.GetTypeFromHandle = omega arith
member_small member.Compare = omega arith
member_small member.Dispose = omega arith
member_small member.GetMessage = omega arith
member_small member.WriteLine = omega arith
member_small member.Write = omega arith

pub member_named : (n : MemberName) → name_id (member_text n) ≡ record { 0 = 36 + member_number n }
unfolding name_id member_text
member_named n =
    let few = member_small n in
    let less : 36 + member_number n < 52 = omega arith in
    ap (λ (k : ℕ). let id : NameId = record { 0 = k } in id)
    (ap (λ ns. number_in ns (text (36 + member_number n))) names_are ∙ placed (36 + member_number n) less)
