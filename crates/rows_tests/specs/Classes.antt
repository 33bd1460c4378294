-- Two classes, each in the closure of the other; the second has the first as its parent.
use Rattle.std.specs.Prelude.{◌≡◌, ℕ, zero, suc, ◌*◌, ◌%◌, ◌<◌, ◌≤◌, List, [], ◌∷◌, Option, None, Some, Contains, slice_get, refl}
use Rattle.std.proofs.Common.{append-nil, map, replicate, ◌++◌, arith, sym, subst, ap, ◌∙◌, unwrap_or}
use Rattle.word_board.specs.Marks.{Within}
use Rattle.word_board.specs.Places.{row_place}
use Rattle.word_board.specs.declared.view.Mark.{Mark}
use Rattle.node_set.specs.Keys.{Key}
use Rattle.node_set.specs.Probing.{NodeRule, node_rule_on}
use Rattle.type_record.specs.declared.entry.Entry.{Entry}
use Rattle.type_record.specs.declared.shape.Form.TheVariants.{Class}
use Rattle.type_record.specs.declared.loaded.TypeRecord.{TypeRecord}
use Rattle.type_record.specs.declared.loaded.FieldOf.{FieldOf}
use Rattle.type_record.specs.Records.{entries, entry, field_entry}
use Rattle.key_rows.specs.Facts.{Facts, IsClosed}
use Rattle.key_rows.specs.Rows.{RowRule, row_rule_on}

abbrev pub class : ℕ → Key
class n = Key.head (record { 0 = n })

abbrev pub static_field : {K : Type 0} → FieldOf K
static_field = record { offset = None; value = None }

-- the record of a class of 8 bytes with so many static fields, over any names of types
abbrev pub record_over : {K : Type 0} → K → Option K → ℕ → TypeRecord K
record_over canon parent n = record {
  shape = record { form = Class; args = 0; interfaces = 0; fields = n; slots = 0; size = 8 };
  parent = parent;
  canon = canon;
  element = None;
  args = [];
  interfaces = [];
  fields = replicate n static_field;
  slots = [];
  interface_slots = [];
}

abbrev pub front_words : {K : Type 0} → K → Option K → ℕ → List (Entry K)
front_words canon parent n = entry 64 (Some canon) ∷ entry 0 parent ∷ entry 0 None ∷ entry n None ∷ entry 1 None ∷ entry 2 None ∷ entry 3 None ∷ entry 4 None ∷ []

abbrev pub words : {K : Type 0} → K → Option K → ℕ → List (Entry K)
words canon parent n = front_words canon parent n ++ replicate n (entry 0 None)

map_fields : {K : Type 0} (n : ℕ) → map field_entry (replicate n (static_field {K = K})) ≡ replicate n (entry 0 None)
map_fields zero = refl
map_fields (suc n) = ap (λ (l : List (Entry _)). entry 0 None ∷ l) (map_fields n)

pub words_are : {K : Type 0} (canon : K) (parent : Option K) (n : ℕ) → entries (record_over canon parent n) ≡ words canon parent n
unfolding entries
words_are {K} canon parent n = let told = map field_entry (replicate n (static_field {K = K})) in
    ap (λ (l : List (Entry K)). front_words canon parent n ++ l) (append-nil (told ++ []) ∙ (append-nil told ∙ map_fields n))

abbrev pub if_later : ℕ → Option Key
if_later zero = None
if_later (suc n) = Some (class 0)

abbrev pub parent_of : Key → Option Key
parent_of (Key.head d) = if_later d.0
parent_of (Key.put k x) = None
parent_of (Key.array e) = None
parent_of (Key.method m o) = None

-- the second class has 30 static fields, so its record has a further row
abbrev pub fields_later : ℕ → ℕ
fields_later zero = 0
fields_later (suc n) = 30

abbrev pub fields_of : Key → ℕ
fields_of (Key.head d) = fields_later d.0
fields_of (Key.put k x) = 0
fields_of (Key.array e) = 0
fields_of (Key.method m o) = 0

abbrev pub classes : List Key
classes = class 0 ∷ class 1 ∷ []

abbrev pub facts : Facts
facts = record { record_of = λ k. record_over k (parent_of k) (fields_of k); direct = λ k. classes; closure = λ k. k ∷ classes }

pub same_some : {A : Type 0} (o : Option A) (x y : A) → o ≡ Some x → o ≡ Some y → x ≡ y
same_some {A} o x y a b = ap (λ (p : Option A). unwrap_or p x) (sym a ∙ b)

later_is : (n : ℕ) (t : Key) → if_later n ≡ Some t → class 0 ≡ t
later_is zero t e = cc
later_is (suc n) t e = same_some (Some (class 0)) (class 0) t refl e

parent_is : (k t : Key) → parent_of k ≡ Some t → class 0 ≡ t
parent_is (Key.head d) t e = later_is d.0 t e
parent_is (Key.put k x) t e = cc
parent_is (Key.array x) t e = cc
parent_is (Key.method m o) t e = cc

none_is : {A : Type 0} (e : Entry Key) (n : ℕ) (t : Key) → Some (entry n None) ≡ Some e → e.key ≡ Some t → A
none_is e n t a b = let same : None ≡ e.key = ap (λ (x : Entry Key). x.key) (same_some (Some (entry n None)) (entry n None) e refl a) in cc

pub replicate_at : {A : Type 0} (n w : ℕ) (x e : A) → slice_get (replicate n x) w ≡ Some e → x ≡ e
replicate_at zero w x e at = cc
replicate_at (suc n) zero x e at = same_some (Some x) x e refl at
replicate_at (suc n) (suc w) x e at = replicate_at n w x e at

-- each key that a record names is its own, or the first class
named : (k t : Key) (w : ℕ) (e : Entry Key) (P : Key → Type 0) → P k → P (class 0) → slice_get (words k (parent_of k) (fields_of k)) w ≡ Some e → e.key ≡ Some t → P t
named k t zero e P own first at is =
    let same : Some k ≡ e.key = ap (λ (x : Entry Key). x.key) (same_some (Some (entry 64 (Some k))) (entry 64 (Some k)) e refl at) in
    subst P (same_some (Some k) k t refl (same ∙ is)) own
named k t (suc zero) e P own first at is =
    let same : parent_of k ≡ e.key = ap (λ (x : Entry Key). x.key) (same_some (Some (entry 0 (parent_of k))) (entry 0 (parent_of k)) e refl at) in
    subst P (parent_is k t (same ∙ is)) first
named k t (suc (suc zero)) e P own first at is = none_is e 0 t at is
named k t (suc (suc (suc zero))) e P own first at is = none_is e (fields_of k) t at is
named k t (suc (suc (suc (suc zero)))) e P own first at is = none_is e 1 t at is
named k t (suc (suc (suc (suc (suc zero))))) e P own first at is = none_is e 2 t at is
named k t (suc (suc (suc (suc (suc (suc zero)))))) e P own first at is = none_is e 3 t at is
named k t (suc (suc (suc (suc (suc (suc (suc zero))))))) e P own first at is = none_is e 4 t at is
named k t (suc (suc (suc (suc (suc (suc (suc (suc w)))))))) e P own first at is =
    none_is e 0 t (ap Some (replicate_at (fields_of k) w (entry 0 None) e at)) is

further : (root d : Key) → Contains classes d → Contains (root ∷ classes) d
further root d there = let low = there.1 in (suc there.0, omega arith, there.2)

pub closed : IsClosed facts
closed = record {
  own = λ root. (0, omega arith, refl);
  direct = λ root k d there direct. further root d direct;
  names = λ root k t w e there tells is. named k t w e (λ x. Contains (root ∷ classes) x) there (1, omega arith, refl) (subst (λ (l : List (Entry Key)). slice_get l w ≡ Some e) (words_are k (parent_of k) (fields_of k)) tells) is;
}

abbrev pub May : ℕ → List Mark → Mark → Type 0
May cells all m = (m.place < 33 * cells) × (m.place < cells → NodeRule cells all m) × (cells ≤ m.place → RowRule cells all facts (λ k. Unit {0}) m)

pub may_on : (cells : ℕ) (xs ys : List Mark) (m : Mark) → Within xs ys → May cells xs m → May cells ys m
may_on cells xs ys m on may = (may.0, (λ low. node_rule_on cells xs ys m on (may.1 low)), (λ high. row_rule_on cells xs ys on facts (λ k. Unit {0}) (λ k. Unit {0}) (λ k t. t) m (may.2 high)))

pub node_may : (cells : ℕ) (all : List Mark) (m : Mark) → m.place < cells → NodeRule cells all m → May cells all m
node_may cells all m low rule = (omega arith, (λ l. rule), (λ high. absurd (omega arith)))

pub row_may : (cells : ℕ) (all : List Mark) (m : Mark) → RowRule cells all facts (λ k. Unit {0}) m → May cells all m
row_may cells all m rule = let low = rule.row.0 in let at = rule.at in let rest : rule.word % 32 < 32 = omega arith in
    (omega arith, (λ l. absurd (omega arith)), (λ high. rule))

pub row_is : (cells : ℕ) (all : List Mark) (m : Mark) (c w : ℕ) → May cells all m → m.place ≡ row_place cells c w → RowRule cells all facts (λ k. Unit {0}) m
row_is cells all m c w may at = may.2 (omega arith)
