-- Lists of what types are called.
use Rattle.std.proofs.Common.{◌≡◌, ℕ, ◌+◌, ◌<◌, List, [], ◌∷◌, ◌++◌, length, get_or, Result, IfOk, sym, ap, ◌∙◌, subst, arith}
use Rattle.std.proofs.lemmas.List.{get_or_default}
use Rattle.std.proofs.lemmas.List.FromFn.{fill_by_all, length-map-range_with_len, get_or-map-range_with_len}
use Rattle.clr_base.specs.declared.ids.NameId.{NameId}
use Rattle.cli_tables.specs.Metadata.{Metadata}
use Rattle.type_names.specs.declared.type_keys.FirstPlaces.{FirstPlaces}
use Rattle.type_names.specs.declared.type_keys.TypeKey.{TypeKey}
use Rattle.type_names.specs.declared.type_texts.NameColumns.{NameColumns}
use Rattle.image_rows.specs.Cells.{rows}
use Rattle.image_rows.specs.Nesting.{enclosing_row, enclosing_rows}
use Rattle.type_names.specs.TypeKeys.{Finds, key_of, keys_of, number_at}
use Rattle.image_rows.proofs.Enclosing.{enclosing_read}
use Rattle.clr_base.proofs.Ranges.{map_more}

-- ---- one name more

key_with : ℕ → ℕ → ℕ → TypeKey
key_with around namespace name = record { around = around; namespace = namespace; name = name }

read_number : (found ids : List NameId) (n : ℕ) (d : NameId) → found ≡ ids → n < length ids → (get_or found n d).0 ≡ number_at ids n
read_number found ids n d same within =
    ap (λ (l : List NameId). (get_or l n d).0) same ∙ ap (λ (id : NameId). id.0) (get_or_default ids n d _ within)

pub keys_more : (around : ℕ → ℕ) (columns : NameColumns) (n : ℕ) (outer own : List NameId) (d e : NameId) (keys longer : List TypeKey)
    → keys ≡ keys_of around columns n → outer ≡ columns.namespaces → own ≡ columns.names
    → n < length columns.namespaces → n < length columns.names
    → longer ≡ keys ++ record { around = around n; namespace = (get_or outer n d).0; name = (get_or own n e).0 } ∷ []
    → longer ≡ keys_of around columns (n + 1)
keys_more around columns n outer own d e keys longer before first second there here pushed =
    pushed
    ∙ ap (λ (x : ℕ). keys ++ record { around = around n; namespace = x; name = (get_or own n e).0 } ∷ []) (read_number outer columns.namespaces n d first there)
    ∙ ap (λ (x : ℕ). keys ++ record { around = around n; namespace = number_at columns.namespaces n; name = x } ∷ []) (read_number own columns.names n e second here)
    ∙ ap (λ (l : List TypeKey). l ++ key_of around columns n ∷ []) before
    ∙ sym (map_more (key_of around columns) n)

-- ---- the same names

pub keys_same : (f g : ℕ → ℕ) (columns : NameColumns) (n k : ℕ) → n ≡ k → ((i : ℕ) → i < k → f i ≡ g i) → keys_of f columns n ≡ keys_of g columns k
keys_same f g columns n k count same =
    fill_by_all (key_of g columns) (keys_of f columns n) k (key_of g columns 0) (length-map-range_with_len (key_of f columns) 0 n ∙ count)
    (λ i within.
    get_or-map-range_with_len (key_of f columns) 0 n i i (key_of g columns 0) (omega (arith, within, count)) (omega arith)
    ∙ ap (λ (x : ℕ). let key : TypeKey = record { around = x; namespace = number_at columns.namespaces i; name = number_at columns.names i } in key) (same i within))

pub outer_count : (m : Metadata) (found : List ℕ) → found ≡ enclosing_rows m → length found ≡ rows m 0x02 + 1
unfolding enclosing_rows
outer_count m found is = ap length is ∙ length-map-range_with_len (enclosing_row m) 0 (rows m 0x02 + 1)

-- the definitions around those of a file
pub outer_keys : (m : Metadata) (columns : NameColumns) (found : List ℕ) (count : ℕ) → found ≡ enclosing_rows m → count ≡ rows m 0x02
    → keys_of (λ i. get_or found (i + 1) 0) columns count ≡ keys_of (λ i. enclosing_row m (i + 1)) columns (rows m 0x02)
outer_keys m columns found count is all =
    keys_same (λ i. get_or found (i + 1) 0) (λ i. enclosing_row m (i + 1)) columns count (rows m 0x02) all
    (λ i within. enclosing_read m (i + 1) 0 found is (omega (arith, within)))

pub keys_count : (around : ℕ → ℕ) (columns : NameColumns) (n : ℕ) → length (keys_of around columns n) ≡ n
keys_count around columns n = length-map-range_with_len (key_of around columns) 0 n

pub finds_ok : {E : Type 0} (keys other : List TypeKey) (r : Result FirstPlaces E) → keys ≡ other → IfOk r (Finds keys) → IfOk r (Finds other)
finds_ok keys other r same found = subst (λ (l : List TypeKey). IfOk r (Finds l)) same found
