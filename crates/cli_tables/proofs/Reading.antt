-- Metadata whose streams were found, and whose tables are whole, is read.
use Rattle.std.proofs.Common.{◌≡◌, ℕ, List, true, Ok, refl, sym, ◌∙◌, ap, subst, is_some}
use Rattle.clr_base.specs.Checks.{outcome}
use Rattle.clr_base.proofs.Checks.{outcome_passed, outcome_value}
use Rattle.cli_tables.specs.declared.streams.Streams.{Streams}
use Rattle.cli_tables.specs.Layout.{are_tables}
use Rattle.cli_tables.specs.Metadata.{Metadata, part, streams_of, header_checks, tables_checks, contents, read_of}

-- the contents of streams that were found
abbrev pub contents_by : List ℕ → Streams → Metadata
contents_by meta s = record { tables = part meta s.tables; strings = part meta s.strings; users = part meta s.users; blobs = part meta s.blobs }

tables_pass : (meta : List ℕ) (m : Metadata) → is_some (streams_of meta).tables ≡ true → are_tables (part meta (streams_of meta).tables) ≡ true
    → outcome (tables_checks meta) m ≡ Ok m
unfolding tables_checks
tables_pass meta m there whole = rw (there, whole) refl

pub read_whole : (meta : List ℕ) (s : Streams) → outcome (header_checks meta) (streams_of meta) ≡ Ok s
    → is_some s.tables ≡ true → are_tables (part meta s.tables) ≡ true → Ok (contents_by meta s) ≡ read_of meta
unfolding contents
read_whole meta s passed there whole =
    let is = outcome_value (header_checks meta) (streams_of meta) s passed in
    let found = subst (λ (x : Streams). is_some x.tables ≡ true) is there in
    let full = subst (λ (x : Streams). are_tables (part meta x.tables) ≡ true) is whole in
    ap (λ (x : Streams). Ok (contents_by meta x)) is
    ∙ sym (tables_pass meta (contents meta) found full)
    ∙ sym (outcome_passed (header_checks meta) (tables_checks meta) (streams_of meta) s (contents meta) passed)

pub same_contents : (t t' s s' u u' b b' : List ℕ) → t ≡ t' → s ≡ s' → u ≡ u' → b ≡ b'
    → ◌≡◌ {A = Metadata} (record { tables = t; strings = s; users = u; blobs = b }) (record { tables = t'; strings = s'; users = u'; blobs = b' })
same_contents t t' s s' u u' b b' e f g h =
    ap (λ (x : List ℕ). let m : Metadata = record { tables = x; strings = s; users = u; blobs = b } in m) e
    ∙ ap (λ (x : List ℕ). let m : Metadata = record { tables = t'; strings = x; users = u; blobs = b } in m) f
    ∙ ap (λ (x : List ℕ). let m : Metadata = record { tables = t'; strings = s'; users = x; blobs = b } in m) g
    ∙ ap (λ (x : List ℕ). let m : Metadata = record { tables = t'; strings = s'; users = u'; blobs = x } in m) h
