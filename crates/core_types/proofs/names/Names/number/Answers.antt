use Rattle.std.proofs.Common.{ℕ, ◌∙◌, sym, ap, ap₂, map}
use Rattle.std.specs.Prelude.{string_bytes}
use Rattle.std.specs.List.{list_any}
use Rattle.std.specs.Str.{bytes_eq}
use Rattle.clr_base.specs.declared.ids.NameId.{NameId}
use Rattle.core_types.specs.Names.{number_in, with_one}
use Rattle.core_types.proofs.NameLemmas.{is_among, kept, placed, found, not_added}
use Rattle.core_types.proofs.names.Names.number.Goals as goal

pub returns-in-Some-clause-kept : goal.returns-in-Some-clause-kept
returns-in-Some-clause-kept c =
    let t = c.args.text.now in
    not_added c.args.self.now t
    (ap (list_any (bytes_eq t)) (sym c.self.view_is) ∙ sym (is_among t c.self.inside.set.keys) ∙ sym c.in-Some.ensures.found)

pub returns-in-Some-clause-number : goal.returns-in-Some-clause-number
returns-in-Some-clause-number c =
    let t = c.args.text.now in
    ap (λ (n : ℕ). let id : NameId = record { 0 = n } in id)
    (found t c.self.inside.set.keys c.in-Some.index c.in-Some.ensures.index ∙ ap (λ names. number_in names t) c.self.view_is)

pub returns-clause-kept : goal.returns-clause-kept
returns-clause-kept c =
    ap (map string_bytes) c.in_ok-index.ensures.keys ∙ kept c.self.inside.set.keys c.in_ok-from_str.field-0
    ∙ ap₂ (with_one bytes_eq) c.self.view_is c.in_ok-from_str.ensures.ok

pub returns-clause-number : goal.returns-clause-number
returns-clause-number c =
    ap (λ (n : ℕ). let id : NameId = record { 0 = n } in id)
    (c.in_ok-index.ensures.index ∙ placed (string_bytes c.in_ok-from_str.field-0) c.self.inside.set.keys
    ∙ ap₂ number_in c.self.view_is c.in_ok-from_str.ensures.ok)
