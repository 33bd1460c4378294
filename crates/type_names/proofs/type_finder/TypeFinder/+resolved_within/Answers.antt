use Rattle.std.proofs.Common.{◌≤◌, ◌-◌, None, refl, ap, sym, ◌∙◌, arith}
use Rattle.std.specs.Option.{option_and_then, option_copied}
use Rattle.std.proofs.lemmas.Bool.{eq-eqb, ne_eqb}
use Rattle.image_rows.specs.Cells.{rows}
use Rattle.type_names.specs.Resolution.{assembly_text, in_scope, nested_in, resolved_within}
use Rattle.image_rows.specs.TypeNames.{ref_name, ref_namespace, scope}
use Rattle.type_names.proofs.AssemblyNames.{texts_there}
use Rattle.type_names.proofs.RefScopes.{scope_row, ref_key, top_given, by_module, by_assembly, by_reference, by_other, through_none, past_rows, through_one}
use Rattle.type_names.proofs.type_finder.TypeFinder.+resolved_within.Goals as goal
use Rattle.type_names.proofs.type_finder.TypeFinder.+resolved_within.Goals.{then-most-eq0-via-then-most-eq0, then-most-eq0-via-else-most-eq0+then-row-row_count}

pub returns-then-most-eq0 : goal.returns-then-most-eq0
returns-then-most-eq0 t c =
    let f = c.args.self.now in
    let m = c.args.tables.now in
    elim c.then-most-eq0.branch [
      | then-most-eq0-via-then-most-eq0 w ↦ through_none f.files.now c.args.file m c.args.row c.args.most (omega (arith, w.if-most-eq0.true))
      | then-most-eq0-via-else-most-eq0+then-row-row_count w ↦
          past_rows f.files.now c.args.file m c.args.row c.args.most (omega (arith, w.row_count.ensures.exact, w.if-row-row_count.true))
    ]

pub returns-in-None : goal.returns-in-None
returns-in-None t c =
    let f = c.args.self.now in
    absurd (texts_there f.names f.files.now f.texts c.args.file c.args.tables.now c.requires.finder.texts c.requires.there
    (sym c.get.ensures.value ∙ ap option_copied c.in-None.is))

pub returns-in-None-scope : goal.returns-in-None-scope
returns-in-None-scope t c =
    let f = c.args.self.now in
    let m = c.args.tables.now in
    let some : 1 ≤ c.args.most = omega arith in
    let here : c.args.row ≤ rows m 0x01 = omega (arith, c.row_count.ensures.exact) in
    let is = sym c.scope.ensures ∙ c.in-None-scope.is in
    through_one f.files.now c.args.file m c.args.row c.args.most None some here
    (sym (ap (in_scope f.files.now c.args.file m (resolved_within (c.args.most - 1) f.files.now c.args.file m) (ref_namespace m c.args.row) (ref_name m c.args.row)) is))

pub returns-then-at-eq-MODULE : goal.returns-then-at-eq-MODULE
returns-then-at-eq-MODULE t c =
    let f = c.args.self.now in
    let m = c.args.tables.now in
    let some : 1 ≤ c.args.most = omega arith in
    let here : c.args.row ≤ rows m 0x01 = omega (arith, c.row_count.ensures.exact) in
    let texts = c.requires.finder.texts.each c.args.file m c.in-Some.texts.now c.requires.there (sym c.get.ensures.value ∙ ap option_copied c.in-Some.is) in
    let called = ref_key f.names m c.in-Some.texts.now c.args.row c.key_of-key.result texts c.requires.first here c.key_of-key.ensures in
    let s = ref_namespace m c.args.row in
    let n = ref_name m c.args.row in
    let place_of = resolved_within (c.args.most - 1) f.files.now c.args.file m in
    let at = c.in-Some-scope.at in
    let is = sym c.scope.ensures ∙ c.in-Some-scope.is in
    through_one f.files.now c.args.file m c.args.row c.args.most c.def_in.result some here
    (by_module f.files.now c.args.file m place_of s n at c.def_in.result (scope m c.args.row) is (eq-eqb at.table 0x00 c.if-at-eq-MODULE.true)
    (top_given f.names f.files.now c.args.file c.key_of-key.result s n c.def_in.result called (c.def_in.ensures s n)))

pub assembly_at-requires-clause-first : goal.assembly_at-requires-clause-first
assembly_at-requires-clause-first t c = scope_row c.args.tables.now c.args.row c.in-Some-scope.at (sym c.scope.ensures ∙ c.in-Some-scope.is)

pub returns-then-at-eq-ASSEMBLY_REF : goal.returns-then-at-eq-ASSEMBLY_REF
returns-then-at-eq-ASSEMBLY_REF t c =
    let f = c.args.self.now in
    let m = c.args.tables.now in
    let some : 1 ≤ c.args.most = omega arith in
    let here : c.args.row ≤ rows m 0x01 = omega (arith, c.row_count.ensures.exact) in
    let texts = c.requires.finder.texts.each c.args.file m c.in-Some.texts.now c.requires.there (sym c.get.ensures.value ∙ ap option_copied c.in-Some.is) in
    let called = ref_key f.names m c.in-Some.texts.now c.args.row c.key_of-key.result texts c.requires.first here c.key_of-key.ensures in
    let s = ref_namespace m c.args.row in
    let n = ref_name m c.args.row in
    let place_of = resolved_within (c.args.most - 1) f.files.now c.args.file m in
    let at = c.in-Some-scope.at in
    let is = sym c.scope.ensures ∙ c.in-Some-scope.is in
    through_one f.files.now c.args.file m c.args.row c.args.most c.in_assembly.result some here
    (by_assembly f.files.now c.args.file m place_of s n at c.in_assembly.result (scope m c.args.row) is (ne_eqb at.table 0x00 c.if-at-eq-MODULE.false)
    (eq-eqb at.table 0x23 c.if-at-eq-ASSEMBLY_REF.true)
    (c.in_assembly.ensures (assembly_text m at.row) s n (c.assembly_at.ensures m c.requires.there) called))

pub resolved_within-outer-requires : goal.resolved_within-outer-requires
resolved_within-outer-requires t c =
    (omega (arith, c.decreases), (c.requires.finder, (c.requires.there, scope_row c.args.tables.now c.args.row c.in-Some-scope.at (sym c.scope.ensures ∙ c.in-Some-scope.is))))

pub returns-then-at-eq-TYPE_REF : goal.returns-then-at-eq-TYPE_REF
returns-then-at-eq-TYPE_REF t c =
    let f = c.args.self.now in
    let m = c.args.tables.now in
    let some : 1 ≤ c.args.most = omega arith in
    let here : c.args.row ≤ rows m 0x01 = omega (arith, c.row_count.ensures.exact) in
    let texts = c.requires.finder.texts.each c.args.file m c.in-Some.texts.now c.requires.there (sym c.get.ensures.value ∙ ap option_copied c.in-Some.is) in
    let called = ref_key f.names m c.in-Some.texts.now c.args.row c.key_of-key.result texts c.requires.first here c.key_of-key.ensures in
    let s = ref_namespace m c.args.row in
    let n = ref_name m c.args.row in
    let place_of = resolved_within (c.args.most - 1) f.files.now c.args.file m in
    let at = c.in-Some-scope.at in
    let is = sym c.scope.ensures ∙ c.in-Some-scope.is in
    through_one f.files.now c.args.file m c.args.row c.args.most c.nested_in.result some here
    (by_reference f.files.now c.args.file m place_of s n at c.nested_in.result (scope m c.args.row) is (ne_eqb at.table 0x00 c.if-at-eq-MODULE.false)
    (ne_eqb at.table 0x23 c.if-at-eq-ASSEMBLY_REF.false) (eq-eqb at.table 0x01 c.if-at-eq-TYPE_REF.true)
    (c.nested_in.ensures s n called ∙ ap (option_and_then (λ p. nested_in f.files.now p s n)) c.resolved_within-outer.ensures))

pub returns : goal.returns
returns t c =
    let f = c.args.self.now in
    let m = c.args.tables.now in
    let some : 1 ≤ c.args.most = omega arith in
    let here : c.args.row ≤ rows m 0x01 = omega (arith, c.row_count.ensures.exact) in
    let s = ref_namespace m c.args.row in
    let n = ref_name m c.args.row in
    let place_of = resolved_within (c.args.most - 1) f.files.now c.args.file m in
    let at = c.in-Some-scope.at in
    let is = sym c.scope.ensures ∙ c.in-Some-scope.is in
    through_one f.files.now c.args.file m c.args.row c.args.most None some here
    (by_other f.files.now c.args.file m place_of s n at None (scope m c.args.row) is (ne_eqb at.table 0x00 c.if-at-eq-MODULE.false)
    (ne_eqb at.table 0x23 c.if-at-eq-ASSEMBLY_REF.false) (ne_eqb at.table 0x01 c.if-at-eq-TYPE_REF.false) refl)
