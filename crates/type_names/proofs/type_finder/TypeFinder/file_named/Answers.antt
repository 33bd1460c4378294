use Rattle.std.proofs.Common.{◌≡◌, ◌<◌, List, ap, sym, ◌∙◌, arith, length, get_or}
use Rattle.type_names.specs.declared.type_texts.FileTexts.{FileTexts}
use Rattle.type_names.proofs.AssemblyNames.{no_others, others_more, file_first, file_none}
use Rattle.type_names.proofs.type_finder.TypeFinder.file_named.Goals as goal

pub loop-file-init : goal.loop-file-init
loop-file-init c =
    let f = c.args.self.now in
    no_others f.names f.files.now f.texts c.requires.texts c.args.assembly

pub loop-file-preserved : goal.loop-file-preserved
loop-file-preserved c =
    let f = c.args.self.now in
    let within : c.loop-file.file < length f.texts = omega (arith, ap length c.as_slice-texts.ensures) in
    let found = c.index-texts-file.result in
    let read = c.index-texts-file.is ∙ ap (λ (l : List FileTexts). get_or l c.loop-file.file found) c.as_slice-texts.ensures in
    others_more f.names f.files.now f.texts c.requires.texts c.args.assembly c.loop-file.file found found within read
    (sym c.is_assembly.ensures ∙ c.if-is_assembly.false) c.loop-file.invariant

pub returns-then-is_assembly : goal.returns-then-is_assembly
returns-then-is_assembly c = λ a is.
    let f = c.args.self.now in
    let within : c.loop-file.file < length f.texts = omega (arith, ap length c.as_slice-texts.ensures) in
    let found = c.index-texts-file.result in
    let read = c.index-texts-file.is ∙ ap (λ (l : List FileTexts). get_or l c.loop-file.file found) c.as_slice-texts.ensures in
    file_first f.names f.files.now f.texts c.requires.texts c.args.assembly c.loop-file.file found a found within read
    (sym c.is_assembly.ensures ∙ c.if-is_assembly.true) c.loop-file.invariant is

pub returns : goal.returns
returns c = λ a is.
    let f = c.args.self.now in
    let all : c.loop-file.file ≡ length f.texts = omega (arith, ap length c.as_slice-texts.ensures) in
    file_none f.names f.files.now f.texts c.requires.texts c.args.assembly c.loop-file.file a all c.loop-file.invariant is
