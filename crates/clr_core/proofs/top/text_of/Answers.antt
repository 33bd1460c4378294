use Rattle.std.proofs.Common.{inl, Err, ◌<◌, ◌∙◌, ℕ, ◌-◌, List, Some, get_or, sym, ap, arith, length}
use Rattle.std.proofs.lemmas.List.{length-map}
use Rattle.image_files.specs.Images.{bytes_of_each}
use Rattle.clr_core.specs.Command.{texts_of}
use Rattle.clr_core.specs.Names.{names_text}
use Rattle.clr_core.proofs.Checking.{given_image, number_within, files_fault, files_text}
use Rattle.clr_core.proofs.FileWords.{word_found}
use Rattle.clr_core.proofs.top.text_of.Goals as goal

pub overflow_sub-number : goal.overflow_sub-number
overflow_sub-number c =
    let bytes = bytes_of_each c.args.files.now in
    let within =
    number_within bytes c.in-Err-Image.number c.in-Err-Image.fault (given_image _ _ _ bytes c.in-Err-Image.field-0-is c.in-Err-Image.ensures.exact) in
    omega (arith, within.0, c.in-Err-Image.number-is)

pub bounds-names-number : goal.bounds-names-number
bounds-names-number c =
    let bytes = bytes_of_each c.args.files.now in
    let within =
    number_within bytes c.in-Err-Image.number c.in-Err-Image.fault (given_image _ _ _ bytes c.in-Err-Image.field-0-is c.in-Err-Image.ensures.exact) in
    let count = length-map c.args.files.now (λ file. file.items) in
    let same = c.requires.count in
    omega (arith, within.0, within.1, c.in-Err-Image.number-is)

pub returns-in-Err-Image-clause-stopped : goal.returns-in-Err-Image-clause-stopped
returns-in-Err-Image-clause-stopped c =
    let number = c.in-Err-Image.number in
    let names = c.args.names.now in
    let bytes = bytes_of_each c.args.files.now in
    let fails = given_image _ _ _ bytes c.in-Err-Image.field-0-is c.in-Err-Image.ensures.exact in
    let within = number_within bytes number c.in-Err-Image.fault fails in
    let count = length-map c.args.files.now (λ file. file.items) in
    let same = c.requires.count in
    let inside : number - 1 < length names = omega (arith, within.0, within.1) in
    rw c.in-Err-Image.field-0-is (
      number,
      files_fault (texts_of names) bytes number c.in-Err-Image.fault fails,
      word_found names (number - 1) c.index-names-number.result inside
          (c.index-names-number.is ∙ ap (λ (n : ℕ). get_or names (n - 1) c.index-names-number.result) c.in-Err-Image.number-is)
          ∙ ap (λ (word : List ℕ). Some word) (sym c.as_str.ensures.value),
    )

pub returns-in-Err-Memory-clause-stopped : goal.returns-in-Err-Memory-clause-stopped
returns-in-Err-Memory-clause-stopped c = inl (c.in-Err-Memory.ensures.memory (ap (λ e. Err e) c.in-Err-Memory.field-0-is))

pub returns-in-Ok-names_text-clause-text : goal.returns-in-Ok-names_text-clause-text
returns-in-Ok-names_text-clause-text c =
    files_text (texts_of c.args.names.now) (bytes_of_each c.args.files.now) c.in-Ok.images c.in-Ok-names_text.text c.in-Ok.ensures.exact
    (c.in-Ok-names_text.ensures ∙ ap (names_text (texts_of c.args.names.now)) c.as_slice.ensures)
