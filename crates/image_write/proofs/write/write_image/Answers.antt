use Rattle.std.proofs.Common.{◌≡◌, List, ℕ, ◌++◌, None, sym, ap, ◌∙◌, subst}
use Rattle.image_write.specs.Fitting.{crowded}
use Rattle.image_write.specs.Image.{image_of}
use Rattle.image_write.specs.ReadBack.{ReadsBack}
use Rattle.image_write.proofs.Fitted.{short_test}
use Rattle.image_write.proofs.ImageRead.{reads_back}
use Rattle.image_write.proofs.write.write_image.Goals as goal

pub unreachable-requires : goal.unreachable-requires
unreachable-requires c = let e = c.in_default.ensures.exact ∙ short_test c.args.draft.now c.requires in cc

pub returns-clause-reads_back : goal.returns-clause-reads_back
returns-clause-reads_back c =
    let draft = c.args.draft.now in
    let none : crowded draft ≡ None = sym c.crowded_table.ensures ∙ c.in_default-crowded_table.is in
    let empty = ap (λ (xs : List ℕ). xs ++ image_of draft) c.in_ok-image.ensures.items in
    let written : c.push_image.new.out.items ≡ image_of draft = c.in_ok-push_image.ensures ∙ empty in
    subst (λ (xs : List ℕ). ReadsBack draft xs) (sym written) (reads_back draft c.requires none)
