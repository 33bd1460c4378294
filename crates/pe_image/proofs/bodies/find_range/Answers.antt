use Rattle.std.proofs.Common.{◌≡◌, ℕ, ◌≤◌, List, Option, Some, sym, ◌∙◌}
use Rattle.std.specs.List.{find}
use Rattle.std.proofs.lemmas.Bool.{and_parts, leb-true}
use Rattle.clr_base.proofs.ListFacts.{found_passes}
use Rattle.pe_image.specs.declared.sections.Section.{Section}
use Rattle.pe_image.specs.Sections.{covers, sections}
use Rattle.pe_image.proofs.bodies.find_range.Goals as goal

starts_before : (table : List Section) (rva : ℕ) (s : Section) → find (covers rva) table ≡ Some s → s.address ≤ rva
starts_before table rva s e = leb-true s.address rva (and_parts _ _ (found_passes (covers rva) table s e)).0

pub place_in-requires-clause-covered : goal.place_in-requires-clause-covered
place_in-requires-clause-covered c = starts_before (sections c.args.bytes.now) c.args.rva c.in_ok-section.section (sym c.requires ∙ c.in_ok-section.was)

pub place_in-requires-2-clause-covered : goal.place_in-requires-2-clause-covered
place_in-requires-2-clause-covered c = starts_before (sections c.args.bytes.now) c.args.rva c.in_ok-section.section (sym c.requires ∙ c.in_ok-section.was)
