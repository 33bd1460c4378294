use Rattle.std.proofs.Common.{◌∙◌}
use Rattle.pe_image.proofs.Passed.{are_found, section_found}
use Rattle.pe_image.proofs.bodies.body_range.Goals as goal

pub section_of-requires : goal.section_of-requires
section_of-requires c = (are_found _ _ c.requires).table

pub find_range-requires : goal.find_range-requires
find_range-requires c = c.section_of.ensures.exact ∙ section_found _ _ _ c.requires
