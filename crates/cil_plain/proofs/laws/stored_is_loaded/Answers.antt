use Rattle.std.proofs.Common.{◌≡◌, ℕ, Bool, true, false, Ok, ap, ◌∙◌, sym}
use Rattle.cil_plain.proofs.Stored.{field_stored, element_stored, number_stored}
use Rattle.cil_plain.proofs.laws.stored_is_loaded.Goals as goal

pub returns : goal.returns
returns g c = record {
  field = field_stored;
  element = element_stored;
  number = number_stored;
}
