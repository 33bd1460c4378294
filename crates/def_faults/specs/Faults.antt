-- The faults of each definition of a world.
use Rattle.std.specs.Prelude.{◌≡◌, ◌↔◌, ℕ, List, length, Some, IsTrue, slice_get}
use Rattle.clr_base.specs.declared.ids.DefId.{DefId}
use Rattle.type_tree.specs.World.{Facts}
use Rattle.def_faults.specs.declared.faults.DefFaults.{DefFaults}
use Rattle.def_faults.specs.BadInterface.{is_bad_interface}
use Rattle.def_faults.specs.BadParent.{is_bad_parent}
use Rattle.def_faults.specs.BaseCycle.{is_base_cycle}
use Rattle.def_faults.specs.NotFound.{NotFound}
use Rattle.def_faults.specs.NotInProfile.{NotInProfile, is_with_default_method}

-- each says whether that fault holds
pub record IsFaults (w : Facts) (id : DefId) (f : DefFaults) : Type 0 where
  pub not_found : IsTrue f.not_found ↔ NotFound w id
  pub base_cycle : f.base_cycle ≡ is_base_cycle w id
  pub bad_parent : f.bad_parent ≡ is_bad_parent w id
  pub bad_interface : f.bad_interface ≡ is_bad_interface w id
  pub not_in_profile : IsTrue f.not_in_profile ↔ NotInProfile w id
  pub default_method : f.default_method ≡ is_with_default_method w id

-- one for each definition, at its number
pub record AreFaults (w : Facts) (fs : List DefFaults) : Type 0 where
  pub as_many : length fs ≡ length w.defs
  pub each : (n : ℕ) (f : DefFaults) → slice_get fs n ≡ Some f → IsFaults w (record { 0 = n }) f
