-- How many things of a kind a world has at most, and which exist.
use Rattle.std.proofs.Common.{◌≤◌, ◌<◌, length}
use Rattle.type_tree.specs.World.{Facts}
use Rattle.type_tree.specs.Whole.{IsWhole}
use Rattle.type_tree.proofs.WholeLemmas.{few, named}

pub defs_few : (w : Facts) → IsWhole w → length w.defs ≤ 16777215
defs_few w h = (few w h).defs

pub methods_few : (w : Facts) → IsWhole w → length w.methods ≤ 16777215
methods_few w h = (few w h).methods

pub fields_few : (w : Facts) → IsWhole w → length w.fields ≤ 16777215
fields_few w h = (few w h).fields

pub roots_few : (w : Facts) → IsWhole w → length w.roots ≤ 256
roots_few w h = (few w h).roots

pub sigs_few : (w : Facts) → IsWhole w → length w.sigs ≤ 16777471
sigs_few w h = (few w h).sigs

pub names_few : (w : Facts) → IsWhole w → length w.names < 4294967296
names_few w h = (few w h).names

pub value_type_exists : (w : Facts) → IsWhole w → w.value_type.0 < length w.defs
value_type_exists w h = (named w h).value_type

pub enumeration_exists : (w : Facts) → IsWhole w → w.enumeration.0 < length w.defs
enumeration_exists w h = (named w h).enumeration

pub canon_exists : (w : Facts) → IsWhole w → w.canon.0 < length w.defs
canon_exists w h = (named w h).canon
