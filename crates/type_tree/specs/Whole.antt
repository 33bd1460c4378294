-- What holds of the parts of every world.
use Rattle.std.specs.Prelude.{ℕ, ◌+◌, Bool, true, ◌&&◌, nat_eq, nat_lt, nat_le, List, [], ◌∷◌, length, Option, None, Some, IsTrue}
use Rattle.std.specs.List.{list_all}
use Rattle.clr_base.specs.declared.ids.SigId.{SigId}
use Rattle.type_tree.specs.declared.counts.Counts.{Counts}
use Rattle.type_tree.specs.declared.definition.Def.{Def}
use Rattle.type_tree.specs.declared.definition.Field.{Field}
use Rattle.type_tree.specs.declared.definition.Method.{Method}
use Rattle.type_tree.specs.declared.parts.BodyPlace.{BodyPlace}
use Rattle.type_tree.specs.declared.parts.Locals.{Locals}
use Rattle.type_tree.specs.declared.parts.Member.{Member}
use Rattle.type_tree.specs.declared.parts.Member.TheVariants as member
use Rattle.type_tree.specs.declared.parts.Root.{Root}
use Rattle.type_tree.specs.declared.parts.Token.{Token}
use Rattle.type_tree.specs.declared.parts.WorldFile.{WorldFile}
use Rattle.type_tree.specs.declared.tree.Key.{Key}
use Rattle.type_tree.specs.World.{Facts}
use Rattle.type_tree.specs.Tokens.{row_sigs, file_at}
use Rattle.type_tree.specs.Bodies.{bytes_of}
use Rattle.type_tree.specs.Fits.{def_fits, method_fits, field_fits, key_fits, method_is_below, is_within}

abbrev pub counts : Facts → Counts
counts w = record {
  names = length w.names;
  defs = length w.defs;
  methods = length w.methods;
  fields = length w.fields;
  sigs = length w.sigs;
  files = length w.files;
}

-- the greatest row number (ECMA-335 II.22)
abbrev pub most : ℕ
most = 16777215

-- So many definitions, methods and fields at most, and so many signatures before those of the roots;
-- at most 256 roots; names that a NameId can number.
abbrev pub has_few : Facts → Bool
has_few w =
    nat_le (length w.defs) most && nat_le (length w.methods) most && nat_le (length w.fields) most
    && nat_le (length w.roots) 256 && nat_le (length w.sigs) (most + length w.roots) && nat_lt (length w.names) 4294967296

-- the definitions stand in the order of their files, the core's first
abbrev pub are_in_order : ℕ → List Def → Bool
are_in_order last [] = true
are_in_order last (d ∷ ds) = nat_le last d.file && are_in_order d.file ds

abbrev pub root_fits : Counts → Root → Bool
root_fits c r = nat_lt r.sig.0 c.sigs && method_is_below c r.method

abbrev pub member_fits : Counts → Member → Bool
member_fits c member.NoMember = true
member_fits c (member.Field f) = nat_lt f.0 c.fields
member_fits c (member.Method m) = nat_lt m.0 c.methods
member_fits c member.Lost = true

abbrev pub members_fit : Counts → List Member → Bool
members_fit c ms = list_all (member_fits c) ms

abbrev pub locals_fit : Counts → Option Locals → Bool
locals_fit c None = true
locals_fit c (Some l) = is_within l.first.0 l.count c.sigs

abbrev pub lists_fit : Counts → List (Option Locals) → Bool
lists_fit c ls = list_all (locals_fit c) ls

abbrev pub array_is_below : Counts → Option SigId → Bool
array_is_below c None = true
array_is_below c (Some sig) = nat_lt sig.0 c.sigs

abbrev pub token_fits : Counts → Token → Bool
token_fits c t = nat_lt t.sig.0 c.sigs && array_is_below c t.array && member_fits c t.member

-- the runs of the rows' signatures, fields and methods are within their counts, and so are the
-- members and the local variables that are listed
abbrev pub file_fits : Counts → WorldFile → Bool
file_fits c f =
    is_within f.first_sig.0 (row_sigs f) c.sigs && is_within f.first_field.0 f.fields c.fields
    && is_within f.first_method.0 f.methods c.methods && members_fit c f.member_refs
    && members_fit c f.method_specs && lists_fit c f.locals

abbrev pub files_fit : Counts → List WorldFile → Bool
files_fit c fs = list_all (file_fits c) fs

-- a body's place is within the bytes of its file
abbrev pub place_fits : List WorldFile → Option BodyPlace → Bool
place_fits files None = true
place_fits files (Some p) = nat_le (p.start + p.len) (length (bytes_of (file_at files p.file)))

abbrev pub places_fit : List WorldFile → List (Option BodyPlace) → Bool
places_fit files ps = list_all (place_fits files) ps

-- each method has its place, or none
abbrev pub bodies_fit : Facts → Bool
bodies_fit w = nat_eq (length w.bodies) (length w.methods) && places_fit w.files w.bodies

-- the definitions that rules name exist
abbrev pub named_fit : Facts → Bool
named_fit w = nat_lt w.value_type.0 (length w.defs) && nat_lt w.enumeration.0 (length w.defs) && nat_lt w.canon.0 (length w.defs)

abbrev pub defs_fit : Counts → List Def → Bool
defs_fit c ds = list_all (def_fits c) ds

abbrev pub methods_fit : Counts → List Method → Bool
methods_fit c ms = list_all (method_fits c) ms

abbrev pub fields_fit : Counts → List Field → Bool
fields_fit c fs = list_all (field_fits c) fs

abbrev pub keys_fit : Counts → List Key → Bool
keys_fit c ks = list_all (key_fits c) ks

abbrev pub roots_fit : Counts → List Root → Bool
roots_fit c rs = list_all (root_fits c) rs

-- each number that stands in the definitions, methods, fields, signatures and roots
abbrev pub things_fit : Facts → Bool
things_fit w =
    defs_fit (counts w) w.defs && methods_fit (counts w) w.methods && fields_fit (counts w) w.fields
    && keys_fit (counts w) w.sigs && roots_fit (counts w) w.roots

unfoldable pub is_whole : Facts → Bool
is_whole w =
    has_few w && named_fit w && are_in_order 0 w.defs && things_fit w && files_fit (counts w) w.files
    && bodies_fit w

abbrev pub IsWhole : Facts → Type 0
IsWhole w = IsTrue (is_whole w)
