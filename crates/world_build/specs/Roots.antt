-- What root words name in a world, and the world with these roots.
use Rattle.std.specs.Prelude.{◌≡◌, ℕ, ◌+◌, List, [], ◌∷◌, ◌++◌, map, length, None, Some}
use Rattle.clr_base.specs.declared.ids.MethId.{MethId}
use Rattle.type_tree.specs.declared.parts.Root.{Root}
use Rattle.type_tree.specs.declared.parts.WorldParts.{WorldParts}
use Rattle.type_tree.specs.declared.tree.Key.{Key}
use Rattle.type_tree.specs.declared.tree.Key.TheVariants.{Tree}
use Rattle.type_tree.specs.ReadTexts.{Reads}
use Rattle.type_tree.specs.World.{Facts}
use Rattle.world_build.specs.declared.roots.NamedRoot.{NamedRoot}
use Rattle.world_build.specs.declared.roots.NewRoots.{NewRoots}
use Rattle.world_build.specs.declared.roots.RootForm.{RootForm}
use Rattle.world_build.specs.declared.roots.RootForm.TheVariants.{Types, Entries}
use Rattle.world_build.specs.declared.roots.RootsFault.{RootsFault}
use Rattle.world_build.specs.declared.roots.RootsFault.TheVariants as fault
use Rattle.world_build.specs.Entries.{IsParted, entry_of}

-- a type's text
pub record NamesType (w : Facts) (word : List ℕ) (r : NamedRoot) : Type 0 where
  pub reads : Reads w word r.ty
  pub method : r.method ≡ None

-- the text of the type that owns a method, `::`, and the name under which its definition has an entry
pub record NamesEntry (w : Facts) (word : List ℕ) (r : NamedRoot) : Type 0 where
  pub owner : List ℕ
  pub name : List ℕ
  pub parted : IsParted word owner name
  pub reads : Reads w owner r.ty
  pub id : MethId
  pub entry : entry_of w name r.ty ≡ Some id
  pub method : r.method ≡ Some id

-- what a root word names
abbrev pub NamesRoot : Facts → RootForm → List ℕ → NamedRoot → Type 0
NamesRoot w Types word r = NamesType w word r
NamesRoot w Entries word r = NamesEntry w word r

-- what each of some words names, in order
pub data NameRoots (w : Facts) (form : RootForm) : List (List ℕ) → List NamedRoot → Type 0 where
  none : NameRoots w form [] []
  more : (word : List ℕ) (words : List (List ℕ)) (r : NamedRoot) (rs : List NamedRoot) → NamesRoot w form word r → NameRoots w form words rs
      → NameRoots w form (word ∷ words) (r ∷ rs)

-- ---- the world with roots

-- the signature of a root: its type, which for an entry is the owner of the method
abbrev pub root_key : NamedRoot → Key
root_key r = Tree r.ty

-- the roots, whose signatures have the numbers from one on
abbrev pub roots_from : ℕ → List NamedRoot → List Root
roots_from n [] = []
roots_from n (r ∷ rs) = record { sig = record { 0 = n }; method = r.method } ∷ roots_from (n + 1) rs

-- a world with some more roots; their signatures stand behind all others
unfoldable pub world_with : Facts → List NamedRoot → WorldParts
world_with w rs = record {
  names = w.names;
  defs = w.defs;
  methods = w.methods;
  bodies = w.bodies;
  fields = w.fields;
  sigs = w.sigs ++ map root_key rs;
  roots = w.roots ++ roots_from (length w.sigs) rs;
  files = w.files;
  value_type = w.value_type;
  enumeration = w.enumeration;
  canon = w.canon;
}

-- what the words name, as the roots and the signatures that a world gets
pub record AreNewRoots (w : Facts) (form : RootForm) (words : List (List ℕ)) (found : NewRoots) : Type 0 where
  pub named : List NamedRoot
  pub names : NameRoots w form words named
  pub sigs : found.sigs ≡ map root_key named
  pub roots : found.roots ≡ roots_from (length w.sigs) named

-- the world with what the words name as its further roots
pub record HasRoots (w : Facts) (form : RootForm) (words : List (List ℕ)) (made : Facts) : Type 0 where
  pub named : List NamedRoot
  pub names : NameRoots w form words named
  pub world : made ≡ world_with w named

-- ---- the first word that names nothing

pub record IsFirstUnnamed (w : Facts) (form : RootForm) (words : List (List ℕ)) (word : List ℕ) : Type 0 where
  pub before : List (List ℕ)
  pub behind : List (List ℕ)
  pub stands : words ≡ before ++ word ∷ behind
  pub named : List NamedRoot
  pub names : NameRoots w form before named
  pub unnamed : (r : NamedRoot) → ¬ (NamesRoot w form word r)

-- want of memory says nothing
abbrev pub IsFaultOf : Facts → RootForm → List (List ℕ) → RootsFault → Type 0
IsFaultOf w form words (fault.NoName word) = IsFirstUnnamed w form words word
IsFaultOf w form words fault.Memory = Unit {0}
