-- What holds of every world.
use Rattle.std.proofs.Common.{◌≡◌, ℕ, ◌+◌, zero, suc, ◌≤◌, ◌<◌, Bool, true, List, [], ◌∷◌, length, slice_get, Option, Some, IsTrue, arith}
use Rattle.std.specs.List.{list_all}
use Rattle.std.proofs.Math.Dec.{eqb-suc-zero}
use Rattle.std.proofs.Math.Numerals.{sub-one}
use Rattle.std.proofs.lemmas.Bool.{and_parts, leb-true, eqb-true}
use borrow.Author.Tests.{ltb-true}
use Rattle.type_tree.specs.declared.definition.Def.{Def}
use Rattle.type_tree.specs.declared.definition.Field.{Field}
use Rattle.type_tree.specs.declared.definition.Method.{Method}
use Rattle.type_tree.specs.declared.parts.BodyPlace.{BodyPlace}
use Rattle.type_tree.specs.declared.parts.Root.{Root}
use Rattle.type_tree.specs.declared.parts.WorldFile.{WorldFile}
use Rattle.type_tree.specs.declared.tree.Key.{Key}
use Rattle.type_tree.specs.World.{Facts}
use Rattle.type_tree.specs.Fits.{def_fits, method_fits, field_fits, key_fits}
use Rattle.type_tree.specs.Tokens.{file_at, IsNumbered, row_sigs}
use Rattle.type_tree.specs.Whole.{counts, most, has_few, named_fit, are_in_order, things_fit, defs_fit, methods_fit, fields_fit, keys_fit, root_fits, roots_fit, file_fits, files_fit, place_fits, bodies_fit, members_fit, lists_fit, is_whole, IsWhole}

-- the tests that make up one test
pub record Parts (w : Facts) : Type 0 where
  pub few : has_few w ≡ true
  pub named : named_fit w ≡ true
  pub order : are_in_order 0 w.defs ≡ true
  pub things : things_fit w ≡ true
  pub files : files_fit (counts w) w.files ≡ true
  pub bodies : bodies_fit w ≡ true

pub parts : (w : Facts) → IsWhole w → Parts w
unfolding is_whole
parts w h =
    let a = and_parts _ (bodies_fit w) h in
    let b = and_parts _ (files_fit (counts w) w.files) a.0 in
    let c = and_parts _ (things_fit w) b.0 in
    let d = and_parts _ (are_in_order 0 w.defs) c.0 in
    let e = and_parts (has_few w) (named_fit w) d.0 in
    record { few = e.0; named = e.1; order = d.1; things = c.1; files = b.1; bodies = a.1 }

-- an element of a list all of whose elements pass a test
pub element_passes : {X : Type 0} (p : X → Bool) (xs : List X) (i : ℕ) (x : X) → list_all p xs ≡ true → slice_get xs i ≡ Some x → p x ≡ true
element_passes p [] i x h e = absurd (cc)
element_passes p (y ∷ ys) zero x h e = let s = and_parts (p y) (list_all p ys) h in let q : y ≡ x = cc in cc
element_passes p (y ∷ ys) (suc i) x h e = element_passes p ys i x (and_parts (p y) (list_all p ys) h).1 e

pub record Few (w : Facts) : Type 0 where
  pub defs : length w.defs ≤ 16777215
  pub methods : length w.methods ≤ 16777215
  pub fields : length w.fields ≤ 16777215
  pub roots : length w.roots ≤ 256
  pub sigs : length w.sigs ≤ 16777471
  pub names : length w.names < 4294967296

pub few : (w : Facts) → IsWhole w → Few w
few w h =
    let a = and_parts _ _ (parts w h).few in
    let b = and_parts _ _ a.0 in
    let c = and_parts _ _ b.0 in
    let d = and_parts _ _ c.0 in
    let e = and_parts _ _ d.0 in
    let roots = leb-true (length w.roots) 256 c.1 in
    let sigs = leb-true (length w.sigs) (most + length w.roots) b.1 in
    record {
      defs = leb-true _ _ e.0;
      methods = leb-true _ _ e.1;
      fields = leb-true _ _ d.1;
      roots = roots;
      sigs = omega arith;
      names = ltb-true _ _ a.1;
    }

-- the tests that make up `things_fit`
pub record Things (w : Facts) : Type 0 where
  pub defs : defs_fit (counts w) w.defs ≡ true
  pub methods : methods_fit (counts w) w.methods ≡ true
  pub fields : fields_fit (counts w) w.fields ≡ true
  pub keys : keys_fit (counts w) w.sigs ≡ true
  pub roots : roots_fit (counts w) w.roots ≡ true

pub things : (w : Facts) → IsWhole w → Things w
things w h =
    let a = and_parts _ _ (parts w h).things in
    let b = and_parts _ _ a.0 in
    let c = and_parts _ _ b.0 in
    let d = and_parts _ _ c.0 in
    record { defs = d.0; methods = d.1; fields = c.1; keys = b.1; roots = a.1 }

pub def_fits_at : (w : Facts) (i : ℕ) (d : Def) → IsWhole w → slice_get w.defs i ≡ Some d → IsTrue (def_fits (counts w) d)
def_fits_at w i d h e = element_passes (def_fits (counts w)) w.defs i d (things w h).defs e

pub method_fits_at : (w : Facts) (i : ℕ) (m : Method) → IsWhole w → slice_get w.methods i ≡ Some m → IsTrue (method_fits (counts w) m)
method_fits_at w i m h e = element_passes (method_fits (counts w)) w.methods i m (things w h).methods e

pub field_fits_at : (w : Facts) (i : ℕ) (f : Field) → IsWhole w → slice_get w.fields i ≡ Some f → IsTrue (field_fits (counts w) f)
field_fits_at w i f h e = element_passes (field_fits (counts w)) w.fields i f (things w h).fields e

pub key_fits_at : (w : Facts) (i : ℕ) (k : Key) → IsWhole w → slice_get w.sigs i ≡ Some k → IsTrue (key_fits (counts w) k)
key_fits_at w i k h e = element_passes (key_fits (counts w)) w.sigs i k (things w h).keys e

pub root_fits_at : (w : Facts) (i : ℕ) (r : Root) → IsWhole w → slice_get w.roots i ≡ Some r → IsTrue (root_fits (counts w) r)
root_fits_at w i r h e = element_passes (root_fits (counts w)) w.roots i r (things w h).roots e

-- each method has its place, or none
pub bodies_many : (w : Facts) → IsWhole w → length w.bodies ≡ length w.methods
bodies_many w h = eqb-true _ _ (and_parts _ _ (parts w h).bodies).0

pub place_fits_at : (w : Facts) (i : ℕ) (p : Option BodyPlace) → IsWhole w → slice_get w.bodies i ≡ Some p → place_fits w.files p ≡ true
place_fits_at w i p h e = element_passes (place_fits w.files) w.bodies i p (and_parts _ _ (parts w h).bodies).1 e

pub file_fits_at : (w : Facts) (n : ℕ) (f : WorldFile) → IsWhole w → file_at w.files n ≡ Some f → file_fits (counts w) f ≡ true
file_fits_at w zero f h e = absurd (cc)
file_fits_at w (suc n) f h e =
    let here : slice_get w.files n ≡ Some f = rw (eqb-suc-zero, sub-one) at e in
    element_passes (file_fits (counts w)) w.files n f (parts w h).files here

-- the tests that make up `file_fits`, as facts
pub record FileFits (w : Facts) (f : WorldFile) : Type 0 where
  pub sigs : f.first_sig.0 + row_sigs f ≤ length w.sigs
  pub fields : f.first_field.0 + f.fields ≤ length w.fields
  pub methods : f.first_method.0 + f.methods ≤ length w.methods
  pub member_refs : members_fit (counts w) f.member_refs ≡ true
  pub method_specs : members_fit (counts w) f.method_specs ≡ true
  pub locals : lists_fit (counts w) f.locals ≡ true

pub file_facts : (w : Facts) (f : WorldFile) → file_fits (counts w) f ≡ true → FileFits w f
file_facts w f h =
    let a = and_parts _ _ h in
    let b = and_parts _ _ a.0 in
    let c = and_parts _ _ b.0 in
    let d = and_parts _ _ c.0 in
    let e = and_parts _ _ d.0 in
    record {
      sigs = leb-true _ _ e.0;
      fields = leb-true _ _ e.1;
      methods = leb-true _ _ d.1;
      member_refs = c.1;
      method_specs = b.1;
      locals = a.1;
    }

pub numbered : (w : Facts) (f : WorldFile) → IsWhole w → file_fits (counts w) f ≡ true → IsNumbered f
numbered w f h e =
    let most = few w h in
    let facts = file_facts w f e in
    record { sigs = omega arith; fields = omega arith; methods = omega arith }

-- the definitions that rules name
pub record Named (w : Facts) : Type 0 where
  pub value_type : w.value_type.0 < length w.defs
  pub enumeration : w.enumeration.0 < length w.defs
  pub canon : w.canon.0 < length w.defs

pub named : (w : Facts) → IsWhole w → Named w
named w h =
    let a = and_parts _ _ (parts w h).named in
    let b = and_parts _ _ a.0 in
    record { value_type = ltb-true _ _ b.0; enumeration = ltb-true _ _ b.1; canon = ltb-true _ _ a.1 }
