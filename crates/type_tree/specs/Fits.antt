-- Numbers that stand for things that a world has: each is below the count of its kind.
use Rattle.std.specs.Prelude.{ℕ, ◌+◌, Bool, true, ◌&&◌, nat_lt, nat_le, List, map, Option, None, Some}
use Rattle.std.specs.List.{list_all}
use Rattle.clr_base.specs.declared.ids.MethId.{MethId}
use Rattle.type_tree.specs.declared.tree.Ty.{Ty}
use Rattle.type_tree.specs.declared.tree.Ty.TheOpen.{Ty-F}
use Rattle.type_tree.specs.declared.tree.Ty.TheFolds.{fold-Ty}
use Rattle.type_tree.specs.declared.tree.Key.{Key}
use Rattle.type_tree.specs.declared.tree.Key.TheVariants.{Tree, Meth}
use Rattle.type_tree.specs.declared.definition.Def.{Def}
use Rattle.type_tree.specs.declared.definition.Field.{Field}
use Rattle.type_tree.specs.declared.definition.Formal.{Formal}
use Rattle.type_tree.specs.declared.definition.Impl.{Impl}
use Rattle.type_tree.specs.declared.definition.Method.{Method}
use Rattle.type_tree.specs.declared.counts.Counts.{Counts}

-- each number in a tree; each part is given by whether it fits
abbrev pub fits_step : Counts → Ty-F Bool → Bool
fits_step c (Ty-F.Inst d parts) = nat_lt d.0 c.defs && list_all (λ p. p) parts
fits_step c (Ty-F.Array part) = part
fits_step c (Ty-F.ByRef part) = part
fits_step c (Ty-F.Ptr part) = part
fits_step c (Ty-F.Missing name value) = nat_lt name.0 c.names
fits_step c _ = true

abbrev pub fits : Counts → Ty → Bool
fits c = fold-Ty Bool (fits_step c)

abbrev pub all_fit : Counts → List Ty → Bool
all_fit c ts = list_all (λ p. p) (map (fits c) ts)

abbrev pub key_fits : Counts → Key → Bool
key_fits c (Tree t) = fits c t
key_fits c (Meth k) = nat_lt k.method.0 c.methods && fits c k.owner && all_fit c k.args

-- a tree or a method that may be absent
abbrev pub parent_fits : Counts → Option Ty → Bool
parent_fits c None = true
parent_fits c (Some t) = fits c t

abbrev pub method_is_below : Counts → Option MethId → Bool
method_is_below c None = true
method_is_below c (Some m) = nat_lt m.0 c.methods

abbrev pub formal_fits : Counts → Formal → Bool
formal_fits c f = all_fit c f.constraints

abbrev pub formals_fit : Counts → List Formal → Bool
formals_fit c fs = list_all (formal_fits c) fs

abbrev pub impl_fits : Counts → Impl → Bool
impl_fits c i = method_is_below c i.body && fits c i.owner && method_is_below c i.declaration

abbrev pub impls_fit : Counts → List Impl → Bool
impls_fit c is = list_all (impl_fits c) is

-- a run of things is within their count
abbrev pub is_within : ℕ → ℕ → ℕ → Bool
is_within first n count = nat_le (first + n) count

abbrev pub members_within : Counts → Def → Bool
members_within c d = is_within d.first_field d.fields c.fields && is_within d.first_method d.methods c.methods

abbrev pub def_fits : Counts → Def → Bool
def_fits c d =
    nat_lt d.name.0 c.names && nat_le d.file c.files && members_within c d && parent_fits c d.parent
    && formals_fit c d.formals && all_fit c d.interfaces && impls_fit c d.impls

abbrev pub method_fits : Counts → Method → Bool
method_fits c m =
    nat_lt m.name.0 c.names && nat_lt m.def.0 c.defs && formals_fit c m.formals && fits c m.ret && all_fit c m.params

abbrev pub field_fits : Counts → Field → Bool
field_fits c f = nat_lt f.name.0 c.names && nat_lt f.def.0 c.defs && fits c f.ty
