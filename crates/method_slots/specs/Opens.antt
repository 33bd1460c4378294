-- The name and signature by which a method overrides another (ECMA-335 II.10.3.1), open: as trees in some formals.
use Rattle.std.specs.Prelude.{◌≡◌, ℕ, Bool, true, List, [], length, ◌<◌}
use Rattle.clr_base.specs.declared.ids.NameId.{NameId}
use Rattle.type_tree.specs.declared.definition.Method.{Method}
use Rattle.type_tree.specs.declared.tree.Ty.{Ty}
use Rattle.type_tree.specs.Subst.{subst_ty, subst_all}
use Rattle.type_pool.specs.Trees.{at, at_all, ids_below}
use Rattle.method_slots.specs.declared.opens.OpenMethod.{OpenMethod}

pub record Open : Type 0 where
  pub name : NameId
  pub has_this : Bool
  pub vararg : Bool
  pub formals : ℕ
  pub ret : Ty
  pub params : List Ty

-- those of a method, in the formals of its own definition
abbrev pub open_of : Method → Open
open_of m = record { name = m.name; has_this = m.has_this; vararg = m.vararg; formals = length m.formals; ret = m.ret; params = m.params }

-- with the arguments of a type put in; the method's own generic parameters stay
abbrev pub put_open : List Ty → Open → Open
put_open types o = record { name = o.name; has_this = o.has_this; vararg = o.vararg; formals = o.formals; ret = subst_ty types [] o.ret; params = subst_all types [] o.params }

-- the one that is spelled over a pool
abbrev pub open_at : List Ty → OpenMethod → Open
open_at ts o = record { name = o.name; has_this = o.has_this; vararg = o.vararg; formals = o.formals; ret = at ts o.ret; params = at_all ts o.params }

-- each number in it names a tree
pub record IsOver (ts : List Ty) (o : OpenMethod) : Type 0 where
  pub ret : o.ret.0 < length ts
  pub params : ids_below (length ts) o.params ≡ true

-- this spells that
pub record SpellsOpen (ts : List Ty) (o : OpenMethod) (is : Open) : Type 0 where
  pub within : IsOver ts o
  pub are : open_at ts o ≡ is
