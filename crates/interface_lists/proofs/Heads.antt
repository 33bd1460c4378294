-- The definitions at the heads of trees.
use Rattle.std.proofs.Common.{◌≡◌, ℕ, ◌≤◌, false, List, Option, None, Some, length, slice_get, refl, ap, ◌∙◌, sym}
use Rattle.std.proofs.lemmas.Option.{slice_get_past}
use Rattle.std.specs.Option.{option_and_then, option_map_or}
use Rattle.clr_base.specs.declared.ids.DefId.{DefId}
use Rattle.type_tree.specs.declared.definition.Def.{Def}
use Rattle.type_tree.specs.declared.tree.Ty.{Ty}
use Rattle.type_tree.specs.declared.tree.Ty.TheVariants as ty
use Rattle.type_tree.specs.Context.{arguments, arguments_at}
use Rattle.type_tree.specs.Kinds.{head, head_at}
use Rattle.type_tree.specs.World.{Facts}
use Rattle.type_pool.specs.declared.nodes.Id.{Id}
use Rattle.type_pool.specs.declared.nodes.Node.{Node}
use Rattle.type_pool.specs.declared.nodes.Node.TheVariants.{Inst, Array, ByRef, Ptr, Var, MVar, Missing, Odd}
use Rattle.type_pool.specs.Trees.{at, at_all, tree_of}
use Rattle.method_slots.specs.Slots.{is_interface}
use Rattle.interface_lists.specs.Lists.{def_of, names_interface}

-- a level that is no instantiation has no head
pub no_head : (ts : List Ty) (n : Node) → ((d : DefId) (parts : List Id) → n ≡ Inst d parts → ⊥) → head (tree_of ts n) ≡ None
no_head ts (Inst d parts) h = absurd (h d parts refl)
no_head ts (Array e) h = ap head_at (ty.outs-Array (at ts e))
no_head ts (ByRef e) h = ap head_at (ty.outs-ByRef (at ts e))
no_head ts (Ptr e) h = ap head_at (ty.outs-Ptr (at ts e))
no_head ts (Var k) h = ap head_at (ty.outs-Var k)
no_head ts (MVar k) h = ap head_at (ty.outs-MVar k)
no_head ts (Missing name value) h = ap head_at (ty.outs-Missing name value)
no_head ts (Odd k) h = ap head_at (ty.outs-Odd k)

pub none_at : (w : Facts) (t : Ty) → head t ≡ None → def_of w t ≡ None
none_at w t e = ap (option_and_then (λ p. slice_get w.defs p)) e

pub some_at : (w : Facts) (t : Ty) (n : ℕ) → head t ≡ Some n → def_of w t ≡ slice_get w.defs n
some_at w t n e = ap (option_and_then (λ p. slice_get w.defs p)) e

pub past_at : (w : Facts) (t : Ty) (n : ℕ) → head t ≡ Some n → length w.defs ≤ n → def_of w t ≡ None
past_at w t n e past = some_at w t n e ∙ slice_get_past w.defs n past

pub names-def : (w : Facts) (t : Ty) (o : Option Def) → def_of w t ≡ o → names_interface w t ≡ option_map_or is_interface o false
names-def w t o e = ap (λ p. option_map_or is_interface p false) e

-- the level of an instantiation
pub inst_head : (ts : List Ty) (t : Ty) (d : DefId) (parts : List Id) → tree_of ts (Inst d parts) ≡ t → head t ≡ Some d.0
inst_head ts t d parts is = ap head (sym is) ∙ ap head_at (ty.outs-Inst d (at_all ts parts))

pub inst_arguments : (ts : List Ty) (t : Ty) (d : DefId) (parts : List Id) → tree_of ts (Inst d parts) ≡ t → arguments t ≡ at_all ts parts
inst_arguments ts t d parts is = ap arguments (sym is) ∙ ap arguments_at (ty.outs-Inst d (at_all ts parts))
