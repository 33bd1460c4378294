-- What the level of a tree tells of the tree.
use Rattle.std.proofs.Common.{◌≡◌, ℕ, ◌≤◌, true, List, length, ap, ◌∙◌, sym}
use Rattle.std.specs.Prelude.{option_map}
use Rattle.type_tree.specs.declared.tree.Ty.{Ty}
use Rattle.type_tree.specs.declared.tree.Ty.TheVariants as ty
use Rattle.type_tree.specs.declared.tree.Ty.TheViews.{out-Ty}
use Rattle.type_tree.specs.Context.{arguments}
use Rattle.type_tree.specs.Kinds.{is_value, is_value_at}
use Rattle.type_tree.specs.World.{Facts}
use Rattle.type_pool.specs.declared.nodes.Id.{Id}
use Rattle.type_pool.specs.declared.nodes.Node.{Node}
use Rattle.type_pool.specs.declared.nodes.Node.TheVariants.{Inst, Array, ByRef, Ptr, Var, MVar, Missing, Odd}
use Rattle.type_pool.specs.Jobs.{SpellAll}
use Rattle.type_pool.specs.Keys.{arguments_of}
use Rattle.type_pool.specs.Trees.{at, at_all, tree_of, ids_below, parts_below}
use Rattle.type_pool.proofs.Levels.{ids_below-more}
use Rattle.type_pool.proofs.KeyLemmas.{arguments-tree, arguments-below}
use Rattle.type_relations.specs.Heads.{is_value_level}
use Rattle.type_subs.specs.Constraints.{is_new_class_at, formals_at, formals_of_type}
use Rattle.type_subs.specs.Instances.{formals_level}
use Rattle.type_subs.specs.Levels.{element, element_at, element_level}
use Rattle.type_subs.specs.Makers.{level_can_be_made}

pub is_value-tree : (w : Facts) (ts : List Ty) (n : Node) → is_value w (tree_of ts n) ≡ is_value_level w n
is_value-tree w ts (Inst d parts) = ap (is_value_at w) (ty.outs-Inst d (at_all ts parts))
is_value-tree w ts (Array part) = ap (is_value_at w) (ty.outs-Array (at ts part))
is_value-tree w ts (ByRef part) = ap (is_value_at w) (ty.outs-ByRef (at ts part))
is_value-tree w ts (Ptr part) = ap (is_value_at w) (ty.outs-Ptr (at ts part))
is_value-tree w ts (Var n) = ap (is_value_at w) (ty.outs-Var n)
is_value-tree w ts (MVar n) = ap (is_value_at w) (ty.outs-MVar n)
is_value-tree w ts (Missing name value) = ap (is_value_at w) (ty.outs-Missing name value)
is_value-tree w ts (Odd code) = ap (is_value_at w) (ty.outs-Odd code)

pub made-tree : (w : Facts) (ts : List Ty) (n : Node) → is_new_class_at w (out-Ty (tree_of ts n)) ≡ level_can_be_made w n
made-tree w ts (Inst d parts) = ap (is_new_class_at w) (ty.outs-Inst d (at_all ts parts))
made-tree w ts (Array part) = ap (is_new_class_at w) (ty.outs-Array (at ts part))
made-tree w ts (ByRef part) = ap (is_new_class_at w) (ty.outs-ByRef (at ts part))
made-tree w ts (Ptr part) = ap (is_new_class_at w) (ty.outs-Ptr (at ts part))
made-tree w ts (Var n) = ap (is_new_class_at w) (ty.outs-Var n)
made-tree w ts (MVar n) = ap (is_new_class_at w) (ty.outs-MVar n)
made-tree w ts (Missing name value) = ap (is_new_class_at w) (ty.outs-Missing name value)
made-tree w ts (Odd code) = ap (is_new_class_at w) (ty.outs-Odd code)

pub element-tree : (ts : List Ty) (n : Node) → element (tree_of ts n) ≡ option_map (at ts) (element_level n)
element-tree ts (Inst d parts) = ap (element_at) (ty.outs-Inst d (at_all ts parts))
element-tree ts (Array part) = ap (element_at) (ty.outs-Array (at ts part))
element-tree ts (ByRef part) = ap (element_at) (ty.outs-ByRef (at ts part))
element-tree ts (Ptr part) = ap (element_at) (ty.outs-Ptr (at ts part))
element-tree ts (Var n) = ap (element_at) (ty.outs-Var n)
element-tree ts (MVar n) = ap (element_at) (ty.outs-MVar n)
element-tree ts (Missing name value) = ap (element_at) (ty.outs-Missing name value)
element-tree ts (Odd code) = ap (element_at) (ty.outs-Odd code)

pub formals-tree : (w : Facts) (ts : List Ty) (n : Node) → formals_of_type w (tree_of ts n) ≡ formals_level w n
formals-tree w ts (Inst d parts) = ap (formals_at w) (ty.outs-Inst d (at_all ts parts))
formals-tree w ts (Array part) = ap (formals_at w) (ty.outs-Array (at ts part))
formals-tree w ts (ByRef part) = ap (formals_at w) (ty.outs-ByRef (at ts part))
formals-tree w ts (Ptr part) = ap (formals_at w) (ty.outs-Ptr (at ts part))
formals-tree w ts (Var n) = ap (formals_at w) (ty.outs-Var n)
formals-tree w ts (MVar n) = ap (formals_at w) (ty.outs-MVar n)
formals-tree w ts (Missing name value) = ap (formals_at w) (ty.outs-Missing name value)
formals-tree w ts (Odd code) = ap (formals_at w) (ty.outs-Odd code)

pub arguments_spell : (ts : List Ty) (node : Node) (n : ℕ) (t : Ty) (ids : List Id) → n ≤ length ts → parts_below n node ≡ true → tree_of ts node ≡ t → ids ≡ arguments_of node → SpellAll ts ids (arguments t)
arguments_spell ts node n t ids le below same is = record {
  within = ap (ids_below (length ts)) is ∙ ids_below-more n (length ts) (arguments_of node) le (arguments-below n node below);
  are = ap (at_all ts) is ∙ (sym (arguments-tree ts node) ∙ ap arguments same);
}
