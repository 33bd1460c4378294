-- The key of a context and a signature: what a signature means inside a loaded type or method.
use Rattle.std.specs.Prelude.{List, [], Option, None, Some}
use Rattle.type_tree.specs.declared.tree.Ty.{Ty}
use Rattle.type_tree.specs.declared.tree.Ty.TheOpen.{Ty-F}
use Rattle.type_tree.specs.declared.tree.Ty.TheViews.{out-Ty}
use Rattle.type_tree.specs.declared.tree.Key.{Key}
use Rattle.type_tree.specs.declared.tree.Key.TheVariants.{Tree, Meth}
use Rattle.type_tree.specs.Subst.{subst}

abbrev pub arguments_at : Ty-F Ty → List Ty
arguments_at (Ty-F.Inst d parts) = parts
arguments_at _ = []

-- the arguments of a type, none where it is no instantiation
abbrev pub arguments : Ty → List Ty
arguments t = arguments_at (out-Ty t)

-- The variables of a type stand for the arguments of the type, or of the type that owns the method;
-- those of a method for the method's own. Without a context the signature is the key.
abbrev pub key_of : Option Key → Key → Key
key_of None sig = sig
key_of (Some (Tree t)) sig = subst sig (arguments t) []
key_of (Some (Meth k)) sig = subst sig (arguments k.owner) k.args
