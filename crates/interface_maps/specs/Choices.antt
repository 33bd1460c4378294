-- Which methods of a definition answer the methods of its interfaces (ECMA-335 II.12.2).
use Rattle.std.specs.Prelude.{ℕ, zero, suc, Bool, true, false, not, ◌&&◌, ◌==◌, bit_and, cond, List, [], ◌∷◌, ◌++◌, map, filter, unwrap_or, Option, None, Some, slice_get}
use Rattle.std.specs.List.{list_any, range_with_len}
use Rattle.std.specs.Option.{option_map, option_map_or, option_and_then, option_or}
use Rattle.clr_base.specs.declared.ids.MethId.{MethId}
use Rattle.type_tree.specs.declared.definition.Def.{Def}
use Rattle.type_tree.specs.declared.definition.Impl.{Impl}
use Rattle.type_tree.specs.declared.definition.Method.{Method}
use Rattle.type_tree.specs.declared.tree.Ty.{Ty}
use Rattle.type_tree.specs.Context.{arguments}
use Rattle.type_tree.specs.Kinds.{head}
use Rattle.type_tree.specs.Subst.{subst_ty}
use Rattle.type_tree.specs.World.{Facts}
use Rattle.method_slots.specs.Chains.{longest_chain, chain, numbers, number_in, owns, handed_on, last_of, flat}
use Rattle.method_slots.specs.Opens.{Open, open_of, put_open}
use Rattle.method_slots.specs.Slots.{takes_slot, is_interface, is_abstract_type, same_tree, matches, own_methods}
use Rattle.interface_lists.specs.Lists.{def_of, own_list, interfaces}

-- ---- methods by name and signature

-- II.23.1.10: member access
abbrev pub is_public : Method → Bool
is_public m = bit_and m.flags 7 == 6

abbrev pub may_answer : Method → Bool
may_answer m = is_public m && takes_slot m

-- a public virtual method by its name and signature, and the number of the slot that it takes
pub record Public : Type 0 where
  pub signature : Open
  pub number : ℕ

-- in the generic parameters of a definition that names the owner with these arguments; none for another method
abbrev pub public_of : List Ty → Method → Option ℕ → Option Public
public_of types m number = cond (may_answer m) (option_map (λ k. record { signature = put_open types (open_of m); number = k }) number) None

abbrev pub listed : {A : Type 0} → Option A → List A → List A
listed None xs = xs
listed (Some x) xs = x ∷ xs

-- methods in order, with the numbers that they take
abbrev pub own_publics : List Ty → List Method → List (Option ℕ) → List Public
own_publics types [] ns = []
own_publics types (m ∷ ms) [] = []
own_publics types (m ∷ ms) (n ∷ ns) = listed (public_of types m n) (own_publics types ms ns)

-- those of the definition p, whose owner is named with these arguments
abbrev pub publics_in : Facts → List Ty → ℕ → List Public
publics_in w types p = option_map_or (λ (d : Def). own_publics types (own_methods w d) (numbers longest_chain w p)) (slice_get w.defs p) []

-- of the definition that a tree instantiates, with the tree's arguments put in
abbrev pub member_publics : Facts → Ty → List Public
member_publics w t = option_map_or (publics_in w (arguments t)) (head t) []

-- of the members of a chain, the root first; the nearest come first
abbrev pub publics_of : Facts → List Ty → List Public
publics_of w [] = []
publics_of w (t ∷ ts) = publics_of w ts ++ member_publics w t

-- the public virtual methods of a definition, and then those of its parents, the nearest first, in the definition's own generic
-- parameters
abbrev pub publics : Facts → ℕ → List Public
publics w n = publics_of w (chain longest_chain w n)

-- ---- choices

-- the methods of the interface that a tree instantiates: its virtual instance methods, in order
abbrev pub is_method : Facts → ℕ → Bool
is_method w m = option_map_or takes_slot (slice_get w.methods m) false

abbrev pub methods_of : Facts → Ty → List ℕ
methods_of w t = option_map_or (λ (d : Def). filter (is_method w) (range_with_len d.first_method d.methods)) (def_of w t) []

abbrev pub first_of : {A : Type 0} → (A → Bool) → List A → Option A
first_of p [] = None
first_of p (x ∷ xs) = cond (p x) (Some x) (first_of p xs)

-- A row of the definition n puts its body, an own virtual method, for the method m of the interface t. Other rows are passed over.
abbrev pub row_names : Facts → ℕ → Ty → ℕ → Impl → Bool
row_names w n t m i = owns w n i.body && (same_tree i.owner t && option_map_or (λ (id : MethId). id.0 == m) i.declaration false)

-- the slot that the body of the last such row takes (II.22.27)
abbrev pub by_row : Facts → ℕ → Def → Ty → ℕ → Option ℕ
by_row w n d t m = option_and_then (λ (i : Impl). option_and_then (λ (body : MethId). number_in longest_chain w n body.0) i.body) (last_of (row_names w n t m) d.impls)

-- the slot of the first public virtual method of the same name and signature
abbrev pub by_name : Facts → ℕ → Ty → ℕ → Option ℕ
by_name w n t m = option_and_then (λ (r : Method). option_map (λ (p : Public). p.number) (first_of (λ (p : Public). matches p.signature (put_open (arguments t) (open_of r))) (publics w n))) (slice_get w.methods m)

-- an interface, and for each of its methods the slot that answers, or none
pub record Answered : Type 0 where
  pub interface : Ty
  pub choices : List (Option ℕ)

abbrev pub put_answered : List Ty → Answered → Answered
put_answered types a = record { interface = subst_ty types [] a.interface; choices = a.choices }

-- what the parent has for the method at j of an interface: by the first place that the interface has in the parent's list, with the
-- parent's arguments put in
abbrev pub inherited_choice : List Answered → Ty → ℕ → Option ℕ
inherited_choice above t j = option_and_then (λ (a : Answered). flat (slice_get a.choices j)) (first_of (λ (a : Answered). same_tree a.interface t) above)

-- The choice for the method m, which stands at j in the interface t, of a definition that declares the interfaces `own` itself.
abbrev pub choice : Facts → ℕ → Def → List Ty → List Answered → Ty → ℕ → ℕ → Option ℕ
choice w n d own above t j m =
    option_or (by_row w n d t m)
    (option_or (cond (list_any (same_tree t) own) (by_name w n t m) None)
    (inherited_choice above t j))

abbrev pub each : (ℕ → ℕ → Option ℕ) → ℕ → List ℕ → List (Option ℕ)
each f j [] = []
each f j (m ∷ ms) = f j m ∷ each f (suc j) ms

-- An interface has no choices.
abbrev pub choices : Facts → ℕ → Def → List Ty → List Answered → Ty → List (Option ℕ)
choices w n d own above t = each (λ j m. cond (is_interface d) None (choice w n d own above t j m)) 0 (methods_of w t)

abbrev pub answered : Facts → ℕ → Def → List Ty → List Answered → Ty → Answered
answered w n d own above t = record { interface = t; choices = choices w n d own above t }

abbrev pub answers_at : (ℕ → List Answered) → Facts → ℕ → Option Def → List Answered
answers_at above w n None = []
answers_at above w n (Some d) = map (answered w n d (unwrap_or (own_list w d) []) (handed_on put_answered above d.parent)) (unwrap_or (interfaces longest_chain w n) [])

-- the interfaces of a definition in order, each with its choices
unfoldable pub answers : ℕ → Facts → ℕ → List Answered
answers zero w n = []
answers (suc k) w n = answers_at (answers k w) w n (slice_get w.defs n)

-- ---- faults

abbrev pub is_open : Option ℕ → Bool
is_open None = true
is_open (Some k) = false

abbrev pub lacks : Answered → Bool
lacks a = list_any is_open a.choices

-- a class or value type, not an interface, that isn't abstract
abbrev pub is_concrete : Def → Bool
is_concrete d = not (is_interface d) && not (is_abstract_type d)

-- a class that isn't abstract has an interface method that nothing answers
abbrev pub lacks_answer : Facts → ℕ → Bool
lacks_answer w n = option_map_or is_concrete (slice_get w.defs n) false && list_any lacks (answers longest_chain w n)
