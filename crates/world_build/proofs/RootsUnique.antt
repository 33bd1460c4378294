-- Words name one list of roots at most, and none where one of them names nothing.
use Rattle.std.proofs.Common.{◌≡◌, ℕ, List, [], ◌∷◌, ◌++◌, Option, refl, sym, ap, ap₂, ◌∙◌, subst}
use Rattle.clr_base.specs.declared.ids.MethId.{MethId}
use Rattle.type_tree.specs.declared.tree.Ty.{Ty}
use Rattle.type_tree.specs.World.{Facts}
use Rattle.type_tree.specs.ReadTexts.{Reads}
use Rattle.world_build.specs.declared.roots.NamedRoot.{NamedRoot}
use Rattle.world_build.specs.declared.roots.RootForm.{RootForm}
use Rattle.world_build.specs.declared.roots.RootForm.TheVariants.{Types, Entries}
use Rattle.world_build.specs.Entries.{entry_of}
use Rattle.world_build.specs.Roots.{NamesEntry, NamesRoot, NameRoots, HasRoots, IsFirstUnnamed, world_with}
use Rattle.world_build.specs.Roots as spec
use Rattle.world_build.proofs.RootLemmas.{one_read, same_owner, same_name}

root_is : (r s : NamedRoot) → r.ty ≡ s.ty → r.method ≡ s.method → r ≡ s
root_is r s t m = ap₂ (λ (ty : Ty) (method : Option MethId). let root : NamedRoot = record { ty = ty; method = method } in root) t m

module _ (w : Facts) where
  module _ (word : List ℕ) (r s : NamedRoot) (h : NamesEntry w word r) (k : NamesEntry w word s) where
    same_type : r.ty ≡ s.ty
    same_type = one_read w k.owner r.ty s.ty (subst (λ (o : List ℕ). Reads w o r.ty) (same_owner word h.owner k.owner h.name k.name h.parted k.parted) h.reads) k.reads

    same_method : r.method ≡ s.method
    same_method =
        h.method ∙ sym h.entry ∙ ap₂ (entry_of w) (same_name word h.owner k.owner h.name k.name h.parted k.parted) same_type
        ∙ k.entry ∙ sym k.method

  pub one_named : (form : RootForm) (word : List ℕ) (r s : NamedRoot) → NamesRoot w form word r → NamesRoot w form word s → r ≡ s
  one_named Types word r s h k = root_is r s (one_read w word r.ty s.ty h.reads k.reads) (h.method ∙ sym k.method)
  one_named Entries word r s h k = root_is r s (same_type word r s h k) (same_method word r s h k)

  module _ (form : RootForm) where
    -- what stands first, and what stands behind it
    record Opened (word : List ℕ) (words : List (List ℕ)) (rs : List NamedRoot) : Type 0 where
      first : NamedRoot
      others : List NamedRoot
      is : rs ≡ first ∷ others
      named : NamesRoot w form word first
      behind : NameRoots w form words others

    opened : {word : List ℕ} {words : List (List ℕ)} {rs : List NamedRoot} → NameRoots w form (word ∷ words) rs → Opened word words rs
    opened (spec.more x xs r rs h hs) = record { first = r; others = rs; is = refl; named = h; behind = hs }

    closed : {rs : List NamedRoot} → NameRoots w form [] rs → rs ≡ []
    closed spec.none = refl

    one_list : {words : List (List ℕ)} {rs ss : List NamedRoot} → NameRoots w form words rs → NameRoots w form words ss → rs ≡ ss
    one_list spec.none k = sym (closed k)
    one_list (spec.more x xs r rs h hs) k =
        let o = opened k in
        ap₂ ◌∷◌ (one_named form x r o.first h o.named) (one_list hs o.behind) ∙ sym o.is

    pub one_world : (words : List (List ℕ)) (made other : Facts) → HasRoots w form words made → HasRoots w form words other → made ≡ other
    one_world words made other h k = h.world ∙ ap (world_with w) (one_list h.names k.names) ∙ sym k.world

    named_there : (before behind : List (List ℕ)) (word : List ℕ) (rs : List NamedRoot) → NameRoots w form (before ++ word ∷ behind) rs
        → ((r : NamedRoot) → ¬ (NamesRoot w form word r)) → ⊥
    named_there [] behind word rs h never = let o = opened h in never o.first o.named
    named_there (x ∷ before) behind word rs h never = let o = opened h in named_there before behind word o.others o.behind never

    pub no_world : (words : List (List ℕ)) (word : List ℕ) (made : Facts) → IsFirstUnnamed w form words word → ¬ (HasRoots w form words made)
    no_world words word made u h =
        named_there u.before u.behind word h.named (subst (λ (ws : List (List ℕ)). NameRoots w form ws h.named) u.stands h.names) u.unnamed
