-- How a pool grows.
use Rattle.std.proofs.Common.{◌≡◌, ℕ, zero, suc, ◌<◌, nat_lt, true, false, cond, inl, inr, List, [], ◌∷◌, ◌++◌, length, Some, slice_get, refl, ap, ◌∙◌, sym, arith, length-append, true≢false, append-nil, get_or, ◌+◌, subst}
use Rattle.std.proofs.lemmas.Bool.{cases_Bool, ltb-true}
use Rattle.std.proofs.lemmas.Option.{slice_get-get_or, slice_get_within, get_or_from_slice_get}
use Rattle.std.specs.List.{list_any}
use Rattle.indexmap.specs.IndexSet.{insert_key}
use Rattle.type_tree.specs.declared.tree.Ty.{Ty}
use Rattle.type_tree.specs.declared.tree.Ty.TheVariants as ty
use Rattle.type_tree.specs.contracts.tree.Ty as tree
use Rattle.type_tree.specs.Same.{same}
use Rattle.type_tree.specs.SameLaws.{same_is, is_same}
use Rattle.type_pool.specs.declared.nodes.Id.{Id}
use Rattle.type_pool.specs.declared.nodes.Node.{Node}
use Rattle.type_pool.specs.declared.nodes.Entry.{Entry}
use Rattle.type_pool.specs.NodeSame.{same_entry, level_is, is_level}
use Rattle.type_pool.specs.Trees.{AddsAtMost, at, tree_of, parts_below, mark_of, spelled, spelled_on, IsEntry, EachOnce, IsSound, Interned, Grows, Spells}
use Rattle.type_pool.proofs.Gets.{get_cases, get_grows, get_last, any_at}
use Rattle.type_pool.proofs.Levels.{tree_of-grows, level_of, level_of-tree, parts_below-more}

spelled_on-append : (ts : List Ty) (es fs : List Entry) → spelled_on ts (es ++ fs) ≡ spelled_on (spelled_on ts es) fs
spelled_on-append ts [] fs = refl
spelled_on-append ts (e ∷ es) fs = spelled_on-append (ts ++ tree_of ts e.node ∷ []) es fs

pub spelled-push : (es : List Entry) (e : Entry) → spelled (es ++ e ∷ []) ≡ spelled es ++ tree_of (spelled es) e.node ∷ []
unfolding spelled
spelled-push es e = spelled_on-append [] es (e ∷ [])

-- the index of a tree
place : List Ty → Ty → ℕ
place [] t = 0
place (x ∷ xs) t = cond (same tree.the_row.coded x t) 0 (suc (place xs t))

not_first : (x : Ty) (xs : List Ty) (i : ℕ) (t : Ty) → slice_get (x ∷ xs) i ≡ Some t → same tree.the_row.coded x t ≡ false → (j : ℕ) × (slice_get xs j ≡ Some t)
not_first x xs zero t h e = absurd (true≢false (sym (is_same tree.the_row.coded x t (cc)) ∙ e))
not_first x xs (suc i) t h e = (i, h)

place_is : (ts : List Ty) (i : ℕ) (t : Ty) → slice_get ts i ≡ Some t → slice_get ts (place ts t) ≡ Some t
unfolding place
place_is [] i t h = absurd (cc)
place_is (x ∷ xs) i t h = elim (cases_Bool (same tree.the_row.coded x t)) [
  | inl e ↦ rw e (ap Some (same_is tree.the_row.coded x t e))
  | inr e ↦ let later = not_first x xs i t h e in rw e (place_is xs later.0 t later.1)
]

at_get : (ts : List Ty) (a : Id) → nat_lt a.0 (length ts) ≡ true → slice_get ts a.0 ≡ Some (at ts a)
at_get ts a h = slice_get-get_or ts a.0 (ty.Odd 0) (ltb-true a.0 (length ts) h)

pub find : List Ty → Ty → Id
find ts t = record { 0 = place ts t }

pub found : (ts : List Ty) → EachOnce ts → (a : Id) → nat_lt a.0 (length ts) ≡ true → find ts (at ts a) ≡ a
unfolding find
found ts once a h = let here = at_get ts a h in λ i. record { 0 = once (place ts (at ts a)) a.0 (at ts a) (place_is ts a.0 (at ts a) here) here i }

-- levels of equal trees are equal
pub same_levels : (ts : List Ty) → EachOnce ts → (m n : Node) → parts_below (length ts) m ≡ true → parts_below (length ts) n ≡ true → tree_of ts m ≡ tree_of ts n → m ≡ n
same_levels ts once m n p q e =
    sym (level_of-tree ts (find ts) (found ts once) m p) ∙ ap (level_of (find ts)) e ∙ level_of-tree ts (find ts) (found ts once) n q

-- an entry that is found by its level spells the tree of the level
pub present_spells : (ts : List Ty) (es : List Entry) (i : ℕ) (k e : Entry) → IsSound ts es → slice_get es i ≡ Some k → same_entry e k ≡ true → slice_get ts i ≡ Some (tree_of ts e.node)
present_spells ts es i k e sound here same = let level = level_is e.node k.node same in (sound.each i k here).spelt ∙ ap (λ n. Some (tree_of ts n)) (sym level)

-- a pool keeps what it says where an entry with a new level goes last
module _ (ts : List Ty) (es : List Entry) (e : Entry) (sound : IsSound ts es) (below : parts_below (length es) e.node ≡ true)
    (marked : e.mark ≡ mark_of (tree_of ts e.node)) (new : list_any (same_entry e) es ≡ false) where
  abbrev t : Ty
  t = tree_of ts e.node

  abbrev grown : List Ty
  grown = ts ++ t ∷ []

  under : parts_below (length ts) e.node ≡ true
  under = ap (λ n. parts_below n e.node) sound.as_long ∙ below

  kept : (i : ℕ) (f : Entry) → i < length ts → IsEntry ts i f → IsEntry grown i f
  kept i f within was =
      let stays = tree_of-grows ts (t ∷ []) f.node (parts_below-more i (length ts) f.node (omega arith) was.below) in record {
        below = was.below;
        spelt = get_grows ts (t ∷ []) i (tree_of ts f.node) was.spelt ∙ ap Some (sym stays);
        marked = was.marked ∙ ap mark_of (sym stays);
      }

  last : IsEntry grown (length es) e
  last = let stays = tree_of-grows ts (t ∷ []) e.node under in record {
    below = below;
    spelt = ap (slice_get grown) (sym sound.as_long) ∙ get_last ts t ∙ ap Some (sym stays);
    marked = marked ∙ ap mark_of (sym stays);
  }

  -- no entry spells the new tree
  unlike : (i : ℕ) → slice_get ts i ≡ Some t → ⊥
  unlike i h =
      let within : i < length es = rw (← sound.as_long) (slice_get_within ts i t h) in
      let f = get_or es i e in
      let here = slice_get-get_or es i e within in
      let was = sound.each i f here in
      let under_f = parts_below-more i (length ts) f.node (omega (arith, sound.as_long)) was.below in
      let trees : tree_of ts e.node ≡ tree_of ts f.node = let q : Some (tree_of ts e.node) ≡ Some (tree_of ts f.node) = sym h ∙ was.spelt in cc in
      let level = same_levels ts sound.once e.node f.node under under_f trees in
      true≢false (sym (any_at (same_entry e) es i f here (is_level e.node f.node level)) ∙ new)

  once_grown : EachOnce grown
  once_grown i j u p q = elim (get_cases ts t i u p) [
    | inl old ↦ elim (get_cases ts t j u q) [
      | inl also ↦ sound.once i j u old also
      | inr fresh ↦ absurd (unlike i (rw fresh.1 old))
    ]
    | inr fresh ↦ elim (get_cases ts t j u q) [
      | inl also ↦ absurd (unlike j (rw fresh.1 also))
      | inr last ↦ fresh.0 ∙ sym last.0
    ]
  ]

  pub push_sound : IsSound grown (es ++ e ∷ [])
  push_sound = record {
    as_long = length-append ts (t ∷ []) ∙ ap (λ n. n + 1) sound.as_long ∙ sym (length-append es (e ∷ []));
    each = λ i f h. elim (get_cases es e i f h) [
      | inl old ↦ kept i f (rw sound.as_long (slice_get_within es i f old)) (sound.each i f old)
      | inr fresh ↦ subst (λ g. IsEntry grown i g) fresh.1 (subst (λ n. IsEntry grown n e) (sym fresh.0) last)
    ];
    once = once_grown;
  }

pub empty_sound : IsSound (spelled []) []
unfolding spelled
empty_sound = record {
  as_long = refl;
  each = λ i e h. absurd (cc);
  once = λ i j t h. absurd (cc);
}

pub interned : (es new : List Entry) (e k : Entry) (i : ℕ) → IsSound (spelled es) es → parts_below (length (spelled es)) e.node ≡ true
    → e.mark ≡ mark_of (tree_of (spelled es) e.node) → new ≡ insert_key same_entry es e → slice_get new i ≡ Some k → same_entry e k ≡ true
    → Interned es new i e.node
interned es new e k i sound below marked made stored same = elim (cases_Bool (list_any (same_entry e) es)) [
  | inl there ↦ finish ([], append-from there) (inl (ap spelled (stays there))) (subst (λ l. IsSound (spelled l) l) (sym (stays there)) sound)
  | inr absent ↦ finish (tree_of (spelled es) e.node ∷ [], ap spelled (adds absent) ∙ spelled-push es e) (inr (ap spelled (adds absent) ∙ spelled-push es e))
      (subst (λ l. IsSound (spelled l) l) (sym (adds absent)) (subst (λ ts. IsSound ts (es ++ e ∷ [])) (sym (spelled-push es e))
      (push_sound (spelled es) es e sound (ap (λ n. parts_below n e.node) (sym sound.as_long) ∙ below) marked absent)))
]
  where
    stays : list_any (same_entry e) es ≡ true → new ≡ es
    stays there = made ∙ ap (λ b. cond b es (es ++ e ∷ [])) there

    adds : list_any (same_entry e) es ≡ false → new ≡ es ++ e ∷ []
    adds absent = made ∙ ap (λ b. cond b es (es ++ e ∷ [])) absent

    append-from : list_any (same_entry e) es ≡ true → spelled new ≡ spelled es ++ []
    append-from there = ap spelled (stays there) ∙ sym (append-nil (spelled es))

    finish : Grows (spelled es) (spelled new) → AddsAtMost (spelled es) (spelled new) (tree_of (spelled es) e.node) → IsSound (spelled new) new
        → Interned es new i e.node
    finish grows added new_sound =
        let tree = tree_of-grows (spelled es) grows.0 e.node below in
        let here = present_spells (spelled new) new i k e new_sound stored same in
        let spells = here ∙ ap (λ ts. Some (tree_of ts e.node)) grows.1 ∙ ap Some tree in record {
          sound = new_sound;
          grows = grows;
          adds = added;
          within = slice_get_within (spelled new) i (tree_of (spelled es) e.node) spells;
          spells = spells;
        }

-- what an entry that is read says
pub record IsRead (ts : List Ty) (i : Id) (e : Entry) : Type 0 where
  pub level : tree_of ts e.node ≡ at ts i
  pub below : parts_below i.0 e.node ≡ true
  pub mark : e.mark ≡ mark_of (at ts i)

pub read_entry : (ts us : List Ty) (es xs : List Entry) (i : Id) (e : Entry) → IsSound ts es → ts ≡ us → xs ≡ es → i.0 < length us → e ≡ get_or xs i.0 e → IsRead us i e
read_entry ts us es xs i e sound same_trees same_entries within is =
    let inside : i.0 < length es = rw (← sound.as_long, same_trees) within in
    let here : slice_get es i.0 ≡ Some e = slice_get-get_or es i.0 e inside ∙ ap Some (ap (λ l. get_or l i.0 e) (sym same_entries) ∙ sym is) in
    let known = sound.each i.0 e here in
    let level : tree_of ts e.node ≡ at ts i = sym (get_or_from_slice_get ts i.0 (tree_of ts e.node) (ty.Odd 0) known.spelt) in
    subst (λ l. IsRead l i e) same_trees (record { level = level; below = known.below; mark = known.marked ∙ ap mark_of level })

-- equal trees of a pool have one id
pub one_id : (ts us : List Ty) (es : List Entry) (a b : Id) → IsSound ts es → ts ≡ us → a.0 < length us → b.0 < length us → at us a ≡ at us b → a.0 ≡ b.0
one_id ts us es a b sound same_trees p q e =
    let sa : slice_get ts a.0 ≡ Some (at ts a) = slice_get-get_or ts a.0 (ty.Odd 0) (rw same_trees p) in
    let sb : slice_get ts b.0 ≡ Some (at ts b) = slice_get-get_or ts b.0 (ty.Odd 0) (rw same_trees q) in
    let e' : at ts a ≡ at ts b = rw same_trees e in
    sound.once a.0 b.0 (at ts b) (sa ∙ ap Some e') sb

pub spells_from : (ts : List Ty) (i : ℕ) (t : Ty) → i < length ts → slice_get ts i ≡ Some t → Spells ts (record { 0 = i }) t
spells_from ts i t within h = record { within = within; is = get_or_from_slice_get ts i t (ty.Odd 0) h }
