-- What is found while chains of parents are climbed.
use Rattle.std.specs.Prelude.{◌≡◌, ◌↔◌, ℕ, suc, ◌≤◌, nat_eq, nat_le, nat_lt, Bool, true, false, cond, List, [], ◌∷◌, length, Option, None, Some, IsTrue, slice_get}
use Rattle.std.specs.List.{list_any, list_all}
use Rattle.std.specs.Option.{option_map_or}
use Rattle.clr_base.specs.declared.ids.DefId.{DefId}
use Rattle.type_tree.specs.World.{Facts}
use Rattle.def_faults.specs.declared.notes.Note.{Note}
use Rattle.def_faults.specs.declared.notes.Mark.{Mark}
use Rattle.def_faults.specs.declared.notes.Mark.TheVariants.{Unknown, OnPath, Known}
use Rattle.def_faults.specs.Chains.{parent, chain_within, OnChain}
use Rattle.def_faults.specs.NotFound.{lacks}
use Rattle.def_faults.specs.NotInProfile.{is_delegate}

-- where a path begins, `top` where it is empty
abbrev pub first_or : {X : Type 0} → List X → Option X → Option X
first_or [] top = top
first_or (x ∷ xs) top = Some x

module _ {X : Type 0} (up : X → Option X) where
  -- a chain, which may have no member, has at most so many
  abbrev pub within : ℕ → Option X → Bool
  within n o = option_map_or (chain_within up n) o true

  abbrev pub On : (X → Bool) → Option X → Type 0
  On p None = ⊥
  On p (Some x) = OnChain up p x

  -- each is followed by its parent; the parent of the last is `top`
  abbrev pub Leads : Option X → List X → Type 0
  Leads top [] = Unit {0}
  Leads top (x ∷ xs) = (up x ≡ first_or xs top) × Leads top xs

-- what is noted of a chain: how many members it has, where 65 stands for more than 64, and what is on it
pub record IsNote (w : Facts) (o : Option DefId) (a : Note) : Type 0 where
  pub few : a.members ≤ 65
  pub members : (n : ℕ) → n ≤ 64 → within (parent w) n o ≡ nat_le a.members n
  pub lacks : IsTrue a.lacks ↔ On (parent w) (lacks w) o
  pub delegate : IsTrue a.delegate ↔ On (parent w) (is_delegate w) o

abbrev pub is_on : DefId → List DefId → Bool
is_on id path = list_any (λ d. nat_eq d.0 id.0) path

-- a mark for each definition; what is known is so, and who is marked as on the path is on it
pub record IsMarked (w : Facts) (marks : List Mark) (path : List DefId) : Type 0 where
  pub as_many : length marks ≡ length w.defs
  pub known : (id : DefId) (a : Note) → slice_get marks id.0 ≡ Some (Known a) → IsNote w (Some id) a
  pub on_path : (id : DefId) → slice_get marks id.0 ≡ Some OnPath → is_on id path ≡ true
  pub exist : list_all (λ d. nat_lt d.0 (length w.defs)) path ≡ true

-- a path from a definition, and the note of the chain that goes on behind it
pub record Climbed (w : Facts) (path : List DefId) (from : DefId) (above : Note) : Type 0 where
  pub top : Option DefId
  pub leads : Leads (parent w) top path
  pub first : first_or path top ≡ Some from
  pub note : IsNote w top above

-- the mark of a number; one that no definition has is a chain by itself
abbrev pub lone : Note
lone = record { members = 1; lacks = false; delegate = false }

abbrev pub mark_at : List Mark → ℕ → Mark
mark_at marks n = elim (slice_get marks n) [ Some m ↦ m | None ↦ Known lone ]

-- the note of a chain that never ends, whose members are these
abbrev pub round_note : Facts → List DefId → Note
round_note w ids = record { members = 65; lacks = list_any (lacks w) ids; delegate = list_any (is_delegate w) ids }

abbrev pub is_unknown : Mark → Bool
is_unknown Unknown = true
is_unknown _ = false

abbrev pub unknowns : List Mark → ℕ
unknowns [] = 0
unknowns (m ∷ ms) = cond (is_unknown m) (suc (unknowns ms)) (unknowns ms)
