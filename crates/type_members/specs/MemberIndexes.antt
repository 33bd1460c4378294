-- The members of definitions by their names, as an index has them.
use Rattle.std.specs.Prelude.{◌≡◌, ℕ, ◌<◌, ◌≤◌, ◌^◌, Bool, false, List, [], ◌∷◌, Option, None, Some, map, length, filter, get_or, slice_get}
use Rattle.std.specs.Option.{option_map_or}
use Rattle.std.specs.List.{range_with_len}
use Rattle.clr_base.specs.declared.ids.NameId.{NameId}
use Rattle.type_tree.specs.declared.tree.Ty.{Ty}
use Rattle.type_members.specs.declared.member_groups.MemberGroups.{MemberGroups}
use Rattle.type_members.specs.declared.member_index.MemberIndex.{MemberIndex}
use Rattle.type_members.specs.declared.member_table.MemberTable.{MemberTable}
use Rattle.type_members.specs.declared.member_table.Run.{Run}
use Rattle.type_members.specs.MemberTable.{Open, open_method, same_name, same_open, same_tree}
use Rattle.type_members.specs.RowIndexes.{rows_at}

-- ---- the members of one run

abbrev pub has_name : List NameId → NameId → ℕ → Bool
has_name names name i = option_map_or (λ n. same_name n name) (slice_get names i) false

-- the members of a run that have a name, in order; numbers past the last member are none of them
abbrev pub named : List NameId → ℕ → ℕ → NameId → List ℕ
named names first count name = filter (has_name names name) (range_with_len first count)

-- those that stand in a group at a name
abbrev pub at_name : MemberGroups → NameId → List ℕ
at_name groups name = rows_at groups.by_name name.0

-- at each name the groups have the members of a run that have it
pub record AreGroups (names : List NameId) (first count : ℕ) (groups : MemberGroups) : Type 0 where
  pub each : (name : NameId) → at_name groups name ≡ named names first count name

-- ---- the members of all definitions

abbrev pub method_names : MemberTable → List NameId
method_names w = map (λ m. m.name) w.methods

abbrev pub field_names : MemberTable → List NameId
field_names w = map (λ f. f.name) w.fields

-- the numbers of the members fit 32 bits
pub record AreFew (w : MemberTable) : Type 0 where
  pub methods : length w.methods < 2 ^ 32
  pub fields : length w.fields < 2 ^ 32

-- how many members a run has at most that are looked at one by one
abbrev pub most_one_by_one : ℕ
most_one_by_one = 32

-- the groups of a run, which are there exactly where it has more members than that
abbrev pub HasGroups : List NameId → ℕ → ℕ → Option MemberGroups → Type 0
HasGroups names first count None = count ≤ most_one_by_one
HasGroups names first count (Some g) = (most_one_by_one < count) × AreGroups names first count g

-- each of some runs has its groups, in order, where its first member and its count are these
abbrev pub AreGroupsOf : (Run → ℕ) → (Run → ℕ) → List NameId → List Run → List (Option MemberGroups) → Type 0
AreGroupsOf first count names [] [] = Unit {0}
AreGroupsOf first count names [] (g ∷ gs) = ⊥
AreGroupsOf first count names (r ∷ rs) [] = ⊥
AreGroupsOf first count names (r ∷ rs) (g ∷ gs) = HasGroups names (first r) (count r) g × AreGroupsOf first count names rs gs

-- An index has the groups of the own members of each definition of a table, one after the other; the members' numbers fit 32 bits.
pub record IsIndexOf (w : MemberTable) (index : MemberIndex) : Type 0 where
  pub methods : AreGroupsOf (λ r. r.first_method) (λ r. r.methods) (method_names w) w.runs index.methods
  pub fields : AreGroupsOf (λ r. r.first_field) (λ r. r.fields) (field_names w) w.runs index.fields
  pub are_few : AreFew w

-- ---- those that are looked for among them

-- whether the method with a number has a signature
abbrev pub is_wanted : MemberTable → Open → ℕ → Bool
is_wanted w wanted i = option_map_or (λ m. same_open (open_method m (get_or w.generics i 0)) wanted) (slice_get w.methods i) false

-- whether the field with a number has a type
abbrev pub has_type : MemberTable → Ty → ℕ → Bool
has_type w t i = option_map_or (λ f. same_tree f.ty t) (slice_get w.fields i) false
