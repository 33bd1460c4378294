-- The verdict of a key: the first member of its closure that has a fault by itself, or the closure.
use Rattle.std.specs.Prelude.{◌≡◌, ◌⊎◌, ℕ, Bool, true, false, List, [], ◌∷◌, Option, None, Some}
use Rattle.type_tree.specs.declared.tree.Ty.{Ty}
use Rattle.type_tree.specs.declared.tree.Key.{Key}
use Rattle.type_tree.specs.World.{Facts}
use Rattle.type_pool.specs.declared.key_nodes.KeyNode.{KeyNode}
use Rattle.type_pool.specs.Keys.{key_at, key_below, keys_below}
use Rattle.load_events.specs.declared.load_fault.LoadFault.{LoadFault}
use Rattle.load_events.specs.declared.load_fault.LoadFault.TheVariants.{TooLarge}
use Rattle.key_closure.specs.Bounds.{IsClosure, IsTooLarge, keys_at}
use Rattle.type_relations.specs.Relations.{members_of}
use Rattle.key_verdicts.specs.declared.verdict.Verdict.{Verdict}
use Rattle.key_verdicts.specs.declared.verdict.Verdict.TheVariants as verdict
use Rattle.key_verdicts.specs.declared.judging.Judged.{Judged}
use Rattle.key_verdicts.specs.declared.judging.Judged.TheVariants as judged

abbrev pub is_fault : Option LoadFault → Bool
is_fault None = false
is_fault (Some fault) = true

-- `local k` is the fault that the key k has by itself, if any
abbrev pub faulty : (Key → Option LoadFault) → Key → Bool
faulty local k = is_fault (local k)

-- the direct members of a key; none of one with a fault
abbrev pub direct : (Key → Option LoadFault) → Facts → Key → List Key
direct local w = members_of (faulty local) w

abbrev pub or_later : Key → Option LoadFault → Option (Key × LoadFault) → Option (Key × LoadFault)
or_later k (Some fault) later = Some (k, fault)
or_later k None later = later

-- the first of these keys that has a fault, and its fault
abbrev pub first_refused : (Key → Option LoadFault) → List Key → Option (Key × LoadFault)
first_refused local [] = None
first_refused local (k ∷ ks) = or_later k (local k) (first_refused local ks)

-- the key k is the first member of the closure that has a fault, which is this
pub record IsFirst (local : Key → Option LoadFault) (w : Facts) (key k : Key) (fault : LoadFault) : Type 0 where
  pub members : List Key
  pub closure : IsClosure (direct local w) key members
  pub first : first_refused local members ≡ Some (k, fault)

-- the closure of the key, which is this one, has no value
pub record IsTooMuch (local : Key → Option LoadFault) (w : Facts) (key k : Key) (fault : LoadFault) : Type 0 where
  pub none : IsTooLarge (direct local w) key
  pub itself : k ≡ key
  pub large : fault ≡ TooLarge

-- these are the members of the closure, and none has a fault
pub record IsGood (local : Key → Option LoadFault) (w : Facts) (key : Key) (members : List Key) : Type 0 where
  pub closure : IsClosure (direct local w) key members
  pub none : first_refused local members ≡ None

abbrev pub IsVerdict : (Key → Option LoadFault) → Facts → Key → Verdict → Type 0
IsVerdict local w key (verdict.Good members) = IsGood local w key members
IsVerdict local w key (verdict.Refused k fault) = IsTooMuch local w key k fault ⊎ IsFirst local w key k fault

-- ---- over a pool

-- the verdict with trees of its own
abbrev pub verdict_at : List Ty → Judged → Verdict
verdict_at ts (judged.Good members) = verdict.Good (keys_at ts members)
verdict_at ts (judged.Refused k fault) = verdict.Refused (key_at ts k) fault

abbrev pub judged_below : ℕ → Judged → Bool
judged_below n (judged.Good members) = keys_below n members
judged_below n (judged.Refused k fault) = key_below n k

abbrev pub refused_at : List Ty → Option (KeyNode × LoadFault) → Option (Key × LoadFault)
refused_at ts None = None
refused_at ts (Some r) = Some (key_at ts r.0, r.1)

abbrev pub refused_below : ℕ → Option (KeyNode × LoadFault) → Bool
refused_below n None = true
refused_below n (Some r) = key_below n r.0

-- what is said of the members of a closure
abbrev pub IsSaid : (Key → Option LoadFault) → List Key → Verdict → Type 0
IsSaid local members (verdict.Good said) = (said ≡ members) × (first_refused local members ≡ None)
IsSaid local members (verdict.Refused k fault) = first_refused local members ≡ Some (k, fault)

abbrev pub too_large : KeyNode → Judged
too_large k = judged.Refused k TooLarge
