-- The keys of a world by numbers, and what is found of them.
use Rattle.std.specs.Prelude.{◌≡◌, ◌<◌, true, List, [], length, map, Option, None, Some, slice_get}
use mathlib.Core.List.{IsPrefix}
use Rattle.type_tree.specs.declared.tree.Key.{Key}
use Rattle.type_tree.specs.Canon.{canon_ty}
use Rattle.type_tree.specs.World.{Facts}
use Rattle.type_pool.specs.declared.key_nodes.KeyId.{KeyId}
use Rattle.type_pool.specs.Jobs.{AllNoted}
use Rattle.type_pool.specs.Keys.{keys_below}
use Rattle.load_events.specs.declared.load_fault.LoadFault.{LoadFault}
use Rattle.key_closure.specs.Bounds.{keys_at}
use Rattle.key_verdicts.specs.declared.verdict.Verdict.TheVariants as verdict
use Rattle.type_judge.specs.Judging.{IsJudged}
use Rattle.type_judge.specs.Notes.{AreNotes}
use Rattle.key_desk.specs.declared.work.Work.{Work}
use Rattle.key_desk.specs.declared.found.Found.{Found}
use Rattle.key_desk.specs.declared.found.Found.TheVariants.{Good, Refused}

-- what contracts see of a desk: its world, and the keys by their numbers
pub record DeskView : Type 0 where
  pub world : Facts
  pub keys : List Key

-- the key with a number
abbrev pub key_with : List Key → KeyId → Option Key
key_with keys n = slice_get keys n.0

-- the key of a context, if there is one
abbrev pub context_with : List Key → Option KeyId → Option Key
context_with keys None = None
context_with keys (Some n) = key_with keys n

abbrev pub IsContext : List Key → Option KeyId → Type 0
IsContext keys None = Unit {0}
IsContext keys (Some n) = n.0 < length keys

-- what a desk had keeps its number, in the same world
pub record Goes (old new : DeskView) : Type 0 where
  pub world : new.world ≡ old.world
  pub keys : IsPrefix old.keys new.keys

-- the numbers name these keys
abbrev pub NameAll : List Key → List KeyId → List Key → Type 0
NameAll keys ns ks = map (key_with keys) ns ≡ map Some ks

-- what is found of a key: the numbers of the members of its closure, or the fault of one
abbrev pub IsFound : Facts → List Key → Key → Found → Type 0
IsFound w keys k (Good ns) = (members : List Key) × IsJudged w k (verdict.Good members) × NameAll keys ns members
IsFound w keys k (Refused fault) = (member : Key) × IsJudged w k (verdict.Refused member fault)

-- ---- within

-- the keys by their numbers
abbrev pub keys_of : Work → List Key
keys_of work = keys_at work.pool work.keys

-- what is kept is right
pub record IsRight (w : Facts) (work : Work) : Type 0 where
  pub within : keys_below (length work.pool) work.keys ≡ true
  pub forms : AllNoted (canon_ty w) work.pool work.notes.canonical
  pub noted : AreNotes w work.pool work.notes.faults

-- it is right still, and each key keeps its number
pub record Works (w : Facts) (old new : Work) : Type 0 where
  pub right : IsRight w new
  pub keys : IsPrefix (keys_of old) (keys_of new)
