-- Which histories are legal: what each event says is right by the verdicts and by the events before it.
use Rattle.std.specs.Prelude.{◌≡◌, ◌↔◌, IsTrue, List, [], Contains, Option, Some, None}
use Rattle.clr_base.specs.declared.ids.Handle.{Handle}
use Rattle.clr_base.specs.declared.ids.SigId.{SigId}
use Rattle.type_tree.specs.declared.tree.Key.{Key}
use Rattle.load_events.specs.declared.load_fault.LoadFault.{LoadFault}
use Rattle.load_events.specs.declared.event.Answer.{Answer}
use Rattle.load_events.specs.declared.event.Answer.TheVariants.{Loaded, Refused}
use Rattle.load_events.specs.declared.event.Event.{Event}
use Rattle.load_events.specs.declared.event.Event.TheVariants.{Ask, Done, Find}
use Rattle.load_events.specs.Histories.{Follows, latest, Loads}
use Rattle.load_legal.specs.Names.{OneToOne, AsksKey}

-- a Done loaded the key
abbrev pub LoadsKey : (Handle → Key → Type 0) → List Event → Key → Type 0
LoadsKey names es k = (h : Handle) × names h k × Loads es h

-- the signatures of a world by number; `good k members`: the key k is good, with these members of its closure;
-- `refused k fault`: the key k is refused for this fault
module _ (sigs : List Key) (good : Key → List Key → Type 0) (refused : Key → LoadFault → Type 0) (names : Handle → Key → Type 0) where
  -- the key is in the closure of a key that a Done loaded
  abbrev pub Reaches : List Event → Key → Type 0
  Reaches es k = (root : Key) × (members : List Key) × LoadsKey names es root × good root members × Contains members k

  -- a context is none, or the handle of a key that was reached
  abbrev pub IsContext : List Event → Option Handle → Type 0
  IsContext es None = Unit {0}
  IsContext es (Some h) = (k : Key) × names h k × Reaches es k

  -- what a load of the key is answered; `first` exactly where no Done before loaded the handle
  abbrev pub IsOutcome : List Event → Key → Answer → Type 0
  IsOutcome es k (Refused fault) = refused k fault
  IsOutcome es k (Loaded h first) = ((members : List Key) × good k members) × names h k × (IsTrue first ↔ (Loads es h → ⊥))

  -- The event may come next after these. An Ask and a Find are made in a context. A Done answers its caller's latest event,
  -- which is an Ask. A Find finds the key exactly where a Done loaded it.
  abbrev pub MayFollow : List Event → Event → Type 0
  MayFollow es (Ask n context sig) = IsContext es context × ((k : Key) × AsksKey sigs names context sig k)
  MayFollow es (Done n outcome) =
      (context : Option Handle) × (sig : SigId) × (k : Key)
      × (latest n es ≡ Some (Ask n context sig)) × AsksKey sigs names context sig k × IsOutcome es k outcome
  MayFollow es (Find n context sig found) = IsContext es context × ((k : Key) × AsksKey sigs names context sig k × (IsTrue found ↔ LoadsKey names es k))

  -- the history is legal by these names
  pub record Legal (history : List Event) : Type 0 where
    pub one : OneToOne names
    pub entries : Follows MayFollow [] history
