-- What the calls of a loader leave and gain.
use Rattle.std.specs.Prelude.{◌≡◌, ℕ, ◌⊎◌, Bool, List, [], ◌∷◌, ◌++◌, Option, Some, None, false}
use mathlib.Core.List.{IsPrefix}
use Rattle.clr_base.specs.declared.ids.Handle.{Handle}
use Rattle.clr_base.specs.declared.ids.SigId.{SigId}
use Rattle.type_tree.specs.declared.tree.Key.{Key}
use Rattle.type_tree.specs.World.{Facts}
use Rattle.load_events.specs.declared.event.Answer.{Answer}
use Rattle.load_events.specs.declared.event.Answer.TheVariants.{Loaded, Refused}
use Rattle.load_events.specs.declared.event.Event.{Event}
use Rattle.load_events.specs.declared.event.Event.TheVariants.{Ask, Done, Find}
use Rattle.loader_api.specs.declared.stops.LoadStop.{LoadStop}
use Rattle.loader_api.specs.declared.stops.LoadStop.TheVariants.{TableFull, HistoryFull, Memory}
use Rattle.loader_api.specs.declared.view.PassView.{PassView}
use Rattle.loader_api.specs.Parts.{KeysAt}
use Rattle.loader_api.specs.Verdicts.{IsGood, IsRefused}

-- The pass keeps its number, what it keeps under other numbers, and the numbers that it keeps as drawn; the history that it has
-- seen goes on.
pub record Keeps (old new : PassView) : Type 0 where
  pub number : new.number ≡ old.number
  pub kept : new.kept ≡ old.kept
  pub drawn : new.drawn ≡ old.drawn
  pub lost : new.lost ≡ old.lost
  pub front : IsPrefix old.front new.front

-- the pass is still one of the loader's, and knows all that it knew
pub record Moves {P : Type 0} (is_of : P → Type 0) (grows : P → P → Type 0) (view : P → PassView) (old new : P) : Type 0 where
  pub of : is_of new
  pub on : grows old new
  pub keeps : Keeps (view old) (view new)

-- no event is added
abbrev pub IsSilent : PassView → PassView → Type 0
IsSilent old new = new.own ≡ old.own

-- the pass moves, and no event is added
pub record Quiet {P : Type 0} (is_of : P → Type 0) (grows : P → P → Type 0) (view : P → PassView) (old new : P) : Type 0 where
  pub moves : Moves is_of grows view old new
  pub silent : IsSilent (view old) (view new)

-- the own events gain these
abbrev pub Gains : PassView → PassView → List Event → Type 0
Gains old new es = new.own ≡ old.own ++ es

-- the history that is seen ends with the event, which stands after all that was seen before
pub record EndsWith (old new : PassView) (e : Event) : Type 0 where
  pub before : List Event
  pub after : IsPrefix old.front before
  pub last : new.front ≡ before ++ e ∷ []

-- the two events of a call that is answered
abbrev pub call_events : ℕ → Option Handle → SigId → Answer → List Event
call_events n context sig answer = Ask n context sig ∷ Done n answer ∷ []

-- a call that is answered, with its events
pub record Answers (old new : PassView) (context : Option Handle) (sig : SigId) (answer : Answer) : Type 0 where
  pub own : Gains old new (call_events old.number context sig answer)
  pub last : EndsWith old new (Done old.number answer)

-- a call that looked among what is loaded, with its event
pub record Finds (old new : PassView) (context : Option Handle) (sig : SigId) (found : Bool) : Type 0 where
  pub own : Gains old new (Find old.number context sig found ∷ [])
  pub last : EndsWith old new (Find old.number context sig found)

-- a call that is answered from the dictionary, without an event
pub record IsHit (old new : PassView) (answer : Answer) : Type 0 where
  pub silent : IsSilent old new
  pub handle : Handle
  pub is : answer ≡ Loaded handle false

-- no event, or an Ask alone
abbrev pub IsUnanswered : PassView → PassView → Option Handle → SigId → Type 0
IsUnanswered old new context sig = IsSilent old new ⊎ Gains old new (Ask old.number context sig ∷ [])

-- A call that stops gains the first of its events, or none; for want of memory alone perhaps both. The table is full only after
-- the Ask.
abbrev pub Stops : PassView → PassView → Option Handle → SigId → LoadStop → Type 0
Stops old new context sig TableFull = Gains old new (Ask old.number context sig ∷ [])
Stops old new context sig HistoryFull = IsUnanswered old new context sig
Stops old new context sig Memory = IsUnanswered old new context sig ⊎ ((answer : Answer) × Gains old new (call_events old.number context sig answer))

-- a limit stops a call only where the pass is stuck by it
abbrev pub IsStuck : (LoadStop → Type 0) → LoadStop → Type 0
IsStuck stuck TableFull = stuck TableFull
IsStuck stuck HistoryFull = stuck HistoryFull
IsStuck stuck Memory = Unit {0}

-- the key is good; its handle is read, and it is done
pub record Gives (w : Facts) (key_at : KeysAt) (done : Handle → Type 0) (k : Key) (h : Handle) : Type 0 where
  pub good : (members : List Key) × IsGood w k members
  pub read : key_at h ≡ Some k
  pub loaded : done h

-- what a load of the key is answered
abbrev pub IsAnswer : Facts → KeysAt → (Handle → Type 0) → Key → Answer → Type 0
IsAnswer w key_at done k (Refused fault) = IsRefused w k fault
IsAnswer w key_at done k (Loaded h first) = Gives w key_at done k h

-- where the answer is a handle
abbrev pub IfLoaded : Answer → Type 0 → Type 0
IfLoaded (Loaded h first) P = P
IfLoaded (Refused fault) P = Unit {0}

-- what is found: none, or a handle that is read and done
abbrev pub IsFound : KeysAt → (Handle → Type 0) → Key → Option Handle → Type 0
IsFound key_at done k None = Unit {0}
IsFound key_at done k (Some h) = (key_at h ≡ Some k) × done h
