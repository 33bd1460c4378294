-- Histories: lists of events, in their order.
use Rattle.std.specs.Prelude.{ℕ, Bool, false, eqb, IsTrue, List, [], ◌∷◌, ◌++◌, Option, None, Some, if◌then◌else◌}
use Rattle.std.specs.List.{list_any}
use Rattle.clr_base.specs.declared.ids.Handle.{Handle}
use Rattle.load_events.specs.declared.event.Answer.TheVariants.{Loaded}
use Rattle.load_events.specs.declared.event.Event.{Event}
use Rattle.load_events.specs.declared.event.Event.TheVariants.{Done}
use Rattle.load_events.specs.Events.{caller_of}

-- each of the later events may come next after those before it
abbrev pub Follows : (List Event → Event → Type 0) → List Event → List Event → Type 0
Follows may_follow before [] = Unit {0}
Follows may_follow before (e ∷ es) = may_follow before e × Follows may_follow (before ++ e ∷ []) es

-- the events of a caller
abbrev pub events_of : ℕ → List Event → List Event
events_of n [] = []
events_of n (e ∷ es) = if eqb (caller_of e) n then e ∷ events_of n es else events_of n es

abbrev pub last_or : Option Event → List Event → Option Event
last_or o [] = o
last_or o (e ∷ es) = last_or (Some e) es

-- the latest event of a caller
abbrev pub latest : ℕ → List Event → Option Event
latest n es = last_or None (events_of n es)

abbrev pub loads : Handle → Event → Bool
loads h (Done n (Loaded g first)) = eqb g.0 h.0
loads h _ = false

-- a Done loaded the handle
abbrev pub Loads : List Event → Handle → Type 0
Loads es h = IsTrue (list_any (loads h) es)
