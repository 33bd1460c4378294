-- Legal histories of the loads of a world.
use Rattle.std.specs.Prelude.{List, Contains}
use Rattle.clr_base.specs.declared.ids.Handle.{Handle}
use Rattle.type_tree.specs.declared.tree.Key.{Key}
use Rattle.type_tree.specs.World.{Facts}
use Rattle.load_events.specs.declared.event.Event.{Event}
use Rattle.load_legal.specs.Legal.{Legal}
use Rattle.loader_api.specs.Verdicts.{IsGood, IsRefused}

-- pairs of a handle and the key that it names
abbrev pub Pairs : Type 0
Pairs = List (Handle × Key)

abbrev pub Stands : Pairs → Handle → Key → Type 0
Stands pairs h k = Contains pairs (h, k)

-- the history is legal by these names
abbrev pub IsLegalBy : Facts → (Handle → Key → Type 0) → List Event → Type 0
IsLegalBy w names history = Legal w.sigs (IsGood w) (IsRefused w) names history

-- The history is legal by some list of pairs, which has each handle that is known with its key.
pub record IsLegal (w : Facts) (known : Handle → Key → Type 0) (history : List Event) : Type 0 where
  pub pairs : Pairs
  pub legal : IsLegalBy w (Stands pairs) history
  pub has : (h : Handle) (k : Key) → known h k → Stands pairs h k
