-- What holds of the objects of every heap, beside what each call answers.
use Rattle.std.specs.Prelude.{◌≡◌, ◌≢◌, ◌⊎◌, ℕ, ◌+◌, ◌≤◌, List, [], ◌∷◌, ◌++◌, length, Some, None, Result, Ok, Err, IsTrue}
use Rattle.obj_heap.specs.declared.address.Address.{Address}
use Rattle.obj_heap.specs.declared.address.ObjRef.{ObjRef}
use Rattle.obj_heap.specs.declared.fault.HeapFault.{HeapFault}
use Rattle.obj_heap.specs.Objects.{Object, map_objects}
use Rattle.obj_heap.specs.Calls.{object_at, is_inside, write_at}

-- two places with so many bytes have none in common
abbrev pub AreApart : Address → ℕ → Address → ℕ → Type 0
AreApart p m q n = (p.object.0 ≢ q.object.0) ⊎ ((p.offset + m ≤ q.offset) ⊎ (q.offset + n ≤ p.offset))

-- what may happen to the objects of a heap: one is made, or a number is written
pub data Step (H : Type 0) : Type 0 where
  Make : (o : Object H) → Step H
  Write : (place : Address) (width value : ℕ) → Step H

module _ {H : Type 0} where
  -- the objects that these steps leave, in their order
  abbrev pub after : List (Step H) → List (Object H) → List (Object H)
  after [] s = s
  after (Make o ∷ steps) s = after steps (s ++ o ∷ [])
  after (Write p width value ∷ steps) s = after steps (write_at s p width value)

  -- each of these steps may be taken: a write is to bytes that are inside their object
  abbrev pub MayFollow : List (Object H) → List (Step H) → Type 0
  MayFollow s [] = Unit {0}
  MayFollow s (Make o ∷ steps) = MayFollow (s ++ o ∷ []) steps
  MayFollow s (Write p width value ∷ steps) = IsTrue (is_inside s p width) × MayFollow (write_at s p width value) steps

  -- none of these steps writes to a place
  abbrev pub Leave : List (Step H) → Address → ℕ → Type 0
  Leave [] q n = Unit {0}
  Leave (Make o ∷ steps) q n = Leave steps q n
  Leave (Write p m value ∷ steps) q n = AreApart p m q n × Leave steps q n

  -- One object more was made: it has the next number, and each of those before is as it was.
  pub record IsMade (o : Object H) (s : List (Object H)) (r : ObjRef) (t : List (Object H)) : Type 0 where
    pub next : r.0 ≡ length s + 1
    pub more : length t ≡ length s + 1
    pub fresh : object_at s r.0 ≡ None
    pub found : object_at t r.0 ≡ Some o
    pub kept : (n : ℕ) (x : Object H) → object_at s n ≡ Some x → object_at t n ≡ Some x

-- what a call that makes an object gives, with other names
abbrev pub map_made : {A B : Type 0} → (A → B) → Result (ObjRef × List (Object A)) HeapFault → Result (ObjRef × List (Object B)) HeapFault
map_made f (Ok made) = Ok (made.0, map_objects f made.1)
map_made f (Err e) = Err e
