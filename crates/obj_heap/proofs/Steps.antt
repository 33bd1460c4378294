-- What is left where an object is made, and where other places are written to.
use Rattle.std.proofs.Common.{◌≡◌, ◌≢◌, ◌⊎◌, inl, inr, ℕ, zero, suc, ◌+◌, ◌%◌, ◌^◌, Bool, true, false, List, [], ◌∷◌, ◌++◌, length, drop, Some, Result, Ok, Err, cond, nat_lt, slice_get, refl, sym, ap, ◌∙◌, arith, length-append}
use Rattle.std.proofs.lemmas.Bool.{cases_eq}
use Rattle.std.proofs.lemmas.Option.{slice_get_past}
use Rattle.std.specs.Option.{option_map_or}
use Rattle.byteorder.specs.Endian.{little_number}
use Rattle.obj_heap.specs.declared.address.Address.{Address}
use Rattle.obj_heap.specs.declared.address.ObjRef.{ObjRef}
use Rattle.obj_heap.specs.declared.fault.HeapFault.{HeapFault}
use Rattle.obj_heap.specs.declared.fault.HeapFault.TheVariants as fault
use Rattle.obj_heap.specs.declared.room.TheConstants.{HEAP_LIMIT}
use Rattle.obj_heap.specs.Objects.{Object}
use Rattle.obj_heap.specs.Calls.{total, added, object_at, is_inside, read_at, write_at, written}
use Rattle.obj_heap.specs.Laws.{Step, Make, Write, MayFollow, Leave, IsMade, after}
use Rattle.obj_heap.proofs.Written.{is_in, here, there, read_own, read_other}

module _ {H : Type 0} where
  got_front : (s : List (Object H)) (o x : Object H) (k : ℕ) → slice_get s k ≡ Some x → slice_get (s ++ o ∷ []) k ≡ Some x
  got_front [] o x k e = absurd (cc)
  got_front (y ∷ s) o x zero e = e
  got_front (y ∷ s) o x (suc k) e = got_front s o x k e

  got_last : (s : List (Object H)) (o : Object H) → slice_get (s ++ o ∷ []) (length s) ≡ Some o
  got_last [] o = refl
  got_last (y ∷ s) o = got_last s o

  at_front : (s : List (Object H)) (o x : Object H) (n : ℕ) → object_at s n ≡ Some x → object_at (s ++ o ∷ []) n ≡ Some x
  at_front s o x zero e = absurd (cc)
  at_front s o x (suc k) e = got_front s o x k e

  at_more : (s : List (Object H)) (k n : ℕ) → n ≡ k + 1 → object_at s n ≡ slice_get s k
  at_more s k zero e = absurd (omega (arith, e))
  at_more s k (suc n) e = let same : n ≡ k = omega (arith, e) in rw same refl

  -- one object more was made
  pub added_made : (o : Object H) (s t : List (Object H)) (r : ObjRef) → added o s ≡ Ok (r, t) → IsMade o s r t
  added_made o s t r = go (nat_lt HEAP_LIMIT (total s + length o.bytes))
    where
      made : IsMade o s (record { 0 = length s + 1 }) (s ++ o ∷ [])
      made = record {
        next = refl;
        more = length-append s (o ∷ []);
        fresh = at_more s (length s) (length s + 1) refl ∙ slice_get_past s (length s) (omega arith);
        found = at_more (s ++ o ∷ []) (length s) (length s + 1) refl ∙ got_last s o;
        kept = λ n x e. at_front s o x n e;
      }

      taken : (x y : ObjRef × List (Object H)) (a b : Result (ObjRef × List (Object H)) HeapFault) → a ≡ Ok x → b ≡ Ok y → a ≡ b → x ≡ y
      taken x y a b ea eb e = cc

      go : (full : Bool) → cond {A = Result (ObjRef × List (Object H)) HeapFault} full (Err fault.HeapFull) (Ok (record { 0 = length s + 1 }, s ++ o ∷ [])) ≡ Ok (r, t) → IsMade o s r t
      go true e = absurd (cc)
      go false e =
          let both = taken (record { 0 = length s + 1 }, s ++ o ∷ []) (r, t) _ _ refl refl e in
          let number : record { 0 = length s + 1 } ≡ r = ap (λ x. x.0) both in
          let objects : s ++ o ∷ [] ≡ t = ap (λ x. x.1) both in
          rw (← number, ← objects) made

  -- a place reads the same after steps that leave it
  pub read_after : (s : List (Object H)) (q : Address) (n : ℕ) (o : Object H) (steps : List (Step H)) → object_at s q.object.0 ≡ Some o → MayFollow s steps → Leave steps q n
      → read_at (after steps s) q n ≡ read_at s q n
  read_after s q n o [] e may leave = refl
  read_after s q n o (Make new ∷ steps) e may leave =
      let front = at_front s new o q.object.0 e in
      read_after (s ++ new ∷ []) q n o steps front may leave ∙ ap (λ x. option_map_or (λ y. little_number n (drop q.offset y.bytes)) x 0) (front ∙ sym e)
  read_after s q n o (Write p m value ∷ steps) e may leave =
      let there_is = go (cases_eq q.object.0 p.object.0) in
      read_after (write_at s p m value) q n there_is.0 steps there_is.1 may.1 leave.1 ∙ read_other s p m value may.0 q n leave.0
    where
      go : (q.object.0 ≡ p.object.0) ⊎ (q.object.0 ≢ p.object.0) → (x : Object H) × (object_at (write_at s p m value) q.object.0 ≡ Some x)
      go (inl h) = let i = is_in s p m may.0 in (written i.object p.offset m value, rw h (here s p m value may.0 i))
      go (inr d) = (o, there s p m value may.0 q.object.0 d ∙ e)

  -- so does one that was written to
  pub read_last : (s : List (Object H)) (p : Address) (width value : ℕ) (steps : List (Step H)) → is_inside s p width ≡ true → MayFollow (write_at s p width value) steps → Leave steps p width
      → read_at (after steps (write_at s p width value)) p width ≡ value % 256 ^ width
  read_last s p width value steps inside may leave =
      let i = is_in s p width inside in
      read_after (write_at s p width value) p width (written i.object p.offset width value) steps (here s p width value inside i) may leave ∙ read_own s p width value inside
