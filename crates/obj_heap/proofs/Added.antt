-- A heap with one object more.
use Rattle.std.proofs.Common.{◌≡◌, ℕ, zero, suc, ◌+◌, ◌*◌, ◌<◌, ◌≤◌, Bool, true, false, nat_lt, List, [], ◌∷◌, ◌++◌, length, ◌⊎◌, inl, inr, Result, Ok, Err, None, slice_get, subst, refl, arith, length-append}
use Rattle.std.proofs.lemmas.Bool.{le-ltb, lt-ltb, cases_lt}
use Rattle.obj_heap.specs.declared.address.ObjRef.{ObjRef}
use Rattle.obj_heap.specs.declared.fault.HeapFault.{HeapFault}
use Rattle.obj_heap.specs.declared.fault.HeapFault.TheVariants as fault
use Rattle.obj_heap.specs.declared.made.Made.{Made}
use Rattle.obj_heap.specs.declared.room.TheConstants.{HEAP_LIMIT}
use Rattle.obj_heap.specs.Objects.{Object}
use Rattle.obj_heap.specs.Calls.{total, added, object_at, Makes}
use Rattle.obj_heap.specs.Laying.{objects_of, are_laid, IsLaid}
use Rattle.obj_heap.proofs.Laid.{laid_more, length-objects_of, total-objects_of, objects_of-append, end_behind}

-- where nothing was refused, there is room
pub not_full : (n : ℕ) (r : Result (Unit {0}) HeapFault) (u : Unit {0}) → r ≡ Ok u → (HEAP_LIMIT < n → r ≡ Err fault.HeapFull) → n ≤ HEAP_LIMIT
not_full n r u was full = go (cases_lt HEAP_LIMIT n)
  where
    go : (HEAP_LIMIT < n) ⊎ (n ≤ HEAP_LIMIT) → n ≤ HEAP_LIMIT
    go (inl h) = let e : r ≡ Err fault.HeapFull = full h in absurd (cc)
    go (inr h) = h

-- the same refusal, told on
pub told : (n : ℕ) (r : Result (Unit {0}) HeapFault) (e : HeapFault) → r ≡ Err e → (r ≡ Err fault.HeapFull → HEAP_LIMIT < n) × (HEAP_LIMIT < n → r ≡ Err fault.HeapFull)
    → (x : Result ObjRef HeapFault) → x ≡ Err e → (x ≡ Err fault.HeapFull → HEAP_LIMIT < n) × (HEAP_LIMIT < n → x ≡ Err fault.HeapFull)
told n r fault.HeapFull was full x is = (λ _. full.0 was, λ _. is)
told n r fault.Memory was full x is = (λ h. absurd (cc), λ h. let e : r ≡ Err fault.HeapFull = full.1 h in absurd (cc))

module _ {H : Type 0} (ms : List (Made H)) (bs : List ℕ) (rs : List Bool) (s : List (Object H)) (view : objects_of ms bs rs ≡ s) (laid : IsLaid H ms bs rs) where
  pub total_seen : total s ≡ length bs
  total_seen = rw (← view) (total-objects_of 0 ms bs rs (subst (λ e. are_laid 0 ms e ≡ true) omega_zero laid.laid) laid.eights)
    where
      omega_zero : length rs ≡ 0 + length rs
      omega_zero = omega arith

  pub length_seen : length s ≡ length ms
  length_seen = rw (← view) (length-objects_of ms bs rs)

  -- there are few objects, since each takes eight bytes at least
  pub few_seen : 8 * length ms ≤ HEAP_LIMIT
  few_seen = omega (arith, end_behind 0 ms (length rs) laid.laid, laid.eights, laid.limit)

  -- no object has a greater number
  pub none_past : (n : ℕ) → length ms < n → object_at s n ≡ None
  none_past zero h = refl
  none_past (suc k) h = past s k (omega (arith, h, length_seen))
    where
      past : (xs : List (Object H)) (i : ℕ) → length xs ≤ i → slice_get xs i ≡ None
      past [] i h = refl
      past (x ∷ xs) zero h = absurd (omega (arith, h))
      past (x ∷ xs) (suc i) h = past xs i (omega (arith, h))

  -- a refusal, and why
  pub refused : (n : ℕ) (o : Object H) → length o.bytes ≡ 8 * n → (r : Result (Unit {0}) HeapFault) (e : HeapFault) → r ≡ Err e → (r ≡ Err fault.HeapFull → HEAP_LIMIT < length bs + 8 * n)
      → (new : List (Object H)) → Makes (Err e) new (added o s)
  refused n o long r fault.HeapFull was full new =
      let past : nat_lt HEAP_LIMIT (total s + length o.bytes) ≡ true = lt-ltb HEAP_LIMIT (total s + length o.bytes) (omega (arith, full was, total_seen, long)) in
      rw past refl
  refused n o long r fault.Memory was full new = tt

  module _ (m : Made H) (b : List ℕ) (r : List Bool) (first : m.first ≡ length rs) (some : 0 < m.words) (lb : length b ≡ 8 * m.words) (lr : length r ≡ m.words) (limit : length bs + length b ≤ HEAP_LIMIT) where
    pub added_laid : IsLaid H (ms ++ m ∷ []) (bs ++ b) (rs ++ r)
    added_laid =
        let end : length rs + m.words ≡ length (rs ++ r) = omega (arith, length-append rs r, lr) in
        record {
          laid = rw end at (laid_more 0 ms (length rs) m laid.laid first some);
          eights = omega (arith, length-append bs b, length-append rs r, lb, lr, laid.eights);
          limit = omega (arith, length-append bs b, limit);
        }

    pub added_is : added (record { of = m.of; count = m.count; bytes = b; refs = r }) s ≡ Ok (record { 0 = length ms + 1 }, objects_of (ms ++ m ∷ []) (bs ++ b) (rs ++ r))
    added_is =
        let room : nat_lt HEAP_LIMIT (total s + length b) ≡ false = le-ltb HEAP_LIMIT (total s + length b) (omega (arith, total_seen, limit)) in
        let all = objects_of-append 0 ms bs rs m b r (subst (λ e. are_laid 0 ms e ≡ true) zero_and laid.laid) laid.eights lb lr in
        rw (room, length_seen, all, view) refl
      where
        zero_and : length rs ≡ 0 + length rs
        zero_and = omega arith
