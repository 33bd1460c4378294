-- Parts read one after the other, as a loop reads them.
use Rattle.std.proofs.Common.{◌≡◌, ℕ, suc, ◌-◌, ◌+◌, ◌≤◌, ◌<◌, List, [], ◌∷◌, ◌++◌, Ok, Err, refl, sym, ap, ◌∙◌, append_assoc, arith}
use Rattle.std.proofs.lemmas.List.{append-nil}
use Rattle.cli_sigs.specs.declared.fault.Stop.{Stop}
use Rattle.cli_sigs.specs.declared.fault.Stop.TheVariants as stop
use Rattle.cli_sigs.specs.Reading.{Answer, Part, ◌>>=◌, Fails, Stops, behind, repeated}
use Rattle.cli_sigs.proofs.ReaderLaws.{ok_is}

-- what was read before, and what is still read
abbrev pub with_front : {X : Type 0} → List X → Part (List X) → Part (List X)
with_front front read = read >>= λ x. Ok (front ++ x.0, x.1)

regroup : {X : Type 0} (front : List X) (x : X) (read : Part (List X)) → with_front front (read >>= λ y. Ok (x ∷ y.0, y.1)) ≡ with_front (front ++ x ∷ []) read
regroup {X = X} front x (Ok y) = ap (λ (xs : List X). Ok (xs, y.1)) (simp append_assoc)
regroup front x (Err left) = refl

behind-cons : {X : Type 0} (x : X) (read : Part (List X)) → behind (read >>= λ y. Ok (x ∷ y.0, y.1)) ≡ behind read
behind-cons {X = X} x (Ok y) = refl
behind-cons x (Err left) = refl

-- what something stands behind was read, and what nothing stands behind was refused
was_there : {X : Type 0} (read : Part X) (after : List ℕ) → behind read ≡ Ok after → (x : X) × (read ≡ Ok (x, after))
was_there (Ok (x, rest)) after h = (x, ap (λ (r : List ℕ). Ok (x, r)) (ok_is rest after h))
was_there (Err left) after h = absurd cc

was_refused : {X : Type 0} (read : Part X) (left : ℕ) → behind read ≡ Err left → read ≡ Err left
was_refused (Ok y) left h = absurd cc
was_refused (Err other) left h = cc

pub refused_behind : {X : Type 0} (e : Stop) (read : Part X) → Stops e read → Stops e (behind read)
refused_behind stop.Memory read h = absurd h
refused_behind (stop.Left left) read h = rw h refl

module _ {X : Type 0} (one : List ℕ → Part X) (count i : ℕ) (bytes : List ℕ) where
  pub goes_on : (front : List X) (x : X) (after : List ℕ) (total : Part (List X)) → i < count → one bytes ≡ Ok (x, after)
      → with_front front (repeated one (count - i) bytes) ≡ total → with_front (front ++ x ∷ []) (repeated one (count - (i + 1)) after) ≡ total
  unfolding repeated
  goes_on front x after total lt h so_far =
      let k : count - i ≡ suc (count - (i + 1)) = omega arith in
      let step : with_front front (repeated one (count - i) bytes) ≡ with_front (front ++ x ∷ []) (repeated one (count - (i + 1)) after) = rw (k, h) (regroup front x (repeated one (count - (i + 1)) after)) in
      sym step ∙ so_far

  pub fails : (e : Stop) (front : List X) (total : Part (List X)) → i < count → Fails e (one bytes)
      → with_front front (repeated one (count - i) bytes) ≡ total → Fails e total
  unfolding repeated
  fails stop.Memory front total lt h so_far = tt
  fails (stop.Left left) front total lt h so_far =
      let k : count - i ≡ suc (count - (i + 1)) = omega arith in
      let step : with_front front (repeated one (count - i) bytes) ≡ Err left = rw (k, h) refl in
      sym so_far ∙ step

  pub is_done : (front : List X) (total : Part (List X)) → count ≤ i → with_front front (repeated one (count - i) bytes) ≡ total → total ≡ Ok (front, bytes)
  unfolding repeated
  is_done front total le so_far =
      let k : count - i ≡ 0 = omega arith in
      let last : with_front front (repeated one (count - i) bytes) ≡ Ok (front, bytes) = rw k (ap (λ (xs : List X). Ok (xs, bytes)) (append-nil front)) in
      sym so_far ∙ last

  pub goes_past : (after : List ℕ) (total : Answer (List ℕ)) → i < count → behind (one bytes) ≡ Ok after
      → behind (repeated one (count - i) bytes) ≡ total → behind (repeated one (count - (i + 1)) after) ≡ total
  unfolding repeated
  goes_past after total lt h so_far =
      let k : count - i ≡ suc (count - (i + 1)) = omega arith in
      let x = was_there (one bytes) after h in
      let step : behind (repeated one (count - i) bytes) ≡ behind (repeated one (count - (i + 1)) after) = rw (k, x.1) (behind-cons x.0 (repeated one (count - (i + 1)) after)) in
      sym step ∙ so_far

  pub fails_past : (e : Stop) (total : Answer (List ℕ)) → i < count → Stops e (behind (one bytes))
      → behind (repeated one (count - i) bytes) ≡ total → Stops e total
  unfolding repeated
  fails_past stop.Memory total lt h so_far = absurd h
  fails_past (stop.Left left) total lt h so_far =
      let k : count - i ≡ suc (count - (i + 1)) = omega arith in
      let step : behind (repeated one (count - i) bytes) ≡ Err left = rw (k, was_refused (one bytes) left h) refl in
      sym so_far ∙ step

  pub is_past : (total : Answer (List ℕ)) → count ≤ i → behind (repeated one (count - i) bytes) ≡ total → total ≡ Ok bytes
  unfolding repeated
  is_past total le so_far =
      let k : count - i ≡ 0 = omega arith in
      let last : behind (repeated one (count - i) bytes) ≡ Ok bytes = rw k refl in
      sym so_far ∙ last
