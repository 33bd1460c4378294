-- Marks read one after the other, as a loop reads them.
use Rattle.std.proofs.Common.{◌≡◌, ℕ, zero, suc, ◌≤◌, ◌<◌, List, [], ◌∷◌, length, Some, None, Ok, Err, refl, sym, arith}
use Rattle.cli_sigs.specs.declared.fault.Stop.{Stop}
use Rattle.cli_sigs.specs.declared.fault.Stop.TheVariants as stop
use Rattle.cli_sigs.specs.declared.marks.Before.{Before}
use Rattle.cli_sigs.specs.declared.signature.RowCounts.{RowCounts}
use Rattle.cli_sigs.specs.Reading.{Answer, Stops}
use Rattle.cli_sigs.specs.Marks.{mark_at, marks_at, past_marks}

-- reading goes on at rest, and gives total; most is no less than the marks that are left
pub record IsLeft (counts : RowCounts) (what : Before) (rest : List ℕ) (total : Answer (List ℕ)) : Type 0 where
  pub most : ℕ
  pub enough : length rest ≤ most
  pub same : marks_at counts what most rest ≡ total

module _ (counts : RowCounts) (what : Before) where
  pub begins : (bytes : List ℕ) → IsLeft counts what bytes (past_marks counts what bytes)
  begins bytes = record { most = length bytes; enough = omega arith; same = refl }

  goes_from : (most : ℕ) (rest after : List ℕ) (total : Answer (List ℕ)) → length rest ≤ most → marks_at counts what most rest ≡ total
      → mark_at counts what rest ≡ Ok (Some after) → length after < length rest → IsLeft counts what after total
  unfolding marks_at
  goes_from zero rest after total enough same h lt = absurd (omega arith)
  goes_from (suc most) rest after total enough same h lt = record { most = most; enough = omega arith; same = rw h at same }

  pub goes_past : (rest after : List ℕ) (total : Answer (List ℕ)) → IsLeft counts what rest total → mark_at counts what rest ≡ Ok (Some after) → length after < length rest → IsLeft counts what after total
  goes_past rest after total left h lt = goes_from left.most rest after total left.enough left.same h lt

  ends_from : (most : ℕ) (rest : List ℕ) (total : Answer (List ℕ)) → marks_at counts what most rest ≡ total → mark_at counts what rest ≡ Ok None → total ≡ Ok rest
  unfolding marks_at
  ends_from zero rest total same h = sym same
  ends_from (suc most) rest total same h = sym (rw h at same)

  pub ends : (rest : List ℕ) (total : Answer (List ℕ)) → IsLeft counts what rest total → mark_at counts what rest ≡ Ok None → total ≡ Ok rest
  ends rest total left h = ends_from left.most rest total left.same h

  fails_from : (most : ℕ) (rest : List ℕ) (total : Answer (List ℕ)) (left : ℕ) → length rest ≤ most → marks_at counts what most rest ≡ total → mark_at counts what rest ≡ Err left → total ≡ Err left
  unfolding marks_at mark_at
  fails_from zero [] total left enough same h = absurd (cc)
  fails_from zero (code ∷ rest) total left enough same h = absurd (omega arith)
  fails_from (suc most) rest total left enough same h = sym (rw h at same)

  pub fails : (e : Stop) (rest : List ℕ) (total : Answer (List ℕ)) → IsLeft counts what rest total → Stops e (mark_at counts what rest) → Stops e total
  fails stop.Memory rest total so_far h = absurd h
  fails (stop.Left left) rest total so_far h = fails_from so_far.most rest total left so_far.enough so_far.same h
