-- What is fetched from a shelf: the bytes of files, in the order of their names.
use Rattle.std.specs.Prelude.{◌≡◌, ◌⊎◌, ℕ, ◌+◌, ◌<◌, List, [], ◌∷◌, length, take, Option, None, Some, slice_get}
use Rattle.std.specs.Option.{option_map, option_and_then}
use Rattle.clr_base.specs.Causes.{counted, counted_times}

-- a shelf's files, where it tells them: the bytes of each by its name
abbrev pub Files : Type 0
Files = Option (List ℕ → Option (List ℕ))

-- a shelf before a run and after it: its files, how often it was asked for one, how many it gave, and how often it failed
pub record Shelved : Type 0 where
  pub before : Files
  pub now : Files
  pub calls_before : ℕ
  pub calls_now : ℕ
  pub given_before : ℕ
  pub given_now : ℕ
  pub faults_before : ℕ
  pub faults_now : ℕ

-- a shelf by what it tells, as a call found it and as it left it
abbrev pub shelved : {S : Type 0} → (S → Files) → (S → ℕ) → (S → ℕ) → (S → ℕ) → S → S → Shelved
shelved files calls given faults old new = record {
  before = files old;
  now = files new;
  calls_before = calls old;
  calls_now = calls new;
  given_before = given old;
  given_now = given new;
  faults_before = faults old;
  faults_now = faults new;
}

-- It was asked for a file so many times, gave so many files, and never failed.
pub record IsCalm (shelf : Shelved) (calls given : ℕ) : Type 0 where
  pub asked : shelf.calls_now ≡ counted_times calls shelf.calls_before
  pub gave : shelf.given_now ≡ counted_times given shelf.given_before
  pub faults : shelf.faults_now ≡ shelf.faults_before

-- the bytes of each of the files of these names, or none where one isn't there
abbrev pub all_held : (List ℕ → Option (List ℕ)) → List (List ℕ) → Option (List (List ℕ))
all_held files [] = Some []
all_held files (name ∷ names) = option_and_then (λ bytes. option_map (λ rest. bytes ∷ rest) (all_held files names)) (files name)

-- these are the bytes of the files of these names, where that is told; else there are as many of them
abbrev pub AreFiles : Files → List (List ℕ) → List (List ℕ) → Type 0
AreFiles None names bytes = length bytes ≡ length names
AreFiles (Some files) names bytes = all_held files names ≡ Some bytes

-- A file wasn't read, the one at a place among the names, from 0: those before it were fetched. Each of them was asked for
-- once, and so was this one; nothing else was, and the shelf failed this one time.
pub record IsUnread (shelf : Shelved) (names : List (List ℕ)) (file : List ℕ) : Type 0 where
  pub place : ℕ
  pub is : slice_get names place ≡ Some file
  pub bytes : List (List ℕ)
  pub fetched : AreFiles shelf.before (take place names) bytes
  pub asked : shelf.calls_now ≡ counted_times (place + 1) shelf.calls_before
  pub gave : shelf.given_now ≡ counted_times place shelf.given_before
  pub cause : shelf.faults_now ≡ counted shelf.faults_before

-- Memory was wanting before the shelf had given all files: before it was asked for the first, or when it was asked for the
-- next one.
pub record IsShort (shelf : Shelved) (names : List (List ℕ)) : Type 0 where
  pub calls : ℕ
  pub given : ℕ
  pub last : ((calls ≡ 0) × (given ≡ 0)) ⊎ (calls ≡ given + 1)
  pub within : given < length names
  pub calm : IsCalm shelf calls given
