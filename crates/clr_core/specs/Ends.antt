-- How a run ends, and what it has then done outside.
use Rattle.std.specs.Prelude.{◌≡◌, ◌⊎◌, ℕ, ◌-◌, List, [], length, Option, None, Some, Result, Ok, Err, slice_get, unwrap_or}
use Rattle.std.specs.Option.{option_and_then}
use Rattle.clr_base.specs.Causes.{counted}
use Rattle.clr_base.specs.Content.{then_bytes, AppendsPrefix}
use Rattle.clr_base.specs.declared.image_fault.ImageFault.{ImageFault}
use Rattle.clr_core.specs.Command.{named_files}
use Rattle.clr_core.specs.Fetched.{Files, Shelved, AreFiles, IsCalm, IsShort, IsUnread, all_held}
use Rattle.clr_core.specs.Lines.{usage_line, unread_line, refused_line, unwritten_line, memory_line}
use Rattle.clr_core.specs.Names.{names_of}
use Rattle.image_files.specs.Images.{RanOut, images_of, tables_in}
use Rattle.clr_core.specs.declared.status.Stop.{Stop}
use Rattle.clr_core.specs.declared.status.Stop.TheVariants as stop
use Rattle.clr_core.specs.declared.status.Status.{Status}
use Rattle.clr_core.specs.declared.status.Status.TheVariants as status

-- a sink before a run and after it: what it holds, where it tells it, and its count of faults
pub record Written : Type 0 where
  pub before : Option (List ℕ)
  pub now : Option (List ℕ)
  pub faults_before : ℕ
  pub faults_now : ℕ

-- a sink by what it tells, as a call found it and as it left it
abbrev pub written : {S : Type 0} → (S → Option (List ℕ)) → (S → ℕ) → S → S → Written
written content faults old new = record { before = content old; now = content new; faults_before = faults old; faults_now = faults new }

-- what a run was given, and what it did outside
pub record Run : Type 0 where
  pub words : List (List ℕ)
  pub shelf : Shelved
  pub out : Written

-- how it ends
pub data End : Type 0 where
  Done : End
  Usage : End
  ReadFault : (file : List ℕ) → End
  BadImage : (file : List ℕ) (fault : ImageFault) → End
  WriteFault : End
  Memory : End

-- All files of the command were fetched, each asked for once, and this came of their bytes: the text that is written, or the number of
-- the first that is refused, from 1, with its first fault.
pub record Judged (run : Run) (answer : Result (List ℕ) (ℕ × ImageFault)) : Type 0 where
  pub files : List (List ℕ)
  pub named : named_files run.words ≡ Some files
  pub bytes : List (List ℕ)
  pub told : AreFiles run.shelf.before files bytes
  pub calm : IsCalm run.shelf (length files) (length files)
  pub answers : names_of files bytes ≡ answer

-- the words of the command's files
abbrev pub the_files : List (List ℕ) → List (List ℕ)
the_files words = unwrap_or (named_files words) []

-- the word of one of them by its number, from 1
abbrev pub the_file : List (List ℕ) → ℕ → List ℕ
the_file words number = unwrap_or (slice_get (the_files words) (number - 1)) []

-- Memory ran out when all files were there: at one of them, behind others that pass all their checks, where it passes those of
-- headers, streams and tables; or behind all of them, where each passes all.
abbrev pub RunsOut : List (List ℕ) → Type 0
RunsOut bytes = RanOut bytes ⊎ (images_of bytes ≡ Ok (tables_in bytes))

-- so it was with these files, each of which was asked for once
pub record IsSpent (shelf : Shelved) (names : List (List ℕ)) : Type 0 where
  pub bytes : List (List ℕ)
  pub told : AreFiles shelf.before names bytes
  pub calm : IsCalm shelf (length names) (length names)
  pub place : RunsOut bytes

-- Memory was wanting: before all files of the command were there, or then.
pub record CutShort (run : Run) : Type 0 where
  pub files : List (List ℕ)
  pub named : named_files run.words ≡ Some files
  pub cause : IsShort run.shelf files ⊎ IsSpent run.shelf files

-- nothing was written, and nothing failed
pub record IsUntouched (sink : Written) : Type 0 where
  pub content : sink.now ≡ sink.before
  pub faults : sink.faults_now ≡ sink.faults_before

-- the whole text was appended, and nothing failed
pub record IsWritten (sink : Written) (text : List ℕ) : Type 0 where
  pub content : sink.now ≡ then_bytes sink.before text
  pub faults : sink.faults_now ≡ sink.faults_before

-- a prefix of the text was appended, and the sink failed once
pub record IsCut (sink : Written) (text : List ℕ) : Type 0 where
  pub content : AppendsPrefix sink.before sink.now text
  pub faults : sink.faults_now ≡ counted sink.faults_before

-- why not all files were fetched
abbrev pub StopsFetch : Shelved → List (List ℕ) → End → Type 0
StopsFetch shelf names (ReadFault file) = IsUnread shelf names file
StopsFetch shelf names Memory = IsShort shelf names
StopsFetch shelf names end = ⊥

-- why files that were fetched have no text: one is refused, and this is its word; or memory ran out
abbrev pub StopsChecks : List (List ℕ) → List (List ℕ) → End → Type 0
StopsChecks names bytes (BadImage file fault) = (number : ℕ) × (names_of names bytes ≡ Err (number, fault)) × (slice_get names (number - 1) ≡ Some file)
StopsChecks names bytes Memory = RunsOut bytes
StopsChecks names bytes end = ⊥

-- A file wasn't read, and this is its word.
pub record Unread (run : Run) (file : List ℕ) : Type 0 where
  pub files : List (List ℕ)
  pub named : named_files run.words ≡ Some files
  pub fails : IsUnread run.shelf files file

-- A file is refused by this fault, and this is its word.
pub record Refused (run : Run) (file : List ℕ) (fault : ImageFault) : Type 0 where
  pub number : ℕ
  pub judged : Judged run (Err (number, fault))
  pub word : the_file run.words number ≡ file

abbrev pub Happened : Run → End → Type 0
Happened run Done = (text : List ℕ) × Judged run (Ok text) × IsWritten run.out text
Happened run Usage = (named_files run.words ≡ None) × IsUntouched run.out × IsCalm run.shelf 0 0
Happened run (ReadFault file) = Unread run file × IsUntouched run.out
Happened run (BadImage file fault) = Refused run file fault × IsUntouched run.out
Happened run WriteFault = (text : List ℕ) × Judged run (Ok text) × IsCut run.out text
Happened run Memory = CutShort run × IsUntouched run.out

-- what the code's answers stand for
abbrev pub end_of_stop : Stop → End
end_of_stop stop.Usage = Usage
end_of_stop (stop.ReadFault file) = ReadFault file.now
end_of_stop (stop.BadImage file fault) = BadImage file.now fault
end_of_stop stop.WriteFault = WriteFault
end_of_stop stop.Memory = Memory

abbrev pub end_of : Result (Unit {0}) Stop → End
end_of (Ok done) = Done
end_of (Err reason) = end_of_stop reason

abbrev pub status_of : End → Status
status_of Done = status.Done
status_of Usage = status.Usage
status_of (ReadFault file) = status.ReadFault
status_of (BadImage file fault) = status.BadImage
status_of WriteFault = status.WriteFault
status_of Memory = status.Memory

-- The line is appended to what the other sink holds, or a prefix of it where that sink failed.
abbrev pub Says : Written → List ℕ → Type 0
Says err line = IsWritten err line ⊎ IsCut err line

abbrev pub Tells : Written → End → Type 0
Tells err Done = IsUntouched err
Tells err Usage = Says err usage_line
Tells err (ReadFault file) = Says err (unread_line file)
Tells err (BadImage file fault) = Says err (refused_line file fault)
Tells err WriteFault = Says err unwritten_line
Tells err Memory = Says err memory_line

-- the number that a program ends with (5, 7 and 8 are kept for statuses that come later)
abbrev pub status_number : Status → ℕ
status_number status.Done = 0
status_number status.Usage = 1
status_number status.ReadFault = 2
status_number status.WriteFault = 3
status_number status.BadImage = 4
status_number status.Memory = 6

-- A run ends in one of these ways, with its status and its line. The files stay as they were.
pub record EndsWith (run : Run) (err : Written) (reached : Status) : Type 0 where
  pub end : End
  pub is : status_of end ≡ reached
  pub happened : Happened run end
  pub line : Tells err end
  pub kept : run.shelf.now ≡ run.shelf.before

-- the bytes of the command's files, where the shelf tells them
abbrev pub told_bytes : Files → List (List ℕ) → Option (List (List ℕ))
told_bytes None words = None
told_bytes (Some files) words = option_and_then (all_held files) (named_files words)

-- what `names` answers of them: its text, or the first fault of the first that is refused, with that file's number
abbrev pub told_names : List (List ℕ) → List (List ℕ) → Result (List ℕ) (ℕ × ImageFault)
told_names words bytes = names_of (the_files words) bytes

-- the line of a status, of a file and its fault
abbrev pub line_of : Status → List ℕ → ImageFault → List ℕ
line_of status.Done file fault = []
line_of status.Usage file fault = usage_line
line_of status.ReadFault file fault = unread_line file
line_of status.WriteFault file fault = unwritten_line
line_of status.BadImage file fault = refused_line file fault
line_of status.Memory file fault = memory_line
