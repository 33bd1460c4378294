-- What an answer of the top call means: the one relation between a run and how it ended, and what follows from it, one sentence each.
use Rattle.std.specs.Prelude.{◌≡◌, ◌≢◌, ◌↔◌, ◌≤◌, ◌⊎◌, ℕ, ◌+◌, List, length, None, Some, Ok, Err, IsOk, slice_get}
use Rattle.clr_base.specs.Causes.{counted, counted_times}
use Rattle.clr_base.specs.Content.{then_bytes}
use Rattle.clr_base.specs.declared.image_fault.ImageFault.{ImageFault}
use Rattle.image_rows.specs.Image.{tables_of}
use Rattle.clr_core.specs.Command.{named_files}
use Rattle.clr_core.specs.Ends.{Run, Written, EndsWith, IsUntouched, RunsOut, Says, the_file, the_files, told_bytes, told_names, line_of}
use Rattle.clr_core.specs.Fetched.{IsUnread}
use Rattle.clr_core.specs.Lines.{refused_line, unread_line}
use Rattle.clr_core.specs.declared.status.Status.{Status}
use Rattle.clr_core.specs.declared.status.Status.TheVariants as status

-- the count of a shelf's faults after a run, and of those of the sink for the text: one more where the status says so
abbrev pub read_faults_after : Status → ℕ → ℕ
read_faults_after status.ReadFault before = counted before
read_faults_after s before = before

abbrev pub write_faults_after : Status → ℕ → ℕ
write_faults_after status.WriteFault before = counted before
write_faults_after s before = before

pub record Answers (run : Run) (err : Written) (s : Status) : Type 0 where
  -- all that the run did, and why
  pub ends : EndsWith run err s
  -- Usage comes exactly where the words are no command
  pub usage : (s ≡ status.Usage) ↔ (named_files run.words ≡ None)
  -- the shelf and the sink for the text fail once where the status says so, and in no other run
  pub read_faults : run.shelf.faults_now ≡ read_faults_after s run.shelf.faults_before
  pub write_faults : run.out.faults_now ≡ write_faults_after s run.out.faults_before
  -- the shelf is asked as often as there are files, or less often where a fetch fails or memory is wanting
  pub asked : (calls : ℕ) × (calls ≤ length (the_files run.words)) × (run.shelf.calls_now ≡ counted_times calls run.shelf.calls_before)
  pub fetched :
      s ≢ status.ReadFault → s ≢ status.Memory → run.shelf.calls_now ≡ counted_times (length (the_files run.words)) run.shelf.calls_before
  pub unread : s ≡ status.ReadFault → (file : List ℕ) × IsUnread run.shelf (the_files run.words) file × Says err (unread_line file)
  -- a file is refused exactly where a check fails: the first of the files that fails one, with its first fault
  pub bad_image :
      (bytes : List (List ℕ)) → told_bytes run.shelf.before run.words ≡ Some bytes → s ≡ status.BadImage
      → (number : ℕ) × (fault : ImageFault) × (told_names run.words bytes ≡ Err (number, fault)) × Says err (refused_line (the_file run.words number) fault)
  pub refused :
      (bytes : List (List ℕ)) (number : ℕ) (fault : ImageFault) → told_bytes run.shelf.before run.words ≡ Some bytes
      → told_names run.words bytes ≡ Err (number, fault) → s ≢ status.ReadFault
      → (s ≡ status.BadImage) ⊎ (s ≡ status.Memory)
  -- at Done the whole text is written, and so it is wherever no check and nothing outside fails
  pub done :
      (bytes : List (List ℕ)) → told_bytes run.shelf.before run.words ≡ Some bytes → s ≡ status.Done
      → (text : List ℕ) × (told_names run.words bytes ≡ Ok text) × (run.out.now ≡ then_bytes run.out.before text)
  pub complete :
      (bytes : List (List ℕ)) (text : List ℕ) → told_bytes run.shelf.before run.words ≡ Some bytes → told_names run.words bytes ≡ Ok text
      → s ≢ status.ReadFault → s ≢ status.WriteFault
      → (s ≡ status.Done) ⊎ (s ≡ status.Memory)
  -- Where the shelf gave all files, memory ran out at a file that passes its checks of headers, streams and tables, behind files
  -- that pass all of theirs, or behind all of them. A run doesn't tell which: it may have been the first.
  pub memory :
      (bytes : List (List ℕ)) → told_bytes run.shelf.before run.words ≡ Some bytes → s ≡ status.Memory
      → run.shelf.given_now ≡ run.shelf.given_before + length (the_files run.words) → RunsOut bytes
  -- so want of memory hides no fault of the headers, streams or tables of the first file
  pub placed :
      (bytes : List (List ℕ)) (file : List ℕ) → told_bytes run.shelf.before run.words ≡ Some bytes → slice_get bytes 0 ≡ Some file
      → s ≡ status.Memory → run.shelf.given_now ≡ run.shelf.given_before + length (the_files run.words) → IsOk (tables_of file)
  -- what stays as it was
  pub out_untouched : s ≢ status.Done → s ≢ status.WriteFault → run.out.now ≡ run.out.before
  pub err_untouched : s ≡ status.Done → IsUntouched err
  pub shelf_kept : run.shelf.now ≡ run.shelf.before
  -- no count of faults falls
  pub counts :
      (run.shelf.faults_before ≤ run.shelf.faults_now) × (run.out.faults_before ≤ run.out.faults_now) × (err.faults_before ≤ err.faults_now)
  -- the line of every other status is appended, or a prefix of it where that sink failed
  pub line : s ≢ status.Done → (number : ℕ) × (fault : ImageFault) × Says err (line_of s (the_file run.words number) fault)
