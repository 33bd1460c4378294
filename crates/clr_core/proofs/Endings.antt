-- What follows from how a run ended.
use Rattle.std.proofs.Common.{◌≡◌, ◌≢◌, ◌↔◌, ◌⊎◌, inl, inr, ℕ, zero, suc, ◌+◌, ◌-◌, ◌<◌, ◌≤◌, List, [], length, Option, None, Some, Result, Ok, Err, IsOk, refl, sym, ap, ◌∙◌, subst, arith, unwrap_or}
use Rattle.std.specs.Prelude.{slice_get}
use Rattle.std.specs.Option.{option_and_then}
use Rattle.std.proofs.lemmas.Option.{slice_get_within}
use Rattle.clr_base.specs.Causes.{counted, counted_times}
use Rattle.clr_base.specs.Content.{then_bytes}
use Rattle.clr_base.specs.declared.image_fault.ImageFault.{ImageFault}
use Rattle.clr_base.specs.declared.image_fault.FaultKind.TheVariants.{NotPe}
use Rattle.image_rows.specs.Image.{tables_of}
use Rattle.image_files.proofs.RunningOut.{first_placed, first_passed}
use Rattle.clr_core.specs.Answers.{Answers, read_faults_after, write_faults_after}
use Rattle.clr_core.specs.Command.{named_files}
use Rattle.clr_core.specs.Fetched.{Files, AreFiles, IsUnread, all_held}
use Rattle.clr_core.specs.Lines.{usage_line, unread_line, refused_line, unwritten_line, memory_line}
use Rattle.clr_core.specs.Names.{names_of}
use Rattle.clr_core.specs.Ends.{Written, Run, End, Done, Usage, ReadFault, BadImage, WriteFault, Memory, IsUntouched, Judged, RunsOut, Unread, Happened, Says, Tells, EndsWith, status_of, the_file, the_files, told_bytes, told_names, line_of}
use Rattle.clr_core.specs.declared.status.Status.{Status}
use Rattle.clr_core.specs.declared.status.Status.TheVariants as status

-- Usage exactly where the words are no command
no_command : (run : Run) (end : End) (s : Status) → status_of end ≡ s → Happened run end → s ≡ status.Usage → named_files run.words ≡ None
no_command run Done s is h e = cc
no_command run Usage s is h e = h.0
no_command run (ReadFault file) s is h e = cc
no_command run (BadImage file fault) s is h e = cc
no_command run WriteFault s is h e = cc
no_command run Memory s is h e = cc

is_usage : (run : Run) (end : End) (s : Status) → status_of end ≡ s → Happened run end → named_files run.words ≡ None → s ≡ status.Usage
is_usage run Done s is (text, judged, e) none = cc (judged.named)
is_usage run Usage s is h none = sym is
is_usage run (ReadFault file) s is h none = cc (h.0.named)
is_usage run (BadImage file fault) s is h none = cc (h.0.judged.named)
is_usage run WriteFault s is (text, judged, cut) none = cc (judged.named)
is_usage run Memory s is h none = cc (h.0.named)

usage : (run : Run) (err : Written) (s : Status) → EndsWith run err s → (s ≡ status.Usage) ↔ (named_files run.words ≡ None)
usage run err s ends = (no_command run ends.end s ends.is ends.happened, is_usage run ends.end s ends.is ends.happened)

-- The shelf fails once at ReadFault, and in no other run.
reads_by : (run : Run) (end : End) → Happened run end → run.shelf.faults_now ≡ read_faults_after (status_of end) run.shelf.faults_before
reads_by run Done (text, judged, written) = judged.calm.faults
reads_by run Usage (none, untouched, calm) = calm.faults
reads_by run (ReadFault file) (unread, untouched) = unread.fails.cause
reads_by run (BadImage file fault) (refused, untouched) = refused.judged.calm.faults
reads_by run WriteFault (text, judged, cut) = judged.calm.faults
reads_by run Memory (short, untouched) = elim short.cause [ inl few ↦ few.calm.faults | inr cut ↦ cut.calm.faults ]

read_faults : (run : Run) (err : Written) (s : Status) → EndsWith run err s → run.shelf.faults_now ≡ read_faults_after s run.shelf.faults_before
read_faults run err s ends = subst (λ t. run.shelf.faults_now ≡ read_faults_after t run.shelf.faults_before) ends.is (reads_by run ends.end ends.happened)

-- The sink for the text fails once at WriteFault, and in no other run.
writes_by : (run : Run) (end : End) → Happened run end → run.out.faults_now ≡ write_faults_after (status_of end) run.out.faults_before
writes_by run Done (text, judged, written) = written.faults
writes_by run Usage (none, untouched, calm) = untouched.faults
writes_by run (ReadFault file) (unread, untouched) = untouched.faults
writes_by run (BadImage file fault) (refused, untouched) = untouched.faults
writes_by run WriteFault (text, judged, cut) = cut.faults
writes_by run Memory (short, untouched) = untouched.faults

write_faults : (run : Run) (err : Written) (s : Status) → EndsWith run err s → run.out.faults_now ≡ write_faults_after s run.out.faults_before
write_faults run err s ends = subst (λ t. run.out.faults_now ≡ write_faults_after t run.out.faults_before) ends.is (writes_by run ends.end ends.happened)

-- Each file is asked for once, up to the first whose fetch fails.
abbrev Asked : Run → Type 0
Asked run = (calls : ℕ) × (calls ≤ length (the_files run.words)) × (run.shelf.calls_now ≡ counted_times calls run.shelf.calls_before)

files_of : (words files : List (List ℕ)) → named_files words ≡ Some files → files ≡ the_files words
files_of words files named = sym (ap (λ o. unwrap_or o []) named)

all_asked : (run : Run) (answer : Result (List ℕ) (ℕ × ImageFault)) → Judged run answer
    → run.shelf.calls_now ≡ counted_times (length (the_files run.words)) run.shelf.calls_before
all_asked run answer judged =
    judged.calm.asked ∙ ap (λ files. counted_times (length files) run.shelf.calls_before) (files_of run.words judged.files judged.named)

-- no more files are asked for than there are
calls_within : {calls given n m : ℕ} → ((calls ≡ 0) × (given ≡ 0)) ⊎ (calls ≡ given + 1) → given < n → n ≡ m → calls ≤ m
calls_within (inl none) few count = omega (arith, none.0, few, count)
calls_within (inr next) few count = omega (arith, next, few, count)

asked_by : (run : Run) (end : End) → Happened run end → Asked run
asked_by run Done (text, judged, written) = (length (the_files run.words), omega arith, all_asked run (Ok text) judged)
asked_by run Usage (none, untouched, calm) = (0, omega arith, calm.asked)
asked_by run (ReadFault file) (unread, untouched) =
    let within = slice_get_within unread.files unread.fails.place file unread.fails.is in
    let count = ap length (files_of run.words unread.files unread.named) in
    (unread.fails.place + 1, omega (arith, within, count), unread.fails.asked)
asked_by run (BadImage file fault) (refused, untouched) =
    (length (the_files run.words), omega arith, all_asked run (Err (refused.number, fault)) refused.judged)
asked_by run WriteFault (text, judged, cut) = (length (the_files run.words), omega arith, all_asked run (Ok text) judged)
asked_by run Memory (short, untouched) =
    let count = ap length (files_of run.words short.files short.named) in
    elim short.cause [
      | inl few ↦ (few.calls, calls_within few.last few.within count, few.calm.asked)
      | inr cut ↦ (length short.files, omega (arith, count), cut.calm.asked)
    ]

asked : (run : Run) (err : Written) (s : Status) → EndsWith run err s → Asked run
asked run err s ends = asked_by run ends.end ends.happened

-- All of them are, before the first check.
fetched_by : (run : Run) (end : End) (s : Status) → status_of end ≡ s → Happened run end → s ≢ status.ReadFault → s ≢ status.Memory
    → run.shelf.calls_now ≡ counted_times (length (the_files run.words)) run.shelf.calls_before
fetched_by run Done s is (text, judged, written) not_read not_short = all_asked run (Ok text) judged
fetched_by run Usage s is (none, untouched, calm) not_read not_short =
    calm.asked ∙ ap (λ (o : Option (List (List ℕ))). counted_times (length (unwrap_or o [])) run.shelf.calls_before) (sym none)
fetched_by run (ReadFault file) s is h not_read not_short = absurd (not_read (sym is))
fetched_by run (BadImage file fault) s is (refused, untouched) not_read not_short = all_asked run (Err (refused.number, fault)) refused.judged
fetched_by run WriteFault s is (text, judged, cut) not_read not_short = all_asked run (Ok text) judged
fetched_by run Memory s is h not_read not_short = absurd (not_short (sym is))

fetched : (run : Run) (err : Written) (s : Status) → EndsWith run err s → s ≢ status.ReadFault → s ≢ status.Memory
    → run.shelf.calls_now ≡ counted_times (length (the_files run.words)) run.shelf.calls_before
fetched run err s ends = fetched_by run ends.end s ends.is ends.happened

-- Nothing is written unless the run came to its write.
out_by : (run : Run) (end : End) (s : Status) → status_of end ≡ s → Happened run end → s ≢ status.Done → s ≢ status.WriteFault → run.out.now ≡ run.out.before
out_by run Done s is h not_done not_write = absurd (not_done (sym is))
out_by run Usage s is h not_done not_write = h.1.content
out_by run (ReadFault file) s is h not_done not_write = h.1.content
out_by run (BadImage file fault) s is h not_done not_write = h.1.content
out_by run WriteFault s is h not_done not_write = absurd (not_write (sym is))
out_by run Memory s is h not_done not_write = h.1.content

out_untouched : (run : Run) (err : Written) (s : Status) → EndsWith run err s → s ≢ status.Done → s ≢ status.WriteFault → run.out.now ≡ run.out.before
out_untouched run err s ends = out_by run ends.end s ends.is ends.happened

-- the line of each status
any_fault : ImageFault
any_fault = record { kind = NotPe; place = 0 }

-- the number of a file that wasn't read
unread_word : (run : Run) (file : List ℕ) → (unread : Unread run file) → file ≡ the_file run.words (unread.fails.place + 1)
unread_word run file unread =
    let at : unread.fails.place ≡ unread.fails.place + 1 - 1 = omega arith in
    sym (ap (λ o. unwrap_or o []) unread.fails.is)
    ∙ ap (λ files. unwrap_or (slice_get files unread.fails.place) []) (files_of run.words unread.files unread.named)
    ∙ ap (λ (k : ℕ). unwrap_or (slice_get (the_files run.words) k) []) at

said : (err : Written) (s t : Status) (file file' : List ℕ) (fault : ImageFault) → t ≡ s → file ≡ file' → Says err (line_of t file fault) → Says err (line_of s file' fault)
said err s t file file' fault is same says = subst (λ v. Says err (line_of v file' fault)) is (subst (λ v. Says err (line_of t v fault)) same says)

line_by : (run : Run) (err : Written) (end : End) (s : Status) → status_of end ≡ s → Happened run end → Tells err end → s ≢ status.Done
    → (number : ℕ) × (fault : ImageFault) × Says err (line_of s (the_file run.words number) fault)
line_by run err Done s is h tells not_done = absurd (not_done (sym is))
line_by run err Usage s is h tells not_done = (0, any_fault, said err s status.Usage (the_file run.words 0) (the_file run.words 0) any_fault is refl tells)
line_by run err (ReadFault file) s is h tells not_done =
    (h.0.fails.place + 1, any_fault, said err s status.ReadFault file (the_file run.words (h.0.fails.place + 1)) any_fault is (unread_word run file h.0) tells)
line_by run err (BadImage file fault) s is h tells not_done =
    (h.0.number, fault, said err s status.BadImage file (the_file run.words h.0.number) fault is (sym h.0.word) tells)
line_by run err WriteFault s is h tells not_done = (0, any_fault, said err s status.WriteFault (the_file run.words 0) (the_file run.words 0) any_fault is refl tells)
line_by run err Memory s is h tells not_done = (0, any_fault, said err s status.Memory (the_file run.words 0) (the_file run.words 0) any_fault is refl tells)

line : (run : Run) (err : Written) (s : Status) → EndsWith run err s → s ≢ status.Done
    → (number : ℕ) × (fault : ImageFault) × Says err (line_of s (the_file run.words number) fault)
line run err s ends = line_by run err ends.end s ends.is ends.happened ends.line

-- A file that wasn't read has its line.
unread_by : (run : Run) (err : Written) (end : End) (s : Status) → status_of end ≡ s → Happened run end → Tells err end → s ≡ status.ReadFault
    → (file : List ℕ) × IsUnread run.shelf (the_files run.words) file × Says err (unread_line file)
unread_by run err Done s is h tells e = cc
unread_by run err Usage s is h tells e = cc
unread_by run err (ReadFault file) s is h tells e =
    (file, subst (λ files. IsUnread run.shelf files file) (files_of run.words h.0.files h.0.named) h.0.fails, tells)
unread_by run err (BadImage file fault) s is h tells e = cc
unread_by run err WriteFault s is h tells e = cc
unread_by run err Memory s is h tells e = cc

unread : (run : Run) (err : Written) (s : Status) → EndsWith run err s → s ≡ status.ReadFault
    → (file : List ℕ) × IsUnread run.shelf (the_files run.words) file × Says err (unread_line file)
unread run err s ends = unread_by run err ends.end s ends.is ends.happened ends.line

-- At Done nothing is said.
err_by : (err : Written) (end : End) (s : Status) → status_of end ≡ s → Tells err end → s ≡ status.Done → IsUntouched err
err_by err Done s is tells e = tells
err_by err Usage s is tells e = cc
err_by err (ReadFault file) s is tells e = cc
err_by err (BadImage file fault) s is tells e = cc
err_by err WriteFault s is tells e = cc
err_by err Memory s is tells e = cc

err_untouched : (run : Run) (err : Written) (s : Status) → EndsWith run err s → s ≡ status.Done → IsUntouched err
err_untouched run err s ends = err_by err ends.end s ends.is ends.line

-- No count of faults falls.
up : (n : ℕ) → n ≤ counted n
up n = omega arith

reads_up : (s : Status) (n : ℕ) → n ≤ read_faults_after s n
reads_up status.Done n = omega arith
reads_up status.Usage n = omega arith
reads_up status.ReadFault n = up n
reads_up status.WriteFault n = omega arith
reads_up status.BadImage n = omega arith
reads_up status.Memory n = omega arith

writes_up : (s : Status) (n : ℕ) → n ≤ write_faults_after s n
writes_up status.Done n = omega arith
writes_up status.Usage n = omega arith
writes_up status.ReadFault n = omega arith
writes_up status.WriteFault n = up n
writes_up status.BadImage n = omega arith
writes_up status.Memory n = omega arith

says_up : (err : Written) (line : List ℕ) → Says err line → err.faults_before ≤ err.faults_now
says_up err line (inl written) = omega (arith, written.faults)
says_up err line (inr cut) = let more = up err.faults_before in omega (arith, cut.faults, more)

tells_up : (err : Written) (end : End) → Tells err end → err.faults_before ≤ err.faults_now
tells_up err Done tells = omega (arith, tells.faults)
tells_up err Usage tells = says_up err usage_line tells
tells_up err (ReadFault file) tells = says_up err (unread_line file) tells
tells_up err (BadImage file fault) tells = says_up err (refused_line file fault) tells
tells_up err WriteFault tells = says_up err unwritten_line tells
tells_up err Memory tells = says_up err memory_line tells

-- The bytes that were judged are the ones that the shelf tells.
told : (files : Files) (words names judged bytes : List (List ℕ)) → named_files words ≡ Some names → AreFiles files names judged
    → told_bytes files words ≡ Some bytes → judged ≡ bytes
told None words names judged bytes named is e = cc
told (Some files) words names judged bytes named is e =
    let found : option_and_then (all_held files) (named_files words) ≡ all_held files names = ap (option_and_then (all_held files)) named in cc

told_answer : (run : Run) (bytes : List (List ℕ)) (answer : Result (List ℕ) (ℕ × ImageFault)) → Judged run answer
    → told_bytes run.shelf.before run.words ≡ Some bytes → told_names run.words bytes ≡ answer
told_answer run bytes answer judged e =
    let same : judged.bytes ≡ bytes = told run.shelf.before run.words judged.files judged.bytes bytes judged.named judged.told e in
    sym (ap (λ files. names_of files bytes) (files_of run.words judged.files judged.named)) ∙ sym (ap (names_of judged.files) same) ∙ judged.answers

-- A file that is refused has its line.
bad_by : (run : Run) (err : Written) (end : End) (s : Status) (bytes : List (List ℕ)) → status_of end ≡ s → Happened run end → Tells err end
    → told_bytes run.shelf.before run.words ≡ Some bytes → s ≡ status.BadImage
    → (number : ℕ) × (fault : ImageFault) × (told_names run.words bytes ≡ Err (number, fault)) × Says err (refused_line (the_file run.words number) fault)
bad_by run err Done s bytes is h tells e b = cc
bad_by run err Usage s bytes is h tells e b = cc
bad_by run err (ReadFault file) s bytes is h tells e b = cc
bad_by run err (BadImage file fault) s bytes is h tells e b =
    (h.0.number, fault, told_answer run bytes (Err (h.0.number, fault)) h.0.judged e, subst (λ f. Says err (refused_line f fault)) (sym h.0.word) tells)
bad_by run err WriteFault s bytes is h tells e b = cc
bad_by run err Memory s bytes is h tells e b = cc

bad_image : (run : Run) (err : Written) (s : Status) → EndsWith run err s → (bytes : List (List ℕ)) → told_bytes run.shelf.before run.words ≡ Some bytes
    → s ≡ status.BadImage
    → (number : ℕ) × (fault : ImageFault) × (told_names run.words bytes ≡ Err (number, fault)) × Says err (refused_line (the_file run.words number) fault)
bad_image run err s ends bytes = bad_by run err ends.end s bytes ends.is ends.happened ends.line

-- A file with a fault is refused.
has_command : (files : Files) (words bytes : List (List ℕ)) → told_bytes files words ≡ Some bytes → named_files words ≢ None
has_command None words bytes e none = cc
has_command (Some files) words bytes e none = let lost : option_and_then (all_held files) (named_files words) ≡ None = ap (option_and_then (all_held files)) none in cc

refused_by : (run : Run) (end : End) (s : Status) (bytes : List (List ℕ)) (number : ℕ) (fault : ImageFault) → status_of end ≡ s → Happened run end
    → told_bytes run.shelf.before run.words ≡ Some bytes → told_names run.words bytes ≡ Err (number, fault)
    → s ≢ status.ReadFault → (s ≡ status.BadImage) ⊎ (s ≡ status.Memory)
refused_by run Done s bytes number fault is (text, judged, written) e bad calm = let good = told_answer run bytes (Ok text) judged e in cc
refused_by run Usage s bytes number fault is h e bad calm = absurd (has_command run.shelf.before run.words bytes e h.0)
refused_by run (ReadFault file) s bytes number fault is h e bad calm = absurd (calm (sym is))
refused_by run (BadImage file other) s bytes number fault is h e bad calm = inl (sym is)
refused_by run WriteFault s bytes number fault is (text, judged, cut) e bad calm = let good = told_answer run bytes (Ok text) judged e in cc
refused_by run Memory s bytes number fault is h e bad calm = inr (sym is)

refused : (run : Run) (err : Written) (s : Status) → EndsWith run err s → (bytes : List (List ℕ)) (number : ℕ) (fault : ImageFault)
    → told_bytes run.shelf.before run.words ≡ Some bytes → told_names run.words bytes ≡ Err (number, fault)
    → s ≢ status.ReadFault → (s ≡ status.BadImage) ⊎ (s ≡ status.Memory)
refused run err s ends bytes number fault = refused_by run ends.end s bytes number fault ends.is ends.happened

-- Files that pass have their text.
done_by : (run : Run) (end : End) (s : Status) (bytes : List (List ℕ)) → status_of end ≡ s → Happened run end
    → told_bytes run.shelf.before run.words ≡ Some bytes → s ≡ status.Done
    → (text : List ℕ) × (told_names run.words bytes ≡ Ok text) × (run.out.now ≡ then_bytes run.out.before text)
done_by run Done s bytes is (text, judged, written) e d = (text, told_answer run bytes (Ok text) judged e, written.content)
done_by run Usage s bytes is h e d = cc
done_by run (ReadFault file) s bytes is h e d = cc
done_by run (BadImage file fault) s bytes is h e d = cc
done_by run WriteFault s bytes is h e d = cc
done_by run Memory s bytes is h e d = cc

done : (run : Run) (err : Written) (s : Status) → EndsWith run err s → (bytes : List (List ℕ)) → told_bytes run.shelf.before run.words ≡ Some bytes
    → s ≡ status.Done → (text : List ℕ) × (told_names run.words bytes ≡ Ok text) × (run.out.now ≡ then_bytes run.out.before text)
done run err s ends bytes = done_by run ends.end s bytes ends.is ends.happened

complete_by : (run : Run) (end : End) (s : Status) (bytes : List (List ℕ)) (text : List ℕ) → status_of end ≡ s → Happened run end
    → told_bytes run.shelf.before run.words ≡ Some bytes → told_names run.words bytes ≡ Ok text
    → s ≢ status.ReadFault → s ≢ status.WriteFault
    → (s ≡ status.Done) ⊎ (s ≡ status.Memory)
complete_by run Done s bytes text is h e good calm quiet = inl (sym is)
complete_by run Usage s bytes text is h e good calm quiet = absurd (has_command run.shelf.before run.words bytes e h.0)
complete_by run (ReadFault file) s bytes text is h e good calm quiet = absurd (calm (sym is))
complete_by run (BadImage file fault) s bytes text is h e good calm quiet = let bad = told_answer run bytes (Err (h.0.number, fault)) h.0.judged e in cc
complete_by run WriteFault s bytes text is (t, judged, cut) e good calm quiet = absurd (quiet (sym is))
complete_by run Memory s bytes text is h e good calm quiet = inr (sym is)

complete : (run : Run) (err : Written) (s : Status) → EndsWith run err s → (bytes : List (List ℕ)) (text : List ℕ)
    → told_bytes run.shelf.before run.words ≡ Some bytes → told_names run.words bytes ≡ Ok text
    → s ≢ status.ReadFault → s ≢ status.WriteFault
    → (s ≡ status.Done) ⊎ (s ≡ status.Memory)
complete run err s ends bytes text = complete_by run ends.end s bytes text ends.is ends.happened

-- Memory ran out behind what takes none, where all files were given.
counted_few : (n : ℕ) → counted n ≤ n + 1
counted_few n = grind arith

times_few : (k n : ℕ) → counted_times k n ≤ n + k
times_few zero n = omega arith
times_few (suc k) n = let one = counted_few (counted_times k n) in let rest = times_few k n in omega arith

memory_by : (run : Run) (end : End) (s : Status) (bytes : List (List ℕ)) → status_of end ≡ s → Happened run end
    → told_bytes run.shelf.before run.words ≡ Some bytes → s ≡ status.Memory
    → run.shelf.given_now ≡ run.shelf.given_before + length (the_files run.words) → RunsOut bytes
memory_by run Done s bytes is h e m all = cc
memory_by run Usage s bytes is h e m all = cc
memory_by run (ReadFault file) s bytes is h e m all = cc
memory_by run (BadImage file fault) s bytes is h e m all = cc
memory_by run WriteFault s bytes is h e m all = cc
memory_by run Memory s bytes is (short, untouched) e m all =
    elim short.cause [
      | inl few ↦
          let count = ap length (files_of run.words short.files short.named) in
          let most = times_few few.given run.shelf.given_before in
          absurd (omega (arith, few.within, few.calm.gave, count, most, all))
      | inr cut ↦ subst RunsOut (told run.shelf.before run.words short.files cut.bytes bytes short.named cut.told e) cut.place
    ]

memory : (run : Run) (err : Written) (s : Status) → EndsWith run err s → (bytes : List (List ℕ))
    → told_bytes run.shelf.before run.words ≡ Some bytes → s ≡ status.Memory
    → run.shelf.given_now ≡ run.shelf.given_before + length (the_files run.words) → RunsOut bytes
memory run err s ends bytes = memory_by run ends.end s bytes ends.is ends.happened

first_of_them : (bytes : List (List ℕ)) (file : List ℕ) → RunsOut bytes → slice_get bytes 0 ≡ Some file → IsOk (tables_of file)
first_of_them bytes file (inl out) e = first_placed bytes file out e
first_of_them bytes file (inr passed) e = first_passed bytes file passed e

-- all of it
pub answers : (run : Run) (err : Written) (s : Status) → EndsWith run err s → Answers run err s
answers run err s ends = record {
  ends = ends;
  usage = usage run err s ends;
  read_faults = read_faults run err s ends;
  write_faults = write_faults run err s ends;
  asked = asked run err s ends;
  fetched = fetched run err s ends;
  unread = unread run err s ends;
  bad_image = bad_image run err s ends;
  refused = refused run err s ends;
  done = done run err s ends;
  complete = complete run err s ends;
  memory = memory run err s ends;
  placed = λ bytes file e first is all. first_of_them bytes file (memory run err s ends bytes e is all) first;
  out_untouched = out_untouched run err s ends;
  err_untouched = err_untouched run err s ends;
  shelf_kept = ends.kept;
  counts = (
    (let more = reads_up s run.shelf.faults_before in let now = read_faults run err s ends in omega (arith, more, now)),
    (let more = writes_up s run.out.faults_before in let now = write_faults run err s ends in omega (arith, more, now)),
    tells_up err ends.end ends.line,
  );
  line = line run err s ends;
}
