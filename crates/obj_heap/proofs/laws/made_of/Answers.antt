use Rattle.obj_heap.specs.Objects.{array_size, array_refs, blank, string_object}
use Rattle.obj_heap.specs.Calls.{new_object, new_array, new_string}
use Rattle.obj_heap.proofs.Contents.{blank_reads, unit_reads}
use Rattle.obj_heap.proofs.Steps.{added_made}
use Rattle.obj_heap.proofs.laws.made_of.Goals as goal

pub returns-clause-object : goal.returns-clause-object
unfolding new_object
returns-clause-object g c = λ h size refs s t r offset width made. rw (added_made (blank h 0 size refs) s t r made).found (blank_reads h 0 size offset width refs)

pub returns-clause-array : goal.returns-clause-array
unfolding new_array
returns-clause-array g c = λ h element n refs s t r offset width made.
    rw (added_made (blank h n (array_size element n) (array_refs refs n)) s t r made).found (blank_reads h n (array_size element n) offset width (array_refs refs n))

pub returns-clause-string : goal.returns-clause-string
unfolding new_string
returns-clause-string g c = λ h units s t r k u made stands small. rw (added_made (string_object h units) s t r made).found (unit_reads h units k u stands small)
