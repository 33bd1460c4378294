use Rattle.obj_heap.specs.Objects.{blank, string_object, array_size, array_refs}
use Rattle.obj_heap.specs.Calls.{new_object, new_array, new_string}
use Rattle.obj_heap.proofs.Steps.{added_made}
use Rattle.obj_heap.proofs.laws.one_more.Goals as goal

pub returns-clause-object : goal.returns-clause-object
unfolding new_object
returns-clause-object g c = λ h size refs s t r made. added_made (blank h 0 size refs) s t r made

pub returns-clause-array : goal.returns-clause-array
unfolding new_array
returns-clause-array g c = λ h element n refs s t r made. added_made (blank h n (array_size element n) (array_refs refs n)) s t r made

pub returns-clause-string : goal.returns-clause-string
unfolding new_string
returns-clause-string g c = λ h units s t r made. added_made (string_object h units) s t r made
