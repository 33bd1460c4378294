use Rattle.std.proofs.Common.{ℕ, ◌+◌, ◌*◌, ◌<◌, ◌≤◌, ◌++◌, false, length, replicate, refl, arith}
use Rattle.std.proofs.lemmas.List.{length-replicate, length_push}
use Rattle.std.proofs.lemmas.Result.{err_from_is_err_and}
use Rattle.std.specs.List.{repeat}
use Rattle.obj_heap.specs.Objects.{filled, blank}
use Rattle.obj_heap.proofs.Added.{added_is, added_laid, refused, told, not_full, total_seen, few_seen}
use Rattle.obj_heap.proofs.Repeats.{length-filled, length_marks}
use Rattle.obj_heap.proofs.heap.Heap.add.Goals as goal

pub words_of-words-requires : goal.words_of-words-requires
words_of-words-requires g c = c.requires.fits

pub begin-requires-clause-limit : goal.begin-requires-clause-limit
begin-requires-clause-limit g c = c.self.invariant.limit

pub begin-requires-clause-eights : goal.begin-requires-clause-eights
begin-requires-clause-eights g c = c.self.invariant.eights

pub invariant_of-self : goal.invariant_of-self
invariant_of-self g c = rw (rw c.in_err-begin.was at c.begin.ensures.kept, c.begin.ensures.bytes, c.begin.ensures.refs) c.self.invariant

pub returns-in_err-begin-clause-made : goal.returns-in_err-begin-clause-made
unfolding blank
returns-in_err-begin-clause-made g c =
    let p = err_from_is_err_and c.from_residual.result c.from_residual.ensures.1 in
    rw (p.1, p.2, ← c.words_of-words.ensures) (refused c.self.inside.made.items c.self.inside.bytes.items c.self.inside.refs.items c.args.self.now c.self.view_is c.self.invariant c.words_of-words.result (record { of = c.args.of; count = c.args.count; bytes = (replicate (8 * c.words_of-words.result) 0); refs = (filled c.words_of-words.result (replicate c.args.lead false ++ repeat c.args.times c.args.element.now)) }) (length-replicate {A = ℕ} (8 * c.words_of-words.result) 0) c.begin.result _ c.in_err-begin.was c.begin.ensures.full.0 _)

pub returns-in_err-begin-clause-full : goal.returns-in_err-begin-clause-full
returns-in_err-begin-clause-full g c =
    let p = err_from_is_err_and c.from_residual.result c.from_residual.ensures.1 in
    rw (← c.words_of-words.ensures, total_seen c.self.inside.made.items c.self.inside.bytes.items c.self.inside.refs.items c.args.self.now c.self.view_is c.self.invariant) (told _ c.begin.result _ c.in_err-begin.was c.begin.ensures.full _ (rw p.2 at p.1))

pub returns-in_err-begin-clause-kept : goal.returns-in_err-begin-clause-kept
returns-in_err-begin-clause-kept g c =
    let p = err_from_is_err_and c.from_residual.result c.from_residual.ensures.1 in
    rw (p.1, rw c.in_err-begin.was at c.begin.ensures.kept, c.begin.ensures.bytes, c.begin.ensures.refs) c.self.view_is

pub overflow_mul-words : goal.overflow_mul-words
overflow_mul-words g c = omega (arith, c.words_of-words.ensures, c.requires.fits)

pub push_zeros-requires : goal.push_zeros-requires
push_zeros-requires g c = rw c.in_ok-begin.was at c.begin.ensures.room

pub push_refs-requires-clause-room : goal.push_refs-requires-clause-room
push_refs-requires-clause-room g c = rw c.in_ok-begin.was at c.begin.ensures.marks

pub push_refs-requires-clause-inside : goal.push_refs-requires-clause-inside
push_refs-requires-clause-inside g c = omega (arith, c.requires.refs, c.words_of-words.ensures)

pub overflow_cast-result : goal.overflow_cast-result
overflow_cast-result g c =
    let made = rw c.in_ok-begin.was at c.begin.ensures.made in
    rw (c.as_slice.ensures.value, made) (omega (arith, few_seen c.self.inside.made.items c.self.inside.bytes.items c.self.inside.refs.items c.args.self.now c.self.view_is c.self.invariant, length_push c.self.inside.made.items (record { of = c.args.of; count = c.args.count; first = length c.self.inside.refs.items; words = c.words_of-words.result })))

pub invariant_of-self-2 : goal.invariant_of-self-2
invariant_of-self-2 g c =
    let some : 0 < c.words_of-words.result = omega (arith, c.words_of-words.ensures, c.requires.some) in
    let limit = not_full _ c.begin.result _ c.in_ok-begin.was c.begin.ensures.full.1 in
    let marks : length (replicate c.args.lead false ++ repeat c.args.times c.args.element.now) ≤ c.words_of-words.result = rw (length_marks c.args.lead c.args.times c.args.element.now) (omega (arith, c.words_of-words.ensures, c.requires.refs)) in
    let lr = length-filled c.words_of-words.result (replicate c.args.lead false ++ repeat c.args.times c.args.element.now) marks in
    let lb = length-replicate {A = ℕ} (8 * c.words_of-words.result) 0 in
    let room : length c.self.inside.bytes.items + length (replicate (8 * c.words_of-words.result) 0) ≤ 16777216 = omega (arith, limit, lb) in
    let made = rw c.in_ok-begin.was at c.begin.ensures.made in
    rw (made, c.push_zeros.ensures.items, c.begin.ensures.bytes, c.push_refs.ensures, c.begin.ensures.refs)
    (added_laid c.self.inside.made.items c.self.inside.bytes.items c.self.inside.refs.items c.args.self.now c.self.view_is c.self.invariant (record { of = c.args.of; count = c.args.count; first = length c.self.inside.refs.items; words = c.words_of-words.result }) (replicate (8 * c.words_of-words.result) 0) (filled c.words_of-words.result (replicate c.args.lead false ++ repeat c.args.times c.args.element.now)) refl some lb lr room)

pub returns-clause-made : goal.returns-clause-made
unfolding blank
returns-clause-made g c =
    let some : 0 < c.words_of-words.result = omega (arith, c.words_of-words.ensures, c.requires.some) in
    let limit = not_full _ c.begin.result _ c.in_ok-begin.was c.begin.ensures.full.1 in
    let marks : length (replicate c.args.lead false ++ repeat c.args.times c.args.element.now) ≤ c.words_of-words.result = rw (length_marks c.args.lead c.args.times c.args.element.now) (omega (arith, c.words_of-words.ensures, c.requires.refs)) in
    let lr = length-filled c.words_of-words.result (replicate c.args.lead false ++ repeat c.args.times c.args.element.now) marks in
    let lb = length-replicate {A = ℕ} (8 * c.words_of-words.result) 0 in
    let room : length c.self.inside.bytes.items + length (replicate (8 * c.words_of-words.result) 0) ≤ 16777216 = omega (arith, limit, lb) in
    let made = rw c.in_ok-begin.was at c.begin.ensures.made in
    rw (← c.words_of-words.ensures, c.as_slice.ensures.value, made, c.push_zeros.ensures.items, c.begin.ensures.bytes, c.push_refs.ensures, c.begin.ensures.refs, length_push c.self.inside.made.items (record { of = c.args.of; count = c.args.count; first = length c.self.inside.refs.items; words = c.words_of-words.result }))
    (added_is c.self.inside.made.items c.self.inside.bytes.items c.self.inside.refs.items c.args.self.now c.self.view_is c.self.invariant (record { of = c.args.of; count = c.args.count; first = length c.self.inside.refs.items; words = c.words_of-words.result }) (replicate (8 * c.words_of-words.result) 0) (filled c.words_of-words.result (replicate c.args.lead false ++ repeat c.args.times c.args.element.now)) refl some lb lr room)

pub returns-clause-full : goal.returns-clause-full
returns-clause-full g c =
    let limit = not_full _ c.begin.result _ c.in_ok-begin.was c.begin.ensures.full.1 in
    (λ e. absurd (cc), λ h. absurd (omega (arith, h, limit, total_seen c.self.inside.made.items c.self.inside.bytes.items c.self.inside.refs.items c.args.self.now c.self.view_is c.self.invariant, c.words_of-words.ensures)))
