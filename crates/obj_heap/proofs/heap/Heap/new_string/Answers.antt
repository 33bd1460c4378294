use Rattle.std.proofs.Common.{ℕ, ◌≡◌, ◌+◌, ◌-◌, ◌*◌, ◌<◌, ◌≤◌, ◌++◌, false, length, replicate, refl, arith, length-append}
use Rattle.std.proofs.lemmas.List.{length-replicate, length_push}
use Rattle.std.proofs.lemmas.Result.{err_from_is_err_and}
use Rattle.std.specs.List.{flat_map}
use Rattle.byteorder.specs.Endian.{little_bytes}
use Rattle.obj_heap.specs.Objects.{string_object}
use Rattle.obj_heap.specs.Calls.{new_string}
use Rattle.obj_heap.proofs.Added.{added_is, added_laid, refused, told, not_full, total_seen, few_seen}
use Rattle.obj_heap.proofs.Repeats.{string_by, length_units}
use Rattle.obj_heap.proofs.Strings.{too_long}
use Rattle.obj_heap.proofs.heap.Heap.new_string.Goals as goal

pub returns-then-units-gt-HEAP_LIMIT-clause-made : goal.returns-then-units-gt-HEAP_LIMIT-clause-made
returns-then-units-gt-HEAP_LIMIT-clause-made g c = too_long c.args.handle c.args.units.now c.args.self.now c.if-units-gt-HEAP_LIMIT.true

pub returns-then-units-gt-HEAP_LIMIT-clause-full : goal.returns-then-units-gt-HEAP_LIMIT-clause-full
returns-then-units-gt-HEAP_LIMIT-clause-full g c = (λ e. omega (arith, c.if-units-gt-HEAP_LIMIT.true), λ h. refl)

pub returns-then-units-gt-HEAP_LIMIT-clause-kept : goal.returns-then-units-gt-HEAP_LIMIT-clause-kept
returns-then-units-gt-HEAP_LIMIT-clause-kept g c = refl

pub overflow_mul-units : goal.overflow_mul-units
overflow_mul-units g c = omega arith

pub overflow_add-units : goal.overflow_add-units
overflow_add-units g c = omega arith

pub words_of-words-requires : goal.words_of-words-requires
words_of-words-requires g c = omega arith

pub overflow_cast-count : goal.overflow_cast-count
overflow_cast-count g c = omega arith

pub begin-requires-clause-limit : goal.begin-requires-clause-limit
begin-requires-clause-limit g c = c.self.invariant.limit

pub begin-requires-clause-eights : goal.begin-requires-clause-eights
begin-requires-clause-eights g c = c.self.invariant.eights

pub invariant_of-self : goal.invariant_of-self
invariant_of-self g c = rw (rw c.in_err-begin.was at c.begin.ensures.kept, c.begin.ensures.bytes, c.begin.ensures.refs) c.self.invariant

pub returns-in_err-begin-clause-made : goal.returns-in_err-begin-clause-made
unfolding new_string string_object
returns-in_err-begin-clause-made g c =
    let p = err_from_is_err_and c.from_residual.result c.from_residual.ensures.1 in
    let rest : 8 * c.words_of-words.result - (16 + 2 * length c.args.units.now) ≡ 8 * c.words_of-words.result - 16 - 2 * length c.args.units.now = omega arith in
    let all : c.words_of-words.result - 0 ≡ c.words_of-words.result = omega arith in
    rw (p.1, p.2, ← c.words_of-words.ensures, rest, all) (refused c.self.inside.made.items c.self.inside.bytes.items c.self.inside.refs.items c.args.self.now c.self.view_is c.self.invariant c.words_of-words.result (record { of = c.args.handle; count = length c.args.units.now; bytes = ((replicate 16 0 ++ flat_map (little_bytes 2) c.args.units.now) ++ replicate (8 * c.words_of-words.result - 16 - 2 * length c.args.units.now) 0); refs = (replicate c.words_of-words.result false) }) (omega (arith, length-append (replicate 16 0 ++ flat_map (little_bytes 2) c.args.units.now) (replicate (8 * c.words_of-words.result - 16 - 2 * length c.args.units.now) 0), length-append (replicate 16 0) (flat_map (little_bytes 2) c.args.units.now), length_units c.args.units.now, length-replicate {A = ℕ} (8 * c.words_of-words.result - 16 - 2 * length c.args.units.now) 0, c.words_of-words.ensures)) c.begin.result _ c.in_err-begin.was c.begin.ensures.full.0 _)

pub returns-in_err-begin-clause-full : goal.returns-in_err-begin-clause-full
returns-in_err-begin-clause-full g c =
    let p = err_from_is_err_and c.from_residual.result c.from_residual.ensures.1 in
    rw (← c.words_of-words.ensures, total_seen c.self.inside.made.items c.self.inside.bytes.items c.self.inside.refs.items c.args.self.now c.self.view_is c.self.invariant) (told _ c.begin.result _ c.in_err-begin.was c.begin.ensures.full _ (rw p.2 at p.1))

pub returns-in_err-begin-clause-kept : goal.returns-in_err-begin-clause-kept
returns-in_err-begin-clause-kept g c =
    let p = err_from_is_err_and c.from_residual.result c.from_residual.ensures.1 in
    rw (p.1, rw c.in_err-begin.was at c.begin.ensures.kept, c.begin.ensures.bytes, c.begin.ensures.refs) c.self.view_is

pub push_zeros-requires : goal.push_zeros-requires
push_zeros-requires g c = let room = rw c.in_ok-begin.was at c.begin.ensures.room in omega (arith, room, c.words_of-words.ensures)

pub push_units-requires : goal.push_units-requires
push_units-requires g c = let room = rw c.in_ok-begin.was at c.begin.ensures.room in omega (arith, room, c.words_of-words.ensures, c.push_zeros.ensures.len, c.push_zeros.ensures.capacity)

pub overflow_mul-words : goal.overflow_mul-words
overflow_mul-words g c = omega (arith, c.words_of-words.ensures)

pub overflow_sub-words : goal.overflow_sub-words
overflow_sub-words g c = omega (arith, c.words_of-words.ensures)

pub overflow_mul-units-2 : goal.overflow_mul-units-2
overflow_mul-units-2 g c = omega arith

pub overflow_sub-words-2 : goal.overflow_sub-words-2
overflow_sub-words-2 g c = omega (arith, c.words_of-words.ensures)

pub push_zeros-requires-2 : goal.push_zeros-requires-2
push_zeros-requires-2 g c = let room = rw c.in_ok-begin.was at c.begin.ensures.room in omega (arith, room, c.words_of-words.ensures, c.push_zeros.ensures.len, c.push_zeros.ensures.capacity, c.push_units.ensures.len, c.push_units.ensures.capacity)

pub push_numbers-requires : goal.push_numbers-requires
push_numbers-requires g c = rw c.in_ok-begin.was at c.begin.ensures.marks

pub overflow_cast-result : goal.overflow_cast-result
overflow_cast-result g c =
    let made = rw c.in_ok-begin.was at c.begin.ensures.made in
    rw (c.as_slice.ensures.value, made) (omega (arith, few_seen c.self.inside.made.items c.self.inside.bytes.items c.self.inside.refs.items c.args.self.now c.self.view_is c.self.invariant, length_push c.self.inside.made.items (record { of = c.args.handle; count = length c.args.units.now; first = length c.self.inside.refs.items; words = c.words_of-words.result })))

pub invariant_of-self-2 : goal.invariant_of-self-2
invariant_of-self-2 g c =
    let some : 0 < c.words_of-words.result = omega (arith, c.words_of-words.ensures) in
    let limit = not_full _ c.begin.result _ c.in_ok-begin.was c.begin.ensures.full.1 in
    let lr = length-replicate c.words_of-words.result false in
    let lb : length ((replicate 16 0 ++ flat_map (little_bytes 2) c.args.units.now) ++ replicate (8 * c.words_of-words.result - 16 - 2 * length c.args.units.now) 0) ≡ 8 * c.words_of-words.result = (omega (arith, length-append (replicate 16 0 ++ flat_map (little_bytes 2) c.args.units.now) (replicate (8 * c.words_of-words.result - 16 - 2 * length c.args.units.now) 0), length-append (replicate 16 0) (flat_map (little_bytes 2) c.args.units.now), length_units c.args.units.now, length-replicate {A = ℕ} (8 * c.words_of-words.result - 16 - 2 * length c.args.units.now) 0, c.words_of-words.ensures)) in
    let room : length c.self.inside.bytes.items + length ((replicate 16 0 ++ flat_map (little_bytes 2) c.args.units.now) ++ replicate (8 * c.words_of-words.result - 16 - 2 * length c.args.units.now) 0) ≤ 16777216 = omega (arith, limit, lb) in
    let made = rw c.in_ok-begin.was at c.begin.ensures.made in
    rw (made, c.push_zeros-2.ensures.items, c.push_units.ensures.items, c.push_zeros.ensures.items, c.begin.ensures.bytes, c.push_numbers.ensures.items, c.begin.ensures.refs, string_by)
    (added_laid c.self.inside.made.items c.self.inside.bytes.items c.self.inside.refs.items c.args.self.now c.self.view_is c.self.invariant (record { of = c.args.handle; count = length c.args.units.now; first = length c.self.inside.refs.items; words = c.words_of-words.result }) ((replicate 16 0 ++ flat_map (little_bytes 2) c.args.units.now) ++ replicate (8 * c.words_of-words.result - 16 - 2 * length c.args.units.now) 0) (replicate c.words_of-words.result false) refl some lb lr room)

pub returns-clause-made : goal.returns-clause-made
unfolding new_string string_object
returns-clause-made g c =
    let some : 0 < c.words_of-words.result = omega (arith, c.words_of-words.ensures) in
    let limit = not_full _ c.begin.result _ c.in_ok-begin.was c.begin.ensures.full.1 in
    let lr = length-replicate c.words_of-words.result false in
    let lb : length ((replicate 16 0 ++ flat_map (little_bytes 2) c.args.units.now) ++ replicate (8 * c.words_of-words.result - 16 - 2 * length c.args.units.now) 0) ≡ 8 * c.words_of-words.result = (omega (arith, length-append (replicate 16 0 ++ flat_map (little_bytes 2) c.args.units.now) (replicate (8 * c.words_of-words.result - 16 - 2 * length c.args.units.now) 0), length-append (replicate 16 0) (flat_map (little_bytes 2) c.args.units.now), length_units c.args.units.now, length-replicate {A = ℕ} (8 * c.words_of-words.result - 16 - 2 * length c.args.units.now) 0, c.words_of-words.ensures)) in
    let room : length c.self.inside.bytes.items + length ((replicate 16 0 ++ flat_map (little_bytes 2) c.args.units.now) ++ replicate (8 * c.words_of-words.result - 16 - 2 * length c.args.units.now) 0) ≤ 16777216 = omega (arith, limit, lb) in
    let made = rw c.in_ok-begin.was at c.begin.ensures.made in
    let rest : 8 * c.words_of-words.result - (16 + 2 * length c.args.units.now) ≡ 8 * c.words_of-words.result - 16 - 2 * length c.args.units.now = omega arith in
    let all : c.words_of-words.result - 0 ≡ c.words_of-words.result = omega arith in
    rw (← c.words_of-words.ensures, rest, all, c.as_slice.ensures.value, made, c.push_zeros-2.ensures.items, c.push_units.ensures.items, c.push_zeros.ensures.items, c.begin.ensures.bytes, c.push_numbers.ensures.items, c.begin.ensures.refs, string_by, length_push c.self.inside.made.items (record { of = c.args.handle; count = length c.args.units.now; first = length c.self.inside.refs.items; words = c.words_of-words.result }))
    (added_is c.self.inside.made.items c.self.inside.bytes.items c.self.inside.refs.items c.args.self.now c.self.view_is c.self.invariant (record { of = c.args.handle; count = length c.args.units.now; first = length c.self.inside.refs.items; words = c.words_of-words.result }) ((replicate 16 0 ++ flat_map (little_bytes 2) c.args.units.now) ++ replicate (8 * c.words_of-words.result - 16 - 2 * length c.args.units.now) 0) (replicate c.words_of-words.result false) refl some lb lr room)

pub returns-clause-full : goal.returns-clause-full
returns-clause-full g c =
    let limit = not_full _ c.begin.result _ c.in_ok-begin.was c.begin.ensures.full.1 in
    (λ e. absurd (cc), λ h. absurd (omega (arith, h, limit, total_seen c.self.inside.made.items c.self.inside.bytes.items c.self.inside.refs.items c.args.self.now c.self.view_is c.self.invariant, c.words_of-words.ensures)))
