use Rattle.std.proofs.Common.{◌≡◌, ◌<◌, ◌+◌, ℕ, ap, ◌∙◌, arith, get_or, length}
use Rattle.type_names.specs.TypeKeys.{keys_of}
use Rattle.type_names.proofs.KeyLists.{keys_more}
use Rattle.type_names.proofs.definitions_by_name.keys.Goals as goal

pub loop-place-preserved : goal.loop-place-preserved
loop-place-preserved c =
    let around = λ (i : ℕ). get_or c.args.around.now (i + 1) 0 in
    let columns = c.args.columns.now in
    let there : c.loop-place.place < length columns.namespaces = omega (arith, c.requires.namespaces) in
    let here : c.loop-place.place < length columns.names = omega (arith, c.requires.names) in
    keys_more around columns c.loop-place.place c.as_slice.result.now c.as_slice-in-loop-place.result.now _ _ c.loop-place.keys c.push.new.self
    c.loop-place.invariant c.as_slice.ensures c.as_slice-in-loop-place.ensures there here c.in_ok-push.ensures.ok

pub returns : goal.returns
returns c =
    let all : c.loop-place.place ≡ c.args.count = omega arith in
    c.loop-place.invariant ∙ ap (keys_of (λ i. get_or c.args.around.now (i + 1) 0) c.args.columns.now) all
