use Rattle.std.proofs.Common.{map, sym, subst, arith}
use Rattle.std.specs.Prelude.{string_bytes}
use Rattle.std.proofs.lemmas.List.{length-map}
use Rattle.world_build.specs.Roots.{HasRoots}
use Rattle.world_build.proofs.RootsGathered.{made_has, made_whole}
use Rattle.world_build.proofs.roots.with_roots.Goals as goal

pub new-requires : goal.new-requires
new-requires c =
    let words = map string_bytes c.args.words.now in
    let count = length-map c.args.words.now string_bytes in
    made_whole c.args.world c.into_parts-parts.result c.args.form words c.in_ok-found.found c.append.new.self c.append-2.new.self c.into_parts-parts.ensures.value
    c.in_ok-found.ensures.found c.in_ok-append.ensures c.in_ok-append-2.ensures c.into_parts-parts.ensures.whole (omega (arith, count, c.requires.few))

pub returns-clause-world : goal.returns-clause-world
returns-clause-world c =
    let words = map string_bytes c.args.words.now in
    subst (HasRoots c.args.world c.args.form words) (sym c.new.ensures)
    (made_has c.args.world c.into_parts-parts.result c.args.form words c.in_ok-found.found c.append.new.self c.append-2.new.self c.into_parts-parts.ensures.value
    c.in_ok-found.ensures.found c.in_ok-append.ensures c.in_ok-append-2.ensures)
