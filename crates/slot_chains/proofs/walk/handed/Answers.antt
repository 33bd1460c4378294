use Rattle.std.proofs.Common.{◌≡◌, [], None, sym, subst}
use Rattle.slot_chains.specs.Levels.{IsAbove, IsHanded}
use Rattle.slot_chains.proofs.LevelHanding.{handed-nothing}
use Rattle.slot_chains.proofs.walk.handed.Goals as goal

pub returns-in-None-clause-handed : goal.returns-in-None-clause-handed
returns-in-None-clause-handed c =
    let w = c.args.world.now in
    let ts = c.args.pool.now in
    let os = c.args.notes.now.set in
    let n = c.args.id.0 in
    let d = c.args.def.now in
    let none : IsAbove w ts c.args.notes.now d None = subst (IsAbove w ts c.args.notes.now d) c.in-None.is c.requires.above in
    let all = handed-nothing w ts os n d c.requires.def none in
    let made = c.nothing.ensures in
    let same : c.nothing.result ≡ record { chain = []; keys = []; entries = [] } = λ i. record { chain = made.chain i; keys = made.keys i; entries = made.entries i } in
    subst (IsHanded w ts os n d) (sym same) all
