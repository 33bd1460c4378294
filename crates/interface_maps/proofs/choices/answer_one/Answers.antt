use Rattle.std.proofs.Common.{arith}
use Rattle.type_pool.proofs.JobLemmas.{at-grown, grown_length}
use Rattle.interface_maps.proofs.choices.answer_one.Goals as goal

pub returns-clause-found : goal.returns-clause-found
returns-clause-found c =
    let p0 = c.args.pool.now in
    let p1 = c.choices_of.new.pool in
    let made = c.in_ok-choices.ensures in
    let l = grown_length p0 p1 made.grows in
    record {
      tree = record { within = omega (arith, l, c.requires.tree); is = at-grown p0 p1 made.grows c.args.tree c.requires.tree };
      choices = made.choices;
    }
