use Rattle.interface_maps.proofs.PublicLemmas.{finds}
use Rattle.interface_maps.proofs.publics.find_public.Goals as goal

pub returns : goal.returns
returns c = finds c.args.pool.now c.each_once.ensures c.args.set.now c.each_once-2.ensures c.args.numbers.now c.args.key c.noted.result c.noted.ensures
