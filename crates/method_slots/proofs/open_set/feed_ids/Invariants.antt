use Rattle.std.proofs.Common.{◌≡◌, fold, drop}
use Rattle.type_pool.specs.Fed.{ids_input}
use Rattle.method_slots.proofs.open_set.feed_ids.Given as goal

abbrev pub invariant-loop-id : goal.invariant-loop-id
invariant-loop-id g l = fold g.H.Hasher.write l.state (ids_input (drop l.id-index l.ids)) ≡ fold g.H.Hasher.write l.fn.state (ids_input l.ids)
