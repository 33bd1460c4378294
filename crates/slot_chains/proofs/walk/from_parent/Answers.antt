use Rattle.std.proofs.Common.{◌≡◌, get_or, ap, ◌∙◌, sym, subst}
use Rattle.std.proofs.lemmas.Option.{unwrap_or-slice_get}
use Rattle.std.specs.Prelude.{unwrap_or}
use Rattle.slot_chains.specs.declared.levels.Level.{Level}
use Rattle.slot_chains.specs.Levels.{IsLevel}
use Rattle.slot_chains.proofs.LevelHanding.{handed-parent}
use Rattle.slot_chains.proofs.ShortLemmas.{three_ok}
use Rattle.slot_chains.proofs.walk.from_parent.Goals as goal

pub returns-in-Some-clause-handed : goal.returns-in-Some-clause-handed
returns-in-Some-clause-handed c =
    let w = c.args.world.now in
    let above = c.requires.above in
    let ts = c.args.pool.now in
    let os = c.args.notes.now.set in
    let levels = c.args.notes.now.levels in
    let place = c.args.place in
    let level : Level = c.index-as_slice-place.result in
    let is : level ≡ above.2.level = c.index-as_slice-place.is ∙ ap (λ l. get_or l place level) c.as_slice.ensures ∙ sym (unwrap_or-slice_get levels place level) ∙ ap (λ o. unwrap_or o level) above.2.here in
    let known : IsLevel w ts os above.0 level = subst (IsLevel w ts os above.0) (sym is) above.2.is in
    three_ok c.hand_down.result c.hand_down.ensures.chain c.hand_down.ensures.keys c.hand_down.ensures.entries
    (λ h trees keys entries. handed-parent w ts c.hand_down.new.pool os c.hand_down.new.set c.args.id.0 above.0 c.args.def.now c.in-Some.parent level h c.requires.def c.in-Some.is above.1 known trees keys entries)
