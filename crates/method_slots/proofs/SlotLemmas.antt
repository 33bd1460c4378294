-- Slots of a parent stay.
use Rattle.std.proofs.Common.{◌≡◌, ℕ, suc, cond, List, [], map, filter, ap, ◌∙◌}
use Rattle.std.specs.Option.{option_map_or}
use Rattle.type_tree.specs.declared.definition.Method.{Method}
use Rattle.type_tree.specs.Context.{arguments}
use Rattle.type_tree.specs.World.{Facts}
use Rattle.method_slots.specs.Chains.{inherited, handed_on, openers_at, openers}
use Rattle.method_slots.specs.Numbers as numbers
use Rattle.method_slots.specs.Opens.{Open, open_of, put_open}
use Rattle.method_slots.specs.Slots.{takes_slot, has_newslot, matches, own_methods, own_opened}
use Rattle.method_slots.specs.SlotLaws.{KeepsSlots}

pub keeps_slots : (w : Facts) (k n : ℕ) → KeepsSlots w k n
unfolding openers
keeps_slots w k n d t p here class extends is =
    let given : List Open = map (put_open (arguments t)) (openers k w p) in
    let parent : inherited (openers k w) d ≡ given =
    ap (handed_on put_open (openers k w)) extends ∙ ap (λ h. map (put_open (arguments t)) (option_map_or (openers k w) h [])) is in
    let ms : List Method = own_methods w d in
    let all : openers (suc k) w n ≡ own_opened given ms =
    ap (openers_at (openers k w) w) here ∙ ap (λ b. cond b [] (own_opened (inherited (openers k w) d) ms)) class ∙ ap (λ l. own_opened l ms) parent in
    (map open_of (filter (numbers.opens matches open_of takes_slot has_newslot given) ms), all)
