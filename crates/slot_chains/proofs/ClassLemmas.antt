-- What stands in the slots of a class.
use Rattle.std.proofs.Common.{◌≡◌, ℕ, suc, ◌+◌, ◌<◌, false, List, [], ◌++◌, length, map, filter, cond, Option, None, Some, refl, ap, ap₂, ◌∙◌, sym, arith, length-append}
use Rattle.std.proofs.lemmas.List.{length-map}
use Rattle.std.proofs.lemmas.List.FromFn.{length-map-range_with_len}
use Rattle.std.specs.List.{filter_map, range_with_len}
use Rattle.std.specs.Option.{option_map_or}
use Rattle.type_tree.specs.declared.definition.Def.{Def}
use Rattle.type_tree.specs.declared.definition.Method.{Method}
use Rattle.type_tree.specs.declared.tree.Ty.{Ty}
use Rattle.type_tree.specs.Context.{arguments}
use Rattle.type_tree.specs.Kinds.{head, head_of}
use Rattle.type_tree.specs.World.{Facts}
use Rattle.method_slots.specs.declared.entries.SlotEntry.{SlotEntry}
use Rattle.method_slots.specs.Chains as chains
use Rattle.method_slots.specs.Chains.{longest_chain, inherited, above_slots, standing, takes, takes_of, takes_at, own_takes, row_take, handed_on}
use Rattle.method_slots.specs.Numbers as numbers
use Rattle.method_slots.specs.Opens.{Open, open_of, put_open}
use Rattle.method_slots.specs.Slots.{is_interface, own_methods, own_numbers, takes_slot, has_newslot, matches}
use Rattle.slot_chains.specs.Levels.{IsDef, Stand}
use Rattle.slot_chains.specs.Puts.{put_all, replace_all}
use Rattle.slot_chains.proofs.LevelLemmas.{slots_is, openers_is, numbers_is}
use Rattle.slot_chains.proofs.ListLemmas.{listed}
use Rattle.slot_chains.proofs.NumberLemmas.{owned}
use Rattle.slot_chains.proofs.PutLemmas.{stand, replace_all-length}

slots-long : (w : Facts) (k n : ℕ) → length (chains.slots (suc k) w n) ≡ length (chains.openers longest_chain w n)
unfolding chains.slots
slots-long w k n = length-map-range_with_len _ 0 (length (chains.openers longest_chain w n))

above-long : (w : Facts) (o : Option Ty) → length (option_map_or (chains.slots longest_chain w) (head_of o) []) ≡ length (handed_on put_open (chains.openers longest_chain w) o)
above-long w None = refl
above-long w (Some t) = through (head t)
  where
    through : (h : Option ℕ) → length (option_map_or (chains.slots longest_chain w) h []) ≡ length (map (put_open (arguments t)) (option_map_or (chains.openers longest_chain w) h []))
    through None = refl
    through (Some p) = slots-long w 63 p ∙ sym (length-map (chains.openers longest_chain w p) (put_open (arguments t)))

-- the parent has as many entries as slots
pub entries-long : (w : Facts) (d : Def) (es : List SlotEntry) → Stand es (above_slots (chains.slots longest_chain w) (Some d)) → length es ≡ length (inherited (chains.openers longest_chain w) d)
entries-long w d es are = sym (length-map es Some) ∙ ap length are ∙ above-long w d.parent

-- the own takes and those of rows put in stand as the definition says
pub stands : (w : Facts) (n : ℕ) (d : Def) (es : List SlotEntry) → IsDef w n d → is_interface d ≡ false → Stand es (above_slots (chains.slots longest_chain w) (Some d))
    → (trees : List Ty) → trees ≡ chains.parents longest_chain w n
    → Stand (replace_all (put_all es (own_takes (length trees) d.first_method (chains.numbers longest_chain w n))) (map (row_take w n trees) d.impls)) (chains.slots longest_chain w n)
stands w n d es is class are trees same =
    let slots : List Open = inherited (chains.openers longest_chain w) d in
    let above = above_slots (chains.slots longest_chain w) (Some d) in
    let ms : List Method = own_methods w d in
    let opened = filter (numbers.opens matches open_of takes_slot has_newslot slots) ms in
    let own = own_takes (length trees) d.first_method (own_numbers slots ms) in
    let long = entries-long w d es are in
    let put = owned slots (length trees) ms (length slots) d.first_method es (omega arith) long in
    let all = replace_all (put_all es own) (map (row_take w n trees) d.impls) in
    let count : length all ≡ length (put_all es own) = replace_all-length (put_all es own) (map (row_take w n trees) d.impls) in
    let openers : length (chains.openers longest_chain w n) ≡ length slots + length opened =
    ap length (openers_is w n d is.here is.within class) ∙ length-append slots (map open_of opened) ∙ ap (λ m. length slots + m) (length-map opened open_of) in
    let total : length (map Some all) ≡ length (chains.openers longest_chain w n) = let l = put.long in let m = length-map all Some in omega (arith, l, m, count, openers, long) in
    let gives : takes w n ≡ own ++ filter_map (row_take w n trees) d.impls =
    ap (takes_at w n) is.here ∙ ap (λ b. cond b [] (takes_of w n d)) class
    ∙ ap₂ (λ ps ns. own_takes (length ps) d.first_method ns ++ filter_map (row_take w n ps) d.impls) (sym same) (numbers_is w n d is.here is.within class) in
    let each = λ (i : ℕ) (h : i < length (map Some all)). (let inside : i < length (put_all es own) = let m = length-map all Some in omega (arith, h, m, count) in
    let e : 0 + i ≡ i = omega arith in
    stand (row_take w n trees) es own d.impls i put.fits inside ∙ ap₂ (λ ts before. Some (standing ts before i)) (sym gives) are ∙ ap (λ j. Some (standing (takes w n) above j)) (sym e)) in
    ap (λ ns. map Some (replace_all (put_all es (own_takes (length trees) d.first_method ns)) (map (row_take w n trees) d.impls))) (numbers_is w n d is.here is.within class)
    ∙ listed (standing (takes w n) above) (map Some all) 0 each ∙ ap (λ m. map (standing (takes w n) above) (range_with_len 0 m)) total ∙ sym (slots_is w n d is.here is.within)
