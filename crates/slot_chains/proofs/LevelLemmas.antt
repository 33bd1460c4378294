-- The slots of a definition, by those of its parent.
use Rattle.std.proofs.Common.{◌≡◌, ℕ, suc, true, false, not, ◌&&◌, cond, List, [], ◌∷◌, ◌++◌, length, map, Option, None, Some, slice_get, refl, ap, ap₂, ◌∙◌, sym}
use Rattle.std.specs.List.{list_any, range_with_len}
use Rattle.std.specs.Option.{option_map_or}
use Rattle.type_tree.specs.declared.definition.Def.{Def}
use Rattle.type_tree.specs.declared.tree.Ty.{Ty}
use Rattle.type_tree.specs.Kinds.{head_of}
use Rattle.type_tree.specs.Subst.{subst_ty}
use Rattle.type_tree.specs.World.{Facts}
use Rattle.method_slots.specs.declared.entries.SlotEntry.{SlotEntry}
use Rattle.method_slots.specs.Chains as chains
use Rattle.method_slots.specs.Chains.{longest_chain, IsWithin, handed_on, inherited, openers_at, numbers_at, chain_at, parents_of, above_slots, standing, takes}
use Rattle.method_slots.specs.Faults.{finals, finals_at, overrides_final}
use Rattle.method_slots.specs.Opens.{Open, put_open}
use Rattle.method_slots.specs.Slots.{is_interface, own_methods, own_numbers, own_opened, in_own}
use Rattle.slot_chains.proofs.ChainLemmas.{Extends, handed-same, same_above}

abbrev pub put_tree : List Ty → Ty → Ty
put_tree types t = subst_ty types [] t

module _ (w : Facts) where
  abbrev extends : (n p : ℕ) (d : Def) → slice_get w.defs n ≡ Some d → head_of d.parent ≡ Some p → Extends w n p
  extends n p d here e = record { def = d; here = here; parent = e }

  -- ---- one step

  openers-local : (f g : ℕ → List Open) (n : ℕ) → ((p : ℕ) → Extends w n p → f p ≡ g p) → openers_at f w (slice_get w.defs n) ≡ openers_at g w (slice_get w.defs n)
  openers-local f g n same = through (slice_get w.defs n) refl
    where
      through : (o : Option Def) → slice_get w.defs n ≡ o → openers_at f w o ≡ openers_at g w o
      through None e = refl
      through (Some d) e = ap (λ slots. cond (is_interface d) [] (own_opened slots (own_methods w d))) (handed-same put_open f g d.parent (λ p h. same p (extends n p d e h)))

  chain-local : (f g : ℕ → List Ty) (n : ℕ) → ((p : ℕ) → Extends w n p → f p ≡ g p) → chain_at f n (slice_get w.defs n) ≡ chain_at g n (slice_get w.defs n)
  chain-local f g n same = through (slice_get w.defs n) refl
    where
      through : (o : Option Def) → slice_get w.defs n ≡ o → chain_at f n o ≡ chain_at g n o
      through None e = refl
      through (Some d) e = ap (λ above. above ++ in_own n d ∷ []) (handed-same put_tree f g d.parent (λ p h. same p (extends n p d e h)))

  abbrev slots_by : ℕ → List (Option SlotEntry) → List (Option SlotEntry)
  slots_by n above = map (standing (takes w n) above) (range_with_len 0 (length (chains.openers longest_chain w n)))

  above-same : (f g : ℕ → List (Option SlotEntry)) (n : ℕ) (d : Def) → slice_get w.defs n ≡ Some d → ((p : ℕ) → Extends w n p → f p ≡ g p) → above_slots f (Some d) ≡ above_slots g (Some d)
  above-same f g n d here same = through (head_of d.parent) refl
    where
      through : (h : Option ℕ) → head_of d.parent ≡ h → option_map_or f (head_of d.parent) [] ≡ option_map_or g (head_of d.parent) []
      through None e = rw e refl
      through (Some p) e = rw e (same p (extends n p d here e))

  slots-local : (f g : ℕ → List (Option SlotEntry)) (n : ℕ) → ((p : ℕ) → Extends w n p → f p ≡ g p)
      → slots_by n (above_slots f (slice_get w.defs n)) ≡ slots_by n (above_slots g (slice_get w.defs n))
  slots-local f g n same = through (slice_get w.defs n) refl
    where
      through : (o : Option Def) → slice_get w.defs n ≡ o → slots_by n (above_slots f o) ≡ slots_by n (above_slots g o)
      through None e = refl
      through (Some d) e = ap (slots_by n) (above-same f g n d e same)

  openers-unrolls : (k n : ℕ) → chains.openers (suc k) w n ≡ openers_at (chains.openers k w) w (slice_get w.defs n)
  unfolding chains.openers
  openers-unrolls k n = refl

  chain-unrolls : (k n : ℕ) → chains.chain (suc k) w n ≡ chain_at (chains.chain k w) n (slice_get w.defs n)
  unfolding chains.chain
  chain-unrolls k n = refl

  slots-unrolls : (k n : ℕ) → chains.slots (suc k) w n ≡ slots_by n (above_slots (chains.slots k w) (slice_get w.defs n))
  unfolding chains.slots
  slots-unrolls k n = refl

  module _ (n : ℕ) (d : Def) (here : slice_get w.defs n ≡ Some d) (within : IsWithin w n) where
    abbrev openers_above : (p : ℕ) → Extends w n p → chains.openers 63 w p ≡ chains.openers longest_chain w p
    openers_above p e = same_above w (λ k n. chains.openers k w n) (λ f n. openers_at f w (slice_get w.defs n)) openers-unrolls openers-local n p within e

    abbrev chain_above : (p : ℕ) → Extends w n p → chains.chain 63 w p ≡ chains.chain longest_chain w p
    chain_above p e = same_above w (λ k n. chains.chain k w n) (λ f n. chain_at f n (slice_get w.defs n)) chain-unrolls chain-local n p within e

    abbrev slots_above : (p : ℕ) → Extends w n p → chains.slots 63 w p ≡ chains.slots longest_chain w p
    slots_above p e = same_above w (λ k n. chains.slots k w n) (λ f n. slots_by n (above_slots f (slice_get w.defs n))) slots-unrolls slots-local n p within e

    abbrev pub parent_slots : List Open
    parent_slots = inherited (chains.openers longest_chain w) d

    abbrev pub parent_entries : List (Option SlotEntry)
    parent_entries = above_slots (chains.slots longest_chain w) (Some d)

    inherited-same : inherited (chains.openers 63 w) d ≡ parent_slots
    inherited-same = handed-same put_open (chains.openers 63 w) (chains.openers longest_chain w) d.parent (λ p h. openers_above p (extends n p d here h))

    pub parents_is : chains.parents longest_chain w n ≡ handed_on put_tree (chains.chain longest_chain w) d.parent
    unfolding chains.parents
    parents_is = ap (parents_of (chains.chain 63 w)) here ∙ handed-same put_tree (chains.chain 63 w) (chains.chain longest_chain w) d.parent (λ p h. chain_above p (extends n p d here h))

    pub chain_is : chains.chain longest_chain w n ≡ chains.parents longest_chain w n ++ in_own n d ∷ []
    unfolding chains.parents
    chain_is = chain-unrolls 63 n ∙ ap (chain_at (chains.chain 63 w) n) here ∙ ap (λ l. l ++ in_own n d ∷ []) (sym (ap (parents_of (chains.chain 63 w)) here))

    pub slots_is : chains.slots longest_chain w n ≡ slots_by n parent_entries
    slots_is = slots-unrolls 63 n ∙ ap (λ o. slots_by n (above_slots (chains.slots 63 w) o)) here ∙ ap (slots_by n) (above-same (chains.slots 63 w) (chains.slots longest_chain w) n d here slots_above)

    -- ---- a class

    pub openers_is : is_interface d ≡ false → chains.openers longest_chain w n ≡ own_opened parent_slots (own_methods w d)
    openers_is class = openers-unrolls 63 n ∙ ap (openers_at (chains.openers 63 w) w) here ∙ ap (λ b. cond b [] (own_opened (inherited (chains.openers 63 w) d) (own_methods w d))) class
        ∙ ap (λ l. own_opened l (own_methods w d)) inherited-same

    pub numbers_is : is_interface d ≡ false → chains.numbers longest_chain w n ≡ own_numbers parent_slots (own_methods w d)
    unfolding chains.numbers
    numbers_is class = ap (numbers_at (chains.openers 63 w) w) here ∙ ap (λ b. cond b [] (own_numbers (inherited (chains.openers 63 w) d) (own_methods w d))) class
        ∙ ap (λ l. own_numbers l (own_methods w d)) inherited-same

    pub finals_is : is_interface d ≡ false → finals longest_chain w n ≡ list_any (overrides_final w parent_slots parent_entries) (own_methods w d)
    unfolding finals
    finals_is class = ap (finals_at (chains.openers 63 w) (chains.slots 63 w) w) here
        ∙ ap (λ b. not b && list_any (overrides_final w (inherited (chains.openers 63 w) d) (above_slots (chains.slots 63 w) (Some d))) (own_methods w d)) class
        ∙ ap₂ (λ l es. list_any (overrides_final w l es) (own_methods w d)) inherited-same (above-same (chains.slots 63 w) (chains.slots longest_chain w) n d here slots_above)

    -- ---- an interface

    pub no_openers : is_interface d ≡ true → chains.openers longest_chain w n ≡ []
    no_openers is = openers-unrolls 63 n ∙ ap (openers_at (chains.openers 63 w) w) here ∙ ap (λ b. cond b [] (own_opened (inherited (chains.openers 63 w) d) (own_methods w d))) is

    pub no_numbers : is_interface d ≡ true → chains.numbers longest_chain w n ≡ []
    unfolding chains.numbers
    no_numbers is = ap (numbers_at (chains.openers 63 w) w) here ∙ ap (λ b. cond b [] (own_numbers (inherited (chains.openers 63 w) d) (own_methods w d))) is

    pub no_finals : is_interface d ≡ true → finals longest_chain w n ≡ false
    unfolding finals
    no_finals is = ap (finals_at (chains.openers 63 w) (chains.slots 63 w) w) here
        ∙ ap (λ b. not b && list_any (overrides_final w (inherited (chains.openers 63 w) d) (above_slots (chains.slots 63 w) (Some d))) (own_methods w d)) is

    pub no_slots : is_interface d ≡ true → chains.slots longest_chain w n ≡ []
    no_slots is = slots_is ∙ ap (λ (l : List Open). map (standing (takes w n) parent_entries) (range_with_len 0 (length l))) (no_openers is)
