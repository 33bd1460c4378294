-- What a definition has of its parent, and what stays where pools and sets grow.
use Rattle.std.proofs.Common.{◌≡◌, ℕ, true, false, List, [], ◌∷◌, ◌++◌, length, map, Option, None, Some, refl, ap, ap₂, ◌∙◌, sym, subst}
use Rattle.std.specs.Option.{option_map_or}
use Rattle.type_tree.specs.declared.definition.Def.{Def}
use Rattle.type_tree.specs.declared.tree.Ty.{Ty}
use Rattle.type_tree.specs.Context.{arguments}
use Rattle.type_tree.specs.Kinds.{head_of}
use Rattle.type_tree.specs.Subst.{subst_all}
use Rattle.type_tree.specs.World.{Facts}
use Rattle.type_pool.specs.Jobs.{SpellAll}
use Rattle.type_pool.specs.Trees.{at, at_all, ids_below, Grows, Spells}
use Rattle.type_pool.proofs.JobLemmas.{below-one, spell_all-grown}
use Rattle.method_slots.specs.declared.opens.OpenMethod.{OpenMethod}
use Rattle.method_slots.specs.Chains as chains
use Rattle.method_slots.specs.Chains.{longest_chain, handed_on}
use Rattle.method_slots.specs.Keyed.{AreNamed, HandOn}
use Rattle.method_slots.specs.Opens.{put_open}
use Rattle.method_slots.specs.OpenSets.{OpensGrow}
use Rattle.method_slots.proofs.VirtualLemmas.{all_named-grown}
use Rattle.slot_chains.specs.declared.levels.Handed.{Handed}
use Rattle.slot_chains.specs.declared.levels.Level.{Level}
use Rattle.slot_chains.specs.Levels.{IsDef, IsHanded, IsLevel}
use Rattle.slot_chains.proofs.LevelLemmas.{chain_is, no_finals, no_numbers, no_openers, no_slots, parents_is, put_tree}
use Rattle.std.proofs.lemmas.List.{map-append}
use Rattle.type_pool.specs.declared.nodes.Id.{Id}
use Rattle.method_slots.specs.Slots.{in_own, is_interface}

handed-none : {A : Type 0} → (put : List Ty → A → A) (above : ℕ → List A) (o : Option Ty) → head_of o ≡ None → handed_on put above o ≡ []
handed-none put above None e = refl
handed-none put above (Some t) e = ap (λ h. map (put (arguments t)) (option_map_or above h [])) e

handed-some : {A : Type 0} → (put : List Ty → A → A) (above : ℕ → List A) (o : Option Ty) (t : Ty) (p : ℕ) → o ≡ Some t → head_of o ≡ Some p → handed_on put above o ≡ map (put (arguments t)) (above p)
handed-some put above o t p is e =
    ap (handed_on put above) is ∙ ap (λ h. map (put (arguments t)) (option_map_or above h [])) (sym (ap head_of is) ∙ e)

pub handed-nothing : (w : Facts) (ts : List Ty) (os : List OpenMethod) (n : ℕ) (d : Def) → IsDef w n d → head_of d.parent ≡ None
    → IsHanded w ts os n d (record { chain = []; keys = []; entries = [] })
handed-nothing w ts os n d is e = record {
  chain = record { within = refl; are = sym (parents_is w n d is.here is.within ∙ handed-none put_tree (chains.chain longest_chain w) d.parent e) };
  keys = subst (AreNamed ts os []) (sym (handed-none put_open (chains.openers longest_chain w) d.parent e)) tt;
  entries = sym (ap (λ h. option_map_or (chains.slots longest_chain w) h []) e);
}

pub handed-parent : (w : Facts) (ts us : List Ty) (os ps : List OpenMethod) (n p : ℕ) (d : Def) (t : Ty) (l : Level) (h : Handed) → IsDef w n d → d.parent ≡ Some t → head_of d.parent ≡ Some p → IsLevel w ts os p l
    → SpellAll us h.chain (subst_all (arguments t) [] (at_all ts l.chain)) → HandOn ts os us ps (arguments t) l.keys h.keys → h.entries ≡ l.entries → IsHanded w us ps n d h
handed-parent w ts us os ps n p d t l h is parent e level trees keys entries = record {
  chain = record {
    within = trees.within;
    are = trees.are ∙ ap (subst_all (arguments t) []) level.chain.are ∙ sym (parents_is w n d is.here is.within ∙ handed-some put_tree (chains.chain longest_chain w) d.parent t p parent e);
  };
  keys = subst (AreNamed us ps h.keys) (sym (handed-some put_open (chains.openers longest_chain w) d.parent t p parent e)) (keys (chains.openers longest_chain w p) level.keys);
  entries = ap (map Some) entries ∙ level.entries ∙ sym (ap (λ o. option_map_or (chains.slots longest_chain w) o []) e);
}

module _ (w : Facts) (ts us : List Ty) (os ps : List OpenMethod) (g : Grows ts us) (s : OpensGrow os ps) where
  pub level-grown : (n : ℕ) (l : Level) → IsLevel w ts os n l → IsLevel w us ps n l
  level-grown n l a = record {
    chain = spell_all-grown ts us g l.chain _ a.chain;
    keys = all_named-grown ts us os ps g s l.keys _ a.keys;
    entries = a.entries;
    numbers = a.numbers;
    finals = a.finals;
  }

  pub handed-grown : (n : ℕ) (d : Def) (h : Handed) → IsHanded w ts os n d h → IsHanded w us ps n d h
  handed-grown n d h a = record {
    chain = spell_all-grown ts us g h.chain _ a.chain;
    keys = all_named-grown ts us os ps g s h.keys _ a.keys;
    entries = a.entries;
  }

-- the slots of an interface
pub interface-level : (w : Facts) (ts : List Ty) (os : List OpenMethod) (n : ℕ) (d : Def) (h : Handed) (own : Id) (l : Level) → IsDef w n d → is_interface d ≡ true → IsHanded w ts os n d h → Spells ts own (in_own n d)
    → l.chain ≡ h.chain ++ own ∷ [] → l.keys ≡ [] → l.entries ≡ [] → l.numbers ≡ [] → l.finals ≡ false → IsLevel w ts os n l
interface-level w ts os n d h own l is face given tree chain keys entries numbers finals = record {
  chain = record {
    within = ap (ids_below (length ts)) chain ∙ below-one (length ts) h.chain own given.chain.within tree.within;
    are = ap (at_all ts) chain ∙ map-append (at ts) h.chain (own ∷ []) ∙ ap₂ (λ us u. us ++ u ∷ []) given.chain.are tree.is ∙ sym (chain_is w n d is.here is.within);
  };
  keys = subst (λ ks. AreNamed ts os ks (chains.openers longest_chain w n)) (sym keys) (subst (AreNamed ts os []) (sym (no_openers w n d is.here is.within face)) tt);
  entries = ap (map Some) entries ∙ sym (no_slots w n d is.here is.within face);
  numbers = numbers ∙ sym (no_numbers w n d is.here is.within face);
  finals = finals ∙ sym (no_finals w n d is.here is.within face);
}
