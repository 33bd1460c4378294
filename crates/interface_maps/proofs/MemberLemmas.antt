-- The public virtual methods of the members of a chain.
use Rattle.std.proofs.Common.{◌≡◌, ℕ, zero, suc, ◌<◌, ◌≤◌, get_or, unwrap_or, nat_eq, Bool, true, false, cond, List, [], ◌∷◌, Option, None, Some, length, take, drop, slice_get, refl, ap, ◌∙◌, sym, subst, arith}
use Rattle.std.proofs.lemmas.List.{length-take}
use Rattle.std.proofs.lemmas.Bool.{and_parts, ltb-true}
use Rattle.std.proofs.lemmas.Option.{unwrap_or-slice_get}
use Rattle.std.specs.HashMap.{get}
use Rattle.std.specs.Option.{option_and_then, option_map_or}
use Rattle.type_tree.specs.declared.definition.Def.{Def}
use Rattle.type_tree.specs.declared.definition.Method.{Method}
use Rattle.type_tree.specs.declared.tree.Ty.{Ty}
use Rattle.type_tree.specs.Context.{arguments}
use Rattle.type_tree.specs.Kinds.{head}
use Rattle.type_tree.specs.World.{Facts}
use Rattle.type_pool.specs.declared.nodes.Id.{Id}
use Rattle.type_pool.specs.Trees.{at, at_all, ids_below, Grows}
use Rattle.type_pool.proofs.JobLemmas.{at-grown}
use Rattle.method_slots.specs.Chains as chains
use Rattle.method_slots.specs.Opens.{Open}
use Rattle.method_slots.specs.Slots.{is_interface, own_methods, own_numbers, run}
use Rattle.slot_chains.specs.declared.levels.Level.{Level}
use Rattle.slot_chains.specs.declared.notes.Notes.{Notes}
use Rattle.slot_chains.specs.Levels.{Places, IsNoted, IsOwner, OwnersNoted, NumbersNoted}
use Rattle.slot_chains.proofs.ShortLemmas.{numbers-count}
use Rattle.interface_lists.specs.Lists.{def_of}
use Rattle.interface_maps.specs.Choices.{listed, public_of, own_publics, publics_in, member_publics}

short-at : (b : Bool) (slots : List Open) (w : Facts) (d : Def) → length (cond b [] (own_numbers slots (own_methods w d))) ≤ d.methods
short-at true slots w d = omega arith
short-at false slots w d =
    let ms = own_methods w d in
    let count = numbers-count slots ms (length slots) in
    let cut = length-take d.methods (drop d.first_method w.methods) in
    omega (arith, count, cut)

-- a definition has at most a number for each of its methods
pub own-short : (w : Facts) (n : ℕ) (d : Def) → slice_get w.defs n ≡ Some d → length (chains.numbers chains.longest_chain w n) ≤ d.methods
unfolding chains.numbers
own-short w n d here =
    let is = ap (chains.numbers_at (chains.openers 63 w) w) here in
    let short = short-at (is_interface d) (chains.inherited (chains.openers 63 w) d) w d in
    let same = ap length is in
    omega (arith, short, same)

no-numbers : (types : List Ty) (ms : List Method) → own_publics types ms [] ≡ []
no-numbers types [] = refl
no-numbers types (m ∷ ms) = refl

-- methods past the last number don't count
cut : (types : List Ty) (xs : List Method) (ns : List (Option ℕ)) (k : ℕ) → length ns ≤ k → own_publics types (take (length ns) xs) ns ≡ own_publics types (take k xs) ns
cut types xs [] k h = no-numbers types (take 0 xs) ∙ sym (no-numbers types (take k xs))
cut types xs (n ∷ ns) zero h = absurd (omega (arith, h))
cut types [] (n ∷ ns) (suc k) h = refl
cut types (x ∷ xs) (n ∷ ns) (suc k) h = ap (listed (public_of types x n)) (cut types xs ns k (omega (arith, h)))

pub in-def : (w : Facts) (types : List Ty) (n : ℕ) (d : Def) → slice_get w.defs n ≡ Some d → (given : List (Option ℕ)) → given ≡ chains.numbers chains.longest_chain w n
    → own_publics types (run w d.first_method (length given)) given ≡ publics_in w types n
in-def w types n d here given is =
    let numbers = chains.numbers chains.longest_chain w n in
    ap (λ ns. own_publics types (run w d.first_method (length ns)) ns) is
    ∙ cut types (drop d.first_method w.methods) numbers d.methods (own-short w n d here)
    ∙ sym (ap (λ o. option_map_or (λ (d : Def). own_publics types (own_methods w d) numbers) o []) here)

pub owner-noted : (places : Places) (t : Ty) (n : ℕ) → head t ≡ Some n → IsOwner places t → IsNoted places n
owner-noted places t n e o = let s : Some o.def ≡ Some n = sym o.head ∙ e in let same : o.def ≡ n = cc in subst (IsNoted places) same o.noted

pub of-head : (w : Facts) (t : Ty) (n : ℕ) (types : List Ty) → head t ≡ Some n → arguments t ≡ types → publics_in w types n ≡ member_publics w t
of-head w t n types e a = ap (λ us. publics_in w us n) (sym a) ∙ sym (ap (λ o. option_map_or (publics_in w (arguments t)) o []) e)

pub no-def : (w : Facts) (t : Ty) → def_of w t ≡ None → member_publics w t ≡ []
no-def w t none = through (head t) refl
  where
    through : (o : Option ℕ) → head t ≡ o → option_map_or (publics_in w (arguments t)) o [] ≡ []
    through None e = refl
    through (Some n) e =
        let past : slice_get w.defs n ≡ None = sym (ap (option_and_then (λ p. slice_get w.defs p)) e) ∙ none in
        ap (λ o. option_map_or (λ (d : Def). own_publics (arguments t) (own_methods w d) (chains.numbers chains.longest_chain w n)) o []) past

pub below-at : (n : ℕ) (ids : List Id) (i : ℕ) (o : Id) → i < length ids → ids_below n ids ≡ true → (get_or ids i o).0 < n
below-at n [] i o h within = absurd (omega (arith, h))
below-at n (id ∷ ids) zero o h within = ltb-true id.0 n (and_parts _ _ within).0
below-at n (id ∷ ids) (suc i) o h within = below-at n ids i o (omega (arith, h)) (and_parts _ _ within).1

-- a member of a chain
pub owner-at : (places : Places) (ts : List Ty) (ids : List Id) (i : ℕ) (o : Id) → i < length ids → OwnersNoted places (at_all ts ids) → IsOwner places (at ts (get_or ids i o))
owner-at places ts [] i o h owners = absurd (omega (arith, h))
owner-at places ts (id ∷ ids) zero o h owners = owners.0
owner-at places ts (id ∷ ids) (suc i) o h owners = owner-at places ts ids i o (omega (arith, h)) owners.1

pub same-at : (ts us : List Ty) → Grows ts us → (ids : List Id) → ids_below (length ts) ids ≡ true → (i : ℕ) (o : Id) → i < length ids → at us (get_or ids i o) ≡ at ts (get_or ids i o)
same-at ts us g ids within i o h = at-grown ts us g (get_or ids i o) (below-at (length ts) ids i o h within)

-- the numbers that are read of a definition that is noted
pub numbers-read : (w : Facts) (notes : Notes) → NumbersNoted w notes → (n place : ℕ) → get nat_eq notes.places n ≡ Some place → (read : List Level) → read ≡ notes.levels → (l : Level) → l ≡ get_or read place l
    → l.numbers ≡ chains.numbers chains.longest_chain w n
numbers-read w notes noted n place here read same l is =
    let found = noted n place here in
    let e : l ≡ found.level = is ∙ ap (λ ls. get_or ls place l) same ∙ sym (unwrap_or-slice_get notes.levels place l) ∙ ap (λ o. unwrap_or o l) found.here in
    ap (λ (l : Level). l.numbers) e ∙ found.numbers
