use Rattle.std.proofs.Common.{◌≡◌, ℕ, ◌<◌, ◌+◌, ◌++◌, ◌∷◌, [], List, length, map, take, get_or, add-one, arith, ap, ◌∙◌, sym, subst}
use Rattle.std.proofs.Math.Seq.{take-suc}
use Rattle.std.proofs.lemmas.List.{map-append}
use Rattle.type_tree.specs.declared.tree.Ty.{Ty}
use Rattle.type_pool.specs.Trees.{at_all}
use Rattle.type_pool.proofs.JobLemmas.{at_all-grown, below-grown, grows_trans}
use Rattle.method_slots.specs.Keyed.{IsNamed, AreNamed, HandOn}
use Rattle.method_slots.specs.Opens.{put_open}
use Rattle.method_slots.proofs.HandLemmas.{named-at, split, named-one}
use Rattle.method_slots.proofs.VirtualLemmas.{named-grown, all_named-grown, opens_trans}
use Rattle.method_slots.proofs.handing.hand_on.Goals as goal

pub hand_on_one-requires-clause-named : goal.hand_on_one-requires-clause-named
hand_on_one-requires-clause-named c =
    let k = c.loop-key in
    let ts = c.args.pool.now in
    let os = c.args.set.now in
    let found = named-at ts os c.args.keys.now c.requires.named.0 c.requires.named.1 k.key-index (omega arith) in
    (found.0, named-grown ts k.pool os k.set k.invariant.grows k.invariant.set_grows _ found.0 found.1)

pub hand_on_one-requires-clause-types_in : goal.hand_on_one-requires-clause-types_in
hand_on_one-requires-clause-types_in c = below-grown c.args.pool.now c.loop-key.pool c.loop-key.invariant.grows c.args.types.now c.requires.types_in

pub loop-key-preserved : goal.loop-key-preserved
loop-key-preserved c =
    let k = c.loop-key in
    let ts = c.args.pool.now in
    let os = c.args.set.now in
    let keys : List ℕ = c.args.keys.now in
    let types = c.args.types.now in
    let us : List Ty = at_all ts types in
    let i = k.key-index in
    let x : ℕ = get_or keys i 0 in
    let was = k.invariant in
    let made = c.in_ok-hand_on_one.ensures in
    let pool = c.hand_on_one.new.pool in
    let set = c.hand_on_one.new.set in
    let r : ℕ = c.in_ok-hand_on_one.field-0 in
    let inside : i < length keys = omega arith in
    let row : take (i + 1) keys ≡ take i keys ++ x ∷ [] = rw add-one (take-suc keys i 0 inside) in
    let same : at_all k.pool types ≡ us = at_all-grown ts k.pool was.grows types c.requires.types_in in
    let hands : HandOn ts os pool set us (take (i + 1) keys) (k.done ++ r ∷ []) = λ slots h.
    let p = split ts os (take i keys) x slots (subst (λ l. AreNamed ts os l slots) row h) in
    let before = all_named-grown k.pool pool k.set set made.grows made.set_grows k.done (map (put_open us) p.front) (was.hands_on p.front p.named) in
    let put = made.hands_on p.last (named-grown ts k.pool os k.set was.grows was.set_grows x p.last p.one) in
    let one : IsNamed pool set r (put_open us p.last) = subst (λ vs. IsNamed pool set r (put_open vs p.last)) same put in
    let all = named-one pool set k.done (map (put_open us) p.front) r (put_open us p.last) before one in
    let is : map (put_open us) slots ≡ map (put_open us) p.front ++ put_open us p.last ∷ [] = ap (map (put_open us)) p.is ∙ map-append (put_open us) p.front (p.last ∷ []) in
    subst (λ l. AreNamed pool set (k.done ++ r ∷ []) l) (sym is) all in
    record {
      grows = grows_trans ts k.pool pool was.grows made.grows;
      set_grows = opens_trans os k.set set was.set_grows made.set_grows;
      hands_on = rw c.in_ok-push.ensures.ok hands;
    }
