use Rattle.std.proofs.Common.{◌≡◌, ◌+◌, ◌<◌, ◌++◌, ◌∷◌, [], List, Option, None, ℕ, length, take, get_or, ap, ap₂, ◌∙◌, sym, subst, arith, length-append}
use Rattle.std.proofs.lemmas.List.{length-take-le, take_more}
use Rattle.type_tree.specs.declared.definition.Method.{Method}
use Rattle.type_tree.specs.declared.tree.Ty.{Ty}
use Rattle.type_tree.proofs.Bounds.{methods_few}
use Rattle.type_pool.specs.Trees.{at_all}
use Rattle.type_pool.proofs.JobLemmas.{at_all-grown, below-grown, grows_trans}
use Rattle.method_slots.specs.Slots.{run}
use Rattle.method_slots.proofs.VirtualLemmas.{one_more, opens_trans}
use Rattle.interface_maps.specs.Choices.{Public, listed, public_of, own_publics}
use Rattle.interface_maps.specs.Publics.{GainPublics}
use Rattle.interface_maps.proofs.PublicLemmas.{own-append, gains-more}
use Rattle.interface_maps.proofs.publics.add_publics.Goals as goal

pub overflow_cast-i : goal.overflow_cast-i
overflow_cast-i c = let few = methods_few c.args.world.now c.whole.ensures in omega (arith, few, c.requires.within, c.loop-i-test.true)

pub overflow_add-first : goal.overflow_add-first
overflow_add-first c = let few = methods_few c.args.world.now c.whole.ensures in omega (arith, few, c.requires.within, c.loop-i-test.true)

pub add_method-requires : goal.add_method-requires
add_method-requires c = below-grown c.args.pool.now c.loop-i.pool c.loop-i.invariant.grows c.args.types.now c.requires.types

pub loop-i-preserved : goal.loop-i-preserved
loop-i-preserved c =
    let k = c.loop-i in
    let w = c.args.world.now in
    let first = c.args.first in
    let p0 = c.args.pool.now in
    let s0 = c.args.set.now in
    let p2 = c.add_method.new.pool in
    let s2 = c.add_method.new.set in
    let m : Method = c.method-method.result.now in
    let given : List (Option ℕ) = c.args.given.now in
    let types : List Ty = at_all p0 c.args.types.now in
    let same : at_all k.pool c.args.types.now ≡ types = at_all-grown p0 k.pool k.invariant.grows c.args.types.now c.requires.types in
    let made = c.in_ok-add_method.ensures in
    let inside : k.i < length given = omega arith in
    let n : Option ℕ = get_or given k.i None in
    let before = run w first k.i in
    let more : run w first (k.i + 1) ≡ before ++ m ∷ [] = one_more w first k.i m c.method-method.ensures.value in
    let longer : length (before ++ m ∷ []) ≡ k.i + 1 = length-append before (m ∷ []) ∙ ap (λ l. l + 1) k.invariant.long in
    let alike : length before ≡ length (take k.i given) = k.invariant.long ∙ sym (length-take-le k.i given (omega (arith, inside))) in
    let done = own_publics types before (take k.i given) in
    let one : List Public = listed (public_of types m n) [] in
    let all : own_publics types (run w first (k.i + 1)) (take (k.i + 1) given) ≡ done ++ one =
    ap₂ (own_publics types) more (take_more given k.i None inside) ∙ own-append types before (take k.i given) m n alike in
    let gain = subst (λ us. GainPublics k.pool k.set k.numbers p2 s2 c.add_method.new.numbers (listed (public_of us m n) [])) same made.gains in
    record {
      grows = grows_trans p0 k.pool p2 k.invariant.grows made.grows;
      set_grows = opens_trans s0 k.set s2 k.invariant.set_grows made.set_grows;
      long = ap length more ∙ longer;
      gains = gains-more p0 k.pool p2 s0 k.set s2 c.args.numbers.now k.numbers c.add_method.new.numbers done one _ k.invariant.gains gain all;
    }
