use Rattle.std.proofs.Common.{◌≡◌, ◌∙◌, ◌+◌, ◌≤◌, List, ℕ, map, take, drop, length, sym, subst, arith}
use Rattle.std.specs.Prelude.{string_bytes}
use Rattle.std.proofs.lemmas.List.{length-map, length-take-le}
use Rattle.type_tree.proofs.WholeLemmas.{few}
use Rattle.world_build.specs.declared.roots.NamedRoot.{NamedRoot}
use Rattle.world_build.specs.Roots.{NamesRoot, AreNewRoots, IsFirstUnnamed}
use Rattle.world_build.proofs.RootsGathered.{next_word, all_words, gathered_none, gathered_more, stopped_at}
use Rattle.world_build.proofs.roots.new_roots.Goals as goal

pub loop-word-init : goal.loop-word-init
loop-word-init c = (gathered_none c.args.world.now c.args.form _ c.new.ensures c.new-2.ensures, omega (arith, c.sig_count-sig.ensures))

pub returns-in_default-clause-fault : goal.returns-in_default-clause-fault
returns-in_default-clause-fault c =
    let w = c.args.world.now in
    let words = map string_bytes c.args.words.now in
    let i = c.loop-word.word-index in
    let word = string_bytes c.word-item.result in
    let never : (r : NamedRoot) → ¬ (NamesRoot w c.args.form c.as_str.result.now r) = rw c.in_default.is at c.in_ok-root.ensures.none in
    let same : c.as_str.result.now ≡ word = c.as_str.ensures.value in
    let copied : c.in_ok-from_str.field-0 ≡ word = c.in_ok-from_str.ensures ∙ c.as_str-in_default.ensures.value in
    let stands = all_words string_bytes c.args.words.now i c.word-item.result c.loop-word-test.true c.word-item.is in
    subst (IsFirstUnnamed w c.args.form words) (sym copied)
    (stopped_at w c.args.form words (take i words) (drop (i + 1) words) word c.loop-word.found stands c.loop-word.invariant.0
    (subst (λ (x : List ℕ). (r : NamedRoot) → ¬ (NamesRoot w c.args.form x r)) same never))

pub overflow_add-sig : goal.overflow_add-sig
overflow_add-sig c =
    let most = (few c.args.world.now c.whole.ensures).sigs in
    omega (arith, most, c.loop-word.invariant.1, c.loop-word-test.true, c.requires.few)

pub loop-word-preserved : goal.loop-word-preserved
loop-word-preserved c =
    let w = c.args.world.now in
    let words = map string_bytes c.args.words.now in
    let i = c.loop-word.word-index in
    let word = string_bytes c.word-item.result in
    let names : NamesRoot w c.args.form c.as_str.result.now c.in-Some.root = rw c.in-Some.is at c.in_ok-root.ensures.named in
    let here : NamesRoot w c.args.form word c.in-Some.root = subst (λ (x : List ℕ). NamesRoot w c.args.form x c.in-Some.root) c.as_str.ensures.value names in
    let inside : i ≤ length words = omega (arith, c.loop-word-test.true, length-map c.args.words.now string_bytes) in
    let more = gathered_more w c.args.form (take i words) word c.loop-word.found c.add.new.self c.in-Some.root c.loop-word.sig i c.loop-word.invariant.0 here
    (length-take-le i words inside) c.loop-word.invariant.1 c.in_ok-add.ensures.sigs c.in_ok-add.ensures.roots in (
      subst (λ (x : List (List ℕ)). AreNewRoots w c.args.form x c.add.new.self) (sym (next_word string_bytes c.args.words.now i c.word-item.result c.loop-word-test.true c.word-item.is)) more,
      omega (arith, c.loop-word.invariant.1),
    )
