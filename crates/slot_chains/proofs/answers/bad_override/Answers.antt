use Rattle.std.proofs.Common.{◌≡◌, false, ◌&&◌, ◌||◌, ◌++◌, List, length, ap, ap₂, ◌∙◌, sym}
use Rattle.std.proofs.lemmas.Result.{IfOk-weaker}
use Rattle.std.specs.Prelude.{not, slice_get}
use Rattle.std.specs.List.{list_any}
use Rattle.type_tree.specs.declared.definition.Def.{Def}
use Rattle.type_tree.specs.declared.definition.Impl.{Impl}
use Rattle.type_tree.specs.declared.tree.Ty.{Ty}
use Rattle.type_pool.specs.Trees.{at_all, ids_below}
use Rattle.method_slots.specs.Chains as chains
use Rattle.method_slots.specs.Faults as faults
use Rattle.slot_chains.proofs.AnswerLemmas.{got, chain-some, types-are, types-below}
use Rattle.slot_chains.proofs.answers.bad_override.Goals as goal

pub types_of-requires : goal.types_of-requires
types_of-requires c =
    let w = c.args.world.now in
    let n = c.args.id.0 in
    let d = got w.defs n c.requires.exists in
    chain-some w c.args.pool.now c.requires.level.0 n d.0 d.1 c.requires.within c.args.level.now c.requires.level.1

pub rows_fail-requires : goal.rows_fail-requires
rows_fail-requires c =
    let w = c.args.world.now in
    let n = c.args.id.0 in
    let ts = c.args.pool.now in
    let below = types-below w ts c.requires.level.0 n c.def.result.now c.def.ensures.value c.requires.within c.args.level.now c.requires.level.1 c.args.interfaces.now c.requires.interfaces in
    record { types = ap (ids_below (length ts)) (c.as_slice.ensures ∙ c.in_ok-types.ensures) ∙ below }

pub returns-clause-bad : goal.returns-clause-bad
returns-clause-bad c =
    let w = c.args.world.now in
    let n = c.args.id.0 in
    let ts = c.args.pool.now in
    let d : Def = c.def.result.now in
    let here = c.def.ensures.value in
    let ids = c.args.interfaces.now in
    let level = c.args.level.now in
    let is = c.requires.level.1 in
    let interfaces = at_all ts ids in
    let parents = chains.parents chains.longest_chain w n in
    let types : at_all ts c.as_slice.result.now ≡ parents ++ interfaces = ap (at_all ts) (c.as_slice.ensures ∙ c.in_ok-types.ensures) ∙ types-are w ts c.requires.level.0 n d here c.requires.within level is ids in
    let fails = λ (us : List Ty) (rows : List Impl). list_any (λ (row : Impl). not (chains.owns w n row.body && chains.is_declared w us row)) rows in
    let finals : faults.finals chains.longest_chain w n ≡ false = sym is.finals ∙ c.if-level.false in
    let whole : faults.bad_override w n interfaces ≡ fails (parents ++ interfaces) d.impls =
    ap (λ b. b || faults.rows_fail chains.longest_chain w n interfaces (slice_get w.defs n)) finals ∙ ap (faults.rows_fail chains.longest_chain w n interfaces) here in
    let all : fails (at_all ts c.as_slice.result.now) c.as_slice-2.result.now ≡ faults.bad_override w n interfaces = ap₂ fails types c.as_slice-2.ensures ∙ sym whole in
    IfOk-weaker c.rows_fail.result (λ bad. bad ≡ fails (at_all ts c.as_slice.result.now) c.as_slice-2.result.now) (λ bad. bad ≡ faults.bad_override w n interfaces) (λ bad e. e ∙ all) c.rows_fail.ensures.fails
