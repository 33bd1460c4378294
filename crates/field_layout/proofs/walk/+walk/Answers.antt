use Rattle.std.proofs.Common.{◌≡◌, ◌<◌, ◌∙◌, ap, sym, arith, length, get_or, subst, List}
use Rattle.std.proofs.lemmas.Result.{IfOk-weaker}
use Rattle.type_tree.specs.declared.tree.Ty.{Ty}
use Rattle.type_tree.specs.declared.definition.Def.{Def}
use Rattle.type_pool.specs.declared.nodes.Id.{Id}
use Rattle.type_pool.specs.Trees.{at, at_all, ids_below}
use Rattle.field_layout.specs.Fields.{field_types}
use Rattle.field_layout.specs.Notes.{IsFound, IsNote, IsStruct, TypesAre}
use Rattle.field_layout.specs.Shapes.{field_shape}
use Rattle.type_pool.proofs.JobLemmas.{grown_length}
use Rattle.field_layout.proofs.Levels.{struct_found}
use Rattle.field_layout.proofs.Walks.{kept, noted-grown, found_in_room, found-grown, here_same, shaping_next, stops_deep}
use Rattle.field_layout.proofs.walk.+walk.Goals as goal

abbrev none : Id
none = record { 0 = 0 }

pub fields_in-shapes_in-requires : goal.fields_in-shapes_in-requires
fields_in-shapes_in-requires t c =
    let found = c.in_ok-types.ensures in
    (omega arith, (ap (ids_below (length c.field_types.new.pool)) c.as_slice.ensures ∙ found.spells.within, noted-grown (IsNote c.args.world.now) c.args.pool.now c.field_types.new.pool found.grows c.args.notes.now c.requires.noted))

pub fields_in-returns-clause-found : goal.fields_in-returns-clause-found
fields_in-returns-clause-found t c =
    let w = c.args.world.now in
    let is : at_all c.field_types.new.pool c.as_slice.result.now ≡ field_types w c.args.def.now (at_all c.args.pool.now c.args.args.now) =
    ap (at_all c.field_types.new.pool) c.as_slice.ensures ∙ c.in_ok-types.ensures.spells.are in
    IfOk-weaker c.shapes_in.result _ _ (λ f h. subst (λ (us : List Ty). TypesAre w us c.args.room f) is h) c.shapes_in.ensures.found

pub shape_in-returns-in-Some-clause-found : goal.shape_in-returns-in-Some-clause-found
shape_in-returns-in-Some-clause-found t c =
    let w = c.args.world.now in
    let t = at c.args.pool.now c.args.id in
    let is = (c.requires.noted c.args.id.0 c.in-Some.note (sym c.noted.ensures ∙ c.in-Some.is)).note in
    subst (λ f. IsFound w t c.args.room f) (sym c.in_room.ensures) (found_in_room w t c.in-Some.note c.args.room is)

pub shape_in-returns-clause-noted : goal.shape_in-returns-clause-noted
shape_in-returns-clause-noted t c =
    let w = c.args.world.now in
    let found = c.in_ok-found.ensures in
    let longer = grown_length c.args.pool.now c.shape_of_level.new.pool found.grows in
    let within : c.args.id.0 < length c.shape_of_level.new.pool = omega (arith, longer, c.requires.within) in
    kept w c.shape_of_level.new.pool _ _ c.args.id c.args.room c.in_ok-found.found found.noted within
    (found-grown w c.args.pool.now c.shape_of_level.new.pool found.grows c.args.id c.args.room c.in_ok-found.found c.requires.within found.found) c.in_ok-keep.ensures

pub shapes_in-returns-in-Deep-clause-found : goal.shapes_in-returns-in-Deep-clause-found
shapes_in-returns-in-Deep-clause-found t c =
    let k = c.loop-id in
    let w = c.args.world.now in
    let same = here_same w _ _ c.args.room _ _ _ _ k.invariant c.loop-id-test.true none in
    let found = c.in_ok-note.ensures.found in
    stops_deep w c.args.pool.now c.args.types.now c.args.room k.id-index none c.loop-id-test.true
    (ap (field_shape c.args.room w) (sym same) ∙ subst (λ f. IsFound w (at k.pool (get_or c.args.types.now k.id-index none)) c.args.room f) c.in-Deep.is found)

pub shapes_in-loop-id-preserved : goal.shapes_in-loop-id-preserved
shapes_in-loop-id-preserved t c =
    let k = c.loop-id in
    let found = c.in_ok-note.ensures in
    shaping_next c.args.world.now _ _ c.args.room _ _ _ _ k.invariant c.loop-id-test.true none _ _ c.in-Settled.note.need c.in-Settled.note.shape _ found.grows found.noted
    (subst (λ f. IsFound c.args.world.now (at k.pool (get_or c.args.types.now k.id-index none)) c.args.room f) c.in-Settled.is found.found) c.in_ok-add-in-Settled.ensures

pub struct_in-returns-in_ok-shape-in-Settled-clause-found : goal.struct_in-returns-in_ok-shape-in-Settled-clause-found
struct_in-returns-in_ok-shape-in-Settled-clause-found t c =
    let w = c.args.world.now in
    let ts = c.args.pool.now in
    let is = c.requires.level.1 in
    let same : c.requires.level.0 ≡ c.def-def.result.now = (let a = is.exists in let b = c.def-def.ensures.value in cc) in
    let here : IsStruct w ts (at ts c.args.id) c.args.def c.args.args.now c.def-def.result.now = subst (λ (d : Def). IsStruct w ts (at ts c.args.id) c.args.def c.args.args.now d) same is in
    struct_found w ts (at ts c.args.id) c.args.def c.args.args.now c.def-def.result.now here c.args.room c.in-Settled.fields c.in_ok-shape-in-Settled.shape
    (subst (λ f. TypesAre w (field_types w c.def-def.result.now (at_all ts c.args.args.now)) c.args.room f) c.in-Settled.is c.in_ok-fields.ensures.found) c.in_ok-shape-in-Settled.ensures
