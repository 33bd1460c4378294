use Rattle.std.proofs.Common.{ℕ, [], ◌∷◌, ◌<◌, ◌+◌, ◌++◌, ◌∙◌, map, length, refl, sym, ap, ap₂, arith}
use Rattle.std.specs.Option.{option_map, option_map_or}
use Rattle.std.proofs.lemmas.List.{append-nil}
use Rattle.type_tree.specs.declared.tree.Key.TheVariants as key
use Rattle.image_rows.specs.Cells.{rows}
use Rattle.world_build.specs.Signatures.{locals_run}
use Rattle.image_files.specs.Signatures.{listed, locals_in, sigs_in}
use Rattle.type_members.specs.Trees.{tree}
use Rattle.image_files.proofs.LocalsCount.{locals_more, locals_most, locals_none}
use Rattle.world_build.proofs.LocalsCount.{count_placed}
use Rattle.world_build.proofs.Pushed.{appended, enumerate_row}
use Rattle.world_build.proofs.local_signatures.push_locals.Goals as goal

pub overflow_add-next : goal.overflow_add-next
unfolding sigs_in
overflow_add-next c = omega (arith, c.requires.rows, c.requires.few)

pub loop-row-init : goal.loop-row-init
loop-row-init c = record {
  keys = sym (append-nil c.args.keys.now);
  places = c.new-places.ensures;
  next = omega (arith, c.requires.rows, locals_none c.args.tables.now);
}

pub push_row-requires-clause-few : goal.push_row-requires-clause-few
unfolding sigs_in
push_row-requires-clause-few c =
    let m = c.args.tables.now in
    let less : c.loop-row.row < rows m 0x11 = omega arith in
    omega (arith, c.requires.few, locals_more m c.loop-row.row less, locals_most m (c.loop-row.row + 1))

pub overflow_add-next-in-loop-row : goal.overflow_add-next-in-loop-row
unfolding sigs_in
overflow_add-next-in-loop-row c =
    let m = c.args.tables.now in
    let less : c.loop-row.row < rows m 0x11 = omega arith in
    let count = c.count_at-next.ensures ∙ ap (λ place. option_map_or (λ locals. locals.count) place 0) c.in_ok-place.ensures.place
    ∙ count_placed c.loop-row.next (locals_in m (c.loop-row.row + 1)) in
    omega (arith, c.requires.few, count, c.loop-row.invariant.next, locals_more m c.loop-row.row less, locals_most m (c.loop-row.row + 1))

pub loop-row-preserved : goal.loop-row-preserved
loop-row-preserved c =
    let m = c.args.tables.now in
    let less : c.loop-row.row < rows m 0x11 = omega arith in
    let count = c.count_at-next.ensures ∙ ap (λ place. option_map_or (λ locals. locals.count) place 0) c.in_ok-place.ensures.place
    ∙ count_placed c.loop-row.next (locals_in m (c.loop-row.row + 1)) in
    record {
      keys =
          appended (λ row. map (λ t. key.Tree (tree c.args.types.now t)) (listed (locals_in m row))) c.loop-row.row _ _ _ _ c.loop-row.invariant.keys
          c.in_ok-place.ensures.keys refl;
      places =
          c.in_ok-push.ensures.ok ∙ ap₂ (λ xs x. xs ++ x ∷ []) c.loop-row.invariant.places
          (c.in_ok-place.ensures.place
          ∙ ap (λ (n : ℕ). option_map (λ ts. record { first = record { 0 = n }; count = length ts }) (locals_in m (c.loop-row.row + 1))) c.loop-row.invariant.next)
          ∙ sym (enumerate_row (locals_run m c.args.first) c.loop-row.row);
      next = omega (arith, count, c.loop-row.invariant.next, locals_more m c.loop-row.row less);
    }
