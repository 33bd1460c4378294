use Rattle.std.proofs.Common.{◌≡◌, List, slice_get, Some, refl, sym, ◌∙◌, subst}
use Rattle.word_board.specs.Boards.{view_of, page_of}
use Rattle.type_record.specs.declared.entry.Entry.{Entry}
use Rattle.type_record.specs.Records.{entry}
use Rattle.node_set.specs.Keys.{Key}
use Rattle.key_publish.specs.declared.plan.Part.{Part}
use Rattle.key_publish.specs.declared.plan.Member.{Member}
use Rattle.key_publish.specs.Plans.{PlanFits}
use Rattle.rows_tests.specs.Classes.{class, facts, parent_of, fields_of, words_are}
use Rattle.rows_tests.proofs.Fitting.{fits}
use Rattle.rows_tests.proofs.threads.load.Goals as goal

pub publish-requires-clause-plan : goal.publish-requires-clause-plan
publish-requires-clause-plan c =
    let first = sym (c.as_slice.ensures.value ∙ c.in-Some.ensures.plan.0) in let second = sym (c.as_slice-2.ensures.value ∙ c.in-Some.ensures.plan.1) in (
      class c.args.asked,
      subst (λ (x : List Part × List Member). PlanFits facts x.0 x.1 c.args.asked (class c.args.asked)) (λ i. (first i, second i)) (fits c.args.asked c.requires.asked),
      λ k there. tt,
    )

pub read_handle-parent-requires-clause-known : goal.read_handle-parent-requires-clause-known
read_handle-parent-requires-clause-known c = let k = class c.args.asked in let seen = (view_of c.publish.new.seat).seen in
    let first = sym (c.as_slice.ensures.value ∙ c.in-Some.ensures.plan.0) in let second = sym (c.as_slice-2.ensures.value ∙ c.in-Some.ensures.plan.1) in
    let plan = subst (λ (x : List Part × List Member). PlanFits facts x.0 x.1 c.args.asked (class c.args.asked)) (λ i. (first i, second i)) (fits c.args.asked c.requires.asked) in (
      k,
      entry 0 (parent_of k),
      c.asked_known.ensures (page_of c.args.board.now) seen seen c.in-Ok.handle.0 k (λ m has. has) (c.in-Ok.ensures.published k plan),
      subst (λ (l : List (Entry Key)). slice_get l 1 ≡ Some (entry 0 (parent_of k))) (sym (words_are k (parent_of k) (fields_of k))) refl,
    )
