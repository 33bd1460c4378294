use Rattle.std.proofs.Common.{subst, sym, refl, length, arith}
use Rattle.std.proofs.lemmas.Option.{get_or_from_slice_get}
use Rattle.word_board.specs.Boards.{view_of, page_of}
use Rattle.word_board.specs.Views.{number_of}
use Rattle.node_set.specs.Nodes.{word_of}
use Rattle.node_set.specs.Keys.{makes_on}
use Rattle.node_set.proofs.Probes.{node_may}
use Rattle.node_set.proofs.Spelling.{made}
use Rattle.key_publish.specs.declared.plan.Part.{Part}
use Rattle.key_publish.specs.Plans.{IsBehind, IsNodeOf}
use Rattle.key_publish.proofs.Moving.{moved_one}
use Rattle.key_publish.proofs.Parts.{behind, node_makes, node_fits, makes_names}
use Rattle.key_publish.proofs.Results.{err_is}
use Rattle.key_publish.specs.Published.{IsPartLeft}
use Rattle.key_publish.proofs.nodes.put_part.Goals as goal

pub node_of-node-requires : goal.node_of-node-requires
node_of-node-requires g c = let n = length c.args.handles.now in let p = c.requires.part in
    subst (IsBehind n) (sym (get_or_from_slice_get c.args.parts.now n p.0 _ p.2)) (behind c.args.parts.now n p.1 p.4 p.0 p.2)

pub put-requires-clause-may : goal.put-requires-clause-may
put-requires-clause-may g c = let n = length c.args.handles.now in let p = c.requires.part in let parts = c.args.parts.now in let handles = c.args.handles.now in
    let page = page_of c.args.board.now in let cells = g.P.Page.cell_count page in let v = view_of c.args.seat.now in let few = g.P.Page.few page in
    let node = c.node_of-node.result in
    let of = subst (λ (q : Part). IsNodeOf handles q node) (get_or_from_slice_get parts n p.0 _ p.2) c.node_of-node.ensures in
    let makes = node_makes parts n cells few v.seen handles refl c.requires.spelled p.1 p.4 p.0 p.2 node of in
    node_may (g.P.Meaning.may page) cells v.seen node (number_of v) (node_fits parts n cells few v.seen handles refl c.requires.spelled p.1 p.4 p.0 p.2 p.3 node of) (makes_names cells v.seen node p.1 makes p.5)
    (λ more m on low is by rule. g.met.P.Rows.may_node page more m node p.1 low rule is (makes_on cells v.seen more on node p.1 makes) (g.P.Rows.part_granted_stays page v.seen more p.1 on (c.requires.granted p.1 p.4)))

pub returns-clause-spelled : goal.returns-clause-spelled
returns-clause-spelled g c = let n = length c.args.handles.now in let p = c.requires.part in let parts = c.args.parts.now in let handles = c.args.handles.now in
    let page = page_of c.args.board.now in let cells = g.P.Page.cell_count page in let old = (view_of c.args.seat.now).seen in let new = (view_of c.put.new.seat).seen in let few = g.P.Page.few page in
    let node = c.node_of-node.result in let put = c.in_ok-cell.ensures in
    let of = subst (λ (q : Part). IsNodeOf handles q node) (get_or_from_slice_get parts n p.0 _ p.2) c.node_of-node.ensures in
    let fits = node_fits parts n cells few old handles refl c.requires.spelled p.1 p.4 p.0 p.2 p.3 node of in
    λ k d. made cells new c.in_ok-cell.cell.0 node k (put.cell.0, fits, put.cell.1)
    (makes_on cells old new put.view.0 node k (node_makes parts n cells few old handles refl c.requires.spelled k d p.0 p.2 node of))

pub returns-clause-moved : goal.returns-clause-moved
returns-clause-moved g c = let cells = g.P.Page.cell_count (page_of c.args.board.now) in let put = c.in_ok-cell.ensures in let inside = put.cell.0 in
    moved_one cells (view_of c.args.seat.now) (view_of c.put.new.seat) c.in_ok-cell.cell.0 (word_of c.node_of-node.result) (omega arith) put.view put.kept

pub returns-in_err-cell-clause-left : goal.returns-in_err-cell-clause-left
returns-in_err-cell-clause-left g c = let n = length c.args.handles.now in let p = c.requires.part in let parts = c.args.parts.now in let handles = c.args.handles.now in
    let page = page_of c.args.board.now in let cells = g.P.Page.cell_count page in let old = (view_of c.args.seat.now).seen in let new = (view_of c.put.new.seat).seen in let few = g.P.Page.few page in
    let node = c.node_of-node.result in let put = c.in_err-cell.ensures in
    let of = subst (λ (q : Part). IsNodeOf handles q node) (get_or_from_slice_get parts n p.0 _ p.2) c.node_of-node.ensures in
    err_is c.from_residual.result (IsPartLeft cells new parts) (node, n, p.1, p.4, makes_on cells old new put.view.0 node p.1 (node_makes parts n cells few old handles refl c.requires.spelled p.1 p.4 p.0 p.2 node of), put.full.0)
