use Rattle.std.proofs.Common.{sym, ◌∙◌, ap}
use Rattle.clr_base.specs.Checks.{outcome}
use Rattle.clr_base.proofs.Checks.{outcome_passed, outcome_value}
use Rattle.cli_tables.specs.declared.root.Root.{Root}
use Rattle.cli_tables.specs.Metadata.{streams_of}
use Rattle.cli_tables.specs.Root.{root_checks, root_of}
use Rattle.cli_tables.specs.Streams.{stream_checks, found}
use Rattle.cli_tables.proofs.tables.find_streams.Goals as goal

pub returns-clause-exact : goal.returns-clause-exact
unfolding streams_of
returns-clause-exact c =
    let meta = c.args.meta.now in
    let passed = sym c.in_ok-root.ensures.exact in
    let is = outcome_value (root_checks meta) (root_of meta) _ passed in
    c.read_streams.ensures.exact
    ∙ ap (λ (r : Root). outcome (stream_checks meta r.headers_at r.stream_count) (found meta r.headers_at r.stream_count)) is
    ∙ sym (outcome_passed (root_checks meta) (stream_checks meta (root_of meta).headers_at (root_of meta).stream_count) (root_of meta) _ (streams_of meta) passed)
