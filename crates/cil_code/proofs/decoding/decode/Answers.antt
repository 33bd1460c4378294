use Rattle.std.proofs.Common.{subst, arith}
use Rattle.cil_code.specs.Reading.{Gives}
use Rattle.cil_code.proofs.Bodies.{is_found, body_again}
use Rattle.cil_code.proofs.decoding.decode.Goals as goal

pub returns-clause-found : goal.returns-clause-found
returns-clause-found c = is_found c.args.bytes.now c.read_body.result (λ i. omega (arith, c.type_inv.bytes i)) c.read_body.ensures

pub returns-clause-only : goal.returns-clause-only
returns-clause-only c = λ body s. subst (λ r. Gives (λ x. x) c.read_body.result r) (body_again c.args.bytes.now body s) c.read_body.ensures
