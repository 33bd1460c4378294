use Rattle.good_types.proofs.Standing.{stands}
use Rattle.good_types.proofs.members.member_stands.Goals as goal

pub returns : goal.returns
returns c = λ w root members k m judged at there. stands c.closure_least.ensures w root members judged k m at there
