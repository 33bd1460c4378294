-- Properties that say the same are had by the same one thing.
use Rattle.std.proofs.Common.{Option, None, Some}
use Rattle.type_record.specs.TheOne.{IsTheOne}

pub the_same_one : {X : Type 0} (P Q : X → Type 0) (o : Option X) → IsTheOne P o → ((x : X) → P x → Q x) → ((x : X) → Q x → P x) → IsTheOne Q o
the_same_one P Q None one to from = λ x q. one x (from x q)
the_same_one P Q (Some y) one to from = (to y one.0, λ x q. one.1 x (from x q))
