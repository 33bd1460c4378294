-- The plan of the two classes.
use Rattle.std.specs.Prelude.{ℕ, List, [], ◌∷◌, Option, None, Some}
use Rattle.key_publish.specs.declared.plan.Part.{Part}
use Rattle.key_publish.specs.declared.plan.Part.TheVariants.{Head}
use Rattle.key_publish.specs.declared.plan.Member.{Member}
use Rattle.rows_tests.specs.Classes.{words}

abbrev pub parts : List Part
parts = Head (record { 0 = 0 }) ∷ Head (record { 0 = 1 }) ∷ []

abbrev pub member : ℕ → Option ℕ → ℕ → Member
member part parent n = record { part = part; «record» = words part parent n }

abbrev pub members : List Member
members = member 0 None 0 ∷ member 1 (Some 0) 30 ∷ []
