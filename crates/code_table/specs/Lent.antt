-- What is lent.
use Rattle.std.specs.Prelude.{Bool, true, false}
use Rattle.cil_code.specs.declared.body.Body.{Body}
use Rattle.code_table.specs.declared.lent.Lent.{Lent}
use Rattle.code_table.specs.declared.lent.Lent.TheVariants.{Kept, Own}

-- the body that it stands for
abbrev pub lent_body : Lent → Body
lent_body (Kept body) = body.now
lent_body (Own body) = body

-- whether it is the table's
abbrev pub is_kept : Lent → Bool
is_kept (Kept body) = true
is_kept (Own body) = false
