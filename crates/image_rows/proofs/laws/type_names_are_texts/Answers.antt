use Rattle.image_rows.proofs.Passing.{type_text}
use Rattle.image_rows.proofs.laws.type_names_are_texts.Goals as goal

pub returns : goal.returns
returns c = λ passed row column first last which. type_text c.args._tables.now row column passed first last which
