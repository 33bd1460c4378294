use Rattle.type_tree.proofs.TreeReading.{split_at_mark, mark-within}
use Rattle.type_tree.proofs.read_text.split_name.Goals as goal

pub split_at-requires : goal.split_at-requires
split_at-requires c = rw c.name_len.ensures (mark-within c.args.text.now)

pub returns : goal.returns
returns c = rw (c.split_at.ensures.front, c.split_at.ensures.back, c.name_len.ensures) (split_at_mark c.args.text.now)
