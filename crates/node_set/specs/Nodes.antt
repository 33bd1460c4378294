-- Nodes as words.
use Rattle.std.specs.Prelude.{◌≡◌, ℕ, ◌+◌, ◌*◌, ◌<◌}
use Rattle.node_set.specs.declared.node.Node.{Node}
use Rattle.node_set.specs.declared.node.Node.TheVariants.{Head, Argument, Array, Method, Row, LayoutSegment, DictionarySegment}

abbrev pub tag_of : Node → ℕ
tag_of (Head d) = 1
tag_of (Argument k x) = 2
tag_of (Array e) = 3
tag_of (Method m o) = 4
tag_of (Row k r) = 5
tag_of (LayoutSegment c s) = 6
tag_of (DictionarySegment x s) = 7

-- the first number that a node names
abbrev pub first_of : Node → ℕ
first_of (Head d) = d.0
first_of (Argument k x) = k.0
first_of (Array e) = e.0
first_of (Method m o) = m.0
first_of (Row k r) = k.0
first_of (LayoutSegment c s) = c.0
first_of (DictionarySegment x s) = x.0

-- the second number that a node names, 0 where it names one alone
abbrev pub second_of : Node → ℕ
second_of (Head d) = 0
second_of (Argument k x) = x.0
second_of (Array e) = 0
second_of (Method m o) = o.0
second_of (Row k r) = r
second_of (LayoutSegment c s) = s
second_of (DictionarySegment x s) = s

abbrev pub packed : ℕ → ℕ → ℕ → ℕ
packed tag first second = tag + 16 * (first + 16777216 * second)

abbrev pub word_of : Node → ℕ
word_of n = packed (tag_of n) (first_of n) (second_of n)

-- the node has this tag and these numbers
abbrev pub HasParts : Node → ℕ → ℕ → ℕ → Type 0
HasParts n tag first second = (tag_of n ≡ tag) × (first_of n ≡ first) × (second_of n ≡ second)

-- numbers that the word has room for
abbrev pub IsNode : Node → Type 0
IsNode n = (first_of n < 16777216) × (second_of n < 4294967296)
