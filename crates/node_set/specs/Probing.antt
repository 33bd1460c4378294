-- The order in which a node's cells are probed, and which node may stand in a cell.
use Rattle.std.specs.Prelude.{◌≡◌, ◌≢◌, ℕ, ◌+◌, ◌%◌, ◌<◌, ◌⊎◌, List}
use Rattle.word_board.specs.Marks.{mark, Has, Within, Unset, Lawful}
use Rattle.word_board.specs.declared.view.Mark.{Mark}
use Rattle.node_set.specs.Nodes.{word_of, IsNode}
use Rattle.node_set.specs.Keys.{Names, names_on}
use Rattle.node_set.specs.declared.node.Node.{Node}

-- the k-th cell that is probed for a word, from 0
abbrev pub probe : ℕ → ℕ → ℕ → ℕ
probe cells word k = (word % 1000003 % cells + k) % cells

-- the first k cells that are probed are set to other words
abbrev pub Before : ℕ → List Mark → ℕ → ℕ → Type 0
Before cells all word k = (i : ℕ) → i < k → (m : Mark) × Has all m × (m.place ≡ probe cells word i) × (m.word ≢ word)

-- the cells before this one in its probing order are set to other words
abbrev pub InOrder : ℕ → List Mark → Mark → Type 0
InOrder cells all m = (k : ℕ) × (k < cells) × (m.place ≡ probe cells m.word k) × Before cells all m.word k

-- the rule of nodes, for a word in a cell
abbrev pub NodeRule : ℕ → List Mark → Mark → Type 0
NodeRule cells all m = ((n : Node) × (m.word ≡ word_of n) × IsNode n × Names cells all n) × InOrder cells all m

-- it still holds when more words are set
abbrev pub node_rule_on : (cells : ℕ) (xs ys : List Mark) (m : Mark) → Within xs ys → NodeRule cells xs m → NodeRule cells ys m
node_rule_on cells xs ys m w r =
    ((r.0.0, r.0.1, r.0.2, names_on cells xs ys w r.0.0 r.0.3), (r.1.0, r.1.1, r.1.2, λ i low. let b = r.1.3 i low in (b.0, w b.0 b.1, b.2, b.3)))

-- the word may stand by these words, the cells before it in its probing order aside
abbrev pub MayBut : (List Mark → Mark → Type 0) → ℕ → List Mark → ℕ → ℕ → Type 0
MayBut may cells seen word by = (more : List Mark) (k : ℕ) → Within seen more → k < cells → Before cells more word k → may more (mark (probe cells word k) word by)

abbrev pub InNoCell : ℕ → List Mark → ℕ → Type 0
InNoCell cells all word = (m : Mark) → Has all m → m.place < cells → m.word ≢ word

-- a cell of the probing order, before which others were seen, is not set in these words
abbrev pub StopsAt : ℕ → List Mark → List Mark → ℕ → Type 0
StopsAt cells seen all word = (k : ℕ) × (k < cells) × Before cells seen word k × Unset all (probe cells word k)

-- a lawful board that has all that was seen has the word in no cell, for it has one free before it; or each cell was seen set to another
abbrev pub Absent : (List Mark → Mark → Type 0) → ℕ → List Mark → ℕ → Type 0
Absent may cells seen word = ((all : List Mark) × Lawful may all × Within seen all × InNoCell cells all word × StopsAt cells seen all word) ⊎ Before cells seen word cells

-- a word stands in one cell at most
abbrev pub OneCell : ℕ → List Mark → Type 0
OneCell cells all = (m n : Mark) → Has all m → Has all n → m.place < cells → n.place < cells → m.word ≡ n.word → m ≡ n
